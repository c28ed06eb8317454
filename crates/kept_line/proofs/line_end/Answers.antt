-- `kept_line::line_end`: at the first line feed, or where the piece ends. Assumes nothing.
use Rattle.std.proofs.Common.{arith, drop, length-drop}
use Rattle.fields.proofs.Parts.{to_end}
use Rattle.kept_line.proofs.Parts.{feed-first, feed-none}
use Rattle.kept_line.proofs.line_end.Goals as goal

pub returns-in-Some : goal.returns-in-Some
returns-in-Some c = let h = rw to_end at c.in-Some.ensures in omega (arith, feed-first (drop c.args.from c.args.piece.now) c.in-Some.feed h.0 h.1)

pub returns-in-None : goal.returns-in-None
returns-in-None c = let h = rw to_end at c.in-None.ensures in omega (arith, feed-none (drop c.args.from c.args.piece.now) h, length-drop c.args.from c.args.piece.now)
