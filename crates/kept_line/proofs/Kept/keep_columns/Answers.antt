-- `kept_line::Kept::keep_columns`: each of those bytes is kept. Assumes nothing.
use Rattle.std.proofs.Common.{arith, rules, ◌≡◌, ◌+◌, ◌-◌, length, sym}
use Rattle.kept_line.specs.Kept.{most_kept}
use Rattle.kept_line.proofs.Parts.{columns-kept}
use Rattle.kept_line.proofs.Kept.keep_columns.Goals as goal

pub returns : goal.returns
returns c =
    let k = c.args.self.now.count in
    let n = length c.args.part.now in
    let l : length c.args.self.now.line ≡ most_kept = search rules in
    let e : k + n - k ≡ n = omega arith in
    rw (e, c.copy_from_slice.ensures.after) (sym (columns-kept c.args.part.now c.args.self.now.line k c.requires (omega arith)))
