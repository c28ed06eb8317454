-- `sent_months::SentYear::row`: its test is that of the definition. Assumes nothing.
use mathlib.Core.Path.{sym, ap, ◌∙◌}
use lib.IntN.{ℤ}
use mir.Syntax.{w32}
use mir.Val.{SFits}
use mir.Facts.{to_z-of_z}
use Rattle.sent_months.specs.Sent.{nearest_hundredths, row_sent}
use Rattle.sent_months.specs.Signed.{sent_of}
use Rattle.sent_months.proofs.SentYear.row.Goals as goal

pub returns-then-not-is_sent : goal.returns-then-not-is_sent
unfolding row_sent
returns-then-not-is_sent c = rw (sym c.is_sent.ensures ∙ c.if-not-is_sent.true)

pub returns : goal.returns
unfolding row_sent
returns c =
    let f : SFits w32 c.thousandths.result = record { sfits = c.thousandths.type_inv } in
    rw (sym c.is_sent.ensures ∙ c.if-not-is_sent.false) (c.rounded.ensures ∙ ap (λ (x : ℤ). sent_of (nearest_hundredths x)) (to_z-of_z f ∙ c.thousandths.ensures))
