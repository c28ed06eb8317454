-- Any two answers that a promise of the door allows are the same. The promises fix `outcome` of the answer, and an answer is told by its
-- outcome (`from`), so no two answers have the same. Assumes nothing.
use mathlib.Core.Path.{◌≡◌, refl, sym, ap, ◌∙◌}
use mathlib.Core.Bool.{Bool, cond}
use Prim.Native.Nat.{zero, suc}
use lib.Dec.{eqb}
use borrow.Author.Tests.{ne_eqb}
use Rattle.std.specs.Prelude.{Result, Ok, Err}
use Rattle.outline.specs.Refused.{refusal_number}
use Rattle.outline.specs.declared.Refusal.{Refusal}
use Rattle.outline.proofs.Refused.{number-ne-zero, refusal_at, refusal_at-number}
use Rattle.door.specs.Outcome.{trace, Outcome, MonthOutcomes, outcome, told_as, told_month}
use Rattle.door.specs.declared.Amount.{Amount}
use Rattle.door.specs.declared.Amount.TheVariants.{Water, Trace}
use Rattle.door.specs.declared.Told.{Told}
use Rattle.door.specs.declared.MonthTold.{MonthTold}

abbrev from : Outcome → Result Amount Refusal
from o = cond (eqb o.kind trace) (Ok Trace) (cond (eqb o.number 0) (Ok (Water o.water)) (Err (refusal_at o.number)))

from-outcome : (a : Result Amount Refusal) → from (outcome a) ≡ a
from-outcome (Ok (Water zero)) = refl
from-outcome (Ok (Water (suc n))) = refl
from-outcome (Ok Trace) = refl
from-outcome (Err e) =
    ap (λ (b : Bool). cond b (Ok (Water 0)) (Err (refusal_at (refusal_number e)))) (ne_eqb (refusal_number e) 0 (number-ne-zero e)) ∙ ap Err (refusal_at-number e)

pub one_answer : (o : Outcome) (a b : Result Amount Refusal) → outcome a ≡ o → outcome b ≡ o → a ≡ b
one_answer o a b p q = sym (from-outcome a) ∙ ap from (p ∙ sym q) ∙ from-outcome b

-- .. and an answer in numbers by its outcome too
abbrev in-numbers : Outcome → Told
in-numbers o = record { number = o.number; kind = o.kind; water = o.water }

pub one_told : (o : Outcome) (a b : Told) → told_as a ≡ o → told_as b ≡ o → a ≡ b
one_told o a b p q = ap in-numbers (p ∙ sym q)

abbrev both-in-numbers : MonthOutcomes → MonthTold
both-in-numbers o = record { p = in-numbers o.p; pe = in-numbers o.pe }

pub one-month : (o : MonthOutcomes) (a b : MonthTold) → told_month a ≡ o → told_month b ≡ o → a ≡ b
one-month o a b p q = ap both-in-numbers (p ∙ sym q)
