-- `layout_months::amount`: a number in its range is no mark. Assumes nothing.
use Rattle.std.proofs.Common.{◌≡◌, refl, sym, ◌∙◌, true, false, Bool, ℕ, ◌*◌, nat_le, nat_eq}
use mathlib.Core.Bool.{and-eq-true_iff}
use borrow.Author.Tests.{eqb-true}
use Rattle.layout_months.specs.Months.{most_hundredths, is_mark, in_range, rain_of, amount_of}
use Rattle.layout_months.proofs.amount.Goals as goal

within : (m : Bool) (n : ℕ) → in_range m n ≡ true → 10 * n ≡ amount_of (rain_of m n)
unfolding rain_of is_mark in_range
within true n e = rw (eqb-true n 0 ((and-eq-true_iff (nat_le n most_hundredths) (nat_eq n 0)).0 e).1)
within false n e = rw e

outside : (m : Bool) (n : ℕ) (t : Bool) → is_mark m n ≡ t → in_range m n ≡ false → 0 ≡ amount_of (rain_of m n)
unfolding rain_of
outside m n true e f = rw e
outside m n false e f = rw (e, f)

pub returns-in-Some : goal.returns-in-Some
returns-in-Some c = rw c.in-Some.is (within _ _ (sym c.in_range.ensures ∙ c.if-in_range.true))

pub returns-in_default : goal.returns-in_default
returns-in_default c = rw c.in-Some.is (outside _ _ _ refl (sym c.in_range.ensures ∙ c.if-in_range.false))
