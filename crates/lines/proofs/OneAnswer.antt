-- Any two answers that a promise allows are the same. The promises fix `read_of` of the answer, and an answer is told by that: by its number
-- whether it is a refusal, and which one. Assumes nothing.
use mathlib.Core.Path.{◌≡◌, refl, sym, ap, ◌∙◌}
use mathlib.Core.Bool.{cond}
use lib.Dec.{eqb}
use lib.IntN.{ℤ}
use borrow.Author.Tests.{ne_eqb}
use Rattle.std.specs.Prelude.{Result, Ok, Err}
use Rattle.outline.specs.declared.Refusal.{Refusal}
use Rattle.outline.proofs.Refused.{refusal_at, refusal_at-number, number-ne-zero}
use Rattle.outline.specs.Refused.{refusal_number}
use Rattle.lines.specs.Line.{Judged}
use Rattle.lines.specs.Reading.{read_of}

abbrev from : Judged → Result ℤ Refusal
from j = cond (eqb j.number 0) (Ok j.z) (Err (refusal_at j.number))

from-read : (a : Result ℤ Refusal) → from (read_of a) ≡ a
from-read (Ok v) = refl
from-read (Err e) = rw (ne_eqb (refusal_number e) 0 (number-ne-zero e), refusal_at-number e) refl

pub one_answer : (j : Judged) (a b : Result ℤ Refusal) → read_of a ≡ j → read_of b ≡ j → a ≡ b
one_answer j a b p q = sym (from-read a) ∙ ap from (p ∙ sym q) ∙ from-read b
