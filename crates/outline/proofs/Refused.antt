-- What an answer's number tells (specs/Refused.antt): a refusal's is not 0, is the first of two, and is no other refusal's. Assumes nothing.
use mathlib.Core.Path.{◌≡◌, refl, sym, ap, ◌∙◌}
use Prim.Native.Nat.{ℕ}
use native.Mathlib.Omega.{arith}
use Rattle.std.specs.Prelude.{cond, eqb}
use Rattle.outline.specs.Refusals.{or_else, unless_refused}
use Rattle.std.specs.Prelude.{Result, Ok, Err, IsOk, IsErr}
use Rattle.std.proofs.Common.{rules}
use Rattle.outline.specs.Refused.{refusal_number, answer_number}
use Rattle.outline.specs.declared.Refusal.{Refusal}
use Rattle.outline.specs.declared.Refusal.TheVariants.{BadLists, NotSixty, BadConstant, BadCapacity, BadStorage, BadMonth, NotARun, NoReading, BadReading, Full, NoSuchRow, BadZ, NotANumber, Malformed, OtherLine, NotTheYear, Waterless, FewYears, BadGamma, BadK, ZeroK, Unfit, NoRoom}

pub number-ne-zero : (e : Refusal) → refusal_number e ≡ 0 → ⊥
number-ne-zero BadLists h = absurd (omega arith)
number-ne-zero NotSixty h = absurd (omega arith)
number-ne-zero BadConstant h = absurd (omega arith)
number-ne-zero BadCapacity h = absurd (omega arith)
number-ne-zero BadStorage h = absurd (omega arith)
number-ne-zero BadMonth h = absurd (omega arith)
number-ne-zero NotARun h = absurd (omega arith)
number-ne-zero NoReading h = absurd (omega arith)
number-ne-zero BadReading h = absurd (omega arith)
number-ne-zero Full h = absurd (omega arith)
number-ne-zero NoSuchRow h = absurd (omega arith)
number-ne-zero BadZ h = absurd (omega arith)
number-ne-zero NotANumber h = absurd (omega arith)
number-ne-zero Malformed h = absurd (omega arith)
number-ne-zero OtherLine h = absurd (omega arith)
number-ne-zero NotTheYear h = absurd (omega arith)
number-ne-zero Waterless h = absurd (omega arith)
number-ne-zero FewYears h = absurd (omega arith)
number-ne-zero BadGamma h = absurd (omega arith)
number-ne-zero BadK h = absurd (omega arith)
number-ne-zero ZeroK h = absurd (omega arith)
number-ne-zero Unfit h = absurd (omega arith)
number-ne-zero NoRoom h = absurd (omega arith)

-- a refusal is the first of two
pub or-refusal : (e : Refusal) (n : ℕ) → or_else (refusal_number e) n ≡ refusal_number e
or-refusal BadLists n = refl
or-refusal NotSixty n = refl
or-refusal BadConstant n = refl
or-refusal BadCapacity n = refl
or-refusal BadStorage n = refl
or-refusal BadMonth n = refl
or-refusal NotARun n = refl
or-refusal NoReading n = refl
or-refusal BadReading n = refl
or-refusal Full n = refl
or-refusal NoSuchRow n = refl
or-refusal BadZ n = refl
or-refusal NotANumber n = refl
or-refusal Malformed n = refl
or-refusal OtherLine n = refl
or-refusal NotTheYear n = refl
or-refusal Waterless n = refl
or-refusal FewYears n = refl
or-refusal BadGamma n = refl
or-refusal BadK n = refl
or-refusal ZeroK n = refl
or-refusal Unfit n = refl
or-refusal NoRoom n = refl

-- what is refused is answered
pub unless-refusal : {A : Type 0} (e : Refusal) (done refused : A) → unless_refused (refusal_number e) done refused ≡ refused
unless-refusal BadLists done refused = refl
unless-refusal NotSixty done refused = refl
unless-refusal BadConstant done refused = refl
unless-refusal BadCapacity done refused = refl
unless-refusal BadStorage done refused = refl
unless-refusal BadMonth done refused = refl
unless-refusal NotARun done refused = refl
unless-refusal NoReading done refused = refl
unless-refusal BadReading done refused = refl
unless-refusal Full done refused = refl
unless-refusal NoSuchRow done refused = refl
unless-refusal BadZ done refused = refl
unless-refusal NotANumber done refused = refl
unless-refusal Malformed done refused = refl
unless-refusal OtherLine done refused = refl
unless-refusal NotTheYear done refused = refl
unless-refusal Waterless done refused = refl
unless-refusal FewYears done refused = refl
unless-refusal BadGamma done refused = refl
unless-refusal BadK done refused = refl
unless-refusal ZeroK done refused = refl
unless-refusal Unfit done refused = refl
unless-refusal NoRoom done refused = refl

-- the refusal of a number
abbrev pub refusal_at : ℕ → Refusal
refusal_at n =
    cond (eqb n 1) BadLists (
    cond (eqb n 2) NotSixty (
    cond (eqb n 3) BadConstant (
    cond (eqb n 4) BadCapacity (
    cond (eqb n 5) BadStorage (
    cond (eqb n 6) BadMonth (
    cond (eqb n 7) NotARun (
    cond (eqb n 8) NoReading (
    cond (eqb n 9) BadReading (
    cond (eqb n 10) Full (
    cond (eqb n 11) NoSuchRow (
    cond (eqb n 12) BadZ (
    cond (eqb n 13) NotANumber (
    cond (eqb n 14) Malformed (
    cond (eqb n 15) OtherLine (
    cond (eqb n 16) NotTheYear (
    cond (eqb n 17) Waterless (
    cond (eqb n 18) FewYears (
    cond (eqb n 19) BadGamma (
    cond (eqb n 20) BadK (
    cond (eqb n 21) ZeroK (
    cond (eqb n 24) Unfit (
    NoRoom))))))))))))))))))))))

pub refusal_at-number : (e : Refusal) → refusal_at (refusal_number e) ≡ e
refusal_at-number BadLists = refl
refusal_at-number NotSixty = refl
refusal_at-number BadConstant = refl
refusal_at-number BadCapacity = refl
refusal_at-number BadStorage = refl
refusal_at-number BadMonth = refl
refusal_at-number NotARun = refl
refusal_at-number NoReading = refl
refusal_at-number BadReading = refl
refusal_at-number Full = refl
refusal_at-number NoSuchRow = refl
refusal_at-number BadZ = refl
refusal_at-number NotANumber = refl
refusal_at-number Malformed = refl
refusal_at-number OtherLine = refl
refusal_at-number NotTheYear = refl
refusal_at-number Waterless = refl
refusal_at-number FewYears = refl
refusal_at-number BadGamma = refl
refusal_at-number BadK = refl
refusal_at-number ZeroK = refl
refusal_at-number Unfit = refl
refusal_at-number NoRoom = refl

-- no two refusals have one number
pub one-refusal : (e f : Refusal) → refusal_number e ≡ refusal_number f → e ≡ f
one-refusal e f h = sym (refusal_at-number e) ∙ ap refusal_at h ∙ refusal_at-number f

-- ---- an answer's number
-- 0 where nothing is refused, and there alone
pub number-ok : {A : Type 0} (r : Result A Refusal) → answer_number r ≡ 0 → IsOk r
number-ok (Ok a) h = search rules
number-ok (Err e) h = absurd (number-ne-zero e h)

pub number-err : {A : Type 0} (r : Result A Refusal) → (answer_number r ≡ 0 → ⊥) → IsErr r
number-err (Ok a) h = absurd (h refl)
number-err (Err e) h = search rules

-- what is done where nothing is refused, and otherwise what is refused
pub unless-answer : {A B : Type 0} (r : Result A Refusal) (done refused : B) → unless_refused (answer_number r) done refused ≡ elim r [ Ok a ↦ done | Err e ↦ refused ]
unless-answer (Ok a) done refused = refl
unless-answer (Err e) done refused = unless-refusal e done refused
