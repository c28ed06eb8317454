-- Any two answers that a promise allows are the same: each promise is an equation, between the answer, or what it says, and a definition of what
-- was handed in. Assumes nothing.
use Rattle.std.proofs.Common.{◌≡◌, refl, sym, ap, ◌∙◌, List, ℕ, Ok, Err}
use Rattle.std.specs.Prelude.{Option, Result, IfOk}
use Rattle.outline.specs.declared.Refusal.{Refusal}
use Rattle.outline.proofs.Refused.{number-ne-zero, one-refusal}
use Rattle.fields.specs.Told.{unless_zero}
use Rattle.layout.specs.Rainfall.{Answer, year_said, year_of, year_told}
use Rattle.layout.specs.Said.{answer_of}
use Rattle.layout.specs.Fault.{fault_of}
use Rattle.layout.specs.declared.Year.{Year}

-- what `layout::read` promises
abbrev pub Promised : Result Year Refusal → Answer → Type 0
Promised a said = (answer_of a ≡ said) × IfOk a (λ y. y.first_missing ≡ unless_zero said.first_missing)

same-year : (a b : Year) → a.amounts ≡ b.amounts → a.present ≡ b.present → a.count ≡ b.count → a.first_missing ≡ b.first_missing → a ≡ b
same-year a b p q r t = rw (p, q, r, t) refl

same-answer : (a b : Result Year Refusal) (said : Answer) → Promised a said → Promised b said → a ≡ b
same-answer (Ok a) (Ok b) said p q =
    let e = p.0 ∙ sym q.0 in
    ap Ok (same-year a b (ap (λ (x : Answer). x.amounts) e) (ap (λ (x : Answer). x.present) e) (ap (λ (x : Answer). x.count) e) (p.1 ∙ sym q.1))
same-answer (Ok a) (Err f) said p q = absurd (number-ne-zero f (sym (ap (λ (x : Answer). x.number) (p.0 ∙ sym q.0))))
same-answer (Err e) (Ok b) said p q = absurd (number-ne-zero e (ap (λ (x : Answer). x.number) (p.0 ∙ sym q.0)))
same-answer (Err e) (Err f) said p q = ap Err (one-refusal e f (ap (λ (x : Answer). x.number) (p.0 ∙ sym q.0)))

pub one_answer : (line : List ℕ) (s d y : ℕ) (a b : Result Year Refusal) → Promised a (year_said line s d y) → Promised b (year_said line s d y) → a ≡ b
one_answer line s d y a b = same-answer a b (year_said line s d y)

pub one-year : (line : List ℕ) (a b : ℕ) → a ≡ year_of line → b ≡ year_of line → a ≡ b
one-year line a b p q = p ∙ sym q

pub one-year_told : (line : List ℕ) (a b : Option ℕ) → a ≡ year_told line → b ≡ year_told line → a ≡ b
one-year_told line a b p q = p ∙ sym q

pub one-fault : (line : List ℕ) (a b : ℕ) → a ≡ fault_of line → b ≡ fault_of line → a ≡ b
one-fault line a b p q = p ∙ sym q

pub one-fault_told : (line : List ℕ) (a b : Option ℕ) → a ≡ unless_zero (fault_of line) → b ≡ unless_zero (fault_of line) → a ≡ b
one-fault_told line a b p q = p ∙ sym q
