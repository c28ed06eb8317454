-- The first column that is told, and what a heading tells: it is read, or its first part at fault. Assumes nothing.
use mathlib.Core.Path.{◌≡◌, refl, sym, ap, ◌∙◌}
use mathlib.Core.Bool.{Bool, true, false, ◌&&◌}
use mathlib.Core.List.{List, [], ◌∷◌}
use Prim.Native.Nat.{ℕ, zero, suc, ◌+◌}
use native.Mathlib.Omega.{arith}
use lib.Dec.{eqb, eqb-suc-zero}
use borrow.Author.Tests.{ne_eqb, eqb-false}
use Rattle.text.specs.Bytes.{all_digits, natural}
use Rattle.text.proofs.Digits.{apart}
use Rattle.fields.specs.Columns.{state, division, element, year}
use Rattle.layout_heading.specs.Heading.{headed, unless, first_told, heading_fault}
use Rattle.layout_heading.specs.Steps.{heading_of}
use Rattle.layout_heading.specs.declared.Heading.{Heading}
use Rattle.std.specs.Prelude.{Result, Ok, Err}

-- ---- the first column that is told
pub told-first : (k : ℕ) (ks : List ℕ) → (k ≡ 0 → ⊥) → first_told (k ∷ ks) ≡ k
unfolding first_told
told-first zero ks h = absurd (h refl)
told-first (suc k) ks h = refl

pub told-on : (ks : List ℕ) → first_told (0 ∷ ks) ≡ first_told ks
unfolding first_told
told-on ks = refl

pub told_none : (k : ℕ) (ks : List ℕ) → eqb (first_told (k ∷ ks)) 0 ≡ (eqb k 0 && eqb (first_told ks) 0)
unfolding first_told
told_none zero ks = refl
told_none (suc k) ks = rw (eqb-suc-zero k)

pub unless-none : (good : Bool) (k : ℕ) → eqb (unless good (k + 1)) 0 ≡ good
unless-none true k = refl
unless-none false k = ne_eqb (k + 1) 0 (λ e. omega arith)

parts-tell : (s d e y : Bool) → eqb (first_told (unless s 1 ∷ unless d 3 ∷ unless e 5 ∷ unless y 7 ∷ [])) 0 ≡ (s && d && e && y)
unfolding first_told
parts-tell false d e y = refl
parts-tell true false e y = refl
parts-tell true true false y = refl
parts-tell true true true false = refl
parts-tell true true true true = refl

pub heading-tells : (line : List ℕ) → eqb (heading_fault line) 0 ≡ headed line
unfolding heading_fault headed
heading-tells line = parts-tell (all_digits (state line)) (all_digits (division line)) (all_digits (element line)) (all_digits (year line))

pub heading-told : (line : List ℕ) → headed line ≡ false → heading_fault line ≡ 0 → ⊥
heading-told line e = eqb-false (heading_fault line) 0 (heading-tells line ∙ e)

-- ---- what the heading tells
abbrev is_ok : Result Heading ℕ → Bool
is_ok (Ok h) = true
is_ok (Err k) = false

abbrev heading_in : Heading → Result Heading ℕ → Heading
heading_in other (Ok h) = h
heading_in other (Err k) = other

abbrev column_in : Result Heading ℕ → ℕ
column_in (Ok h) = 0
column_in (Err k) = k

-- a line whose heading says this
abbrev pub Heads : List ℕ → Heading → Type 0
Heads line h =
    (headed line ≡ true) × (natural (state line) ≡ h.state) × (natural (division line) ≡ h.division) × (natural (element line) ≡ h.element) × (natural (year line) ≡ h.year)

heads-by : (line : List ℕ) (h : Heading) (t : Bool) → headed line ≡ t → heading_of line ≡ Ok h → Heads line h
unfolding heading_of
heads-by line h true e f =
    let g = ap (heading_in h) (rw e at f) in (e, ap (λ (x : Heading). x.state) g, ap (λ (x : Heading). x.division) g, ap (λ (x : Heading). x.element) g, ap (λ (x : Heading). x.year) g)
heads-by line h false e f = absurd (apart (ap is_ok (rw e at f)))

pub heads : (line : List ℕ) (h : Heading) → heading_of line ≡ Ok h → Heads line h
heads line h f = heads-by line h (headed line) refl f

headless-by : (line : List ℕ) (k : ℕ) (t : Bool) → headed line ≡ t → heading_of line ≡ Err k → (headed line ≡ false) × (heading_fault line ≡ k)
unfolding heading_of
headless-by line k true h f = absurd (apart (sym (ap is_ok (rw h at f))))
headless-by line k false h f = (h, ap column_in (rw h at f))

pub headless : (line : List ℕ) (k : ℕ) → heading_of line ≡ Err k → (headed line ≡ false) × (heading_fault line ≡ k)
headless line k f = headless-by line k (headed line) refl f
