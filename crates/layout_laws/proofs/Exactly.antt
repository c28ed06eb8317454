-- Each refusal is given exactly where the document says, in its order, 14 where there is a fault to be told, and a month's bit in the set tells whether its amount was there: a
-- missing month is never filled in. Assumes nothing.
use mathlib.Core.Path.{◌≡◌, refl, sym, ap, ◌∙◌}
use mathlib.Core.Bool.{Bool, true, false, cond, not, ◌&&◌}
use mathlib.Core.List.{List, [], ◌∷◌, map}
use Prim.Native.Nat.{ℕ, zero, suc, ◌/◌, ◌%◌, ◌^◌, ◌<◌}
use native.Mathlib.Nat.{pow-suc, mul_comm, div-div-eq-div-mul}
use native.Mathlib.Omega.{arith}
use lib.Dec.{eqb}
use lib.ListN.{length, get_or, length-map, get_or-map}
use Rattle.fields.specs.Columns.{months_of_year}
use Rattle.fields.specs.Refusals.{malformed, another, not_the_year}
use Rattle.layout_months.specs.Months.{months_of, is_present, amount_of, bit, set_of}
use Rattle.layout_months.specs.declared.Month.TheVariants.{Missing, Malformed}
use Rattle.layout_months.proofs.Sets.{first_rest}
use Rattle.layout_months.proofs.Months.{months-twelve}
use Rattle.layout.specs.Rainfall.{Answer, is_line, rain_fits, is_named, is_year, refusal, told, answered, year_said}
use Rattle.layout.specs.Fault.{fault_of}
use Rattle.layout.proofs.Faults.{fault-tells}
use Rattle.layout.proofs.Refusals.{number_is}

-- ---- by the three questions, in their order
said : Bool → Bool → Bool → ℕ
said formed named dated = cond formed (cond named (cond dated 0 not_the_year) another) malformed

said-14 : (f n t : Bool) → eqb (said f n t) malformed ≡ not f
unfolding said
said-14 false n t = refl
said-14 true false t = refl
said-14 true true false = refl
said-14 true true true = refl

said-15 : (f n t : Bool) → eqb (said f n t) another ≡ (f && not n)
unfolding said
said-15 false n t = refl
said-15 true false t = refl
said-15 true true false = refl
said-15 true true true = refl

said-16 : (f n t : Bool) → eqb (said f n t) not_the_year ≡ (f && (n && not t))
unfolding said
said-16 false n t = refl
said-16 true false t = refl
said-16 true true false = refl
said-16 true true true = refl

said-0 : (f n t : Bool) → eqb (said f n t) 0 ≡ (f && (n && t))
unfolding said
said-0 false n t = refl
said-0 true false t = refl
said-0 true true false = refl
said-0 true true true = refl

module _ (line : List ℕ) (s d y : ℕ) where
  abbrev formed : Bool
  formed = is_line line && rain_fits line

  pub refused-14 : eqb (year_said line s d y).number malformed ≡ not formed
  unfolding refusal said
  refused-14 = ap (λ (k : ℕ). eqb k malformed) (number_is line s d y) ∙ said-14 formed (is_named line s d) (is_year line y)

  pub refused-15 : eqb (year_said line s d y).number another ≡ (formed && not (is_named line s d))
  unfolding refusal said
  refused-15 = ap (λ (k : ℕ). eqb k another) (number_is line s d y) ∙ said-15 formed (is_named line s d) (is_year line y)

  pub refused-16 : eqb (year_said line s d y).number not_the_year ≡ (formed && (is_named line s d && not (is_year line y)))
  unfolding refusal said
  refused-16 = ap (λ (k : ℕ). eqb k not_the_year) (number_is line s d y) ∙ said-16 formed (is_named line s d) (is_year line y)

  pub taken : eqb (year_said line s d y).number 0 ≡ (formed && (is_named line s d && is_year line y))
  unfolding refusal said
  taken = ap (λ (k : ℕ). eqb k 0) (number_is line s d y) ∙ said-0 formed (is_named line s d) (is_year line y)

-- ---- 14 is given exactly where there is a fault to be told
pub refused-where : (line : List ℕ) (s d y : ℕ) → eqb (refusal line s d y) malformed ≡ not (eqb (fault_of line) 0)
unfolding refusal said
refused-where line s d y = rw (fault-tells line) (said-14 (is_line line && rain_fits line) (is_named line s d) (is_year line y))

-- ---- a month's bit, and a missing month
pub bit_at : (bs : List Bool) (m : ℕ) → m < length bs → set_of bs / 2 ^ m % 2 ≡ bit (get_or bs m false)
unfolding set_of
bit_at [] m h = absurd (omega arith)
bit_at (true ∷ bs) zero h = omega arith
bit_at (false ∷ bs) zero h = omega arith
bit_at (b ∷ bs) (suc m) h =
    ap (λ (n : ℕ). n % 2) (ap (λ (p : ℕ). set_of (b ∷ bs) / p) (pow-suc 2 m ∙ mul_comm (2 ^ m) 2) ∙ sym (div-div-eq-div-mul (set_of (b ∷ bs)) 2 (2 ^ m)) ∙ ap (λ (n : ℕ). n / 2 ^ m) (first_rest b (set_of bs)).1) ∙ bit_at bs m (omega arith)

-- a line that is taken: a month that has the mark is not in the set, and its amount is 0
module _ (line : List ℕ) (s d y m : ℕ) (e : (year_said line s d y).number ≡ 0) (h : m < months_of_year) (f : get_or (months_of line) m Malformed ≡ Missing) where
  told-so : year_said line s d y ≡ told (months_of line)
  unfolding year_said
  told-so = ap (λ (k : ℕ). answered k (months_of line)) (sym (number_is line s d y) ∙ e)

  flag_off : get_or (map is_present (months_of line)) m false ≡ false
  flag_off = get_or-map is_present (months_of line) m Malformed ∙ ap is_present f

  pub never-filled : ((year_said line s d y).present / 2 ^ m % 2 ≡ 0) × (get_or (year_said line s d y).amounts m 0 ≡ 0)
  never-filled = (
    ap (λ (a : Answer). a.present / 2 ^ m % 2) told-so ∙ bit_at (map is_present (months_of line)) m (omega (arith, length-map (months_of line) is_present, months-twelve line)) ∙ ap bit flag_off,
    ap (λ (a : Answer). get_or a.amounts m 0) told-so ∙ get_or-map amount_of (months_of line) m Malformed ∙ ap amount_of f,
  )
