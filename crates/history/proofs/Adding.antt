-- What `add` writes is `add_month` of the run that the columns hold, Assumes nothing.
use mathlib.Core.Path.{◌≡◌, refl, sym, ap, ◌∙◌}
use mathlib.Core.List.{List, [], ◌∷◌, ◌++◌, append_assoc}
use Prim.Native.Nat.{ℕ, zero, suc, ◌+◌, ◌-◌, ◌≤◌, ◌<◌}
use native.Mathlib.Nat.{not-suc-le-zero, le_of_suc-le-suc}
use native.Mathlib.Omega.{arith}
use lib.IntN.{ℤ, pos}
use lib.ListN.{length, take, drop, set, replicate}
use lib.Seq.{set_split, take-set-le, take-take, get_or-set_other}
use Rattle.std.specs.Prelude.{None, Some}
use Rattle.spells.specs.declared.With.{With}
use Rattle.spells.specs.declared.SpellMonth.{SpellMonth}
use Rattle.hindsight.specs.Rule.{X}
use Rattle.hindsight.specs.Adding.{settled_all, kept}
use Rattle.hindsight.specs.Columns.{x_at, xs_from, history_in}
use Rattle.hindsight.specs.Months.{row_for}
use Rattle.hindsight.specs.Coded.{Adds}

-- the months of places
pub length-xs : (f : ℕ → X) (i n : ℕ) → length (xs_from f i n) ≡ n
length-xs f i zero = refl
length-xs f i (suc n) = ap suc (length-xs f (suc i) n)

pub drop-xs : (f : ℕ → X) (i n k : ℕ) → k ≤ n → drop k (xs_from f i n) ≡ xs_from f (i + k) (n - k)
drop-xs f i n zero h =
    let a : i + 0 ≡ i = omega arith in
    let b : n - 0 ≡ n = omega arith in
    rw (a, b) refl
drop-xs f i zero (suc k) h = absurd (not-suc-le-zero h)
drop-xs f i (suc n) (suc k) h =
    let a : i + suc k ≡ suc i + k = omega arith in
    let b : suc n - suc k ≡ n - k = omega arith in
    rw (a, b) (drop-xs f (suc i) n k (le_of_suc-le-suc h))

pub xs-same : (f g : ℕ → X) (i n : ℕ) → ((j : ℕ) → j < i + n → f j ≡ g j) → xs_from f i n ≡ xs_from g i n
xs-same f g i zero e = refl
xs-same f g i (suc n) e = rw (e i (omega arith), xs-same f g (suc i) n (λ j h. e j (omega arith))) refl

drop-set : {A : Type 0} (l : List A) (i : ℕ) (v : A) → i < length l → drop i (set l i v) ≡ v ∷ drop (suc i) l
drop-set [] i v h = absurd (not-suc-le-zero h)
drop-set (x ∷ l) zero v h = refl
drop-set (x ∷ l) (suc i) v h = drop-set l i v (le_of_suc-le-suc h)

-- a store at the end of what is kept
store-end : {A : Type 0} (l : List A) (n : ℕ) (v : A) → n < length l → set l n v ≡ take n l ++ (v ∷ []) ++ drop (suc n) l
store-end l n v h = set_split l n v h ∙ sym (append_assoc (take n l) (v ∷ []) (drop (suc n) l))

-- the new month's place bears on no earlier one
pub earlier-same : (x1 x2 x3 : List ℤ) (n : ℕ) (a b c : ℤ) (j : ℕ) → j < n → x_at (set x1 n a) (set x2 n b) (set x3 n c) j ≡ x_at x1 x2 x3 j
earlier-same x1 x2 x3 n a b c j h =
    let ne : j ≡ n → ⊥ = λ e. omega arith in
    rw (get_or-set_other x1 n j a (pos 0) ne, get_or-set_other x2 n j b (pos 0) ne, get_or-set_other x3 n j c (pos 0) ne) refl

module _ (x1 x2 x3 index : List ℤ) (mark : List ℕ) (n opens : ℕ) (m : SpellMonth) (o : opens ≤ n) (hi : n < length index) (hm : n < length mark) where
  -- a month that does not decide
  pub adds-open : m.decision ≡ None → Adds (history_in x1 x2 x3 index mark n opens) (row_for m) n index (set index n m.index) mark (set mark n 1) (opens + 1) 0
  adds-open z =
      rw z
      (record { index_is = store-end index n m.index hi; mark_is = store-end mark n 1 hm; opens_is = omega arith; settled_is = refl })

  -- a month that decides: what `settle` leaves
  kept_at : kept (history_in x1 x2 x3 index mark n opens) ≡ n - opens
  kept_at = ap (λ (k : ℕ). k - opens) (length-xs (x_at x1 x2 x3) 0 n)

  settled-months : xs_from (x_at (set x1 n m.after.x1) (set x2 n m.after.x2) (set x3 n m.after.x3)) (n - opens) (n - (n - opens)) ≡ drop (n - opens) (xs_from (x_at x1 x2 x3) 0 n)
  settled-months =
      let e : 0 + (n - opens) ≡ n - opens = omega arith in
      xs-same (x_at (set x1 n m.after.x1) (set x2 n m.after.x2) (set x3 n m.after.x3)) (x_at x1 x2 x3) (n - opens) (n - (n - opens)) (λ j h. earlier-same x1 x2 x3 n m.after.x1 m.after.x2 m.after.x3 j (omega arith))
      ∙ sym (rw e at (drop-xs (x_at x1 x2 x3) 0 n (n - opens) (omega arith)))

  pub adds-settled : (w : With) → m.decision ≡ Some w → (index' : List ℤ) (mark' : List ℕ)
      → index' ≡ take (n - opens) (set index n m.index) ++ (settled_all w (xs_from (x_at (set x1 n m.after.x1) (set x2 n m.after.x2) (set x3 n m.after.x3)) (n - opens) (n - (n - opens))) ++ drop n (set index n m.index))
      → mark' ≡ take (n - opens) (set mark n 2) ++ (replicate (n - (n - opens)) 2 ++ drop n (set mark n 2))
      → Adds (history_in x1 x2 x3 index mark n opens) (row_for m) n index index' mark mark' 0 (opens + 1)
  adds-settled w z index' mark' p q =
      let e : n - (n - opens) ≡ opens = omega arith in
      rw z
      (record {
        index_is =
            rw (
              p,
              settled-months,
              take-set-le (n - opens) index n m.index (omega arith),
              drop-set index n m.index hi,
              kept_at,
              take-take (n - opens) n index (omega arith),
            )
            (simp append_assoc);
        mark_is =
            rw (
              q,
              e,
              take-set-le (n - opens) mark n 2 (omega arith),
              drop-set mark n 2 hm,
              kept_at,
              take-take (n - opens) n mark (omega arith),
            )
            (simp append_assoc);
        opens_is = refl;
        settled_is = omega arith;
      })
