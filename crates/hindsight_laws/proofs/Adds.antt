-- What the columns hold after an add is `add_month` of what they held, so that what is proved of adding rows holds of the columns; and the
-- whole series fills what adding singly would. Assumes nothing.
use mathlib.Core.Path.{◌≡◌, refl, sym, ap, ◌∙◌}
use mathlib.Core.List.{List, [], ◌∷◌, ◌++◌, map, append-nil, append_assoc}
use Prim.Native.Nat.{ℕ, zero, suc, ◌+◌, ◌<◌}
use native.Mathlib.Omega.{arith}
use lib.IntN.{ℤ, pos}
use lib.ListN.{length, take, drop, set, length-append, length-drop}
use lib.Seq.{take_at, get_or-set_same}
use Rattle.hindsight.specs.Rule.{X, Row, forward_indexes, forward_marks}
use Rattle.hindsight.specs.Adding.{History, fresh, add_all, add_as, add_month, add_to}
use Rattle.hindsight.specs.Columns.{x_at, xs_from, history_in}
use Rattle.hindsight.specs.Coded.{Adds}
use Rattle.history.proofs.Adding.{xs-same, earlier-same}
use Rattle.hindsight_laws.proofs.Hindsight.{x_of, inv, index-columns, mark-columns, add-append}
use Rattle.std.specs.Prelude.{Option, None, Some}
use Rattle.spells.specs.declared.With.{With}

-- one place more
xs-long : (x : ℕ → X) (i k : ℕ) → xs_from x i (suc k) ≡ xs_from x i k ++ (x (i + k) ∷ [])
xs-long x i zero = rw (add i) refl
  where
    add : (i : ℕ) → i + 0 ≡ i
    add i = omega arith
xs-long x i (suc k) = rw (add i k) (ap (λ (l : List X). x i ∷ l) (xs-long x (suc i) k))
  where
    add : (i k : ℕ) → i + suc k ≡ suc i + k
    add i k = omega arith

-- the months that are held, whatever is decided
past_of : (d : Option With) (run : History) (r : Row) → (add_as d run r).past ≡ run.past ++ (r.x ∷ [])
past_of None run r = refl
past_of (Some w) run r = refl

-- so after any months those held are the months added, in their order
pub past_all : (run : History) (rows : List Row) → (add_to run rows).past ≡ run.past ++ map x_of rows
past_all run [] = sym (append-nil run.past)
past_all run (r ∷ rows) =
    past_all (add_month run r) rows
    ∙ ap (λ (l : List X). l ++ map x_of rows) (past_of r.decision run r)
    ∙ append_assoc run.past (r.x ∷ []) (map x_of rows)

-- the front of what is left, where the rest is what was there
front : {A : Type 0} (l l₀ p : List A) (n : ℕ) → n < length l₀ → length l ≡ length l₀ → l ≡ p ++ drop (suc n) l₀ → take (suc n) l ≡ p
front l l₀ p n h k e =
    rw e
    (take_at p (drop (suc n) l₀) (suc n) (omega (arith, k, ap length e, length-append p (drop (suc n) l₀), length-drop (suc n) l₀)))

pub adds_run : (x1 x2 x3 index₀ : List ℤ) (mark₀ : List ℕ) (n opens : ℕ) (r : Row) (index : List ℤ) (mark : List ℕ) (o settled : ℕ)
    → n < length x1 → n < length x2 → n < length x3 → n < length index₀ → n < length mark₀ → length index ≡ length index₀ → length mark ≡ length mark₀
    → Adds (history_in x1 x2 x3 index₀ mark₀ n opens) r n index₀ index mark₀ mark o settled
    → history_in (set x1 n r.x.x1) (set x2 n r.x.x2) (set x3 n r.x.x3) index mark (suc n) o ≡ add_month (history_in x1 x2 x3 index₀ mark₀ n opens) r
adds_run x1 x2 x3 index₀ mark₀ n opens r index mark o settled h1 h2 h3 hi hm ki km g =
    λ i. record { past = p i; index = q i; mark = m i; opens = g.opens_is i }
  where
    run : History
    run = history_in x1 x2 x3 index₀ mark₀ n opens

    new : x_at (set x1 n r.x.x1) (set x2 n r.x.x2) (set x3 n r.x.x3) (0 + n) ≡ r.x
    new =
        let e : 0 + n ≡ n = omega arith in
        rw (e, get_or-set_same x1 n r.x.x1 (pos 0) h1, get_or-set_same x2 n r.x.x2 (pos 0) h2, get_or-set_same x3 n r.x.x3 (pos 0) h3) refl

    p : xs_from (x_at (set x1 n r.x.x1) (set x2 n r.x.x2) (set x3 n r.x.x3)) 0 (suc n) ≡ (add_month run r).past
    p =
        xs-long (x_at (set x1 n r.x.x1) (set x2 n r.x.x2) (set x3 n r.x.x3)) 0 n
        ∙ rw (new, xs-same (x_at (set x1 n r.x.x1) (set x2 n r.x.x2) (set x3 n r.x.x3)) (x_at x1 x2 x3) 0 n (λ j h. earlier-same x1 x2 x3 n r.x.x1 r.x.x2 r.x.x3 j (omega arith)))
        (sym (past_of r.decision run r))

    q : take (suc n) index ≡ (add_month run r).index
    q = front index index₀ (add_month run r).index n hi ki g.index_is

    m : take (suc n) mark ≡ (add_month run r).mark
    m = front mark mark₀ (add_month run r).mark n hm km g.mark_is

-- one add more, from a fresh run on
pub adds-all : (rows : List Row) (r : Row) (run run' : History) → run ≡ add_all rows → run' ≡ add_month run r → run' ≡ add_all (rows ++ (r ∷ []))
adds-all rows r run run' e f = f ∙ ap (λ (u : History). add_month u r) e ∙ sym (add-append fresh rows (r ∷ []))

-- and the whole series fills what adding singly to a fresh run would
pub series-is-adding : (rows : List Row) → (forward_indexes rows ≡ (add_all rows).index) × (forward_marks rows ≡ (add_all rows).mark)
series-is-adding rows = (sym (index-columns rows (add_all rows) (inv rows)), sym (mark-columns rows (add_all rows) (inv rows)))
