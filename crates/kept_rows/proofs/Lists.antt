-- The tests of the rows, list by list: the rows fit exactly where the columns, the marks and what is left of each row do (`rows_are`). Assumes
-- nothing.
use mathlib.Core.Path.{◌≡◌, refl, sym, ◌∙◌}
use mathlib.Core.Bool.{Bool, true, false, not, ◌&&◌, ◌||◌}
use mathlib.Core.List.{List}
use Prim.Native.Nat.{ℕ, suc, ◌*◌, ◌≤◌, ◌<◌}
use native.Mathlib.Omega.{arith}
use borrow.Author.Tests.{leb-true, le-leb}
use lib.Dec.{leb}
use lib.IntN.{ℤ, pos, negsuc, nat_abs}
use lib.ListN.{length, get_or, take}
use Rattle.std.proofs.lemmas.List.{get_or_default, get_or-take, length-take-le}
use lib.Signed.{le_z, lt_z}
use Rattle.outline.specs.Numbers.{most_x, most_u}
use Rattle.outline.specs.Every.{all_of}
use Rattle.outline.proofs.Tests.{first, second, each, both}
use Rattle.outline.proofs.Every.{all-at, all-of}
use Rattle.exact.proofs.Z.{zs, is-Z}
use Rattle.spells.specs.declared.Running.{Running}
use Rattle.runs.specs.Runs.{sizes_fit, signs_fit, v_fits}
use Rattle.records.specs.Record.{record_at}
use Rattle.refusals.specs.Book.{Book, values_at}
use Rattle.kept_rows.specs.KeptRows.{index_fits, mark_fits, record_fits, row_fits, rows_fit}
use Rattle.kept_rows.specs.Lists.{between_at, mark_at, opposed_to, v_row_fits, rest_at}
use Rattle.kept_rows.proofs.Ranges.{three, four, six, row-fits-at, rows-fit-all}

-- two tests that are passed together
pub agree : (a b : Bool) → (a ≡ true → b ≡ true) → (b ≡ true → a ≡ true) → a ≡ b
agree true b p q = sym (p refl)
agree false true p q = q refl
agree false false p q = refl

-- ---- an index: from the least to the most, and at most so much in size

in_size : (x : ℤ) → le_z (negsuc 12999999) x ≡ true → le_z x (pos most_x) ≡ true → nat_abs x ≤ most_x
in_size x = rw (is-Z x) (simp zs (omega arith))

not_low : (x : ℤ) → nat_abs x ≤ most_x → le_z (negsuc 12999999) x ≡ true
not_low x = rw (is-Z x) (simp zs (omega arith))

not-high : (x : ℤ) → nat_abs x ≤ most_x → le_z x (pos most_x) ≡ true
not-high x = rw (is-Z x) (simp zs (omega arith))

pub index_is : (x : ℤ) → (le_z (negsuc 12999999) x && le_z x (pos most_x)) ≡ index_fits x
unfolding index_fits
index_is x =
    agree
    (le_z (negsuc 12999999) x && le_z x (pos most_x))
    (leb (nat_abs x) most_x)
    (λ h. le-leb (nat_abs x) most_x (in_size x (first (le_z (negsuc 12999999) x) (le_z x (pos most_x)) h) (second (le_z (negsuc 12999999) x) (le_z x (pos most_x)) h)))
    (λ h. both (not_low x (leb-true (nat_abs x) most_x h)) (not-high x (leb-true (nat_abs x) most_x h)))

-- ---- the first numbers of a list: the number at a place of them is the list's
module _ (n : ℕ) (i : ℕ) where
  pub first-at : {A : Type 0} (l : List A) (x d : A) → n ≤ length l → i < length (take n l) → get_or (take n l) i x ≡ x → get_or l i d ≡ x
  first-at l x d h b e =
      let m : i < n = rw (length-take-le n l h) at b in
      get_or_default l i d x (omega arith) ∙ sym (get_or-take n l i x m) ∙ e

  -- so what is said of it is said of the test at that place
  pub column-answers : (least most : ℤ) (l : List ℤ) (x : ℤ) (r : Bool) → n ≤ length l → i < length (take n l) → get_or (take n l) i x ≡ x
      → r ≡ not (le_z least x && le_z x most) → r ≡ not (between_at least most l i)
  unfolding between_at
  column-answers least most l x r h b e t = rw (first-at l x (pos 0) h b e) t

  pub mark-answers : (l : List ℕ) (x : ℕ) (r : Bool) → n ≤ length l → i < length (take n l) → get_or (take n l) i x ≡ x
      → r ≡ not (le_z (pos 1) (pos x) && le_z (pos x) (pos 2)) → r ≡ not (mark_at l i)
  unfolding mark_at mark_fits
  mark-answers l x r h b e t = rw (first-at l x 0 h b e) t

-- ---- the rows
x1_size : (x : ℤ) → le_z (pos 0) x ≡ true → le_z x (pos most_x) ≡ true → nat_abs x ≤ most_x
x1_size x = rw (is-Z x) (simp zs (omega arith))

x2_size : (x : ℤ) → le_z (negsuc 12999999) x ≡ true → le_z x (pos 0) ≡ true → nat_abs x ≤ most_x
x2_size x = rw (is-Z x) (simp zs (omega arith))

module _ (capacity : ℕ) (cs : Book) where
  -- the six tests of a row
  abbrev x1-at : ℕ → Bool
  x1-at = between_at (pos 0) (pos most_x) cs.x1

  abbrev x2-at : ℕ → Bool
  x2-at = between_at (negsuc 12999999) (pos 0) cs.x2

  abbrev x3-at : ℕ → Bool
  x3-at = between_at (negsuc 12999999) (pos most_x) cs.x3

  abbrev index_at : ℕ → Bool
  index_at = between_at (negsuc 12999999) (pos most_x) cs.index

  abbrev rest-at : ℕ → Bool
  rest-at = rest_at capacity cs.x3 cs.records cs.v

  abbrev Each : ℕ → Type 0
  Each i = (x1-at i ≡ true) × (x2-at i ≡ true) × (x3-at i ≡ true) × (index_at i ≡ true) × (mark_at cs.mark i ≡ true) × (rest-at i ≡ true)

  module _ (i : ℕ) where
    abbrev x1 : ℤ
    x1 = get_or cs.x1 i (pos 0)

    abbrev x2 : ℤ
    x2 = get_or cs.x2 i (pos 0)

    abbrev x3 : ℤ
    x3 = get_or cs.x3 i (pos 0)

    abbrev v : ℤ
    v = get_or cs.v i (pos 0)

    abbrev row : Running
    row = values_at cs i

    -- V's two signs
    abbrev above : Bool
    above = le_z v (pos 0) || lt_z x3 (pos 0)

    abbrev below : Bool
    below = le_z (pos 0) v || lt_z (pos 0) x3

    row-each : row_fits capacity cs i ≡ true → Each i
    unfolding row_fits sizes_fit signs_fit v_fits between_at mark_at opposed_to v_row_fits rest_at
    row-each h =
        let t = six (sizes_fit row) (signs_fit row) (v_fits (suc i) row) (index_fits (get_or cs.index i (pos 0))) (mark_fits (get_or cs.mark i 0)) (record_fits capacity (record_at cs.records i)) h in
        let z = three (leb (nat_abs x1) most_x) (leb (nat_abs x2) most_x) (leb (nat_abs x3) most_x) t.0 in
        let s = four (le_z (pos 0) x1) (le_z x2 (pos 0)) above below t.1 in
        (both s.0 (not-high x1 (leb-true (nat_abs x1) most_x z.0)), both (not_low x2 (leb-true (nat_abs x2) most_x z.1)) s.1, both (not_low x3 (leb-true (nat_abs x3) most_x z.2)) (not-high x3 (leb-true (nat_abs x3) most_x z.2)), index_is (get_or cs.index i (pos 0)) ∙ t.3, t.4, both (both (both s.2 s.3) t.2) t.5)

    each_row : Each i → row_fits capacity cs i ≡ true
    unfolding row_fits sizes_fit signs_fit v_fits between_at mark_at opposed_to v_row_fits rest_at
    each_row t =
        let a = each (le_z (pos 0) x1) (le_z x1 (pos most_x)) t.0 in
        let b = each (le_z (negsuc 12999999) x2) (le_z x2 (pos 0)) t.1 in
        let c = each (le_z (negsuc 12999999) x3) (le_z x3 (pos most_x)) t.2 in
        let r = each (v_row_fits (suc i) x3 v) (record_fits capacity (record_at cs.records i)) t.5 in
        let w = three above below (leb (nat_abs v) (most_u * suc i)) r.0 in
        let sizes = both (both (le-leb (nat_abs x1) most_x (x1_size x1 a.0 a.1)) (le-leb (nat_abs x2) most_x (x2_size x2 b.0 b.1))) (le-leb (nat_abs x3) most_x (in_size x3 c.0 c.1)) in
        let signs = both (both (both a.0 b.1) w.0) w.1 in
        both (both (both (both (both sizes signs) w.2) (sym (index_is (get_or cs.index i (pos 0))) ∙ t.3)) t.4) r.1

  -- the columns, the marks and what is left of each row
  pub rows_are : (k : ℕ) → rows_fit capacity cs k ≡ (all_of x1-at k && all_of x2-at k && all_of x3-at k && all_of index_at k && all_of (mark_at cs.mark) k && all_of rest-at k)
  rows_are k = agree (rows_fit capacity cs k) (all_of x1-at k && all_of x2-at k && all_of x3-at k && all_of index_at k && all_of (mark_at cs.mark) k && all_of rest-at k) to from
    where
      to : rows_fit capacity cs k ≡ true → (all_of x1-at k && all_of x2-at k && all_of x3-at k && all_of index_at k && all_of (mark_at cs.mark) k && all_of rest-at k) ≡ true
      to h =
          let at : (i : ℕ) → i < k → Each i = λ i b. row-each i (row-fits-at capacity cs k i h b) in
          let a = all-of x1-at k (λ i b. (at i b).0) in
          let b = all-of x2-at k (λ i b. (at i b).1) in
          let c = all-of x3-at k (λ i b. (at i b).2) in
          let d = all-of index_at k (λ i b. (at i b).3) in
          let e = all-of (mark_at cs.mark) k (λ i b. (at i b).4) in
          let f = all-of rest-at k (λ i b. (at i b).5) in
          both (both (both (both (both a b) c) d) e) f

      from : (all_of x1-at k && all_of x2-at k && all_of x3-at k && all_of index_at k && all_of (mark_at cs.mark) k && all_of rest-at k) ≡ true → rows_fit capacity cs k ≡ true
      from h =
          let t = six (all_of x1-at k) (all_of x2-at k) (all_of x3-at k) (all_of index_at k) (all_of (mark_at cs.mark) k) (all_of rest-at k) h in
          rows-fit-all
          capacity
          cs
          k
          (λ i b. each_row i (all-at x1-at k i t.0 b, all-at x2-at k i t.1 b, all-at x3-at k i t.2 b, all-at index_at k i t.3 b, all-at (mark_at cs.mark) k i t.4 b, all-at rest-at k i t.5 b))
