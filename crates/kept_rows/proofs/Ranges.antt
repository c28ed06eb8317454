-- What the tests of the rows say, as facts: each row below the last passes (`row-fits-at`), its running values have room in the arithmetic
-- (`values-of-row`) and its record is in its ranges (`record-of-row`); and where each row passes, all do (`rows-fit-all`). Assumes nothing.
use mathlib.Core.Path.{◌≡◌, refl, sym, ◌∙◌}
use mathlib.Core.Bool.{Bool, true, false, not, ◌&&◌, ◌||◌, not-not, and-false}
use mathlib.Core.Logic.{⊎_elim}
use Prim.Native.Nat.{ℕ, zero, suc, ◌*◌, ◌≤◌, ◌<◌}
use native.Mathlib.Nat.{not-suc-le-zero, le_of_suc-le-suc, eq-or-lt_of_le}
use native.Mathlib.Omega.{arith}
use borrow.Author.Tests.{leb-true}
use lib.Dec.{leb}
use lib.IntN.{ℤ, pos, nat_abs}
use lib.ListN.{get_or}
use lib.Signed.{le_z, lt_z, ◌≤ℤ◌, ◌<ℤ◌}
use Rattle.outline.specs.Numbers.{most_x, most_u, most_z, z_fits}
use Rattle.outline.proofs.Tests.{first, second, both, z-within}
use Rattle.exact.proofs.Z.{zs, is-Z, le_yes, lt_yes}
use Rattle.exact.proofs.Orders.{le_not}
use Rattle.door.specs.Outcome.{measured}
use Rattle.door.specs.Readings.{most_reading}
use Rattle.water.specs.Layers.{surface_holds, underlying_holds}
use Rattle.spells.specs.ValuesFit.{FitsWithin}
use Rattle.spells.specs.declared.Running.{Running}
use Rattle.runs.specs.Runs.{sizes_fit, signs_fit, v_fits}
use Rattle.records.specs.Record.{record_at}
use Rattle.records.specs.declared.Record.{Record}
use Rattle.refusals.specs.Book.{Book, values_at}
use Rattle.kept_rows.specs.KeptRows.{index_fits, mark_fits, amount_fits, water_fits, storages_fit, record_fits, row_fits, rows_fit}

-- ---- chains of three, four and six tests
pub three : (a b c : Bool) → (a && b && c) ≡ true → (a ≡ true) × (b ≡ true) × (c ≡ true)
three a b c h =
    let p = first (a && b) c h in
    (first a b p, second a b p, second (a && b) c h)

pub four : (a b c d : Bool) → (a && b && c && d) ≡ true → (a ≡ true) × (b ≡ true) × (c ≡ true) × (d ≡ true)
four a b c d h =
    let p = three a b c (first (a && b && c) d h) in
    (p.0, p.1, p.2, second (a && b && c) d h)

pub six : (a b c d e f : Bool) → (a && b && c && d && e && f) ≡ true → (a ≡ true) × (b ≡ true) × (c ≡ true) × (d ≡ true) × (e ≡ true) × (f ≡ true)
six a b c d e f h =
    let x = a && b && c && d in
    let o = first (x && e) f h in
    let p = four a b c d (first x e o) in
    (p.0, p.1, p.2, p.3, second x e o, second (x && e) f h)

-- none of so many denials: all
none_of_two : (a b : Bool) → not (not a || not b) ≡ (a && b)
none_of_two true b = not-not b
none_of_two false b = refl

none-of-three : (a b c : Bool) → not (not a || not b || not c) ≡ (a && b && c)
none-of-three true b c = none_of_two b c
none-of-three false b c = refl

pub none_of_four : (a b c d : Bool) → not (not a || not b || not c || not d) ≡ (a && b && c && d)
none_of_four true b c d = none-of-three b c d
none_of_four false b c d = refl

none-of-five : (a b c d e : Bool) → not (not a || not b || not c || not d || not e) ≡ (a && b && c && d && e)
none-of-five true b c d e = none_of_four b c d e
none-of-five false b c d e = refl

pub none-of-six : (a b c d e f : Bool) → not (not a || not b || not c || not d || not e || not f) ≡ (a && b && c && d && e && f)
none-of-six true b c d e f = none-of-five b c d e f
none-of-six false b c d e f = refl

none-of-seven : (a b c d e f g : Bool) → not (not a || not b || not c || not d || not e || not f || not g) ≡ (a && b && c && d && e && f && g)
none-of-seven true b c d e f g = none-of-six b c d e f g
none-of-seven false b c d e f g = refl

pub none-of-eight : (a b c d e f g h : Bool) → not (not a || not b || not c || not d || not e || not f || not g || not h) ≡ (a && b && c && d && e && f && g && h)
none-of-eight true b c d e f g h = none-of-seven b c d e f g h
none-of-eight false b c d e f g h = refl

-- `a <= b || c < d`: the second, where the first does not hold
or_else : (a b c d : ℤ) → (le_z a b || lt_z c d) ≡ true → b <ℤ a → c <ℤ d
or_else a b c d h g = lt_yes c d (rw (le_not a b g) at h)

-- ---- an amount
abbrev pub Amount : ℕ → ℤ → Type 0
Amount most n = (pos 0 ≤ℤ n) × (nat_abs n ≤ most)

pub amount-is : (most : ℕ) (n : ℤ) → amount_fits most n ≡ true → Amount most n
unfolding amount_fits
amount-is most n h =
    let low = first (le_z (pos 0) n) (le_z n (pos most)) h in
    (le_yes (pos 0) n low, size n most low (second (le_z (pos 0) n) (le_z n (pos most)) h))
  where
    size : (x : ℤ) (k : ℕ) → le_z (pos 0) x ≡ true → le_z x (pos k) ≡ true → nat_abs x ≤ k
    size x k = rw (is-Z x) (simp zs (omega arith))

-- ---- the running values after so many months
values_are : (months : ℕ) (v : Running) → sizes_fit v ≡ true → signs_fit v ≡ true → v_fits months v ≡ true → FitsWithin (most_u * months) v
unfolding sizes_fit signs_fit v_fits
values_are months v hz hs hv =
    let z = three (leb (nat_abs v.x1) most_x) (leb (nat_abs v.x2) most_x) (leb (nat_abs v.x3) most_x) hz in
    let s = four (le_z (pos 0) v.x1) (le_z v.x2 (pos 0)) (le_z v.v (pos 0) || lt_z v.x3 (pos 0)) (le_z (pos 0) v.v || lt_z (pos 0) v.x3) hs in
    record {
      x1_size = leb-true _ _ z.0;
      x2_size = leb-true _ _ z.1;
      x3_size = leb-true _ _ z.2;
      v_size = leb-true _ _ hv;
      x1_sign = le_yes _ _ s.0;
      x2_sign = le_yes _ _ s.1;
      v_above = or_else v.v (pos 0) v.x3 (pos 0) s.2;
      v_below = or_else (pos 0) v.v (pos 0) v.x3 s.3;
    }

-- ---- a record
pub record RecordRanges (capacity : ℕ) (m : Record) : Type 0 where
  pub z : nat_abs m.z ≤ most_z
  pub p_sign : pos 0 ≤ℤ m.p
  pub p : nat_abs m.p ≤ most_reading
  pub pe_sign : pos 0 ≤ℤ m.pe
  pub pe : nat_abs m.pe ≤ most_reading
  pub ss_sign : pos 0 ≤ℤ m.ss
  pub ss : nat_abs m.ss ≤ surface_holds capacity
  pub su_sign : pos 0 ≤ℤ m.su
  pub su : nat_abs m.su ≤ underlying_holds capacity
  pub kind_sign : pos 0 ≤ℤ m.kind
  pub kind : nat_abs m.kind ≤ measured

module _ (capacity : ℕ) (m : Record) where
  water-is : water_fits m ≡ true → Amount most_reading m.p × Amount most_reading m.pe
  unfolding water_fits
  water-is h =
      let fit = amount_fits most_reading in
      let w = six (fit m.p) (fit m.pe) (fit m.et) (fit m.r) (fit m.l) (fit m.ro) h in
      (amount-is most_reading m.p w.0, amount-is most_reading m.pe w.1)

  storages-are : storages_fit capacity m ≡ true → Amount (surface_holds capacity) m.ss × Amount (underlying_holds capacity) m.su
  unfolding storages_fit
  storages-are h =
      let s = amount_fits (surface_holds capacity) in
      let u = amount_fits (underlying_holds capacity) in
      let w = four (s m.ss) (u m.su) (s m.surface) (u m.underlying) h in
      (amount-is (surface_holds capacity) m.ss w.0, amount-is (underlying_holds capacity) m.su w.1)

  record_is : record_fits capacity m ≡ true → RecordRanges capacity m
  unfolding record_fits
  record_is h =
      let t = six (z_fits m.z) (water_fits m) (storages_fit capacity m) (amount_fits 1 m.water) (index_fits m.modified) (amount_fits measured m.kind) h in
      let w = water-is t.1 in
      let s = storages-are t.2 in
      let k = amount-is measured m.kind t.5 in
      record {
        z = z-within m.z t.0;
        p_sign = w.0.0;
        p = w.0.1;
        pe_sign = w.1.0;
        pe = w.1.1;
        ss_sign = s.0.0;
        ss = s.0.1;
        su_sign = s.1.0;
        su = s.1.1;
        kind_sign = k.0;
        kind = k.1;
      }

-- ---- a row
module _ (capacity : ℕ) (cs : Book) where
  module _ (i : ℕ) where
    pub values-of-row : row_fits capacity cs i ≡ true → FitsWithin (most_u * suc i) (values_at cs i)
    unfolding row_fits
    values-of-row h =
        let v = values_at cs i in
        let t = six (sizes_fit v) (signs_fit v) (v_fits (suc i) v) (index_fits (get_or cs.index i (pos 0))) (mark_fits (get_or cs.mark i 0)) (record_fits capacity (record_at cs.records i)) h in
        values_are (suc i) v t.0 t.1 t.2

    pub record-of-row : row_fits capacity cs i ≡ true → RecordRanges capacity (record_at cs.records i)
    unfolding row_fits
    record-of-row h =
        let v = values_at cs i in
        let m = record_at cs.records i in
        record_is capacity m (second (sizes_fit v && signs_fit v && v_fits (suc i) v && index_fits (get_or cs.index i (pos 0)) && mark_fits (get_or cs.mark i 0)) (record_fits capacity m) h)

  -- ---- the rows
  pub rows_none : rows_fit capacity cs 0 ≡ true
  unfolding rows_fit
  rows_none = refl

  -- the next one
  rows_last : (k : ℕ) → rows_fit capacity cs (suc k) ≡ (rows_fit capacity cs k && row_fits capacity cs k)
  unfolding rows_fit
  rows_last k = refl

  pub row_more : (k : ℕ) → rows_fit capacity cs k ≡ true → row_fits capacity cs k ≡ true → rows_fit capacity cs (suc k) ≡ true
  row_more k p q = rows_last k ∙ both p q

  -- where all pass, each does
  pub row-fits-at : (k i : ℕ) → rows_fit capacity cs k ≡ true → i < k → row_fits capacity cs i ≡ true
  row-fits-at zero i h b = absurd (not-suc-le-zero b)
  row-fits-at (suc k) i h b =
      let g : (rows_fit capacity cs k && row_fits capacity cs k) ≡ true = sym (rows_last k) ∙ h in
      ⊎_elim
      (λ (e : i ≡ k). rw e (second (rows_fit capacity cs k) (row_fits capacity cs k) g))
      (λ (l : i < k). row-fits-at k i (first (rows_fit capacity cs k) (row_fits capacity cs k) g) l)
      (eq-or-lt_of_le (le_of_suc-le-suc b))

  -- and where each passes, all do
  pub rows-fit-all : (k : ℕ) → ((i : ℕ) → i < k → row_fits capacity cs i ≡ true) → rows_fit capacity cs k ≡ true
  rows-fit-all zero f = rows_none
  rows-fit-all (suc k) f = row_more k (rows-fit-all k (λ i h. f i (omega arith))) (f k (omega arith))

  -- a row that does not pass spoils all
  pub row-spoils : (k i : ℕ) → i < k → row_fits capacity cs i ≡ false → rows_fit capacity cs k ≡ false
  row-spoils zero i b e = absurd (not-suc-le-zero b)
  row-spoils (suc k) i b e =
      ⊎_elim
      (λ (s : i ≡ k). rows_last k ∙ rw (rw s at e) (and-false (rows_fit capacity cs k)))
      (λ (l : i < k). rows_last k ∙ rw (row-spoils k i l e))
      (eq-or-lt_of_le (le_of_suc-le-suc b))
