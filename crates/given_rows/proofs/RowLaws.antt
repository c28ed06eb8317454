-- What the tests of a row of water say, as facts: it starts from readings and storages in their ranges (`addable-is`), its figures are the balance's
-- (`holds-is`), and so each is within its potential (`row_fits`); and each of the rows that pass is one that an add gives (`given-at`).
-- Assumes nothing.
use mathlib.Core.Path.{◌≡◌}
use mathlib.Core.Bool.{true, false}
use mathlib.Core.List.{List}
use Prim.Native.Nat.{ℕ, ◌+◌, ◌≤◌, ◌<◌}
use native.Mathlib.Omega.{arith}
use lib.Dec.{T}
use lib.IntN.{ℤ, pos, nat_abs}
use lib.Signed.{◌≤ℤ◌, non_neg}
use mir.Syntax.{w32}
use mir.Val.{Fits, SFits, to_z, of_z}
use mir.Facts.{to_z-of_z}
use Rattle.outline.proofs.Tests.{first, second}
use Rattle.outline.proofs.Every.{all-at}
use Rattle.exact.proofs.Z.{zs}
use Rattle.door.specs.Readings.{most_reading}
use Rattle.water.specs.Layers.{least_capacity, most_capacity, surface_holds, underlying_holds, SoilFits}
use Rattle.water.specs.declared.Balance.{Balance}
use Rattle.water.proofs.WaterLaws.{kept, within-potential}
use Rattle.water.proofs.LayerLaws.{layers-sum}
use Rattle.ranges.proofs.RangeLaws.{countable}
use Rattle.records.specs.Record.{record_at}
use Rattle.records.specs.Ends.{amounts}
use Rattle.records.specs.Water.{had_water}
use Rattle.records.specs.declared.Record.{Record}
use Rattle.records.proofs.Meeting.{amounts-to}
use Rattle.kept_rows.specs.KeptRows.{amount_fits}
use Rattle.kept_rows.proofs.Ranges.{Amount, amount-is, four, six}
use Rattle.reopening.specs.Before.{soil_of}
use Rattle.given_rows.specs.GivenRows.{water_of, addable, holds, balance_from, given_by_add, row_given, rows_given}
use Rattle.given_rows.specs.Facts.{RowFits}

-- ---- what an add can start from
pub record Addable (capacity : ℕ) (m : Record) : Type 0 where
  pub p : Amount most_reading m.p
  pub pe : Amount most_reading m.pe
  pub ss : Amount (surface_holds capacity) m.ss
  pub su : Amount (underlying_holds capacity) m.su

-- ---- a record that holds a balance
pub record Held (m : Record) (b : Balance) : Type 0 where
  pub et : m.et ≡ pos b.et
  pub r : m.r ≡ pos b.r
  pub l : m.l ≡ pos (b.ls + b.lu)
  pub ro : m.ro ≡ pos b.ro
  pub surface : m.surface ≡ pos b.surface
  pub underlying : m.underlying ≡ pos b.underlying

-- no amount of a row is below zero
pub record Signs (m : Record) : Type 0 where
  pub p : pos 0 ≤ℤ m.p
  pub pe : pos 0 ≤ℤ m.pe
  pub et : pos 0 ≤ℤ m.et
  pub r : pos 0 ≤ℤ m.r
  pub l : pos 0 ≤ℤ m.l
  pub ro : pos 0 ≤ℤ m.ro
  pub ss : pos 0 ≤ℤ m.ss
  pub su : pos 0 ≤ℤ m.su
  pub surface : pos 0 ≤ℤ m.surface
  pub underlying : pos 0 ≤ℤ m.underlying

-- an `i32` that is not below zero is read as it stands
pub counted : (x : ℤ) → pos 0 ≤ℤ x → SFits w32 x → T (non_neg (to_z w32 (of_z w32 x))) × Fits w32 (nat_abs (to_z w32 (of_z w32 x)))
counted x h f = rw (to_z-of_z f) (countable x h f)

above : (x : ℤ) (k : ℕ) → x ≡ pos k → pos 0 ≤ℤ x
above x k e = rw e (simp zs (omega arith))

-- each figure of a balance is in the range of a reading
pub record Small (b : Balance) : Type 0 where
  pub et : b.et ≤ most_reading
  pub r : b.r ≤ most_reading
  pub l : b.ls + b.lu ≤ most_reading
  pub ro : b.ro ≤ most_reading
  pub surface : b.surface ≤ most_reading
  pub underlying : b.underlying ≤ most_reading

module _ (capacity : ℕ) (m : Record) where
  pub addable-is : addable capacity m ≡ true → Addable capacity m
  unfolding addable
  addable-is h =
      let t = four (amount_fits most_reading m.p) (amount_fits most_reading m.pe) (amount_fits (surface_holds capacity) m.ss) (amount_fits (underlying_holds capacity) m.su) h in
      record {
        p = amount-is most_reading m.p t.0;
        pe = amount-is most_reading m.pe t.1;
        ss = amount-is (surface_holds capacity) m.ss t.2;
        su = amount-is (underlying_holds capacity) m.su t.3;
      }

  pub holds-is : (b : Balance) → holds m b ≡ true → Held m b
  unfolding holds
  holds-is b h =
      let t = six (amounts m.et b.et) (amounts m.r b.r) (amounts m.l (b.ls + b.lu)) (amounts m.ro b.ro) (amounts m.surface b.surface) (amounts m.underlying b.underlying) h in
      record {
        et = amounts-to _ _ t.0;
        r = amounts-to _ _ t.1;
        l = amounts-to _ _ t.2;
        ro = amounts-to _ _ t.3;
        surface = amounts-to _ _ t.4;
        underlying = amounts-to _ _ t.5;
      }

  pub given-starts : given_by_add capacity m ≡ true → Addable capacity m
  unfolding given_by_add
  given-starts h = addable-is (first (addable capacity m) (holds m (balance_from capacity m)) h)

  pub given_holds : given_by_add capacity m ≡ true → Held m (balance_from capacity m)
  unfolding given_by_add
  given_holds h = holds-is (balance_from capacity m) (second (addable capacity m) (holds m (balance_from capacity m)) h)

  pub signs : given_by_add capacity m ≡ true → Signs m
  signs h =
      let a = given-starts h in
      let b = given_holds h in
      record {
        p = a.p.0;
        pe = a.pe.0;
        et = above m.et _ b.et;
        r = above m.r _ b.r;
        l = above m.l _ b.l;
        ro = above m.ro _ b.ro;
        ss = a.ss.0;
        su = a.su.0;
        surface = above m.surface _ b.surface;
        underlying = above m.underlying _ b.underlying;
      }

  module _ (least : least_capacity ≤ capacity) (most : capacity ≤ most_capacity) where
    pub soil-fits : Addable capacity m → SoilFits (soil_of capacity m)
    soil-fits a = record { least = least; most = most; surface = a.ss.1; underlying = a.su.1 }

    pub small : Addable capacity m → Small (balance_from capacity m)
    small a =
        let f = soil-fits a in
        let k = kept (soil_of capacity m) (nat_abs m.p) (nat_abs m.pe) f in
        let s = layers-sum capacity in
        record {
          et = omega (arith, k.et, a.pe.1);
          r = omega (arith, k.r, most);
          l = omega (arith, k.ls, k.lu, a.ss.1, a.su.1, most);
          ro = omega (arith, k.ro, a.p.1);
          surface = omega (arith, k.surface, most);
          underlying = omega (arith, k.underlying, most);
        }

    pub row_fits : given_by_add capacity m ≡ true → RowFits (water_of capacity m)
    row_fits h =
        let a = given-starts h in
        let b = given_holds h in
        let f = soil-fits a in
        let k = kept (soil_of capacity m) (nat_abs m.p) (nat_abs m.pe) f in
        let w = within-potential (soil_of capacity m) (nat_abs m.p) (nat_abs m.pe) f in
        record {
          soil = f;
          p = a.p.1;
          pe = a.pe.1;
          et = rw b.et k.et;
          r = rw b.r w.0;
          l = rw b.l w.1;
          ro = rw b.ro k.ro;
        }

-- ---- whether a row is given: without water, one that could not be added, and one that is held to its balance
module _ (capacity : ℕ) (m : Record) where
  pub none-given : had_water m ≡ false → true ≡ row_given capacity m
  unfolding row_given
  none-given w = rw w

  pub not-added : had_water m ≡ true → addable capacity m ≡ false → false ≡ row_given capacity m
  unfolding row_given given_by_add
  not-added w a = rw (w, a)

  pub held-given : had_water m ≡ true → addable capacity m ≡ true → holds m (balance_from capacity m) ≡ row_given capacity m
  unfolding row_given given_by_add
  held-given w a = rw (w, a)

-- ---- the rows: one of water that passes is one that an add gives
pub given-at : (capacity : ℕ) (records : List (List ℤ)) (k i : ℕ) → rows_given capacity records k ≡ true → i < k → had_water (record_at records i) ≡ true → given_by_add capacity (record_at records i) ≡ true
unfolding row_given
given-at capacity records k i h b w = rw w at (all-at (λ j. row_given capacity (record_at records j)) k i h b)
