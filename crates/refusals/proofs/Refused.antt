-- Nothing is refused: what a number of 0 says of the run and the columns. Assumes nothing.
use mathlib.Core.Path.{◌≡◌, refl}
use mathlib.Core.Bool.{Bool, true, false, cond, ◌&&◌}
use Prim.Native.Nat.{ℕ, ◌<◌, ◌≤◌}
use native.Mathlib.Omega.{arith}
use lib.IntN.{ℤ, nat_abs}
use lib.Dec.{ltb, leb, eqb}
use lib.ListN.{length}
use borrow.Author.Tests.{ltb-true, leb-true, eqb-true}
use Rattle.outline.specs.Numbers.{most_months, length_fits, most_z, z_fits}
use Rattle.outline.specs.Refusals.{or_else, bad_lists, not_a_run, no_such_row, bad_z}
use Rattle.outline.proofs.Tests.{both, each, cond-zero, z-within}
use Rattle.outline.proofs.Refusals.{or-zero}
use Rattle.runs.specs.Runs.{is_run}
use Rattle.records.specs.Ends.{ends_meet}
use Rattle.runs.specs.declared.Run.{Run}
use Rattle.refusals.specs.Book.{Book, long, lengths_fit, columns_fit}
use Rattle.refusals.specs.Good.{Good}
use Rattle.refusals.specs.Refusals.{is_run_for, is_run_of, run_refusal, room_refusal, water_refusal, z_refusal, row_refusal}

pub room-passes : (n months : ℕ) → room_refusal n months ≡ 0 → months < n
unfolding room_refusal
room-passes n months h = ltb-true months n (cond-zero (ltb months n) 9 h)

module _ (r : Run) (cs : Book) where
  pub good-passes : Good r cs → run_refusal r cs ≡ 0
  unfolding run_refusal
  good-passes g = rw (g.fit, g.run)

  pub run-passes : run_refusal r cs ≡ 0 → Good r cs
  unfolding run_refusal
  run-passes h = let a = go (columns_fit cs) (is_run_of cs r) h in record { fit = a.0; run = a.1 }
    where
      go : (a b : Bool) → cond a (cond b 0 not_a_run) bad_lists ≡ 0 → (a ≡ true) × (b ≡ true)
      go true b h = (refl, cond-zero b 6 h)
      go false b h = absurd (omega arith)

  -- a run for what is lent: what `is_run` asks, and that the last record ends where it stands
  pub run-parts : is_run_of cs r ≡ true → (is_run (long cs) r ≡ true) × (ends_meet r.months r.soil cs.records ≡ true)
  unfolding is_run_for
  run-parts h = each (is_run (long cs) r) (ends_meet r.months r.soil cs.records) h

  pub parts-run : is_run (long cs) r ≡ true → ends_meet r.months r.soil cs.records ≡ true → is_run_of cs r ≡ true
  unfolding is_run_for
  parts-run p q = both p q

  pub water-passes : (p pe : ℕ) → water_refusal r p pe cs ≡ 0 → Good r cs × (r.months < long cs)
  unfolding water_refusal
  water-passes p pe h =
      let room = room_refusal (long cs) r.months in
      let a = or-zero (run_refusal r cs) (or_else p (or_else pe room)) h in
      let b = or-zero p (or_else pe room) a.1 in
      let c = or-zero pe room b.1 in
      (run-passes a.0, room-passes (long cs) r.months c.1)

  pub z-passes : (z : ℤ) → z_refusal r z cs ≡ 0 → Good r cs × (r.months < long cs) × (nat_abs z ≤ most_z)
  unfolding z_refusal
  z-passes z h =
      let room = room_refusal (long cs) r.months in
      let a = or-zero (run_refusal r cs) (or_else (cond (z_fits z) 0 bad_z) room) h in
      let b = or-zero (cond (z_fits z) 0 bad_z) room a.1 in
      (run-passes a.0, room-passes (long cs) r.months b.1, z-within z (cond-zero (z_fits z) 11 b.0))

  pub row-passes : (i : ℕ) → row_refusal r i cs ≡ 0 → Good r cs × (i < r.months)
  unfolding row_refusal
  row-passes i h =
      let a = or-zero (run_refusal r cs) (cond (ltb i r.months) 0 no_such_row) h in
      (run-passes a.0, ltb-true i r.months (cond-zero (ltb i r.months) 10 a.1))

-- ---- columns that fit
-- the seven lengths are one, and in range
pub record OneLength (x1 x2 x3 index mark records v : ℕ) : Type 0 where
  pub x2_is : x2 ≡ x1
  pub x3_is : x3 ≡ x1
  pub index_is : index ≡ x1
  pub mark_is : mark ≡ x1
  pub records_is : records ≡ x1
  pub v_is : v ≡ x1
  pub least : 1 ≤ x1
  pub most : x1 ≤ most_months

pub lengths-are : (x1 x2 x3 index mark records v : ℕ) → lengths_fit x1 x2 x3 index mark records v ≡ true → OneLength x1 x2 x3 index mark records v
unfolding lengths_fit length_fits
lengths-are x1 x2 x3 index mark records v h =
    let a = each (eqb x2 x1 && eqb x3 x1 && eqb index x1 && eqb mark x1 && eqb records x1 && eqb v x1) (length_fits x1) h in
    let b = each (eqb x2 x1 && eqb x3 x1 && eqb index x1 && eqb mark x1 && eqb records x1) (eqb v x1) a.0 in
    let c = each (eqb x2 x1 && eqb x3 x1 && eqb index x1 && eqb mark x1) (eqb records x1) b.0 in
    let d = each (eqb x2 x1 && eqb x3 x1 && eqb index x1) (eqb mark x1) c.0 in
    let e = each (eqb x2 x1 && eqb x3 x1) (eqb index x1) d.0 in
    let f = each (eqb x2 x1) (eqb x3 x1) e.0 in
    let g = each (leb 1 x1) (leb x1 most_months) a.1 in
    record {
      x2_is = eqb-true _ _ f.0;
      x3_is = eqb-true _ _ f.1;
      index_is = eqb-true _ _ e.1;
      mark_is = eqb-true _ _ d.1;
      records_is = eqb-true _ _ c.1;
      v_is = eqb-true _ _ b.1;
      least = leb-true _ _ g.0;
      most = leb-true _ _ g.1;
    }

abbrev pub AllLong : Book → Type 0
AllLong cs = OneLength (long cs) (length cs.x2) (length cs.x3) (length cs.index) (length cs.mark) (length cs.records) (length cs.v)

pub columns_are : (cs : Book) → columns_fit cs ≡ true → AllLong cs
columns_are cs h = lengths-are (long cs) (length cs.x2) (length cs.x3) (length cs.index) (length cs.mark) (length cs.records) (length cs.v) h
