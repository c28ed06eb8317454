-- `departures::departure_of` meets its contract. P and CAFEC are bounded, so that the machine's difference is the number, and its size fits a `u32`.
-- Assumes nothing.
use mathlib.Core.Path.{◌≡◌, ap, ap₂, ◌∙◌}
use Prim.Native.Nat.{◌≤◌}
use native.Mathlib.Nat.{lt_of_le_of_lt}
use native.Mathlib.Omega.{arith}
use lib.Dec.{lit<}
use lib.IntN.{ℤ, pos, nat_abs, ◌-ℤ◌}
use mir.Syntax.{w32, w64}
use mir.Val.{Fits, SFits, to_z, of_z}
use mir.Facts.{to_z-of_z, to_z_pos}
use Rattle.exact.proofs.Z.{fits-within}
use Rattle.water.specs.Expected.{n_of, cafec_of}
use Rattle.water.proofs.WaterLaws.{potential-shares, potential-loss}
use Rattle.sums.specs.Sums.{potentials_in}
use Rattle.given_rows.specs.Facts.{RowFits}
use Rattle.given_rows.specs.declared.WaterRow.{WaterRow}
use Rattle.water.specs.Bounds.{ConstantsFit}
use Rattle.water.specs.declared.Constants.{Constants}
use Rattle.departures.specs.Departures.{expected_in, departure_of}
use Rattle.departures.proofs.DepartureLaws.{most_departure, short-most, wanted-most, expected-most}
use Rattle.departures.proofs.departure_of.Goals as goal
use Rattle.departures.proofs.departure_of.Goals.{After-n_of-n, After-cafec_of}

fits : (x : ℤ) → nat_abs x ≤ most_departure → Fits w32 (nat_abs x)
fits x h = omega arith

-- P - CAFEC, as the machine reads it, where x is CAFEC as the call gives it
module _ (k : Constants) (w : WaterRow) (kf : ConstantsFit k) (rf : RowFits w) (x : ℤ) (fx : SFits w64 x) (cafec : x ≡ expected_in k w) where
  abbrev short : ℤ
  short = pos w.p -ℤ expected_in k w

  small : nat_abs short ≤ most_departure
  small = short-most w.p (expected_in k w) rf.p (expected-most k w kf rf)

  abbrev read : ℤ
  read = to_z w64 w.p -ℤ to_z w64 (of_z w64 x)

  read_is : read ≡ short
  read_is = ap₂ ◌-ℤ◌ (to_z_pos w64 (lt_of_le_of_lt rf.p (lit< tt))) (to_z-of_z fx ∙ cafec)

  read-fits : SFits w64 read
  read-fits = rw read_is (fits-within w64 short most_departure small (lit< tt))

  -- read back
  held-is : to_z w64 (of_z w64 read) ≡ short
  held-is = to_z-of_z read-fits ∙ read_is

pub n_of-n-requires : goal.n_of-n-requires
n_of-n-requires c =
    let w = c.args.w in
    let f = c.requires.row_fits.soil in
    record {
      constants_fit = c.requires.constants_fit;
      pe_le_most_reading = (c.requires.row_fits.pe, f.most, rw c.potentials_of-q.ensures (potential-shares w.soil w.pe f), rw c.potentials_of-q.ensures (potential-loss w.soil w.pe));
    }

-- N, of the row and the constants handed in
n-is : (c : After-n_of-n) → let a = c.args in c.n_of-n.result ≡ n_of a.k a.w.pe (potentials_in a.w)
n-is c = let a = c.args in c.n_of-n.ensures ∙ ap (n_of a.k a.w.pe) c.potentials_of-q.ensures

pub cafec_of-requires : goal.cafec_of-requires
cafec_of-requires c =
    let f : SFits w64 c.n_of-n.result = record { sfits = c.n_of-n.type_inv } in
    rw (to_z-of_z f, n-is (goal.at.cafec_of-requires c).After-n_of-n) (wanted-most c.args.k c.args.w c.requires.constants_fit c.requires.row_fits)

cafec-is : (c : After-cafec_of) → let a = c.args in c.cafec_of.result ≡ expected_in a.k a.w
cafec-is c =
    let a = c.args in
    let f : SFits w64 c.n_of-n.result = record { sfits = c.n_of-n.type_inv } in
    c.cafec_of.ensures ∙ ap cafec_of (to_z-of_z f ∙ c.n_of-n.ensures ∙ ap (n_of a.k a.w.pe) c.potentials_of-q.ensures)

cafec-fits : (c : After-cafec_of) → SFits w64 c.cafec_of.result
cafec-fits c = record { sfits = c.cafec_of.type_inv }

pub overflow_sub-short : goal.overflow_sub-short
overflow_sub-short c =
    let at = (goal.at.overflow_sub-short c).After-cafec_of in
    read-fits c.args.k c.args.w c.requires.constants_fit c.requires.row_fits c.cafec_of.result (cafec-fits at) (cafec-is at)

pub overflow_cast-result : goal.overflow_cast-result
overflow_cast-result c =
    let at = (goal.at.overflow_cast-result c).After-cafec_of in
    let a = c.args in
    let kf = c.requires.constants_fit in
    let rf = c.requires.row_fits in
    let x = c.cafec_of.result in
    let e = cafec-is at in
    let fx = cafec-fits at in
    let size = rw (held-is a.k a.w kf rf x fx e) at c.unsigned_abs.ensures.value in
    rw size (fits (pos a.w.p -ℤ expected_in a.k a.w) (small a.k a.w kf rf x fx e))

pub returns : goal.returns
unfolding departure_of
returns c =
    let at = (goal.at.returns c).After-cafec_of in
    let a = c.args in
    rw (held-is a.k a.w c.requires.constants_fit c.requires.row_fits c.cafec_of.result (cafec-fits at) (cafec-is at)) at c.unsigned_abs.ensures.value
