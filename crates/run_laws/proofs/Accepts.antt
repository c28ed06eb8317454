-- An add of water that accepts a month: nothing was refused, and it did what `taken_water` says. Assumes nothing.
use mathlib.Core.Path.{◌≡◌}
use Prim.Native.Nat.{◌≤◌, ◌<◌}
use lib.IntN.{nat_abs}
use Rattle.outline.specs.Numbers.{most_z}
use Rattle.door.specs.Outcome.{Outcome, kinds_of}
use Rattle.door.specs.Readings.{most_reading}
use Rattle.water.specs.Layers.{SoilFits}
use Rattle.water.proofs.Theorems.{z-acceptable, month-layers-kept}
use Rattle.calendar.specs.Calendar.{constants_at}
use Rattle.runs.specs.declared.Run.{Run}
use Rattle.refusals.specs.Book.{Book, long}
use Rattle.refusals.specs.Good.{Good}
use Rattle.refusals.specs.Refusals.{water_refusal}
use Rattle.refusals.proofs.Refused.{water-passes}
use Rattle.adding.specs.Taken.{taken_water, soil_after, water_of}
use Rattle.adding.proofs.Readiness.{run_is}
use Rattle.adding.proofs.Answered.{answered-zero}
use Rattle.drought.specs.Calls.{add_outcomes}

module _ (r : Run) (cs : Book) where
  -- a month of water that was taken
  pub record TookWater (p pe : Outcome) : Type 0 where
    pub good : Good r cs
    pub room : r.months < long cs
    pub soil : SoilFits (soil_after r.soil (water_of r p.water pe.water))
    pub z : nat_abs (water_of r p.water pe.water).z ≤ most_z
    pub did : add_outcomes r p pe cs ≡ taken_water r p.water pe.water (kinds_of p pe) cs

  pub took-water : (p pe : Outcome) → p.water ≤ most_reading → pe.water ≤ most_reading → (add_outcomes r p pe cs).answer.number ≡ 0 → TookWater p pe
  unfolding add_outcomes
  took-water p pe hp hpe h =
      let u = answered-zero (water_refusal r p.number pe.number cs) r cs (taken_water r p.water pe.water (kinds_of p pe) cs) h in
      let g = water-passes r cs p.number pe.number u.0 in
      let f = run_is r cs g.0 in
      record {
        good = g.0;
        room = g.1;
        soil = month-layers-kept r.soil p.water pe.water (constants_at r.constants r.calendar) f.soil;
        z = z-acceptable r.soil p.water pe.water (constants_at r.constants r.calendar) f.soil hp hpe f.month_constants;
        did = u.1;
      }
