-- The two readings' numbers may be joined to one, and PE's then be 0: an add of water is refused alike. Assumes nothing.
use mathlib.Core.Path.{◌≡◌, ap}
use Prim.Native.Nat.{ℕ}
use Rattle.outline.specs.Refusals.{or_else}
use Rattle.door.specs.Outcome.{Outcome, kinds_of}
use Rattle.runs.specs.declared.Run.{Run}
use Rattle.refusals.specs.Book.{Book, long}
use Rattle.refusals.specs.Refusals.{run_refusal, room_refusal, water_refusal}
use Rattle.refusals.specs.Lent.{reading_refusal}
use Rattle.refusals.proofs.Lent.{or-joined}
use Rattle.adding.specs.Taken.{answered, taken_water}
use Rattle.drought.specs.Calls.{add_outcomes}

refusal-joined : (r : Run) (p pe : ℕ) (cs : Book) → water_refusal r (reading_refusal p pe) 0 cs ≡ water_refusal r p pe cs
unfolding water_refusal
refusal-joined r p pe cs = ap (or_else (run_refusal r cs)) (or-joined p pe (room_refusal (long cs) r.months))

pub joined : (r : Run) (p pe : Outcome) (cs : Book)
    → add_outcomes r (record { number = reading_refusal p.number pe.number; water = p.water; kind = p.kind }) (record { number = 0; water = pe.water; kind = pe.kind }) cs ≡ add_outcomes r p pe cs
unfolding add_outcomes
joined r p pe cs = ap (λ (k : ℕ). answered k r cs (taken_water r p.water pe.water (kinds_of p pe) cs)) (refusal-joined r p.number pe.number cs)
