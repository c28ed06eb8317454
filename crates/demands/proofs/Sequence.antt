-- Months added one by one. After any accepted months the columns hold the rows of all months so far (`held_all`), whatever they held at
-- first; the run and the columns stay good, so no call is refused 1 or 7; the running values, the record and V of an earlier month are never written
-- again. Assumes nothing.
use mathlib.Core.Path.{◌≡◌, refl, sym, ap, ◌∙◌, subst}
use mathlib.Core.List.{List, [], ◌∷◌, ◌++◌}
use Prim.Native.Nat.{ℕ, ◌+◌, ◌<◌}
use native.Mathlib.Omega.{arith}
use lib.IntN.{ℤ, pos}
use lib.ListN.{length, get_or}
use lib.Seq.{get_or-set_other}
use Rattle.hindsight.specs.Adding.{add_to, History}
use Rattle.hindsight.specs.Columns.{rows_of}
use Rattle.hindsight.specs.Coded.{state_of}
use Rattle.spell_laws.specs.Reached.{Reached}
use Rattle.spell_laws.proofs.Reached.{step-reached}
use Rattle.runs.specs.declared.Run.{Run}
use Rattle.refusals.specs.Book.{Book, long}
use Rattle.adding.specs.Taken.{Result, held_by}
use Rattle.run_laws.proofs.Keeps.{long_kept}
use Rattle.demands.specs.Months.{Ask, asked, State, after, after_all, Accepted, Station, station_of, z_for, station_next, station_row, rows_of_months}
use Rattle.demands.proofs.Took.{Took, took, months-next, station-next, held_next, x1-next, x2-next, x3-next, records-next, v_next}

abbrev held_in : State → History
held_in s = held_by s.run s.columns

-- after any accepted months the columns hold what adding their rows to what they held gives
pub held_all : (s : State) (asks : List Ask) → Accepted s asks → held_in (after_all s asks) ≡ add_to (held_in s) (rows_of_months s.run asks)
held_all s [] h = refl
held_all s (a ∷ later) h =
    let t = took s.run s.columns a h.0 in
    held_all (after s a) later h.1
    ∙ ap (λ (d : Station). add_to (held_in (after s a)) (rows_of station_next station_row d later)) (station-next s.run a s.columns t)
    ∙ ap (λ (e : History). add_to e (rows_of station_next station_row (station_next (station_of s.run) a) later)) (held_next s.run a s.columns t)

pub months-all : (s : State) (asks : List Ask) → Accepted s asks → (after_all s asks).run.months ≡ s.run.months + length asks
months-all s [] h = omega arith
months-all s (a ∷ later) h =
    let t = took s.run s.columns a h.0 in
    omega (arith, months-all (after s a) later h.1, months-next s.run a s.columns t)

-- the station is where its own rules bring it
pub station-all : (s : State) (asks : List Ask) → Accepted s asks → station_of (after_all s asks).run ≡ state_of station_next (station_of s.run) asks
station-all s [] h = refl
station-all s (a ∷ later) h =
    station-all (after s a) later h.1
    ∙ ap (λ (d : Station). state_of station_next d later) (station-next s.run a s.columns (took s.run s.columns a h.0))

-- the columns stay as long
pub long_after : (r : Run) (cs : Book) (a : Ask) → Took r a cs → long (asked r a cs).columns ≡ long cs
long_after r cs a t = ap (λ (b : Result). long b.columns) t.did ∙ long_kept r cs t.good t.room _ t.soil _ _ t.z _

pub long-all : (s : State) (asks : List Ask) → Accepted s asks → long (after_all s asks).columns ≡ long s.columns
long-all s [] h = refl
long-all s (a ∷ later) h = long-all (after s a) later h.1 ∙ long_after s.run s.columns a (took s.run s.columns a h.0)

-- what a fresh run comes to, by months of water or of Z
pub reached-after : (s : State) (asks : List Ask) → Reached s.run.values → Accepted s asks → Reached (after_all s asks).run.values
reached-after s [] k h = k
reached-after s (a ∷ later) k h =
    let n = station-next s.run a s.columns (took s.run s.columns a h.0) in
    reached-after (after s a) later (subst (λ (d : Station). Reached d.values) (sym n) (step-reached s.run.values (z_for (station_of s.run) a) k)) h.1

-- the running values, the record and V of a month before are as they were
pub values-stay : (s : State) (asks : List Ask) → Accepted s asks → (i : ℕ) → i < s.run.months
    → (get_or (after_all s asks).columns.x1 i (pos 0) ≡ get_or s.columns.x1 i (pos 0))
    × (get_or (after_all s asks).columns.x2 i (pos 0) ≡ get_or s.columns.x2 i (pos 0))
    × (get_or (after_all s asks).columns.x3 i (pos 0) ≡ get_or s.columns.x3 i (pos 0))
    × (get_or (after_all s asks).columns.records i [] ≡ get_or s.columns.records i [])
    × (get_or (after_all s asks).columns.v i (pos 0) ≡ get_or s.columns.v i (pos 0))
values-stay s [] h i l = (refl, refl, refl, refl, refl)
values-stay s (a ∷ later) h i l =
    let t = took s.run s.columns a h.0 in
    let m = months-next s.run a s.columns t in
    let v = values-stay (after s a) later h.1 i (omega arith) in
    let ne : i ≡ s.run.months → ⊥ = λ e. omega arith in
    let row = station_row (station_of s.run) a in (
      v.0 ∙ ap (λ (c : List ℤ). get_or c i (pos 0)) (x1-next s.run a s.columns t) ∙ get_or-set_other s.columns.x1 s.run.months i row.x.x1 (pos 0) ne,
      v.1 ∙ ap (λ (c : List ℤ). get_or c i (pos 0)) (x2-next s.run a s.columns t) ∙ get_or-set_other s.columns.x2 s.run.months i row.x.x2 (pos 0) ne,
      v.2 ∙ ap (λ (c : List ℤ). get_or c i (pos 0)) (x3-next s.run a s.columns t) ∙ get_or-set_other s.columns.x3 s.run.months i row.x.x3 (pos 0) ne,
      v.3 ∙ ap (λ (c : List (List ℤ)). get_or c i []) (records-next s.run a s.columns t) ∙ get_or-set_other s.columns.records s.run.months i _ [] ne,
      v.4 ∙ ap (λ (c : List ℤ). get_or c i (pos 0)) (v_next s.run a s.columns t) ∙ get_or-set_other s.columns.v s.run.months i _ (pos 0) ne,
    )

-- months added, and then more
pub after-append : (s : State) (asks more : List Ask) → after_all s (asks ++ more) ≡ after_all (after_all s asks) more
after-append s [] more = refl
after-append s (a ∷ asks) more = after-append (after s a) asks more

pub accepted-append : (s : State) (asks more : List Ask) → Accepted s asks → Accepted (after_all s asks) more → Accepted s (asks ++ more)
accepted-append s [] more h k = k
accepted-append s (a ∷ asks) more h k = (h.0, accepted-append (after s a) asks more h.1 k)
