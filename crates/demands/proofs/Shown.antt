-- The theorems of the three demands, one by one. They are stated together, in the demands' order and words, in specs/Demands.antt, and proofs/
-- Demands.antt puts these together to that statement. Assumes nothing.
use mathlib.Core.Path.{◌≡◌, refl, sym, ap, ◌∙◌, subst}
use mathlib.Core.Logic.{◌↔◌}
use mathlib.Core.List.{List, ◌++◌}
use Prim.Native.Nat.{ℕ, zero, suc, ◌+◌, ◌-◌, ◌<◌}
use native.Mathlib.Omega.{arith}
use lib.IntN.{ℤ, pos}
use lib.ListN.{length, get_or, take, replicate, length-append}
use lib.Seq.{get_or-take}
use Rattle.starts.specs.declared.Started.{Started}
use Rattle.outline.specs.Refusals.{unless_refused}
use Rattle.door.specs.Outcome.{kinds_of}
use Rattle.door.specs.Readings.{reading, month}
use Rattle.door.specs.declared.MonthKinds.{MonthKinds}
use Rattle.door.specs.declared.Reading.{Reading}
use Rattle.door.specs.declared.MonthInches.{MonthInches}
use Rattle.water.specs.Layers.{SoilFits}
use Rattle.water.proofs.Theorems.{month-water-kept}
use Rattle.spells.specs.Spells.{step_of}
use Rattle.hindsight.specs.Rule.{X, Row, forward}
use Rattle.hindsight_laws.specs.Counts.{NoneFrom, count}
use Rattle.hindsight.specs.Adding.{add_all, add_to, add_month, settled_count, History, fresh as nothing-held}
use Rattle.hindsight.specs.Columns.{x_at, rows_of}
use Rattle.hindsight.specs.Coded.{state_of as stateAfter}
use Rattle.hindsight.proofs.Forward.{get_d_map}
use Rattle.hindsight_laws.proofs.Hindsight.{x_of, every-index, every-mark, open-exactly, settled-stays, last-are-open, opens-counts, answers-settled, add-append}
use Rattle.hindsight_laws.proofs.Adds.{past_all}
use Rattle.calendar.specs.Calendar.{constants_at}
use Rattle.starts.specs.Start.{start_refusal, start_of, fresh_run, zero_run, started}
use Rattle.runs.specs.declared.Run.{Run}
use Rattle.refusals.specs.Book.{Book}
use Rattle.refusals.specs.Refusals.{water_refusal, z_refusal}
use Rattle.adding.specs.Figures.{figures_of, water_figures}
use Rattle.drought.specs.Calls.{add_outcomes, add_water, add_inches, add_z}
use Rattle.adding.specs.Taken.{Result, held_by, soil_after, taken, taken_water, taken_z, answered}
use Rattle.adding.proofs.Readiness.{run_is}
use Rattle.demands.specs.Months.{Ask, water, inches, anomaly, asked, State, after, after_all, Accepted, station_of, watered, z_for, modified_for, soil_for, kinds_for, water_for, station_next, station_row, no_row}
use Rattle.demands.proofs.Took.{Took, took, settled_is, held_next}
use Rattle.demands.specs.Demands.{Fresh, first, number_of, Answers, values_at, Balances, rows_so_far}
use Rattle.hindsight_laws.proofs.Steps.{rows_long, rows_append}
use Rattle.demands.proofs.Rows.{get_d-xs}
use Rattle.demands.proofs.Sequence.{held_all, months-all, values-stay, after-append, accepted-append}

-- ---- 1. "Every reading, constant, month and list gets its answer or a numbered refusal. Nobody has to check beforehand. A refused call
-- hands back any run it was given and writes nothing."

unless-answers : (k : ℕ) (r : Run) (cs : Book) (done : Result) → done.answer.number ≡ 0 → Answers r cs k (answered k r cs done)
unless-answers zero r cs done h = (h, λ f. absurd (f refl))
unless-answers (suc k) r cs done h = (refl, λ f. (refl, refl, refl, refl))

-- an add answers with its number, and where that is a refusal it hands the run back and leaves every lent list as it was
pub refused-add : (r : Run) (a : Ask) (cs : Book) → Answers r cs (number_of r a cs) (asked r a cs)
unfolding add_water add_inches add_outcomes add_z taken_water taken
refused-add r (water p pe) cs = unless-answers (water_refusal r (reading p).number (reading pe).number cs) r cs (taken_water r (reading p).water (reading pe).water (kinds_of (reading p) (reading pe)) cs) refl
refused-add r (inches q) cs = unless-answers (water_refusal r (month q).p.number (month q).pe.number cs) r cs (taken_water r (month q).p.water (month q).pe.water (kinds_of (month q).p (month q).pe) cs) refl
refused-add r (anomaly z) cs = unless-answers (z_refusal r z cs) r cs (taken_z r z cs) refl

-- a start answers with its number, and a refused one with a run of all zeros
pub refused-start : (cs : List ℤ) (c ss su m : ℤ)
    → ((start_of cs c ss su m).number ≡ start_refusal cs c ss su m)
    × ((start_refusal cs c ss su m ≡ 0 → ⊥) → (start_of cs c ss su m).run ≡ zero_run)
    × (start_refusal cs c ss su m ≡ 0 → (start_of cs c ss su m).run ≡ fresh_run cs c ss su m)
unfolding start_of
refused-start cs c ss su m = go (start_refusal cs c ss su m)
  where
    begun : ℕ → Started
    begun k = unless_refused k (started 0 (fresh_run cs c ss su m)) (started k zero_run)

    go : (k : ℕ) → ((begun k).number ≡ k) × ((k ≡ 0 → ⊥) → (begun k).run ≡ zero_run) × (k ≡ 0 → (begun k).run ≡ fresh_run cs c ss su m)
    go zero = (refl, λ f. absurd (f refl), λ e. refl)
    go (suc k) = (refl, λ f. refl, λ e. absurd (omega arith))

-- ---- 2. "Water balance, expected precipitation, anomaly Z, the three running indexes and the chance of an ending equal Palmer's 1965 rules
-- as our outline states and rounds them. In each month of water precipitation equals evapotranspiration plus runoff plus the gain in soil
-- storage, and neither layer ever passes its capacity."

-- the figures of an accepted month are those that the rules give
pub figures-are : (r : Run) (a : Ask) (cs : Book) → (asked r a cs).answer.number ≡ 0
    → (asked r a cs).answer.figures ≡ figures_of (water_for (station_of r) a) (z_for (station_of r) a) (step_of r.values (z_for (station_of r) a)) (modified_for (station_of r) a)
unfolding taken
figures-are r a cs h = ap (λ (b : Result). b.answer.figures) (took r cs a h).did

-- neither layer passes its capacity
pub layers-hold : (r : Run) (a : Ask) (cs : Book) → (asked r a cs).answer.number ≡ 0 → SoilFits (asked r a cs).answer.run.soil
unfolding taken
layers-hold r a cs h = let t = took r cs a h in subst (λ (b : Result). SoilFits b.answer.run.soil) (sym t.did) t.soil

-- whatever the amounts were read from
balanced : (r : Run) (a : Ask) (cs : Book) (p pe : ℕ) (kinds : MonthKinds) → (t : Took r a cs)
    → water_for (station_of r) a ≡ water_figures p pe kinds (watered (station_of r) p pe) → soil_for (station_of r) a ≡ soil_after r.soil (watered (station_of r) p pe) → Balances r (asked r a cs)
unfolding taken
balanced r a cs p pe kinds t w s =
    let f = (run_is r cs t.good).soil in
    subst (Balances r) (sym t.did) (rw (w, s) (month-water-kept r.soil p pe (constants_at r.constants r.calendar) f))

pub water-balances : (r : Run) (p pe : Reading) (cs : Book) → (asked r (water p pe) cs).answer.number ≡ 0 → Balances r (asked r (water p pe) cs)
water-balances r p pe cs h = balanced r (water p pe) cs (reading p).water (reading pe).water (kinds_for (water p pe)) (took r cs (water p pe) h) refl refl

pub inches-balance : (r : Run) (q : MonthInches) (cs : Book) → (asked r (inches q) cs).answer.number ≡ 0 → Balances r (asked r (inches q) cs)
inches-balance r q cs h = balanced r (inches q) cs (month q).p.water (month q).pe.water (kinds_for (inches q)) (took r cs (inches q) h) refl refl

-- ---- 3. "Take any accepted months added one by one to a fresh run whose columns nobody else writes."
module _ (f : Fresh) where
  abbrev fresh : State
  fresh = first f

  abbrev rows : List Ask → List Row
  rows asks = rows_so_far f asks

  -- after the months the columns hold their rows, added one by one
  held : (asks : List Ask) → Accepted fresh asks → held_by (after_all fresh asks).run (after_all fresh asks).columns ≡ add_all (rows asks)
  held asks h = held_all fresh asks h

  months : (asks : List Ask) → Accepted fresh asks → (after_all fresh asks).run.months ≡ length asks
  months asks h = months-all fresh asks h ∙ zero_more (length asks)
    where
      zero_more : (n : ℕ) → 0 + n ≡ n
      zero_more n = omega arith

  -- what the columns hold at a month's place
  index_at : (asks : List Ask) → Accepted fresh asks → (i : ℕ) → i < length asks → get_or (after_all fresh asks).columns.index i (pos 0) ≡ get_or (add_all (rows asks)).index i (pos 0)
  index_at asks h i l =
      let n = months asks h in
      sym (get_or-take (after_all fresh asks).run.months (after_all fresh asks).columns.index i (pos 0) (omega arith))
      ∙ ap (λ (u : History). get_or u.index i (pos 0)) (held asks h)

  mark-at : (asks : List Ask) → Accepted fresh asks → (i : ℕ) → i < length asks → get_or (after_all fresh asks).columns.mark i 0 ≡ get_or (add_all (rows asks)).mark i 0
  mark-at asks h i l =
      let n = months asks h in
      sym (get_or-take (after_all fresh asks).run.months (after_all fresh asks).columns.mark i 0 (omega arith))
      ∙ ap (λ (u : History). get_or u.mark i 0) (held asks h)

  -- X1, X2 and X3 at a month's place are those that the rules give
  pub values-at : (asks : List Ask) → Accepted fresh asks → (i : ℕ) → i < length asks → values_at (after_all fresh asks) i ≡ (get_or (rows asks) i no_row).x
  values-at asks h i l =
      let s = after_all fresh asks in
      let n = months asks h in
      ap (x_at s.columns.x1 s.columns.x2 s.columns.x3) (zero_more i)
      ∙ sym (get_d-xs (x_at s.columns.x1 s.columns.x2 s.columns.x3) 0 s.run.months i no_row.x (omega arith))
      ∙ ap (λ (u : History). get_or u.past i no_row.x) (held asks h)
      ∙ ap (λ (u : List X). get_or u i no_row.x) (past_all nothing-held (rows asks))
      ∙ get_d_map x_of (rows asks) i no_row
    where
      zero_more : (k : ℕ) → k ≡ 0 + k
      zero_more k = omega arith

  -- "After each, every settled index equals the choice made knowing all months so far, by a rule that looks forward from that month."
  -- So does every mark, and every open month's index
  pub settled-is-hindsight : (asks : List Ask) → Accepted fresh asks → (i : ℕ) → i < length asks
      → (get_or (after_all fresh asks).columns.index i (pos 0) ≡ (forward (rows asks) i).index)
      × (get_or (after_all fresh asks).columns.mark i 0 ≡ (forward (rows asks) i).mark)
  settled-is-hindsight asks h i l = (index_at asks h i l ∙ every-index (rows asks) i, mark-at asks h i l ∙ every-mark (rows asks) i)

  -- "A month is open exactly when no month from it onward has decided."
  pub open-exactly-when : (asks : List Ask) → Accepted fresh asks → (i : ℕ) → i < length asks
      → (get_or (after_all fresh asks).columns.mark i 0 ≡ 1) ↔ NoneFrom (rows asks) i
  open-exactly-when asks h i l =
      let e = open-exactly (rows asks) i (omega (arith, rows_long station_next station_row (station_of fresh.run) asks)) in
      let k = mark-at asks h i l in
      ((λ p. e.0 (sym k ∙ p)), (λ f. k ∙ e.1 f))

  -- "Later months never change a settled one."
  pub settled-stays-settled : (asks more : List Ask) → Accepted fresh asks → Accepted (after_all fresh asks) more → (i : ℕ) → i < length asks
      → get_or (after_all fresh asks).columns.mark i 0 ≡ 2
      → (get_or (after_all (after_all fresh asks) more).columns.mark i 0 ≡ 2)
      × (get_or (after_all (after_all fresh asks) more).columns.index i (pos 0) ≡ get_or (after_all fresh asks).columns.index i (pos 0))
  settled-stays-settled asks more h k i l e =
      let j : i < length (asks ++ more) = simp length-append (omega arith) in
      let all = accepted-append fresh asks more h k in
      let f = settled-stays (rows asks) (rows_of station_next station_row (stateAfter station_next (station_of fresh.run) asks) more) i (sym (mark-at asks h i l) ∙ e) in
      let r = rows_append station_next station_row (station_of fresh.run) asks more in
      let a : add_all (rows (asks ++ more)) ≡ add_to (add_all (rows asks)) (rows_of station_next station_row (stateAfter station_next (station_of fresh.run) asks) more) = rw r (add-append nothing-held (rows asks) _) in
      rw (← after-append fresh asks more) (
        mark-at (asks ++ more) all i j ∙ ap (λ (u : History). get_or u.mark i 0) a ∙ f.0,
        index_at (asks ++ more) all i j ∙ ap (λ (u : History). get_or u.index i (pos 0)) a ∙ f.1 ∙ sym (index_at asks h i l),
      )

  -- nor X1, X2, X3 of any earlier month, settled or open
  pub values-never-change : (asks more : List Ask) → Accepted fresh asks → Accepted (after_all fresh asks) more → (i : ℕ) → i < length asks
      → values_at (after_all (after_all fresh asks) more) i ≡ values_at (after_all fresh asks) i
  values-never-change asks more h k i l = let n = months asks h in let v = values-stay (after_all fresh asks) more k i (omega arith) in rw (v.0, v.1, v.2)

  -- the run's open months are the last ones, and as many as are marked open
  pub open-are-last : (asks : List Ask) → Accepted fresh asks
      → take (length asks) (after_all fresh asks).columns.mark ≡ replicate (length asks - (after_all fresh asks).run.opens) 2 ++ replicate (after_all fresh asks).run.opens 1
  open-are-last asks h =
      let n = months asks h in
      let u = held asks h in
      let o : (after_all fresh asks).run.opens ≡ (add_all (rows asks)).opens = ap (λ (v : History). v.opens) u in
      ap (λ (k : ℕ). take k (after_all fresh asks).columns.mark) (sym n)
      ∙ ap (λ (v : History). v.mark) u
      ∙ rw (o, ← rows_long station_next station_row (station_of fresh.run) asks) (last-are-open (rows asks))

  pub opens-are-counted : (asks : List Ask) → Accepted fresh asks → (after_all fresh asks).run.opens ≡ count 1 (take (length asks) (after_all fresh asks).columns.mark)
  opens-are-counted asks h =
      let u = held asks h in
      ap (λ (v : History). v.opens) u
      ∙ opens-counts (rows asks)
      ∙ sym (ap (λ (v : History). count 1 v.mark) u)
      ∙ ap (λ (k : ℕ). count 1 (take k (after_all fresh asks).columns.mark)) (months asks h)

  -- an add's settled count is the number of marks that it writes as 2
  pub settled-are-counted : (asks : List Ask) (a : Ask) → Accepted fresh asks → (asked (after_all fresh asks).run a (after_all fresh asks).columns).answer.number ≡ 0
      → count 2 (held_by (after (after_all fresh asks) a).run (after (after_all fresh asks) a).columns).mark
      ≡ count 2 (held_by (after_all fresh asks).run (after_all fresh asks).columns).mark + (asked (after_all fresh asks).run a (after_all fresh asks).columns).answer.settled
  settled-are-counted asks a h e =
      let s = after_all fresh asks in
      let t = took s.run s.columns a e in
      let row = station_row (station_of s.run) a in
      let u = held asks h in
      ap (λ (v : History). count 2 v.mark) (held_next s.run a s.columns t)
      ∙ ap (λ (v : History). count 2 (add_month v row).mark) u
      ∙ answers-settled (rows asks) row
      ∙ sym (ap (λ (v : History). count 2 v.mark + settled_count v row) u)
      ∙ ap (λ (k : ℕ). count 2 (held_by s.run s.columns).mark + k) (sym (settled_is s.run a s.columns t))
