-- A season month by month: what is still to come takes what has been added to where all months take what was there at first, and the run and
-- the columns stay good. Assumes nothing.
use mathlib.Core.Path.{◌≡◌, refl, sym, ap, ap₂, ◌∙◌, subst}
use mathlib.Core.Bool.{true, false, true≢false, false≢true}
use mathlib.Core.List.{List}
use Prim.Native.Nat.{ℕ, zero, suc, ◌+◌, ◌≤◌, ◌<◌}
use native.Mathlib.Numerals.{add-one}
use native.Mathlib.Omega.{arith}
use lib.IntN.{ℤ, pos}
use lib.ListN.{length, drop, get_or, drop_of_length-le}
use lib.Seq.{drop-cons}
use Rattle.std.specs.Prelude.{Ok, Err, Result as Answer}
use Rattle.std.specs.Result.{is_err}
use Rattle.outline.specs.Numbers.{most_months}
use Rattle.outline.specs.Refused.{answer_number}
use Rattle.outline.specs.declared.Refusal.{Refusal}
use Rattle.outline.proofs.Refused.{number-ne-zero}
use Rattle.outline.specs.Refusals.{unless_refused}
use Rattle.outline.proofs.Refusals.{is-done, is-refused}
use Rattle.door.specs.Outcome.{kinds_of}
use Rattle.door.specs.Readings.{reading}
use Rattle.door.specs.declared.Reading.{Reading}
use Rattle.door.proofs.Bounds.{reading-most}
use Rattle.spells.specs.Spells.{step_of}
use Rattle.hindsight.specs.Months.{row_for}
use Rattle.runs.specs.declared.Run.{Run}
use Rattle.modified.specs.Modified.{modified_of}
use Rattle.records.specs.Record.{water_record}
use Rattle.refusals.specs.Book.{Book}
use Rattle.refusals.specs.Good.{Good}
use Rattle.refusals.specs.Refusals.{water_refusal}
use Rattle.refusals.proofs.Refused.{columns_are}
use Rattle.adding.specs.Figures.{water_figures}
use Rattle.adding.specs.Taken.{Result, result_of, taken, taken_water, soil_after, water_of, held_by, answered}
use Rattle.adding.specs.declared.Added.{Added}
use Rattle.adding.proofs.Taken.{counts-most}
use Rattle.adding.proofs.Readiness.{run_is}
use Rattle.drought.specs.Calls.{add_outcomes, add_water}
use Rattle.run_laws.proofs.Keeps.{good-taken}
use Rattle.run_laws.proofs.Accepts.{took-water}
use Rattle.season_month.specs.Listed.{listed}
use Rattle.season.specs.declared.Season.{Season}
use Rattle.season.specs.Season.{SeasonResult, season_result, joined, stopped, single, add_each}

-- ---- whether an answer refuses
pub err-number : {A : Type 0} (r : Answer A Refusal) → is_err r ≡ true → answer_number r ≡ 0 → ⊥
err-number (Ok a) h = absurd (false≢true h)
err-number (Err e) h = number-ne-zero e

pub ok-number : {A : Type 0} (r : Answer A Refusal) → is_err r ≡ false → answer_number r ≡ 0
ok-number (Ok a) h = refl
ok-number (Err e) h = absurd (true≢false h)

-- ---- what an accepted month leaves
module _ (r : Run) (p pe : Reading) (cs : Book) (h : (add_water r p pe cs).answer.number ≡ 0) where
  abbrev b : Result
  b = add_water r p pe cs

  pub good-next : Good b.answer.run b.columns
  unfolding add_water taken_water
  good-next =
      let t = took-water r cs (reading p) (reading pe) (reading-most p) (reading-most pe) h in
      let w = water_of r (reading p).water (reading pe).water in
      rw t.did (good-taken r cs t.good t.room (soil_after r.soil w) t.soil (water_figures (reading p).water (reading pe).water (kinds_of (reading p) (reading pe)) w) w.z t.z (water_record r.soil (reading p).water (reading pe).water w (modified_of r.values w.z) (reading p).kind) refl refl)

  -- one month more, and no more settled than were open before it, with it
  pub counts-next : (b.answer.run.months ≡ suc r.months) × (b.answer.settled + b.answer.run.opens ≤ suc r.opens)
  unfolding add_water taken_water taken
  counts-next =
      let t = took-water r cs (reading p) (reading pe) (reading-most p) (reading-most pe) h in
      rw t.did (refl, counts-most (held_by r cs) (row_for (step_of r.values (water_of r (reading p).water (reading pe).water).z)))

-- a refused month leaves the columns as they were
pub refused-leaves : (r : Run) (p pe : Reading) (cs : Book) → ((add_water r p pe cs).answer.number ≡ 0 → ⊥) → (add_water r p pe cs).columns ≡ cs
unfolding add_water add_outcomes taken_water taken
refused-leaves r p pe cs h = go (water_refusal r (reading p).number (reading pe).number cs) h
  where
    done : Result
    done = taken_water r (reading p).water (reading pe).water (kinds_of (reading p) (reading pe)) cs

    go : (k : ℕ) → ((answered k r cs done).answer.number ≡ 0 → ⊥) → (answered k r cs done).columns ≡ cs
    go zero h = absurd (h refl)
    go (suc k) h = refl

-- ---- a month more of the lists
module _ (ps pes : List ℤ) (same : length ps ≡ length pes) (t : SeasonResult) (i : ℕ) where
  abbrev month : Result
  month = single t (get_or ps i (pos 0)) (get_or pes i (pos 0))

  abbrev rest : SeasonResult → SeasonResult
  rest u = add_each u (drop (suc i) ps) (drop (suc i) pes)

  abbrev next : SeasonResult
  next = season_result (joined t.answer month.answer) month.columns

  abbrev stop : SeasonResult
  stop = season_result (stopped t.answer month.answer.number) t.columns

  begins : i < length ps → add_each t (drop i ps) (drop i pes) ≡ unless_refused month.answer.number (rest next) stop
  unfolding add_each
  begins h = ap₂ (add_each t) (drop-cons ps i (pos 0) h) (drop-cons pes i (pos 0) (omega arith))

  pub goes_on : i < length ps → month.answer.number ≡ 0 → add_each t (drop i ps) (drop i pes) ≡ rest next
  goes_on h z = begins h ∙ is-done month.answer.number (rest next) stop z

  pub stops : i < length ps → (month.answer.number ≡ 0 → ⊥) → add_each t (drop i ps) (drop i pes) ≡ stop
  stops h n = begins h ∙ is-refused month.answer.number (rest next) stop n

  pub ends : length ps ≤ i → add_each t (drop i ps) (drop i pes) ≡ t
  unfolding add_each
  ends h = ap₂ (add_each t) (drop_of_length-le ps h) (drop_of_length-le pes {i = i} (omega arith))

-- a run on columns that fit holds few months
pub most : (r : Run) (cs : Book) → Good r cs → r.months ≤ most_months
most r cs g =
    let l = columns_are cs g.fit in
    omega (arith, l.most, (run_is r cs g).months)

-- ---- a pass: what the single add left, in the code's terms
module _ (ps pes : List ℤ) (same : length ps ≡ length pes) (s : Season) (cs : Book) (i : ℕ) (h : i < length ps) (a : Added) (ds : Book)
    (e : result_of a ds ≡ single (season_result s cs) (get_or ps i (pos 0)) (get_or pes i (pos 0))) where
  abbrev alone : Result
  alone = single (season_result s cs) (get_or ps i (pos 0)) (get_or pes i (pos 0))

  numbers : alone.answer.number ≡ a.number
  numbers = sym (ap (λ (b : Result). b.answer.number) e)

  pub joins : {w : SeasonResult} (u : Season) → a.number ≡ 0 → u ≡ joined s a → add_each (season_result s cs) (drop i ps) (drop i pes) ≡ w → add_each (season_result u ds) (drop (i + 1) ps) (drop (i + 1) pes) ≡ w
  joins u z j o =
      rw (add-one, j) (ap (λ (b : Result). add_each (season_result (joined s b.answer) b.columns) (drop (suc i) ps) (drop (suc i) pes)) e ∙ sym (goes_on ps pes same (season_result s cs) i h (numbers ∙ z)) ∙ o)

  pub breaks : {w : SeasonResult} (u : Season) → (a.number ≡ 0 → ⊥) → u ≡ stopped s a.number → add_each (season_result s cs) (drop i ps) (drop i pes) ≡ w → season_result u ds ≡ w
  breaks u n j o =
      let m : alone.answer.number ≡ 0 → ⊥ = λ z. n (sym numbers ∙ z) in
      let kept : ds ≡ cs = ap (λ (b : Result). b.columns) e ∙ refused-leaves s.run (listed (get_or ps i (pos 0))) (listed (get_or pes i (pos 0))) cs m in
      rw (j, kept, ← numbers) (sym (stops ps pes same (season_result s cs) i h m) ∙ o)

  pub good-joined : a.number ≡ 0 → Good a.run ds
  good-joined z = subst (λ (b : Result). Good b.answer.run b.columns) (sym e) (good-next s.run (listed (get_or ps i (pos 0))) (listed (get_or pes i (pos 0))) cs (numbers ∙ z))

  pub counts-joined : a.number ≡ 0 → (a.run.months ≡ suc s.run.months) × (a.settled + a.run.opens ≤ suc s.run.opens)
  counts-joined z =
      subst (λ (b : Result). (b.answer.run.months ≡ suc s.run.months) × (b.answer.settled + b.answer.run.opens ≤ suc s.run.opens)) (sym e)
      (counts-next s.run (listed (get_or ps i (pos 0))) (listed (get_or pes i (pos 0))) cs (numbers ∙ z))
