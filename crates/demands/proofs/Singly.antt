-- The whole series gives exactly what adding its Z singly to a fresh run gives: the same rows, and the forward rule over them is what the
-- columns then hold. And where the whole series is not refused, no single add is. Assumes nothing.
use mathlib.Core.Path.{◌≡◌, refl, sym, ap, ap₂, ◌∙◌}
use mathlib.Core.Bool.{true}
use mathlib.Core.List.{List, [], ◌∷◌, map}
use Prim.Native.Nat.{ℕ, ◌+◌, ◌≤◌, ◌<◌}
use native.Mathlib.Omega.{arith}
use lib.IntN.{ℤ}
use lib.ListN.{length, take, length-map}
use borrow.Author.Tests.{lt-ltb}
use Rattle.outline.specs.Refusals.{unless_refused}
use Rattle.hindsight.specs.Rule.{Row, forward_indexes, forward_marks}
use Rattle.hindsight.specs.Adding.{add_all, History}
use Rattle.hindsight.specs.Columns.{rows_of}
use Rattle.hindsight.specs.Months.{next_values, row_of_z, rows_of_z}
use Rattle.hindsight_laws.proofs.Adds.{series-is-adding}
use Rattle.outline.specs.Numbers.{z_fits}
use Rattle.runs.specs.declared.Run.{Run}
use Rattle.outline.proofs.Tests.{first, second}
use Rattle.series.specs.Series.{all_z_fit, series_refusal, filled, whole_series}
use Rattle.refusals.specs.Book.{Book, long, columns_fit}
use Rattle.refusals.specs.Good.{Good}
use Rattle.refusals.specs.Refusals.{run_refusal, room_refusal, z_refusal}
use Rattle.adding.specs.Taken.{held_by}
use Rattle.demands.specs.Months.{anomaly, asked, State, after, after_all, Accepted, Station, station_of, station_next, station_row}
use Rattle.demands.specs.Demands.{Fresh, first as state-of}
use Rattle.demands.proofs.Took.{took, good-kept, months-next}
use Rattle.demands.proofs.Sequence.{held_all, months-all, long_after}
use Rattle.demands.proofs.Shown.{refused-add}
use Rattle.demands.proofs.Honest.{good-now}

-- the rows of added Z are those of the whole series
pub rows_same : (s : Station) (zs : List ℤ) → rows_of station_next station_row s (map anomaly zs) ≡ rows_of next_values row_of_z s.values zs
rows_same s [] = refl
rows_same s (z ∷ zs) = ap (λ (l : List Row). row_of_z s.values z ∷ l) (rows_same (station_next s (anomaly z)) zs)

-- a Z in its range is accepted by a good run with room
pub accepts-z : (r : Run) (cs : Book) (z : ℤ) → Good r cs → r.months < long cs → z_fits z ≡ true → (asked r (anomaly z) cs).answer.number ≡ 0
unfolding z_refusal run_refusal room_refusal
accepts-z r cs z g room f = (refused-add r (anomaly z) cs).0 ∙ rw (g.fit, g.run, f, lt-ltb _ _ room)

-- so are all of a list, while there is room
pub accepts-all : (s : State) (zs : List ℤ) → Good s.run s.columns → s.run.months + length zs ≤ long s.columns → all_z_fit zs ≡ true → Accepted s (map anomaly zs)
accepts-all s [] g room f = tt
accepts-all s (z ∷ zs) g room f =
    let h = accepts-z s.run s.columns z g (omega arith) (first (z_fits z) (all_z_fit zs) f) in
    let t = took s.run s.columns (anomaly z) h in
    let n = months-next s.run (anomaly z) s.columns t in
    let l = long_after s.run s.columns (anomaly z) t in
    (h, accepts-all (after s (anomaly z)) zs (good-kept s.run (anomaly z) s.columns t) (omega arith) (second (z_fits z) (all_z_fit zs) f))

module _ (f : Fresh) (zs : List ℤ) where
  abbrev begun : State
  begun = state-of f

  -- where every Z is in its range and the columns have room, no single add refuses
  pub singly-accepted : columns_fit f.columns ≡ true → length zs ≤ long f.columns → all_z_fit zs ≡ true → Accepted begun (map anomaly zs)
  singly-accepted fit room h = accepts-all begun zs (good-now f fit []) (omega arith) h

  -- the whole-series call gives exactly what adding singly gives
  pub series-as-singly : (index : List ℤ) (mark : List ℕ) → Accepted begun (map anomaly zs) → series_refusal zs (length index) (length mark) ≡ 0
      → whole_series zs index mark ≡ filled 0 (take (length zs) (after_all begun (map anomaly zs)).columns.index) (take (length zs) (after_all begun (map anomaly zs)).columns.mark)
  unfolding whole_series
  series-as-singly index mark h none =
      let s = after_all begun (map anomaly zs) in
      let n : s.run.months ≡ length zs = months-all begun (map anomaly zs) h ∙ zero_more (length (map anomaly zs)) ∙ length-map zs anomaly in
      let u : held_by s.run s.columns ≡ add_all (rows_of_z zs) = held_all begun (map anomaly zs) h ∙ ap add_all (rows_same (station_of begun.run) zs) in
      let a = series-is-adding (rows_of_z zs) in
      ap (λ (k : ℕ). unless_refused k (filled 0 (forward_indexes (rows_of_z zs)) (forward_marks (rows_of_z zs))) (filled k index mark)) none
      ∙ ap₂ (λ (i : List ℤ) (k : List ℕ). filled 0 i k) (a.0 ∙ sym (ap (λ (v : History). v.index) u)) (a.1 ∙ sym (ap (λ (v : History). v.mark) u))
      ∙ ap (λ (k : ℕ). filled 0 (take k s.columns.index) (take k s.columns.mark)) n
    where
      zero_more : (k : ℕ) → 0 + k ≡ k
      zero_more k = omega arith
