-- What a run's own calls record is in its ranges, row by row, so that no repair of such columns is refused 7: an index is one of its month's X1, X2 and X3, and the rest
-- is in range when the month is added. Assumes nothing.
use mathlib.Core.Path.{◌≡◌, refl, sym, ap, ◌∙◌, subst}
use mathlib.Core.Bool.{Bool, true, false, cond, not, ◌&&◌}
use mathlib.Core.List.{List, [], ◌∷◌, ◌++◌}
use Prim.Native.Nat.{ℕ, zero, suc, ◌+◌, ◌≤◌, ◌<◌}
use native.Mathlib.Omega.{arith}
use borrow.Author.Tests.{le-leb}
use lib.Dec.{leb}
use lib.IntN.{ℤ, pos, neg_ℤ, nat_abs}
use lib.Signed.{le_z, lt_z}
use lib.ListN.{length, get_or, take, drop, length-append}
use lib.Seq.{split_at, length-take-le}
use Rattle.outline.specs.Numbers.{most_x, most_z, founds_from, in_force_beyond}
use Rattle.exact.specs.Next.{next_of}
use Rattle.outline.proofs.Tests.{first, second, both, within-z}
use Rattle.door.specs.Readings.{most_reading, reading, month}
use Rattle.door.specs.Outcome.{measured}
use Rattle.door.proofs.Bounds.{reading-most, inches-most}
use Rattle.water.proofs.Theorems.{month-layers-kept}
use Rattle.ending.specs.Ending.{Ending, steady, ended, abating, turn, ending_of}
use Rattle.spells.specs.Spells.{raised, lowered, is_zero, larger_in_size, provisional, steady_month, abating_month, founded, unfounded, tried, no_spell, ending_month, in_force, step_of}
use Rattle.spells.specs.declared.Running.{Running}
use Rattle.spells.specs.declared.With.{With}
use Rattle.spells.specs.declared.With.TheVariants.{X1, X2, X3}
use Rattle.spells.specs.declared.SpellMonth.{SpellMonth}
use Rattle.hindsight.specs.declared.Side.{Side}
use Rattle.hindsight.specs.declared.Side.TheVariants.{First, Second}
use Rattle.hindsight.specs.Rule.{X, Row, value_on, side_from, settled_index, Deciding, nobody, after as decided-after, one_earlier, deciding_for, deciding, shown_by, forward}
use Rattle.hindsight.specs.Columns.{rows_of}
use Rattle.hindsight.specs.Coded.{state_of as stateAfter}
use Rattle.hindsight_laws.proofs.Steps.{rows_long}
use Rattle.modified.specs.Modified.{modified_of}
use Rattle.modified.proofs.Abating.{modified-within}
use Rattle.ranges.specs.Ranges.{constants_fit, calendar_fits}
use Rattle.calendar.specs.Calendar.{constants_at, some_zero_k}
use Rattle.runs.specs.Runs.{soil_fits, sizes_fit, signs_fit, v_fits, is_run}
use Rattle.runs.specs.declared.Run.{Run}
use Rattle.runs.proofs.RunLaws.{values_fit}
use Rattle.records.specs.Record.{water_record}
use Rattle.records.proofs.Fitting.{recordable}
use Rattle.refusals.specs.Book.{Book, long, values_at}
use Rattle.refusals.specs.Good.{Good}
use Rattle.refusals.proofs.Refused.{run-parts, columns_are}
use Rattle.adding.proofs.Readiness.{run_is}
use Rattle.kept_rows.specs.KeptRows.{index_fits, mark_fits, amount_fits, water_fits, storages_fit, record_fits, row_fits, rows_fit}
use Rattle.kept_rows.proofs.Ranges.{rows-fit-all}
use Rattle.demands.specs.Months.{Ask, water, inches, anomaly, State, after, after_all, Accepted, station_of, z_for, watered, Station, station_next, station_row, record_for, no_row}
use Rattle.demands.specs.Demands.{Fresh, now, rows_so_far}
use Rattle.demands.specs.Demands.{first as from}
use Rattle.demands.proofs.Took.{Took, took, good-kept, months-next, station-next}
use Rattle.demands.proofs.Sequence.{months-all, station-all, after-append, accepted-append, values-stay}
use Rattle.demands.proofs.Shown.{settled-is-hindsight}
use Rattle.repair.proofs.ReadingKinds.{kind-most, inches-kind}
use Rattle.demands.proofs.Backed.{own_row}
use Rattle.demands.proofs.Reopened.{record-there, capacity-then}
use Rattle.demands.proofs.Corrected.{accepted-parts}
use Rattle.std.specs.Prelude.{Option, None, Some}

-- ---- an index is one of its month's X1, X2 and X3
module _ (P : ℤ → Type 0) where
  -- what holds of the month's three holds of its index
  record Shows (m : SpellMonth) : Type 0 where
    shows : P m.after.x1 → P m.after.x2 → P m.after.x3 → P m.index

  one_of : (t : Bool) (a b : ℤ) → P a → P b → P (cond t a b)
  one_of true a b p q = p
  one_of false a b p q = q

  larger-shown : (x1 x2 : ℤ) → P x1 → P x2 → P (larger_in_size x1 x2)
  unfolding larger_in_size
  larger-shown x1 x2 p q = one_of (leb (nat_abs x1) (nat_abs x2)) x2 x1 q p

  found-shows : (x : ℤ) (d : Option With) (percent : ℕ) → Shows (founded x d percent)
  unfolding founded
  found-shows x d percent = record { shows = λ a b c. c }

  left-shows : (x1 x2 : ℤ) (d : Option With) (i : ℤ) (percent : ℕ) → (P x1 → P x2 → P i) → Shows (unfounded x1 x2 d i percent)
  unfolding unfounded
  left-shows x1 x2 d i percent f = record { shows = λ a b c. f a b }

  tried-shows : (x1 x2 : ℤ) (percent : ℕ) → Shows (tried x1 x2 percent)
  unfolding tried
  tried-shows x1 x2 percent = go (le_z (pos founds_from) x1) (le_z x2 (neg_ℤ (pos founds_from))) (is_zero x1) (is_zero x2)
    where
      go : (a b c d : Bool) → Shows (cond a (founded x1 (Some X1) percent) (cond b (founded x2 (Some X2) percent) (cond c (unfounded x1 x2 (Some X2) x2 percent) (cond d (unfounded x1 x2 (Some X1) x1 percent) (unfounded x1 x2 None (larger_in_size x1 x2) percent)))))
      go true b c d = found-shows x1 (Some X1) percent
      go false true c d = found-shows x2 (Some X2) percent
      go false false true d = left-shows x1 x2 (Some X2) x2 percent (λ a b. b)
      go false false false true = left-shows x1 x2 (Some X1) x1 percent (λ a b. a)
      go false false false false = left-shows x1 x2 None (larger_in_size x1 x2) percent (larger-shown x1 x2)

  ending-shows : (e : Ending) (wet : Bool) (s : Running) (z : ℤ) → Shows (ending_month e wet s z)
  unfolding ending_month steady_month abating_month provisional no_spell
  ending-shows steady wet s z = record { shows = λ a b c. c }
  ending-shows ended wet s z = tried-shows (raised (next_of s.x1 z)) (lowered (next_of s.x2 z)) 100
  ending-shows abating wet s z =
      let m = (ending_month abating wet s z).after in
      record { shows = λ a b c. one_of (is_zero m.x3) (larger_in_size m.x1 m.x2) m.x3 (larger-shown m.x1 m.x2 a b) c }

  step-shows : (s : Running) (z : ℤ) → Shows (step_of s z)
  unfolding step_of in_force no_spell
  step-shows s z = go (lt_z s.x3 (neg_ℤ (pos in_force_beyond))) (lt_z (pos in_force_beyond) s.x3)
    where
      go : (a b : Bool) → Shows (cond a (in_force false s z) (cond b (in_force true s z) (no_spell s z 0)))
      go true b = ending-shows (ending_of (turn false s.x3) (turn false s.v) (turn false z)) false s z
      go false true = ending-shows (ending_of (turn true s.x3) (turn true s.v) (turn true z)) true s z
      go false false = tried-shows (raised (next_of s.x1 z)) (lowered (next_of s.x2 z)) 0

  -- and so of what the forward rule makes of it
  on-side : (s : Side) (m : X) → P m.x1 → P m.x2 → P (value_on s m)
  on-side First m p q = p
  on-side Second m p q = q

  settled-one : (w : With) (m : X) (later : List X) → P m.x1 → P m.x2 → P m.x3 → P (settled_index w m later)
  settled-one X1 m later a b c = on-side (side_from (m ∷ later) First) m a b
  settled-one X2 m later a b c = on-side (side_from (m ∷ later) Second) m a b
  settled-one X3 m later a b c = c

  module _ (r : Row) (a : P r.x.x1) (b : P r.x.x2) (c : P r.x.x3) (s : P r.shown) where
    earlier-one : (d : Deciding) → P (shown_by r.shown (one_earlier r.x d)).index
    earlier-one nobody = s
    earlier-one (decided-after before w i) = settled-one w r.x before a b c

    decided-one : (d : Option With) (e : Deciding) → P (shown_by r.shown (deciding_for d r e)).index
    decided-one None e = earlier-one e
    decided-one (Some w) e = s

  forward-one : (rows : List Row) (i : ℕ) → i < length rows → let r = get_or rows i no_row in P r.x.x1 → P r.x.x2 → P r.x.x3 → P r.shown → P (forward rows i).index
  forward-one [] i h a b c s = absurd (omega arith)
  forward-one (r ∷ later) zero h a b c s = decided-one r a b c s r.decision (deciding later)
  forward-one (r ∷ later) (suc i) h a b c s = forward-one later i (omega arith) a b c s

-- a mark of the forward rule is 1 or 2
mark-earlier : (p : ℤ) (m : X) (d : Deciding) → mark_fits (shown_by p (one_earlier m d)).mark ≡ true
unfolding mark_fits
mark-earlier p m nobody = refl
mark-earlier p m (decided-after before w i) = refl

mark-decided : (r : Row) (d : Option With) (e : Deciding) → mark_fits (shown_by r.shown (deciding_for d r e)).mark ≡ true
unfolding mark_fits
mark-decided r None e = mark-earlier r.shown r.x e
mark-decided r (Some w) e = refl

forward-mark : (rows : List Row) (i : ℕ) → i < length rows → mark_fits (forward rows i).mark ≡ true
forward-mark [] i h = absurd (omega arith)
forward-mark (r ∷ later) zero h = mark-decided r r.decision (deciding later)
forward-mark (r ∷ later) (suc i) h = forward-mark later i (omega arith)

-- ---- a run's values pass the tests of a row
values-tests : (n : ℕ) (r : Run) → is_run n r ≡ true → (sizes_fit r.values ≡ true) × (signs_fit r.values ≡ true) × (v_fits r.months r.values ≡ true)
unfolding is_run
values-tests n r h =
    let x = leb r.months n && leb r.opens r.months && constants_fit r.constants && not (some_zero_k r.constants) && soil_fits r.soil && calendar_fits r.calendar in
    let a = first (x && sizes_fit r.values && signs_fit r.values) (v_fits r.months r.values) h in
    let b = first (x && sizes_fit r.values) (signs_fit r.values) a in (
      second x (sizes_fit r.values) b,
      second (x && sizes_fit r.values) (signs_fit r.values) a,
      second (x && sizes_fit r.values && signs_fit r.values) (v_fits r.months r.values) h,
    )

-- ---- a month's record
pub amount : (most n : ℕ) → n ≤ most → amount_fits most (pos n) ≡ true
unfolding amount_fits
amount most n h = both (le-leb 0 n (omega arith)) (le-leb n most h)

index_in : (x : ℤ) → nat_abs x ≤ most_x → index_fits x ≡ true
unfolding index_fits
index_in x h = le-leb (nat_abs x) most_x h

module _ (r : Run) (cs : Book) (a : Ask) (t : Took r a cs) where
  abbrev c : ℕ
  c = r.soil.capacity

  modified-in : nat_abs (record_for (station_of r) a).modified ≤ most_x
  modified-in = go a t.z
    where
      fits : (z : ℤ) → nat_abs z ≤ most_z → nat_abs (modified_of r.values z) ≤ most_x
      fits z h = modified-within r.values z (values_fit (long cs) r (columns_are cs t.good.fit).most (run_is r cs t.good)) h

      go : (b : Ask) → nat_abs (z_for (station_of r) b) ≤ most_z → nat_abs (record_for (station_of r) b).modified ≤ most_x
      go (water p pe) h = fits _ h
      go (inches q) h = fits _ h
      go (anomaly z) h = fits z h

  -- of water, by whichever call
  water-in : (p pe : ℕ) → p ≤ most_reading → pe ≤ most_reading → (kind : ℕ) → kind ≤ measured → nat_abs (watered (station_of r) p pe).z ≤ most_z
      → nat_abs (modified_of r.values (watered (station_of r) p pe).z) ≤ most_x
      → record_fits c (water_record r.soil p pe (watered (station_of r) p pe) (modified_of r.values (watered (station_of r) p pe).z) kind) ≡ true
  unfolding record_fits water_fits storages_fit
  water-in p pe hp hpe kind hk hz hm =
      let f = run_is r cs t.good in
      let k = constants_at r.constants r.calendar in
      let q = recordable r.soil p pe k f.soil hp hpe f.month_constants in
      let s = month-layers-kept r.soil p pe k f.soil in
      let m = watered (station_of r) p pe in
      let six = both (both (both (both (both (amount most_reading p hp) (amount most_reading pe hpe)) (amount most_reading m.et q.et)) (amount most_reading m.r (omega (arith, q.r)))) (amount most_reading (m.ls + m.lu) (omega (arith, q.ls, q.lu)))) (amount most_reading m.ro q.ro) in
      let four = both (both (both (amount _ _ f.soil.surface) (amount _ _ f.soil.underlying)) (amount _ _ s.surface)) (amount _ _ s.underlying) in
      both (both (both (both (both (within-z _ hz) six) four) (amount 1 1 (omega arith))) (index_in _ hm)) (amount measured kind hk)

  pub record-in : record_fits c (record_for (station_of r) a) ≡ true
  unfolding record_fits water_fits storages_fit month
  record-in = go a t.z modified-in
    where
      go : (b : Ask) → nat_abs (z_for (station_of r) b) ≤ most_z → nat_abs (record_for (station_of r) b).modified ≤ most_x → record_fits c (record_for (station_of r) b) ≡ true
      go (water p pe) hz hm = water-in (reading p).water (reading pe).water (reading-most p) (reading-most pe) (reading p).kind (kind-most p) hz hm
      go (inches q) hz hm = water-in (month q).p.water (month q).pe.water (inches-most q.p) (inches-most q.pe) (month q).p.kind (inches-kind q.p) hz hm
      go (anomaly z) hz hm =
          let f = run_is r cs t.good in
          let none = amount most_reading 0 (omega arith) in
          let four = both (both (both (amount _ _ f.soil.surface) (amount _ _ f.soil.underlying)) (amount _ _ f.soil.surface)) (amount _ _ f.soil.underlying) in
          both (both (both (both (both (within-z z hz) (both (both (both (both (both none none) none) none) none) none)) four) (amount 1 0 (omega arith))) (index_in _ hm)) (amount measured 0 (omega arith))

-- ---- a row, wherever it stands among the months
rows_at : (d : Station) (asks : List Ask) (a : Ask) (later : List Ask) (e : Row) → get_or (rows_of station_next station_row d (asks ++ (a ∷ later))) (length asks) e ≡ station_row (stateAfter station_next d asks) a
rows_at d [] a later e = refl
rows_at d (b ∷ asks) a later e = rows_at (station_next d b) asks a later e

module _ (f : Fresh) (before : List Ask) (h : Accepted (from f) before) (a : Ask) (later : List Ask) (k : Accepted (now f before) (a ∷ later)) where
  abbrev s : State
  s = now f before

  abbrev t : State
  t = after_all s (a ∷ later)

  abbrev n : ℕ
  n = s.run.months

  abbrev next : State
  next = after s a

  it : Took s.run a s.columns
  it = took s.run s.columns a k.0

  good-next : Good next.run next.columns
  good-next = good-kept s.run a s.columns it

  values-next : next.run.values ≡ (step_of s.run.values (z_for (station_of s.run) a)).after
  values-next = ap (λ (d : Station). d.values) (station-next s.run a s.columns it)

  row_now : values_at t.columns n ≡ next.run.values
  row_now =
      let m = months-next s.run a s.columns it in
      let v = values-stay next later k.1 n (omega arith) in
      let e : values_at t.columns n ≡ values_at next.columns n = rw (v.0, v.1, v.2, v.4) in
      e ∙ own_row s.run a s.columns it ∙ sym values-next

  -- the rows of all months, and the month's own among them
  abbrev asks : List Ask
  asks = before ++ (a ∷ later)

  all-accepted : Accepted (from f) asks
  all-accepted = accepted-append (from f) before (a ∷ later) h k

  place : n ≡ length before
  place = omega (arith, months-all (from f) before h)

  here : n < length asks
  here = omega (arith, place, length-append before (a ∷ later))

  row_is : get_or (rows_so_far f asks) n no_row ≡ station_row (station_of s.run) a
  row_is =
      ap (λ (i : ℕ). get_or (rows_so_far f asks) i no_row) place
      ∙ rows_at (station_of (from f).run) before a later no_row
      ∙ ap (λ (d : Station). station_row d a) (sym (station-all (from f) before h))

  abbrev Small : ℤ → Type 0
  Small x = nat_abs x ≤ most_x

  index-small : nat_abs (get_or t.columns.index n (pos 0)) ≤ most_x
  index-small =
      let g = run_is next.run next.columns good-next in
      let x1 : Small (station_row (station_of s.run) a).x.x1 = subst (λ (v : Running). Small v.x1) values-next g.x1_size in
      let x2 : Small (station_row (station_of s.run) a).x.x2 = subst (λ (v : Running). Small v.x2) values-next g.x2_size in
      let x3 : Small (station_row (station_of s.run) a).x.x3 = subst (λ (v : Running). Small v.x3) values-next g.x3_size in
      let i = (step-shows Small s.run.values (z_for (station_of s.run) a)).shows x1 x2 x3 in
      let l : n < length (rows_so_far f asks) = omega (arith, here, rows_long station_next station_row (station_of (from f).run) asks) in
      let w = subst (λ (r : Row). Small r.x.x1 → Small r.x.x2 → Small r.x.x3 → Small r.shown → Small (forward (rows_so_far f asks) n).index) row_is (forward-one Small (rows_so_far f asks) n l) in
      let e = (settled-is-hindsight f asks all-accepted n here).0 in
      subst (λ (u : State). Small (get_or u.columns.index n (pos 0))) (after-append (from f) before (a ∷ later)) (subst Small (sym e) (w x1 x2 x3 i))

  mark-there : mark_fits (get_or t.columns.mark n 0) ≡ true
  mark-there =
      let l : n < length (rows_so_far f asks) = omega (arith, here, rows_long station_next station_row (station_of (from f).run) asks) in
      let e = (settled-is-hindsight f asks all-accepted n here).1 in
      subst (λ (u : State). mark_fits (get_or u.columns.mark n 0) ≡ true) (after-append (from f) before (a ∷ later)) (ap mark_fits e ∙ forward-mark (rows_so_far f asks) n l)

  pub row_in : row_fits t.run.soil.capacity t.columns n ≡ true
  unfolding row_fits
  row_in =
      let v = values-tests (long next.columns) next.run (run-parts next.run next.columns good-next.run).0 in
      let m = months-next s.run a s.columns it in
      let w : v_fits (suc n) next.run.values ≡ true = subst (λ (i : ℕ). v_fits i next.run.values ≡ true) m v.2 in
      rw (row_now, record-there f before h a later k, capacity-then f before h a later k)
      (both (both (both (both (both v.0 v.1) w) (index_in (get_or t.columns.index n (pos 0)) index-small)) mark-there) (record-in s.run s.columns a it))

-- ---- all rows
pub rows_in : (f : Fresh) (asks : List Ask) → Accepted (from f) asks → let t = now f asks in rows_fit t.run.soil.capacity t.columns t.run.months ≡ true
rows_in f asks h =
    let t = now f asks in
    rows-fit-all t.run.soil.capacity t.columns t.run.months (λ i l. at i (omega (arith, months-all (from f) asks h)))
  where
    at : (i : ℕ) → i < length asks → row_fits (now f asks).run.soil.capacity (now f asks).columns i ≡ true
    at i l =
        let d = anomaly (pos 0) in
        let e = split_at asks i d l in
        let b = take i asks in
        let r = get_or asks i d in
        let u = drop (suc i) asks in
        let q = accepted-parts (from f) b (r ∷ u) (subst (Accepted (from f)) e h) in
        let n : (now f b).run.months ≡ i = months-all (from f) b q.0 ∙ omega (arith, length-take-le i asks (omega arith)) in
        let o = row_in f b q.0 r u q.1 in
        let s : now f asks ≡ after_all (now f b) (r ∷ u) = ap (now f) e ∙ after-append (from f) b (r ∷ u) in
        rw s (subst (λ (j : ℕ). row_fits (after_all (now f b) (r ∷ u)).run.soil.capacity (after_all (now f b) (r ∷ u)).columns j ≡ true) n o)
