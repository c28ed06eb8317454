-- Longer columns, as specs/Longer.antt states it: single calls. What an add answers and writes hangs on the columns only by the months that they hold
-- (`held_same`) and by whether there is room (`number-too`, over the cases of `AddGives`). Seasons and months one by one are in GoesOn.antt beside
-- this file. Assumes nothing.
use mathlib.Core.Path.{◌≡◌, refl, sym, ap, ap₂, ◌∙◌, subst}
use mathlib.Core.Bool.{true, ◌&&◌}
use mathlib.Core.Logic.{⊎_elim}
use mathlib.Core.List.{List, [], ◌∷◌, ◌++◌, append_assoc}
use Prim.Native.Nat.{ℕ, zero, suc, ◌+◌, ◌≤◌, ◌<◌}
use native.Mathlib.Omega.{arith}
use borrow.Author.Tests.{le-leb, eq-eqb}
use lib.IntN.{ℤ, pos}
use lib.ListN.{length, get_or, take, drop, length-append, length-drop}
use lib.Seq.{length-take-le, take-append-le, drop-append-le, set-append_left, take-suc-set, take_at, get_or-take}
use Rattle.outline.specs.Numbers.{most_months, length_fits}
use Rattle.outline.specs.Refusals.{full}
use Rattle.outline.proofs.Refusals.{is-done, is-refused}
use Rattle.water.specs.declared.Soil.{Soil}
use Rattle.spells.specs.Spells.{step_of}
use Rattle.spells.specs.declared.SpellMonth.{SpellMonth}
use Rattle.hindsight.specs.Adding.{History, add_month}
use Rattle.hindsight.specs.Columns.{x_at}
use Rattle.history.proofs.Adding.{xs-same}
use Rattle.runs.specs.Runs.{is_run}
use Rattle.runs.specs.declared.Run.{Run}
use Rattle.records.specs.Record.{numbers_of}
use Rattle.records.specs.Ends.{ends_meet}
use Rattle.records.specs.declared.Record.{Record}
use Rattle.refusals.specs.Book.{Book, book, columns_of, long, lengths_fit, columns_fit}
use Rattle.refusals.specs.Good.{Good}
use Rattle.refusals.specs.Refusals.{is_run_for, is_run_of, run_refusal, row_refusal}
use Rattle.refusals.proofs.Refused.{columns_are, row-passes}
use Rattle.run_laws.proofs.Keeps.{wrote-index, wrote-mark}
use Rattle.adding.specs.Taken.{Result, result_of, held_in, held_by, written, recorded, taken, taken_water, answered}
use Rattle.door.specs.Readings.{month}
use Rattle.drought.specs.Calls.{add_outcomes, add_water, add_inches, add_z, shown, not_shown, row_of_run}
use Rattle.demands.specs.Months.{Ask, water, inches, anomaly, asked, station_of, z_for, soil_for, water_for, record_for, station_row}
use Rattle.demands.specs.Given.{AddGives, add_0, add_1, add_7, add_8, add_9, add_10, add_12}
use Rattle.demands.specs.Demands.{number_of}
use Rattle.demands.specs.Longer.{first_places, longer, Lent, SameMonths}
use Rattle.demands.proofs.Took.{Took, took, good-kept, months-next}
use Rattle.demands.proofs.Sequence.{long_after}
use Rattle.demands.proofs.Shown.{refused-add}
use Rattle.demands.proofs.Given.{zero_or, not-both-ways, add-gives, add-given}

-- ---- a beginning of columns that may be lent
pub usable : (n : ℕ) (cs : Book) → columns_fit cs ≡ true → 1 ≤ n → n ≤ long cs → columns_fit (first_places n cs) ≡ true
unfolding lengths_fit length_fits
usable n cs f l m =
    let c = columns_are cs f in
    rw (length-take-le n cs.x1 m, length-take-le n cs.x2 (omega (arith, c.x2_is)), length-take-le n cs.x3 (omega (arith, c.x3_is)), length-take-le n cs.index (omega (arith, c.index_is)), length-take-le n cs.mark (omega (arith, c.mark_is)), length-take-le n cs.records (omega (arith, c.records_is)), length-take-le n cs.v (omega (arith, c.v_is)), le-leb 1 n l, le-leb n most_months (omega (arith, c.most)), eq-eqb n n refl)

-- ---- the months that columns hold
pub first-longer : (n : ℕ) (cs more : Book) → columns_fit cs ≡ true → n ≤ long cs → first_places n (longer cs more) ≡ first_places n cs
first-longer n cs more f l =
    let c = columns_are cs f in
    rw (take-append-le n cs.x1 more.x1 l, take-append-le n cs.x2 more.x2 (omega (arith, c.x2_is)), take-append-le n cs.x3 more.x3 (omega (arith, c.x3_is)), take-append-le n cs.index more.index (omega (arith, c.index_is)), take-append-le n cs.mark more.mark (omega (arith, c.mark_is)), take-append-le n cs.records more.records (omega (arith, c.records_is)), take-append-le n cs.v more.v (omega (arith, c.v_is)))

-- at a place among the first n
pub same_at : {A : Type 0} (n i : ℕ) (d : A) (k l : List A) → take n l ≡ take n k → i < n → get_or l i d ≡ get_or k i d
same_at n i d k l e h = sym (get_or-take n l i d h) ∙ ap (λ (u : List _). get_or u i d) e ∙ get_or-take n k i d h

module _ (n : ℕ) (cs ds : Book) (e : first_places n ds ≡ first_places n cs) where
  x1-same : take n ds.x1 ≡ take n cs.x1
  x1-same = ap (λ (c : Book). c.x1) e

  x2-same : take n ds.x2 ≡ take n cs.x2
  x2-same = ap (λ (c : Book). c.x2) e

  x3-same : take n ds.x3 ≡ take n cs.x3
  x3-same = ap (λ (c : Book). c.x3) e

  index_same : take n ds.index ≡ take n cs.index
  index_same = ap (λ (c : Book). c.index) e

  mark-same : take n ds.mark ≡ take n cs.mark
  mark-same = ap (λ (c : Book). c.mark) e

  records-same : take n ds.records ≡ take n cs.records
  records-same = ap (λ (c : Book). c.records) e

  v-same : take n ds.v ≡ take n cs.v
  v-same = ap (λ (c : Book). c.v) e

  month-same : (i : ℕ) → i < n → x_at ds.x1 ds.x2 ds.x3 i ≡ x_at cs.x1 cs.x2 cs.x3 i
  month-same i h =
      rw (same_at n i (pos 0) cs.x1 ds.x1 x1-same h, same_at n i (pos 0) cs.x2 ds.x2 x2-same h, same_at n i (pos 0) cs.x3 ds.x3 x3-same h)

  held_same : (opens : ℕ) → held_in n opens (columns_of ds) ≡ held_in n opens (columns_of cs)
  held_same opens =
      rw (index_same, mark-same, xs-same (x_at ds.x1 ds.x2 ds.x3) (x_at cs.x1 cs.x2 cs.x3) 0 n (λ j h. month-same j (omega arith)))

  shown-same : (i : ℕ) → i < n → shown i ds ≡ shown i cs
  shown-same i h =
      rw (same_at n i (pos 0) cs.x1 ds.x1 x1-same h, same_at n i (pos 0) cs.x2 ds.x2 x2-same h, same_at n i (pos 0) cs.x3 ds.x3 x3-same h, same_at n i (pos 0) cs.index ds.index index_same h, same_at n i 0 cs.mark ds.mark mark-same h, same_at n i [] cs.records ds.records records-same h, same_at n i (pos 0) cs.v ds.v v-same h)

-- the last record is the same, and so is whether it ends with a soil's storages
ends_same : (n : ℕ) (s : Soil) (k l : List (List ℤ)) → take n l ≡ take n k → ends_meet n s l ≡ ends_meet n s k
unfolding ends_meet
ends_same zero s k l e = refl
ends_same (suc n) s k l e = rw (same_at (suc n) n [] k l e (omega arith))

-- a run for columns is one for others that hold its months, where it is one for their length
run-alike : (r : Run) (cs ds : Book) → is_run (long ds) r ≡ is_run (long cs) r → first_places r.months ds ≡ first_places r.months cs → is_run_of ds r ≡ is_run_of cs r
unfolding is_run_for
run-alike r cs ds i e = ap₂ ◌&&◌ i (ends_same r.months r.soil cs.records ds.records (records-same r.months cs ds e))

-- ---- an add, by its number and by the month that it would take
abbrev month-of : Run → Ask → Book → Result
month-of r a cs = taken r (soil_for (station_of r) a) (water_for (station_of r) a) (z_for (station_of r) a) (record_for (station_of r) a) cs

asked_is : (r : Run) (a : Ask) (cs : Book) → asked r a cs ≡ answered (number_of r a cs) r cs (month-of r a cs)
unfolding add_water add_inches add_outcomes add_z taken_water month
asked_is r (water p pe) cs = refl
asked_is r (inches q) cs = refl
asked_is r (anomaly z) cs = refl

pub number-of : (r : Run) (a : Ask) (cs : Book) → (asked r a cs).answer.number ≡ number_of r a cs
number-of r a cs = (refused-add r a cs).0

-- the answer hangs on the number and on the months that are held
answer-same : (r : Run) (a : Ask) (cs ds : Book) (k : ℕ) → held_by r ds ≡ held_by r cs → (answered k r ds (month-of r a ds)).answer ≡ (answered k r cs (month-of r a cs)).answer
unfolding taken
answer-same r a cs ds zero h = rw h
answer-same r a cs ds (suc k) h = refl

-- the cases of an add's number, from columns to others
module _ (r : Run) (a : Ask) (cs ds : Book) (f : columns_fit cs ≡ true) (g : columns_fit ds ≡ true) (is : is_run_of ds r ≡ is_run_of cs r) where
  good-too : Good r cs → Good r ds
  good-too o = record { fit = g; run = is ∙ o.run }

  gives-too : (n : ℕ) → (r.months < long cs → r.months < long ds) → (n ≡ full → r.months ≡ long cs → r.months ≡ long ds) → AddGives r a cs n → AddGives r a ds n
  gives-too n l e (add_0 o p q) = add_0 (good-too o) p (l q)
  gives-too n l e (add_1 h) = absurd (not-both-ways f h)
  gives-too n l e (add_7 h k) = add_7 g (is ∙ k)
  gives-too n l e (add_8 o p) = add_8 (good-too o) p
  gives-too n l e (add_9 o p) = add_9 (good-too o) p
  gives-too n l e (add_10 o p q) = add_10 (good-too o) p (e refl q)
  gives-too n l e (add_12 o p) = add_12 (good-too o) p

  number-too : (r.months < long cs → r.months < long ds) → ((asked r a cs).answer.number ≡ full → r.months ≡ long cs → r.months ≡ long ds) → number_of r a ds ≡ number_of r a cs
  number-too l e = sym (number-of r a ds) ∙ add-given r a ds _ (gives-too _ l e (add-gives r a cs)) ∙ number-of r a cs

-- ---- longer columns
pub long-longer : (cs more : Book) → long (longer cs more) ≡ long cs + long more
long-longer cs more = length-append cs.x1 more.x1

-- a run for columns that hold its months is one for longer ones
pub run-longer : (r : Run) (cs more : Book) → columns_fit cs ≡ true → r.months ≤ long cs → is_run_of (longer cs more) r ≡ is_run_of cs r
unfolding is_run
run-longer r cs more f l =
    run-alike r cs (longer cs more) (rw (le-leb r.months (long cs) l, le-leb r.months (long (longer cs more)) (omega (arith, long-longer cs more))))
    (first-longer r.months cs more f l)

-- what a month leaves in the lists
abbrev left : Book → ℕ → SpellMonth → History → Record → Book
left cs at s held kept = recorded cs at (written (columns_of cs) at s held) kept s.after.v

left-longer : (cs more : Book) → columns_fit cs ≡ true → (at : ℕ) → at < long cs → (s : SpellMonth) (held : History) (kept : Record)
    → left (longer cs more) at s held kept ≡ longer (left cs at s held kept) more
left-longer cs more f at l s held kept =
    let c = columns_are cs f in
    rw (set-append_left cs.x1 more.x1 at s.after.x1 l, set-append_left cs.x2 more.x2 at s.after.x2 (omega (arith, c.x2_is)), set-append_left cs.x3 more.x3 at s.after.x3 (omega (arith, c.x3_is)), drop-append-le (suc at) cs.index more.index (omega (arith, c.index_is)), drop-append-le (suc at) cs.mark more.mark (omega (arith, c.mark_is)), append_assoc held.index (drop (suc at) cs.index) more.index, append_assoc held.mark (drop (suc at) cs.mark) more.mark, set-append_left cs.records more.records at (numbers_of kept) (omega (arith, c.records_is)), set-append_left cs.v more.v at s.after.v (omega (arith, c.v_is)))

taken-longer : (r : Run) (a : Ask) (cs more : Book) → columns_fit cs ≡ true → r.months < long cs → held_by r (longer cs more) ≡ held_by r cs
    → month-of r a (longer cs more) ≡ result_of (month-of r a cs).answer (longer (month-of r a cs).columns more)
unfolding taken
taken-longer r a cs more f l h =
    let s = step_of r.values (z_for (station_of r) a) in
    rw h (ap (λ (ds : Book). result_of (month-of r a cs).answer ds) (left-longer cs more f r.months l s (add_month (held_by r cs) (station_row (station_of r) a)) (record_for (station_of r) a)))

module _ (r : Run) (a : Ask) (cs more : Book) (f : Lent cs more) where
  pub adds : r.months ≤ long cs → ((asked r a cs).answer.number ≡ full → ⊥) → asked r a (longer cs more) ≡ result_of (asked r a cs).answer (longer (asked r a cs).columns more)
  adds l n =
      let k = number-too r a cs (longer cs more) f.shorter f.longer (run-longer r cs more f.shorter l) (λ h. omega (arith, long-longer cs more)) (λ e. absurd (n e)) in
      let h = held_same r.months cs (longer cs more) (first-longer r.months cs more f.shorter l) r.opens in
      ⊎_elim
      (λ z. let t = took r cs a (number-of r a cs ∙ z) in
      let u = took r (longer cs more) a (number-of r a (longer cs more) ∙ k ∙ z) in
      u.did ∙ taken-longer r a cs more f.shorter t.room h ∙ ap (λ (b : Result). result_of b.answer (longer b.columns more)) (sym t.did))
      (λ q. asked_is r a (longer cs more)
      ∙ ap (λ (m : ℕ). answered m r (longer cs more) (month-of r a (longer cs more))) k
      ∙ is-refused (number_of r a cs) _ _ q
      ∙ ap (λ (b : Result). result_of b.answer (longer b.columns more)) (sym (asked_is r a cs ∙ is-refused (number_of r a cs) _ _ q)))
      (zero_or (number_of r a cs))

  goes : AddGives r a cs full → 1 ≤ long more → AddGives r a (longer cs more) 0
  goes (add_10 o p e) l =
      add_0 (good-too r a cs (longer cs more) f.shorter f.longer (run-longer r cs more f.shorter (omega arith)) o) p (omega (arith, long-longer cs more))

  pub adds_on : (asked r a cs).answer.number ≡ full → 1 ≤ long more → (asked r a (longer cs more)).answer.number ≡ 0
  adds_on e l = add-given r a (longer cs more) 0 (goes (subst (AddGives r a cs) e (add-gives r a cs)) l)

-- ---- copied months
-- months with one more behind them, whose index and mark the history has that it makes
abbrev with-month : SpellMonth → Record → Book → History → Book
with-month s kept first held =
    book (first.x1 ++ (s.after.x1 ∷ [])) (first.x2 ++ (s.after.x2 ∷ [])) (first.x3 ++ (s.after.x3 ∷ [])) held.index held.mark (first.records ++ (numbers_of kept ∷ []))
    (first.v ++ (s.after.v ∷ []))

module _ (n : ℕ) (cs : Book) (f : columns_fit cs ≡ true) (l : n < long cs) (s : SpellMonth) (held : History) (kept : Record) where
  -- a list of n + 1 numbers, where the rest of another comes after it
  front : {A : Type 0} (new old : List A) → length old ≡ long cs → length (new ++ drop (suc n) old) ≡ long cs → take (suc n) (new ++ drop (suc n) old) ≡ new
  front new old e g = take_at new (drop (suc n) old) (suc n) (omega (arith, length-append new (drop (suc n) old), length-drop (suc n) old))

  first-written :
      length (held.index ++ drop (suc n) cs.index) ≡ long cs → length (held.mark ++ drop (suc n) cs.mark) ≡ long cs
      → first_places (suc n) (left cs n s held kept) ≡ with-month s kept (first_places n cs) held
  first-written i m =
      let c = columns_are cs f in
      rw (take-suc-set cs.x1 n s.after.x1 l, take-suc-set cs.x2 n s.after.x2 (omega (arith, c.x2_is)), take-suc-set cs.x3 n s.after.x3 (omega (arith, c.x3_is)), front held.index cs.index c.index_is i, front held.mark cs.mark c.mark_is m, take-suc-set cs.records n (numbers_of kept) (omega (arith, c.records_is)), take-suc-set cs.v n s.after.v (omega (arith, c.v_is)))

-- a run for the one is one for the other
pub run-copied : (r : Run) (cs ds : Book) → SameMonths r cs ds → is_run_of ds r ≡ is_run_of cs r
run-copied r cs ds m = run-alike r cs ds (ap (λ (n : ℕ). is_run n r) m.one_length) m.months

module _ (r : Run) (a : Ask) (cs ds : Book) (m : SameMonths r cs ds) where
  same_number : number_of r a ds ≡ number_of r a cs
  same_number =
      number-too r a cs ds m.lent.0 m.lent.1 (run-copied r cs ds m) (λ h. omega (arith, m.one_length)) (λ _ e. e ∙ sym m.one_length)

  held : held_by r ds ≡ held_by r cs
  held = held_same r.months cs ds m.months r.opens

  same_answer : (asked r a ds).answer ≡ (asked r a cs).answer
  same_answer =
      ap (λ (b : Result). b.answer) (asked_is r a ds)
      ∙ ap (λ (k : ℕ). (answered k r ds (month-of r a ds)).answer) same_number
      ∙ answer-same r a cs ds (number_of r a cs) held
      ∙ ap (λ (b : Result). b.answer) (sym (asked_is r a cs))

  -- the month that is added is the same in both
  months-taken : Took r a cs → Took r a ds → first_places (suc r.months) (asked r a ds).columns ≡ first_places (suc r.months) (asked r a cs).columns
  unfolding taken
  months-taken t u =
      let s = step_of r.values (z_for (station_of r) a) in
      let row = station_row (station_of r) a in
      let kept = record_for (station_of r) a in
      let n = r.months in
      let b = first-written n cs t.good.fit t.room s (add_month (held_by r cs) row) kept (wrote-index r cs t.good t.room row) (wrote-mark r cs t.good t.room row) in
      let d = first-written n ds u.good.fit u.room s (add_month (held_by r ds) row) kept (wrote-index r ds u.good u.room row) (wrote-mark r ds u.good u.room row) in
      ap (λ (x : Result). first_places (suc n) x.columns) u.did
      ∙ d
      ∙ ap₂ (λ (c : Book) (h : History). with-month s kept c (add_month h row)) m.months held
      ∙ sym b
      ∙ ap (λ (x : Result). first_places (suc n) x.columns) (sym t.did)

  same_after : SameMonths (asked r a cs).answer.run (asked r a cs).columns (asked r a ds).columns
  same_after =
      ⊎_elim
      (λ z. let t = took r cs a (number-of r a cs ∙ z) in
      let u = took r ds a (number-of r a ds ∙ same_number ∙ z) in
      record {
        lent = ((good-kept r a cs t).fit, (good-kept r a ds u).fit);
        one_length = long_after r ds a u ∙ m.one_length ∙ sym (long_after r cs a t);
        months = rw (months-next r a cs t) (months-taken t u);
      })
      (λ q. let b = (refused-add r a cs).1 q in
      let d = (refused-add r a ds).1 (λ z. q (sym same_number ∙ z)) in
      rw (b.0, b.1, d.1) m)
      (zero_or (number_of r a cs))

  pub copied-adds : ((asked r a ds).answer ≡ (asked r a cs).answer) × SameMonths (asked r a cs).answer.run (asked r a cs).columns (asked r a ds).columns
  copied-adds = (same_answer, same_after)

-- ---- a row, of columns that hold the same months
rows_alike : (r : Run) (i : ℕ) (cs ds : Book) → columns_fit cs ≡ true → columns_fit ds ≡ true → is_run_of ds r ≡ is_run_of cs r → first_places r.months ds ≡ first_places r.months cs → row_of_run r i ds ≡ row_of_run r i cs
unfolding row_of_run row_refusal run_refusal
rows_alike r i cs ds f g is e =
    let k : row_refusal r i ds ≡ row_refusal r i cs = rw (f, g, is) in
    ⊎_elim
    (λ z. is-done (row_refusal r i ds) (shown i ds) _ (k ∙ z) ∙ shown-same r.months cs ds e i (row-passes r cs i z).1 ∙ sym (is-done (row_refusal r i cs) (shown i cs) _ z))
    (λ q. is-refused (row_refusal r i ds) (shown i ds) _ (λ z. q (sym k ∙ z)) ∙ ap not_shown k ∙ sym (is-refused (row_refusal r i cs) (shown i cs) _ q))
    (zero_or (row_refusal r i cs))

pub rows : (r : Run) (i : ℕ) (cs more : Book) → Lent cs more → r.months ≤ long cs → row_of_run r i (longer cs more) ≡ row_of_run r i cs
rows r i cs more f l =
    rows_alike r i cs (longer cs more) f.shorter f.longer (run-longer r cs more f.shorter l) (first-longer r.months cs more f.shorter l)

pub copied_rows : (r : Run) (i : ℕ) (cs ds : Book) → SameMonths r cs ds → row_of_run r i ds ≡ row_of_run r i cs
copied_rows r i cs ds m = rows_alike r i cs ds m.lent.0 m.lent.1 (run-copied r cs ds m) m.months
