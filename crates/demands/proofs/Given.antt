-- Which number each call gives, exactly when, as specs/Given.antt has it. Each call's tests are taken apart once, in their order, and make the
-- case of the number that is then given; and each case gives its number. Assumes nothing.
use mathlib.Core.Path.{◌≡◌, refl, sym, ap, ◌∙◌, subst}
use mathlib.Core.Bool.{Bool, true, false, cond, ◌&&◌}
use mathlib.Core.Logic.{◌↔◌, ◌⊎◌, inl, inr, ⊎_elim}
use mathlib.Core.List.{List}
use Prim.Native.Nat.{ℕ, zero, suc, zero-le}
use native.Mathlib.Omega.{arith}
use borrow.Author.Tests.{lt-ltb, le-ltb, ltb-true, ltb-false, leb-true, leb-false, le-leb, lt-leb}
use lib.Dec.{leb, ltb, eqb, leb→le, le→leb}
use lib.IntN.{ℤ, pos, negsuc, nat_abs}
use lib.ListN.{length}
use Rattle.outline.specs.Numbers.{most_z, z_fits}
use Rattle.outline.specs.Refusals.{bad_lists, not_a_run, missing, not_acceptable, full, no_such_row, bad_z, or_else, unless_refused}
use Rattle.outline.proofs.Tests.{if-so}
use Rattle.outline.proofs.Refusals.{or-first, or-second, is-done, is-refused}
use Rattle.door.specs.Exact.{within, above_zero, nearest_to}
use Rattle.door.specs.Outcome.{Outcome, accepted, traced, refused}
use Rattle.door.specs.Readings.{fallen, most_reading, most_inches, most_millimetres, whole, converted, inches, millimetres, reading, month}
use Rattle.door.specs.declared.Reading.{Reading}
use Rattle.door.specs.declared.Reading.TheVariants.{Whole, Inches, Millimetres, Missing}
use Rattle.runs.specs.declared.Run.{Run}
use Rattle.series.specs.Series.{all_z_fit, lists_fit, series_refusal, whole_series}
use Rattle.series.proofs.SeriesLaws.{number-of}
use Rattle.refusals.specs.Book.{Book, long, columns_fit}
use Rattle.refusals.specs.Good.{Good}
use Rattle.refusals.specs.Refusals.{is_run_of, run_refusal, room_refusal, water_refusal, z_refusal, row_refusal}
use Rattle.refusals.proofs.Refused.{good-passes}
use Rattle.adding.proofs.Readiness.{run_is}
use Rattle.drought.specs.Calls.{shown, not_shown, row_of_run}
use Rattle.demands.specs.Months.{Ask, water, anomaly, asked, inches as both-inches}
use Rattle.demands.specs.Demands.{number_of}
use Rattle.demands.specs.Given.{Acceptable, ReadingGives, reading_0, reading_8, reading_9, MonthGives, by_precipitation, by_pe, ZGives, z_0, z_12, ItselfGives, AddGives, add_0, add_1, add_7, add_8, add_9, add_10, add_12, RowGives, row_0, row_1, row_7, row_11, SeriesGives, series_0, series_1, series_12}
use Rattle.demands.proofs.Shown.{refused-add}

pub zero_or : (k : ℕ) → (k ≡ 0) ⊎ (k ≡ 0 → ⊥)
zero_or zero = inl refl
zero_or (suc k) = inr (λ e. omega arith)

pub not-both-ways : {t : Bool} → t ≡ true → t ≡ false → ⊥
not-both-ways e f = let k : ◌≡◌ {A = ℕ} 0 1 = cc in omega arith

-- a number that is given, and that no case gives another: exactly when
pub exactly : (Gives : ℕ → Type 0) (k : ℕ) → Gives k → ((n : ℕ) → Gives n → k ≡ n) → (n : ℕ) → (k ≡ n) ↔ Gives n
exactly Gives k g one n = (λ e. subst Gives e g, one n)

-- ---- a reading
abbrev named : Reading → ℕ
named (Whole z) = 0
named (Inches x) = 0
named (Millimetres x) = 0
named Missing = 1

is-missing : (r : Reading) → (r ≡ Missing) ⊎ (named r ≡ 0)
is-missing (Whole z) = inr refl
is-missing (Inches x) = inr refl
is-missing (Millimetres x) = inr refl
is-missing Missing = inl refl

not-missing : (r : Reading) → named r ≡ 0 → r ≡ Missing → ⊥
not-missing r e h = let k = sym e ∙ ap named h in omega arith

-- the test of a reading that is not missing
abbrev fits : Reading → Bool
fits (Whole (pos n)) = leb n most_reading
fits (Whole (negsuc n)) = false
fits (Inches x) = within most_inches x
fits (Millimetres x) = within most_millimetres x
fits Missing = false

fits-acceptable : (r : Reading) → fits r ≡ true → Acceptable r
fits-acceptable (Whole (pos n)) e = (record { le = le→leb 0 n zero-le }, record { le = le→leb n most_reading (leb-true n most_reading e) })
fits-acceptable (Whole (negsuc n)) e = absurd (let k : ◌≡◌ {A = ℕ} 0 1 = cc in omega arith)
fits-acceptable (Inches x) e = e
fits-acceptable (Millimetres x) e = e
fits-acceptable Missing e = absurd (let k : ◌≡◌ {A = ℕ} 0 1 = cc in omega arith)

acceptable-fits : (r : Reading) → Acceptable r → fits r ≡ true
acceptable-fits (Whole (pos n)) h = le-leb n most_reading (leb→le n most_reading h.1.le)
acceptable-fits (Whole (negsuc n)) h = absurd h.0.le
acceptable-fits (Inches x) h = h
acceptable-fits (Millimetres x) h = h
acceptable-fits Missing h = absurd h

not-acceptable : (r : Reading) → fits r ≡ false → Acceptable r → ⊥
not-acceptable r e h = let f = acceptable-fits r h in not-both-ways f e

picked : (t : Bool) (o : Outcome) → o.number ≡ 0 → (cond t o (refused not_acceptable)).number ≡ cond t 0 not_acceptable
picked true o h = h
picked false o h = refl

-- a number in range is accepted, a trace too
fallen-done : (above : Bool) (n : ℕ) → (fallen above n).number ≡ 0
fallen-done above n = go (above && eqb n 0)
  where
    go : (t : Bool) → (cond t traced (accepted n)).number ≡ 0
    go true = refl
    go false = refl

number_by : (r : Reading) → named r ≡ 0 → (reading r).number ≡ cond (fits r) 0 not_acceptable
unfolding reading whole inches millimetres converted
number_by (Whole (pos n)) e = picked (leb n most_reading) (accepted n) refl
number_by (Whole (negsuc n)) e = refl
number_by (Inches x) e = picked (within most_inches x) _ (fallen-done (above_zero x) (nearest_to 1000 1 x))
number_by (Millimetres x) e = picked (within most_millimetres x) _ (fallen-done (above_zero x) (nearest_to 5000 127 x))
number_by Missing e = absurd (omega arith)

number-missing : (r : Reading) → r ≡ Missing → (reading r).number ≡ missing
unfolding reading
number-missing r e = rw e

reading-gives : (r : Reading) → ReadingGives r (reading r).number
reading-gives r =
    ⊎_elim
    (λ m. subst (ReadingGives r) (sym (number-missing r m)) (reading_8 m))
    (λ m. subst (ReadingGives r) (sym (number_by r m)) (if-so (fits r) (λ t. rw t (reading_0 (fits-acceptable r t))) (λ f. rw f (reading_9 (not-missing r m) (not-acceptable r f)))))
    (is-missing r)

reading-given : (r : Reading) (n : ℕ) → ReadingGives r n → (reading r).number ≡ n
reading-given r n (reading_0 h) = ⊎_elim (λ m. absurd (rw m at h)) (λ m. number_by r m ∙ rw (acceptable-fits r h)) (is-missing r)
reading-given r n (reading_8 m) = number-missing r m
reading-given r n (reading_9 h k) = ⊎_elim (λ m. absurd (h m)) (λ m. number_by r m ∙ if-so (fits r) (λ t. absurd (k (fits-acceptable r t))) (λ f. rw f)) (is-missing r)

pub readings_exactly : (r : Reading) (n : ℕ) → ((reading r).number ≡ n) ↔ ReadingGives r n
readings_exactly r = exactly (ReadingGives r) (reading r).number (reading-gives r) (reading-given r)

reading-which : (r : Reading) (n : ℕ) → ReadingGives r n → (n ≡ 0 → ⊥) → (n ≡ missing) ⊎ (n ≡ not_acceptable)
reading-which r n (reading_0 h) k = absurd (k refl)
reading-which r n (reading_8 m) k = inl refl
reading-which r n (reading_9 h g) k = inr refl

-- a refused reading gives its number and nothing else
picked_none : (t : Bool) (o : Outcome) → o.number ≡ 0 → ((cond t o (refused not_acceptable)).number ≡ 0 → ⊥) → cond t o (refused not_acceptable) ≡ refused (cond t o (refused not_acceptable)).number
picked_none true o z h = absurd (h z)
picked_none false o z h = refl

pub nothing-else : (r : Reading) → ((reading r).number ≡ 0 → ⊥) → reading r ≡ refused (reading r).number
unfolding reading whole inches millimetres converted
nothing-else (Whole (pos n)) h = picked_none (leb n most_reading) (accepted n) refl h
nothing-else (Whole (negsuc n)) h = refl
nothing-else (Inches x) h = picked_none (within most_inches x) _ (fallen-done (above_zero x) (nearest_to 1000 1 x)) h
nothing-else (Millimetres x) h = picked_none (within most_millimetres x) _ (fallen-done (above_zero x) (nearest_to 5000 127 x)) h
nothing-else Missing h = refl

-- ---- a month by itself
pub month-gives : (p pe : Reading) → MonthGives p pe (or_else (reading p).number (reading pe).number)
month-gives p pe =
    let k = (reading p).number in
    let j = (reading pe).number in
    ⊎_elim
    (λ z. subst (MonthGives p pe) (sym (or-second k j z)) (by_pe (subst (ReadingGives p) z (reading-gives p)) (reading-gives pe)))
    (λ h. subst (MonthGives p pe) (sym (or-first k j h)) (by_precipitation h (reading-gives p)))
    (zero_or k)

pub month-given : (p pe : Reading) (n : ℕ) → MonthGives p pe n → or_else (reading p).number (reading pe).number ≡ n
month-given p pe n (by_precipitation h g) = let e = reading-given p n g in or-first (reading p).number (reading pe).number (λ z. h (sym e ∙ z)) ∙ e
month-given p pe n (by_pe g k) = or-second (reading p).number (reading pe).number (reading-given p 0 g) ∙ reading-given pe n k

pub month-which : (p pe : Reading) (n : ℕ) → MonthGives p pe n → (n ≡ 0 → ⊥) → (n ≡ missing) ⊎ (n ≡ not_acceptable)
month-which p pe n (by_precipitation h g) k = reading-which p n g k
month-which p pe n (by_pe h g) k = reading-which pe n g k

-- what it is refused with
abbrev itself : Ask → ℕ
itself (water p pe) = or_else (reading p).number (reading pe).number
itself (both-inches q) = or_else (month q).p.number (month q).pe.number
itself (anomaly z) = cond (z_fits z) 0 bad_z

itself-gives : (a : Ask) → ItselfGives a (itself a)
unfolding month reading z_fits
itself-gives (water p pe) = month-gives p pe
itself-gives (both-inches q) = month-gives (Inches q.p) (Inches q.pe)
itself-gives (anomaly z) = if-so (leb (nat_abs z) most_z) (λ t. rw t (z_0 (leb-true (nat_abs z) most_z t))) (λ f. rw f (z_12 (leb-false (nat_abs z) most_z f)))

z-given : (z : ℤ) (n : ℕ) → ZGives z n → cond (z_fits z) 0 bad_z ≡ n
unfolding z_fits
z-given z n (z_0 h) = rw (le-leb (nat_abs z) most_z h)
z-given z n (z_12 h) = rw (lt-leb (nat_abs z) most_z h)

itself-given : (a : Ask) (n : ℕ) → ItselfGives a n → itself a ≡ n
unfolding month reading
itself-given (water p pe) n g = month-given p pe n g
itself-given (both-inches q) n g = month-given (Inches q.p) (Inches q.pe) n g
itself-given (anomaly z) n g = z-given z n g

z-which : (z : ℤ) (n : ℕ) → ZGives z n → (n ≡ 0 → ⊥) → n ≡ bad_z
z-which z n (z_0 h) k = absurd (k refl)
z-which z n (z_12 h) k = refl

-- ---- an add
or-more : (a b c : ℕ) → or_else a (or_else b c) ≡ or_else (or_else a b) c
or-more zero b c = refl
or-more (suc a) b c = refl

pub run-1 : (r : Run) (cs : Book) → columns_fit cs ≡ false → run_refusal r cs ≡ bad_lists
unfolding run_refusal
run-1 r cs f = rw f

pub run-7 : (r : Run) (cs : Book) → columns_fit cs ≡ true → is_run_of cs r ≡ false → run_refusal r cs ≡ not_a_run
unfolding run_refusal
run-7 r cs f h = rw (f, h)

room_by : (n months : ℕ) → room_refusal n months ≡ cond (ltb months n) 0 full
unfolding room_refusal
room_by n months = refl

-- the columns and the run: 1, 7, or what comes after them
pub by-run : {A : Type 0} (r : Run) (cs : Book) → (columns_fit cs ≡ false → A) → (columns_fit cs ≡ true → is_run_of cs r ≡ false → A) → (Good r cs → A) → A
by-run r cs one seven good = if-so (columns_fit cs) (λ f. if-so (is_run_of cs r) (λ h. good (record { fit = f; run = h })) (seven f)) one

module _ (r : Run) (a : Ask) (cs : Book) where
  abbrev pub given : ℕ
  given = (asked r a cs).answer.number

  number_is : given ≡ or_else (run_refusal r cs) (or_else (itself a) (room_refusal (long cs) r.months))
  unfolding water_refusal z_refusal
  number_is = (refused-add r a cs).0 ∙ go a
    where
      go : (a : Ask) → number_of r a cs ≡ or_else (run_refusal r cs) (or_else (itself a) (room_refusal (long cs) r.months))
      go (water p pe) = ap (or_else (run_refusal r cs)) (or-more (reading p).number (reading pe).number (room_refusal (long cs) r.months))
      go (both-inches q) = ap (or_else (run_refusal r cs)) (or-more (month q).p.number (month q).pe.number (room_refusal (long cs) r.months))
      go (anomaly z) = refl

  number-1 : columns_fit cs ≡ false → given ≡ bad_lists
  number-1 f = number_is ∙ rw (run-1 r cs f)

  number-7 : columns_fit cs ≡ true → is_run_of cs r ≡ false → given ≡ not_a_run
  number-7 f h = number_is ∙ rw (run-7 r cs f h)

  -- what the month is refused with by itself, and what is left where it is not
  number-itself : Good r cs → (itself a ≡ 0 → ⊥) → given ≡ itself a
  number-itself g h = number_is ∙ rw (good-passes r cs g) (or-first (itself a) _ h)

  number-room : Good r cs → itself a ≡ 0 → given ≡ cond (ltb r.months (long cs)) 0 full
  number-room g z = number_is ∙ rw (good-passes r cs g, z) (room_by (long cs) r.months)

  itself-refused : (n : ℕ) → Good r cs → ItselfGives a n → (n ≡ 0 → ⊥) → given ≡ n
  itself-refused n g o h = let e = itself-given a n o in number-itself g (λ z. h (sym e ∙ z)) ∙ e

  -- each case gives its number
  pub add-given : (n : ℕ) → AddGives r a cs n → given ≡ n
  add-given n (add_0 g o l) = number-room g (itself-given a 0 o) ∙ rw (lt-ltb r.months (long cs) l)
  add-given n (add_1 f) = number-1 f
  add-given n (add_7 f h) = number-7 f h
  add-given n (add_8 g o) = itself-refused missing g o (λ e. omega arith)
  add-given n (add_9 g o) = itself-refused not_acceptable g o (λ e. omega arith)
  add-given n (add_10 g o e) = number-room g (itself-given a 0 o) ∙ rw (le-ltb r.months (long cs) (omega arith))
  add-given n (add_12 g o) = itself-refused bad_z g o (λ e. omega arith)

  -- the number that is given has its case
  add-itself : (n : ℕ) → Good r cs → ItselfGives a n → (n ≡ missing) ⊎ ((n ≡ not_acceptable) ⊎ (n ≡ bad_z)) → AddGives r a cs n
  add-itself n g o k =
      ⊎_elim (λ e. subst (AddGives r a cs) (sym e) (add_8 g (subst (ItselfGives a) e o)))
      (⊎_elim (λ e. subst (AddGives r a cs) (sym e) (add_9 g (subst (ItselfGives a) e o))) (λ e. subst (AddGives r a cs) (sym e) (add_12 g (subst (ItselfGives a) e o)))) k

  add-room : Good r cs → itself a ≡ 0 → AddGives r a cs (cond (ltb r.months (long cs)) 0 full)
  add-room g z =
      let o = subst (ItselfGives a) z (itself-gives a) in
      let f = (run_is r cs g).months in
      if-so (ltb r.months (long cs))
      (λ t. rw t (add_0 g o (ltb-true r.months (long cs) t)))
      (λ t. rw t (add_10 g o (let l = ltb-false r.months (long cs) t in omega arith)))

which : (a : Ask) (n : ℕ) → ItselfGives a n → (n ≡ 0 → ⊥) → (n ≡ missing) ⊎ ((n ≡ not_acceptable) ⊎ (n ≡ bad_z))
which (water p pe) n g k = ⊎_elim inl (λ e. inr (inl e)) (month-which p pe n g k)
which (both-inches q) n g k = ⊎_elim inl (λ e. inr (inl e)) (month-which (Inches q.p) (Inches q.pe) n g k)
which (anomaly z) n g k = inr (inr (z-which z n g k))

pub add-gives : (r : Run) (a : Ask) (cs : Book) → AddGives r a cs (asked r a cs).answer.number
add-gives r a cs =
    by-run r cs
    (λ f. subst (AddGives r a cs) (sym (number-1 r a cs f)) (add_1 f))
    (λ f h. subst (AddGives r a cs) (sym (number-7 r a cs f h)) (add_7 f h))
    (λ g. ⊎_elim
    (λ z. subst (AddGives r a cs) (sym (number-room r a cs g z)) (add-room r a cs g z))
    (λ h. subst (AddGives r a cs) (sym (number-itself r a cs g h)) (add-itself r a cs (itself a) g (itself-gives a) (which a (itself a) (itself-gives a) h)))
    (zero_or (itself a)))

pub adds_exactly : (r : Run) (a : Ask) (cs : Book) (n : ℕ) → ((asked r a cs).answer.number ≡ n) ↔ AddGives r a cs n
adds_exactly r a cs = exactly (AddGives r a cs) (asked r a cs).answer.number (add-gives r a cs) (add-given r a cs)

-- ---- a row
module _ (r : Run) (i : ℕ) (cs : Book) where
  abbrev pub told : ℕ
  told = (row_of_run r i cs).number

  row_by : told ≡ row_refusal r i cs
  unfolding row_of_run
  row_by = go (row_refusal r i cs)
    where
      go : (k : ℕ) → (unless_refused k (shown i cs) (not_shown k)).number ≡ k
      go zero = refl
      go (suc k) = refl

  -- what the columns hold, or all zeros beside the number
  pub row_shows : (told ≡ 0 → row_of_run r i cs ≡ shown i cs) × ((told ≡ 0 → ⊥) → row_of_run r i cs ≡ not_shown told)
  unfolding row_of_run
  row_shows =
      let k = row_refusal r i cs in
      (λ e. is-done k (shown i cs) (not_shown k) (sym row_by ∙ e), λ h. rw row_by (is-refused k (shown i cs) (not_shown k) (λ e. h (row_by ∙ e))))

  row-is-1 : columns_fit cs ≡ false → told ≡ bad_lists
  unfolding row_refusal
  row-is-1 f = row_by ∙ rw (run-1 r cs f)

  row-is-7 : columns_fit cs ≡ true → is_run_of cs r ≡ false → told ≡ not_a_run
  unfolding row_refusal
  row-is-7 f h = row_by ∙ rw (run-7 r cs f h)

  row-is-good : Good r cs → told ≡ cond (ltb i r.months) 0 no_such_row
  unfolding row_refusal
  row-is-good g = row_by ∙ rw (good-passes r cs g)

  row-given : (n : ℕ) → RowGives r i cs n → told ≡ n
  row-given n (row_0 g l) = row-is-good g ∙ rw (lt-ltb i r.months l)
  row-given n (row_1 f) = row-is-1 f
  row-given n (row_7 f h) = row-is-7 f h
  row-given n (row_11 g l) = row-is-good g ∙ rw (le-ltb i r.months l)

  row_gives : RowGives r i cs told
  row_gives =
      by-run r cs
      (λ f. subst (RowGives r i cs) (sym (row-is-1 f)) (row_1 f))
      (λ f h. subst (RowGives r i cs) (sym (row-is-7 f h)) (row_7 f h))
      (λ g. subst (RowGives r i cs) (sym (row-is-good g))
      (if-so (ltb i r.months) (λ t. rw t (row_0 g (ltb-true i r.months t))) (λ t. rw t (row_11 g (ltb-false i r.months t)))))

  pub rows_exactly : (n : ℕ) → (told ≡ n) ↔ RowGives r i cs n
  rows_exactly = exactly (RowGives r i cs) told row_gives row-given

-- ---- the whole series
module _ (z index : List ℤ) (mark : List ℕ) where
  abbrev lists : Bool
  lists = lists_fit (length z) (length index) (length mark)

  series-by : (whole_series z index mark).number ≡ cond lists (cond (all_z_fit z) 0 bad_z) bad_lists
  unfolding series_refusal
  series-by = let w = whole_series z index mark in number-of z index mark w.number w.index w.mark refl

  series-given : (n : ℕ) → SeriesGives z index mark n → (whole_series z index mark).number ≡ n
  series-given n (series_0 f h) = series-by ∙ rw (f, h)
  series-given n (series_1 f) = series-by ∙ rw f
  series-given n (series_12 f h) = series-by ∙ rw (f, h)

  series-gives : SeriesGives z index mark (cond lists (cond (all_z_fit z) 0 bad_z) bad_lists)
  series-gives =
      if-so lists (λ f. if-so (all_z_fit z) (λ h. rw (f, h) (series_0 f h)) (λ h. rw (f, h) (series_12 f h))) (λ f. rw f (series_1 f))

  pub series_exactly : (n : ℕ) → ((whole_series z index mark).number ≡ n) ↔ SeriesGives z index mark n
  series_exactly = exactly (SeriesGives z index mark) (whole_series z index mark).number (subst (SeriesGives z index mark) (sym series-by) series-gives) series-given
