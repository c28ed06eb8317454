-- Document 01's numbers by what the calls do at and beside them, so that none can be changed alike in the definitions and in the code; and document 02's
-- kinds of a reading (E7). Those of a
-- start stand with the crate `starts`. Worked.antt beside this file joins the rows to the table of worked months, and its one claim is that
-- every row agrees. Assumes nothing.
use Rattle.std.specs.Prelude.{ℕ, ◌+◌, ◌*◌, true, false, List, [], ◌∷◌, ◌++◌, ℤ, pos, negsuc, Float, replicate, set}
use Rattle.std.specs.Float.{nan, inf, fin}
use Rattle.outline.specs.Refusals.{not_a_number}
use Rattle.exact.specs.Worked.{Row, ◌gives◌, minus}
use Rattle.door.specs.Outcome.{Outcome}
use Rattle.door.specs.Readings.{reading}
use Rattle.door.specs.declared.Reading.{Reading}
use Rattle.door.specs.declared.Reading.TheVariants.{Whole, Inches, Millimetres, Missing}
use Rattle.water.specs.declared.Soil.{Soil}
use Rattle.spells.specs.Values.{fresh}
use Rattle.spells.specs.declared.Running.{Running}
use Rattle.starts.specs.Start.{ones}
use Rattle.runs.specs.declared.Run.{Run}
use Rattle.series.specs.Series.{series_refusal}
use Rattle.records.specs.Record.{record_at}
use Rattle.refusals.specs.Book.{Book, book}
use Rattle.adding.specs.Taken.{Result}
use Rattle.drought.specs.Calls.{add_water, add_z}

-- a record's numbers, another one each, but for the storages at its end
abbrev pub ending_in : ℤ → ℤ → List ℤ
ending_in surface underlying =
    pos 81 ∷ pos 82 ∷ pos 83 ∷ pos 84 ∷ pos 85 ∷ pos 86 ∷ pos 87 ∷ pos 88 ∷ pos 89 ∷ surface ∷ underlying ∷ pos 92 ∷ pos 93 ∷ pos 94 ∷ []

-- columns of so many places, which hold another number each, with records that end empty; and all of one length
abbrev lent_of : ℕ → ℕ → ℕ → ℕ → ℕ → ℕ → ℕ → Book
lent_of x1 x2 x3 index mark records v =
    book (replicate x1 (pos 71)) (replicate x2 (pos 72)) (replicate x3 (pos 73)) (replicate index (pos 74)) (replicate mark 75) (replicate records (ending_in (pos 0) (pos 0)))
    (replicate v (pos 76))

abbrev pub lent : ℕ → Book
lent n = lent_of n n n n n n n

-- columns of three places, with these records
abbrev lent_with : List ℤ → List ℤ → List ℤ → Book
lent_with a b c = book (lent 3).x1 (lent 3).x2 (lent 3).x3 (lent 3).index (lent 3).mark (a ∷ b ∷ c ∷ []) (lent 3).v

-- a reading's number, or its thousandths where it is 0
abbrev told : Outcome → ℤ
told o = pos (o.number * 1000000 + o.water)

-- a refusal, as `told` has it
abbrev no : ℕ → ℤ
no k = pos (k * 1000000)

abbrev inch : Float → ℤ
inch x = told (reading (Inches x))

abbrev mm : Float → ℤ
mm x = told (reading (Millimetres x))

-- "Readings at the door"
abbrev reading_table : List Row
reading_table =
    -- "whole thousandths (0 to 100,000)", "or missing"
    (told (reading (Whole (negsuc 0))) gives no 9)
    ∷ (told (reading (Whole (pos 0))) gives pos 0)
    ∷ (told (reading (Whole (pos 100000))) gives pos 100000)
    ∷ (told (reading (Whole (pos 100001))) gives no 9)
    ∷ (told (reading Missing) gives no 8)
    -- "inches as an IEEE 754 binary32 number (0 to 100)": 100, and the next such number, 100 + 2^-17
    ∷ (inch (fin false 25 (pos 2)) gives pos 100000)
    ∷ (inch (fin false 13107201 (negsuc 16)) gives no 9)
    -- "millimetres as binary32 (0 to 2,540)": 2,540, and the next, 2,540 + 2^-12
    ∷ (mm (fin false 635 (pos 2)) gives pos 100000)
    ∷ (mm (fin false 10403841 (negsuc 11)) gives no 9)
    -- "Negative zero is 0. NaN, infinities, negatives and anything above the range are refused."
    ∷ (inch (fin true 0 (pos 0)) gives pos 0)
    ∷ (inch (fin true 1 (negsuc 148)) gives no 9)
    ∷ (inch nan gives no 9)
    ∷ (inch (inf false) gives no 9)
    ∷ (inch (inf true) gives no 9)
    -- "0.0625 inch gives 63; 2^-11 inch gives 0; 7.9375 mm gives 313; 2,540 mm gives 100,000." 7.9375 is 127 / 16
    ∷ (inch (fin false 1 (negsuc 3)) gives pos 63)
    ∷ (inch (fin false 1 (negsuc 10)) gives pos 0)
    ∷ (mm (fin false 127 (negsuc 3)) gives pos 313)
    ∷ []

-- a run of so many months and so many open ones, in this calendar month, with this soil and these running values, and ones for constants
abbrev run : ℕ → ℕ → ℕ → Soil → Running → Run
run n opens calendar soil values = record { months = n; opens = opens; calendar = calendar; soil = soil; values = values; constants = ones }

abbrev pub soil : ℕ → ℕ → ℕ → Soil
soil c ss su = record { capacity = c; surface = ss; underlying = su }

-- the number of an add of Z 0 to a run, on columns of three places, whose records end with the run's storages
abbrev number : Run → ℤ
number r =
    let n = ending_in (pos r.soil.surface) (pos r.soil.underlying) in
    pos (add_z r (pos 0) (lent_with n n n)).answer.number

-- .. to one of so many months, so many of them open
abbrev months : ℕ → ℕ → ℤ
months n opens = number (run n opens 1 (soil 6000 0 0) fresh)

-- .. in this calendar month
abbrev calendar : ℕ → ℤ
calendar m = number (run 2 0 m (soil 6000 0 0) fresh)

-- .. with this soil
abbrev held : ℕ → ℕ → ℕ → ℤ
held c ss su = number (run 2 0 1 (soil c ss su) fresh)

-- .. with this X1, X2, X3 and V, after two months
abbrev values : ℤ → ℤ → ℤ → ℤ → ℤ
values x1 x2 x3 v = number (run 2 0 1 (soil 6000 0 0) (record { x1 = x1; x2 = x2; x3 = x3; v = v }))

-- .. with this V, after 12,000 months, on columns that are then full
abbrev v_at_most : ℕ → ℤ
v_at_most v =
    pos (add_z (run 12000 0 1 (soil 6000 0 0) (record { x1 = pos 0; x2 = pos 0; x3 = minus 1; v = pos v })) (pos 0) (lent 12000)).answer.number

-- .. of whose constants the one at this place is another
abbrev constant : ℕ → ℤ → ℤ
constant place n =
    number (record { months = 2; opens = 0; calendar = 1; soil = soil 6000 0 0; values = fresh; constants = set ones place n })

-- .. of a Z to a run of so many months, which stands at 300 and 5,000, with these three records
abbrev ended : ℤ → ℕ → List ℤ → List ℤ → List ℤ → ℤ
ended z n a b c = pos (add_z (run n 0 1 (soil 6000 300 5000) fresh) z (lent_with a b c)).answer.number

-- .. of Z 0 to one of two months, of which the last record ends with these storages, and no other with its own
abbrev last : ℤ → ℤ → ℤ
last surface underlying = ended (pos 0) 2 (ending_in (pos 0) (pos 0)) (ending_in surface underlying) (ending_in (pos 0) (pos 0))

-- "Not a run", clause by clause, at its ends and past them
abbrev run_table : List Row
run_table =
    -- "months above the column length; open months above months"; "10: months already equal the column length"
    (months 2 2 gives pos 0)
    ∷ (months 2 3 gives pos 7)
    ∷ (months 3 3 gives pos 10)
    ∷ (months 4 0 gives pos 7)
    -- "constants, capacity or storages out of range"; and E11, a K of 0
    ∷ (constant 14 (pos 100000) gives pos 0)
    ∷ (constant 14 (pos 100001) gives pos 7)
    ∷ (constant 14 (pos 0) gives pos 7)
    ∷ (constant 12 (pos 50000) gives pos 0)
    ∷ (constant 12 (pos 50001) gives pos 7)
    ∷ (constant 10 (pos 10001) gives pos 7)
    ∷ (constant 10 (negsuc 0) gives pos 7)
    ∷ (held 99 0 0 gives pos 7)
    ∷ (held 100 100 0 gives pos 0)
    ∷ (held 100 101 0 gives pos 7)
    ∷ (held 100 0 1 gives pos 7)
    ∷ (held 30000 1000 29000 gives pos 0)
    ∷ (held 30000 1001 0 gives pos 7)
    ∷ (held 30000 0 29001 gives pos 7)
    ∷ (held 30001 0 0 gives pos 7)
    -- "calendar month not 1 to 12"
    ∷ (calendar 0 gives pos 7)
    ∷ (calendar 1 gives pos 0)
    ∷ (calendar 12 gives pos 0)
    ∷ (calendar 13 gives pos 7)
    -- "any X beyond 13,000,000 in size; X1 negative or X2 positive"
    ∷ (values (pos 13000000) (minus 13000000) (minus 13000000) (pos 0) gives pos 0)
    ∷ (values (pos 0) (pos 0) (pos 13000000) (pos 0) gives pos 0)
    ∷ (values (pos 13000001) (pos 0) (pos 0) (pos 0) gives pos 7)
    ∷ (values (pos 0) (minus 13000001) (pos 0) (pos 0) gives pos 7)
    ∷ (values (pos 0) (pos 0) (minus 13000001) (pos 0) gives pos 7)
    ∷ (values (pos 0) (pos 0) (pos 13000001) (pos 0) gives pos 7)
    ∷ (values (minus 1) (pos 0) (pos 0) (pos 0) gives pos 7)
    ∷ (values (pos 0) (pos 1) (pos 0) (pos 0) gives pos 7)
    -- "V beyond 4,000,150 x months in size; V above 0 without X3 below 0, or V below 0 without X3 above 0": of two months 8,000,300
    ∷ (values (pos 0) (pos 0) (minus 1) (pos 8000300) gives pos 0)
    ∷ (values (pos 0) (pos 0) (minus 1) (pos 8000301) gives pos 7)
    ∷ (values (pos 0) (pos 0) (pos 1) (minus 8000300) gives pos 0)
    ∷ (values (pos 0) (pos 0) (pos 1) (minus 8000301) gives pos 7)
    -- of 12,000 months 48,001,800,000
    ∷ (v_at_most 48001800000 gives pos 10)
    ∷ (v_at_most 48001800001 gives pos 7)
    ∷ (values (pos 0) (pos 0) (pos 0) (pos 1) gives pos 7)
    ∷ (values (pos 0) (pos 0) (pos 0) (minus 1) gives pos 7)
    -- E6, "after any month, the last row's end storages equal the run's": of the last row alone, and of both storages
    ∷ (last (pos 300) (pos 5000) gives pos 0)
    ∷ (last (pos 299) (pos 5000) gives pos 7)
    ∷ (last (pos 301) (pos 5000) gives pos 7)
    ∷ (last (pos 300) (pos 4999) gives pos 7)
    ∷ (last (pos 300) (pos 5001) gives pos 7)
    ∷ (last (pos 5000) (pos 300) gives pos 7)
    ∷ (last (minus 300) (pos 5000) gives pos 7)
    ∷ (last (pos 300) (minus 5000) gives pos 7)
    ∷ (ended (pos 0) 2 (ending_in (pos 300) (pos 5000)) (ending_in (pos 0) (pos 0)) (ending_in (pos 300) (pos 5000)) gives pos 7)
    -- after no month nothing is asked
    ∷ (ended (pos 0) 0 (ending_in (pos 0) (pos 0)) (ending_in (pos 0) (pos 0)) (ending_in (pos 0) (pos 0)) gives pos 0)
    -- "7 covers the new rule and keeps its place": before 12, and before 10
    ∷ (ended (pos 4000001) 2 (ending_in (pos 0) (pos 0)) (ending_in (pos 0) (pos 0)) (ending_in (pos 0) (pos 0)) gives pos 7)
    ∷ (ended (pos 0) 3 (ending_in (pos 300) (pos 5000)) (ending_in (pos 300) (pos 5000)) (ending_in (pos 0) (pos 0)) gives pos 7)
    ∷ (ended (pos 0) 3 (ending_in (pos 0) (pos 0)) (ending_in (pos 0) (pos 0)) (ending_in (pos 300) (pos 5000)) gives pos 10)
    ∷ []

-- the number of an add of a Z to a fresh run, on these columns
abbrev added : ℤ → Book → ℤ
added z cs = pos (add_z (run 0 0 1 (soil 6000 0 0) fresh) z cs).answer.number

-- .. of a whole series of n times this Z, with lists of so many places
abbrev series : ℕ → ℤ → ℕ → ℕ → ℤ
series n z index mark = pos (series_refusal (replicate n z) index mark)

abbrev list_table : List Row
list_table =
    -- "Z given directly: -4,000,000 to 4,000,000."
    (added (pos 4000000) (lent 1) gives pos 0)
    ∷ (added (pos 4000001) (lent 1) gives pos 12)
    ∷ (added (minus 4000000) (lent 1) gives pos 0)
    ∷ (added (minus 4000001) (lent 1) gives pos 12)
    -- "1: the five columns .. not all of one length, or length 0"; E9, "1 now begins above 12,000"
    ∷ (added (pos 0) (lent_of 2 1 1 1 1 1 1) gives pos 1)
    ∷ (added (pos 0) (lent_of 1 2 1 1 1 1 1) gives pos 1)
    ∷ (added (pos 0) (lent_of 1 1 2 1 1 1 1) gives pos 1)
    ∷ (added (pos 0) (lent_of 1 1 1 2 1 1 1) gives pos 1)
    ∷ (added (pos 0) (lent_of 1 1 1 1 2 1 1) gives pos 1)
    -- E6, "1 covers the new columns"
    ∷ (added (pos 0) (lent_of 1 1 1 1 1 2 1) gives pos 1)
    ∷ (added (pos 0) (lent_of 1 1 1 1 1 1 2) gives pos 1)
    ∷ (added (pos 0) (lent 0) gives pos 1)
    ∷ (added (pos 0) (lent 1) gives pos 0)
    ∷ (added (pos 0) (lent 12000) gives pos 0)
    ∷ (added (pos 0) (lent 12001) gives pos 1)
    -- "or the three lists of a whole series"
    ∷ (series 0 (pos 0) 0 0 gives pos 1)
    ∷ (series 1 (pos 0) 1 1 gives pos 0)
    ∷ (series 1 (pos 0) 2 1 gives pos 1)
    ∷ (series 1 (pos 0) 1 2 gives pos 1)
    ∷ (series 1 (pos 4000001) 1 1 gives pos 12)
    ∷ (series 12000 (pos 0) 12000 12000 gives pos 0)
    ∷ (series 12001 (pos 0) 12001 12001 gives pos 1)
    -- "13: program only": what a line says is the crate `lines`'s, and here is only its number
    ∷ (pos not_a_number gives pos 13)
    ∷ []

-- a reading's kind; and a month of two readings, the first of a fresh run: the kinds and the precipitation that it answers, and the kind that its record keeps
abbrev kind : Reading → ℤ
kind r = pos (reading r).kind

abbrev month : Reading → Reading → Result
month p pe = add_water (run 0 0 1 (soil 6000 0 0) fresh) p pe (lent 1)

abbrev kinds_of_month : Result → List ℤ
kinds_of_month b = pos b.answer.figures.water.kinds.p ∷ pos b.answer.figures.water.kinds.pe ∷ pos b.answer.figures.water.p ∷ (record_at b.columns.records 0).kind ∷ []

-- lists place by place; where one is longer they do not agree
abbrev pub each_place : List ℤ → List ℤ → List Row
each_place [] [] = []
each_place (a ∷ l) (b ∷ said) = (a gives b) ∷ each_place l said
each_place [] (b ∷ said) = (pos 0 gives pos 1) ∷ []
each_place (a ∷ l) [] = (pos 0 gives pos 1) ∷ []

-- document 02, E7: 0 none, 1 trace, 2 measured
abbrev kind_table : List Row
kind_table =
    -- "A whole-number reading of 0 is none"; and a refused reading's is 0
    (kind (Whole (pos 0)) gives pos 0)
    ∷ (kind (Whole (pos 1)) gives pos 2)
    ∷ (kind (Whole (negsuc 0)) gives pos 0)
    ∷ (kind Missing gives pos 0)
    ∷ (kind (Inches nan) gives pos 0)
    -- zero and negative zero, and the smallest number above them
    ∷ (kind (Inches (fin false 0 (pos 0))) gives pos 0)
    ∷ (kind (Inches (fin true 0 (pos 0))) gives pos 0)
    ∷ (kind (Inches (fin false 1 (negsuc 148))) gives pos 1)
    ∷ (kind (Millimetres (fin true 0 (pos 0))) gives pos 0)
    ∷ (kind (Millimetres (fin false 1 (negsuc 148))) gives pos 1)
    -- "2^-11 inch gives 0": a trace
    ∷ (kind (Inches (fin false 1 (negsuc 10))) gives pos 1)
    -- the last binary32 number below half a thousandth, and the next: in inches 0.0005 is 8,589,934.592 x 2^-34, in millimetres 0.0127 is 13,636,521.1648 x 2^-30
    ∷ (kind (Inches (fin false 8589934 (negsuc 33))) gives pos 1)
    ∷ (kind (Inches (fin false 8589935 (negsuc 33))) gives pos 2)
    ∷ (inch (fin false 8589935 (negsuc 33)) gives pos 1)
    ∷ (kind (Millimetres (fin false 13636521 (negsuc 29))) gives pos 1)
    ∷ (kind (Millimetres (fin false 13636522 (negsuc 29))) gives pos 2)
    ∷ (mm (fin false 13636522 (negsuc 29)) gives pos 1)
    -- a month of a trace and of PE 1, and the other way round; "one more column keeps precipitation's"
    ∷ (each_place (kinds_of_month (month (Inches (fin false 1 (negsuc 10))) (Whole (pos 1)))) (pos 1 ∷ pos 2 ∷ pos 0 ∷ pos 1 ∷ [])
    ++ (each_place (kinds_of_month (month (Whole (pos 1)) (Inches (fin false 1 (negsuc 10))))) (pos 2 ∷ pos 1 ∷ pos 1 ∷ pos 2 ∷ [])
    -- and of a whole 0 and a trace: none, not precipitation's
    ++ each_place (kinds_of_month (month (Whole (pos 0)) (Millimetres (fin false 1 (negsuc 148))))) (pos 0 ∷ pos 1 ∷ pos 0 ∷ pos 0 ∷ [])))

abbrev pub numbers_table : List Row
numbers_table = reading_table ++ (run_table ++ (list_table ++ kind_table))
