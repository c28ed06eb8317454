-- Whole answers through a run and its list of sixty: months of water and of Z, a refused one, a season, a row and a whole series. Every figure is
-- said, the run that is handed back and every place of the lent lists. No two constants are the same, and any two figures differ in some
-- month, so that none can be exchanged alike in the definitions and in the code. Worked.antt beside this file joins the rows to the table of
-- worked months, and its one claim is that every row agrees. Assumes nothing.
use Rattle.std.specs.Prelude.{ℕ, zero, suc, ◌+◌, ◌*◌, false, List, [], ◌∷◌, ◌++◌, map, ℤ, pos, negsuc, replicate}
use Rattle.std.specs.Float.{fin}
use Rattle.exact.specs.Worked.{Row, ◌gives◌, minus}
use Rattle.door.specs.declared.Reading.{Reading}
use Rattle.door.specs.declared.Reading.TheVariants.{Whole, Missing}
use Rattle.starts.specs.Start.{start_of}
use Rattle.starts.specs.declared.Started.{Started}
use Rattle.runs.specs.declared.Run.{Run}
use Rattle.records.specs.declared.Record.{Record}
use Rattle.series.specs.Series.{Filled, whole_series}
use Rattle.refusals.specs.Book.{Book}
use Rattle.adding.specs.Taken.{Result}
use Rattle.adding.specs.declared.Added.{Added}
use Rattle.adding.specs.declared.Figures.{Figures}
use Rattle.adding.specs.declared.WaterFigures.{WaterFigures}
use Rattle.drought.specs.Calls.{add_water, add_inches, add_z, row_of_run}
use Rattle.drought.specs.declared.Shown.{Shown}
use Rattle.season.specs.Season.{SeasonResult, add_season}
use Rattle.demands.specs.Pinned.{ending_in, lent, each_place}

-- ---- the months
-- a month's five: W1's (document 01) in March, and 10 more for each month later. All sixty differ
abbrev sixty : ℕ → ℕ → List ℤ
sixty zero m = []
sixty (suc n) m = pos (7970 + 10 * m) ∷ pos (970 + 10 * m) ∷ pos (470 + 10 * m) ∷ pos (1970 + 10 * m) ∷ pos (14970 + 10 * m) ∷ sixty n (m + 1)

-- a station with these constants and a soil of 6,000, from this month on
abbrev station : ℕ → ℕ → ℕ → Started
station ss su m = start_of (sixty 12 1) (pos 6000) (pos ss) (pos su) (pos m)

abbrev whole : ℕ → Reading
whole n = Whole (pos n)

-- W1 in March, "Ss 500, Su 3,000, P 1,000, PE 2,500", by two readings and by two binary32 inches, 1 and 2.5
unfoldable pub march : Result
march = add_water (station 500 3000 3).run (whole 1000) (whole 2500) (lent 5)

unfoldable pub march_inches : Result
march_inches = add_inches (station 500 3000 3).run (record { p = fin false 1 (pos 0); pe = fin false 5 (negsuc 0) }) (lent 5)

-- a winter, Ss 300 and Su 5,000: in October Z -12,210, which founds the drought of S4; in November S4's Z 3,590
unfoldable pub october : Result
october = add_z (station 300 5000 10).run (minus 12210) (lent 5)

unfoldable pub november : Result
november = add_z october.answer.run (pos 3590) october.columns

-- in December P 400, PE 950, in January P 5,900, PE 400
unfoldable pub december : Result
december = add_water november.answer.run (whole 400) (whole 950) november.columns

unfoldable pub january : Result
january = add_water december.answer.run (whole 5900) (whole 400) december.columns

-- December and January in one call
unfoldable pub season : SeasonResult
season = add_season november.answer.run (pos 400 ∷ pos 5900 ∷ []) (pos 950 ∷ pos 400 ∷ []) november.columns

-- December once more, and both readings refused: the first is told
unfoldable pub refused : Result
refused = add_water november.answer.run Missing (Whole (negsuc 0)) november.columns

-- the four months' Z as a whole series
unfoldable pub series : Filled
series = whole_series (minus 12210 ∷ pos 3590 ∷ minus 878 ∷ pos 7933 ∷ []) (pos 74 ∷ pos 74 ∷ pos 74 ∷ pos 74 ∷ []) (75 ∷ 75 ∷ 75 ∷ 75 ∷ [])

-- a month's row after January
abbrev row : ℕ → Shown
row i = row_of_run january.answer.run i january.columns

-- ---- what is said of them, worked out by hand from document 01's words

-- March: what W1 says. Of the rest, PR = 6,000 - 3,500 and PRO = 3,500; fresh, so X2 = -1,688,000 / 3,000 is -562.67, X1 is 0, and the month
-- decides with X2. It settles itself. W1 has PE = PR, so that alpha and beta exchanged would give the same; the winter tells them apart
abbrev march_said : Added
march_said =
    record {
      number = 0;
      settled = 1;
      figures = record {
        water = record { p = 1000; pe = 2500; ls = 500; lu = 500; et = 2000; r = 0; ro = 0; pr = 2500; pro = 3500; pl = 1500; cafec = pos 2125; kinds = record { p = 2; pe = 2 } };
        z = minus 1688;
        percent = 0;
        x1 = pos 0;
        x2 = minus 563;
        x3 = pos 0;
        index = minus 563;
        mark = 2;
        modified = minus 563;
      };
      run = record {
        months = 1;
        opens = 0;
        calendar = 4;
        soil = record { capacity = 6000; surface = 0; underlying = 2500 };
        values = record { x1 = pos 0; x2 = minus 563; x3 = pos 0; v = pos 0 };
        constants = sixty 12 1;
      };
    }

-- November: S4's first month, open. "for an added Z all those before Z are 0", "storage stays, the calendar moves on"
abbrev november_said : Added
november_said =
    record {
      number = 0;
      settled = 0;
      figures = record {
        water = record { p = 0; pe = 0; ls = 0; lu = 0; et = 0; r = 0; ro = 0; pr = 0; pro = 0; pl = 0; cafec = pos 0; kinds = record { p = 0; pe = 0 } };
        z = pos 3590;
        percent = 40;
        x1 = pos 1197;
        x2 = pos 0;
        x3 = minus 2454;
        index = minus 2454;
        mark = 1;
        modified = minus 1009;
      };
      run = record {
        months = 2;
        opens = 1;
        calendar = 12;
        soil = record { capacity = 6000; surface = 300; underlying = 5000 };
        values = record { x1 = pos 1197; x2 = pos 0; x3 = minus 2454; v = pos 3740 };
        constants = sixty 12 1;
      };
    }

-- "A refusal returns its number with all figures 0 and the run given": November's
abbrev refused_said : Added
refused_said =
    record {
      number = 8;
      settled = 0;
      figures = record {
        water = record { p = 0; pe = 0; ls = 0; lu = 0; et = 0; r = 0; ro = 0; pr = 0; pro = 0; pl = 0; cafec = pos 0; kinds = record { p = 0; pe = 0 } };
        z = pos 0;
        percent = 0;
        x1 = pos 0;
        x2 = pos 0;
        x3 = pos 0;
        index = pos 0;
        mark = 0;
        modified = pos 0;
      };
      run = november_said.run;
    }

-- December, with 8090, 1090, 590, 2090, K 15090. A want of 550: Ls 300, and Lu is 250 x 5,000 / 6,000, 208.33; ET = 400 + 300 + 208. PR = 6,000 -
-- 5,300. PLs 300, PLu is 650 x 5,000 / 6,000, 541.67. N = 7,685,500 + 763,000 + 3,127,000 - 1,759,780 is 9,815,720, so that CAFEC is 981.57,
-- and Z is 15,090 x -5,815,720 / 100,000,000, -877.59. The drought abates: V = -878 + 150 + 3,740; next(1,197) is 781.04, next(0)
-- -292.67, next(-2,454) -2,493.9; E = 2,691 x 2,454 - 1,500,000 is 5,103,714, Q 8,843,714, and the percent 34.06. Open. The modified index is (5,831,714 x
-- -2,494 + 3,012,000 x 781) / 8,843,714, -1,378.6
abbrev december_said : Added
december_said =
    record {
      number = 0;
      settled = 0;
      figures = record {
        water = record { p = 400; pe = 950; ls = 300; lu = 208; et = 908; r = 0; ro = 0; pr = 700; pro = 5300; pl = 842; cafec = pos 982; kinds = record { p = 2; pe = 2 } };
        z = minus 878;
        percent = 34;
        x1 = pos 781;
        x2 = minus 293;
        x3 = minus 2494;
        index = minus 2494;
        mark = 1;
        modified = minus 1379;
      };
      run = record {
        months = 3;
        opens = 2;
        calendar = 1;
        soil = record { capacity = 6000; surface = 0; underlying = 4792 };
        values = record { x1 = pos 781; x2 = minus 293; x3 = minus 2494; v = pos 3012 };
        constants = sixty 12 1;
      };
    }

-- January, with 7980, 980, 480, 1980, K 14980. An excess of 5,500 fills 1,000 and 208, and runs off. PLs 0, PLu is 400 x 4,792 / 6,000, 319.47.
-- N = 3,192,000 + 1,183,840 + 2,300,160 - 631,620 is 6,044,380, so that CAFEC is 604.4, and Z is 14,980 x 52,955,620 / 100,000,000, 7,932.75. It
-- ends the drought: V is above 0, and 1,000 U = 8,083,000 is not below E = 2,691 x 2,494 - 1,500,000, 5,211,354. next(781) is 3,344.89 and founds
-- a wet spell. The month decides with X1: three are settled
abbrev january_said : Added
january_said =
    record {
      number = 0;
      settled = 3;
      figures = record {
        water = record { p = 5900; pe = 400; ls = 0; lu = 0; et = 400; r = 1208; ro = 4292; pr = 1208; pro = 4792; pl = 319; cafec = pos 604; kinds = record { p = 2; pe = 2 } };
        z = pos 7933;
        percent = 100;
        x1 = pos 0;
        x2 = pos 0;
        x3 = pos 3345;
        index = pos 3345;
        mark = 2;
        modified = pos 3345;
      };
      run = record {
        months = 4;
        opens = 0;
        calendar = 2;
        soil = record { capacity = 6000; surface = 1000; underlying = 5000 };
        values = record { x1 = pos 0; x2 = pos 0; x3 = pos 3345; v = pos 0 };
        constants = sixty 12 1;
      };
    }

-- each month's record (document 02, E6), from the figures above: Z, P, PE, ET, R, L = Ls + Lu, RO, the storages that the month before left, those
-- at its end, 1 for a month that had water, the modified index (E4), and the kind of the precipitation (E7), 2 measured and 0 none. "A Z-only month records its Z .., zeros for the six water figures and the carried storages"
abbrev march_record : List ℤ
march_record =
    minus 1688 ∷ pos 1000 ∷ pos 2500 ∷ pos 2000 ∷ pos 0 ∷ pos 1000 ∷ pos 0 ∷ pos 500 ∷ pos 3000 ∷ pos 0 ∷ pos 2500 ∷ pos 1 ∷ minus 563 ∷ pos 2 ∷ []

abbrev october_record : List ℤ
october_record =
    minus 12210 ∷ pos 0 ∷ pos 0 ∷ pos 0 ∷ pos 0 ∷ pos 0 ∷ pos 0 ∷ pos 300 ∷ pos 5000 ∷ pos 300 ∷ pos 5000 ∷ pos 0 ∷ minus 4070 ∷ pos 0 ∷ []

abbrev november_record : List ℤ
november_record =
    pos 3590 ∷ pos 0 ∷ pos 0 ∷ pos 0 ∷ pos 0 ∷ pos 0 ∷ pos 0 ∷ pos 300 ∷ pos 5000 ∷ pos 300 ∷ pos 5000 ∷ pos 0 ∷ minus 1009 ∷ pos 0 ∷ []

abbrev december_record : List ℤ
december_record =
    minus 878 ∷ pos 400 ∷ pos 950 ∷ pos 908 ∷ pos 0 ∷ pos 508 ∷ pos 0 ∷ pos 300 ∷ pos 5000 ∷ pos 0 ∷ pos 4792 ∷ pos 1 ∷ minus 1379 ∷ pos 2 ∷ []

abbrev january_record : List ℤ
january_record =
    pos 7933 ∷ pos 5900 ∷ pos 400 ∷ pos 400 ∷ pos 1208 ∷ pos 0 ∷ pos 4292 ∷ pos 0 ∷ pos 4792 ∷ pos 1000 ∷ pos 5000 ∷ pos 1 ∷ pos 3345 ∷ pos 2 ∷ []

-- at a place that no month has
abbrev no_month : List ℤ
no_month = ending_in (pos 0) (pos 0)

-- the columns after March; after November and December, which are open; and after January. November settles at its X1, where X2 is 0;
-- December has both, and takes the deciding month's side. The place after the last month is as it was
abbrev march_leaves : Book
march_leaves =
    record {
      x1 = pos 0 ∷ pos 71 ∷ pos 71 ∷ pos 71 ∷ pos 71 ∷ [];
      x2 = minus 563 ∷ pos 72 ∷ pos 72 ∷ pos 72 ∷ pos 72 ∷ [];
      x3 = pos 0 ∷ pos 73 ∷ pos 73 ∷ pos 73 ∷ pos 73 ∷ [];
      index = minus 563 ∷ pos 74 ∷ pos 74 ∷ pos 74 ∷ pos 74 ∷ [];
      mark = 2 ∷ 75 ∷ 75 ∷ 75 ∷ 75 ∷ [];
      records = march_record ∷ no_month ∷ no_month ∷ no_month ∷ no_month ∷ [];
      v = pos 0 ∷ pos 76 ∷ pos 76 ∷ pos 76 ∷ pos 76 ∷ [];
    }

abbrev november_leaves : Book
november_leaves =
    record {
      x1 = pos 0 ∷ pos 1197 ∷ pos 71 ∷ pos 71 ∷ pos 71 ∷ [];
      x2 = pos 0 ∷ pos 0 ∷ pos 72 ∷ pos 72 ∷ pos 72 ∷ [];
      x3 = minus 4070 ∷ minus 2454 ∷ pos 73 ∷ pos 73 ∷ pos 73 ∷ [];
      index = minus 4070 ∷ minus 2454 ∷ pos 74 ∷ pos 74 ∷ pos 74 ∷ [];
      mark = 2 ∷ 1 ∷ 75 ∷ 75 ∷ 75 ∷ [];
      records = october_record ∷ november_record ∷ no_month ∷ no_month ∷ no_month ∷ [];
      v = pos 0 ∷ pos 3740 ∷ pos 76 ∷ pos 76 ∷ pos 76 ∷ [];
    }

abbrev december_leaves : Book
december_leaves =
    record {
      x1 = pos 0 ∷ pos 1197 ∷ pos 781 ∷ pos 71 ∷ pos 71 ∷ [];
      x2 = pos 0 ∷ pos 0 ∷ minus 293 ∷ pos 72 ∷ pos 72 ∷ [];
      x3 = minus 4070 ∷ minus 2454 ∷ minus 2494 ∷ pos 73 ∷ pos 73 ∷ [];
      index = minus 4070 ∷ minus 2454 ∷ minus 2494 ∷ pos 74 ∷ pos 74 ∷ [];
      mark = 2 ∷ 1 ∷ 1 ∷ 75 ∷ 75 ∷ [];
      records = october_record ∷ november_record ∷ december_record ∷ no_month ∷ no_month ∷ [];
      v = pos 0 ∷ pos 3740 ∷ pos 3012 ∷ pos 76 ∷ pos 76 ∷ [];
    }

abbrev january_leaves : Book
january_leaves =
    record {
      x1 = pos 0 ∷ pos 1197 ∷ pos 781 ∷ pos 0 ∷ pos 71 ∷ [];
      x2 = pos 0 ∷ pos 0 ∷ minus 293 ∷ pos 0 ∷ pos 72 ∷ [];
      x3 = minus 4070 ∷ minus 2454 ∷ minus 2494 ∷ pos 3345 ∷ pos 73 ∷ [];
      index = minus 4070 ∷ pos 1197 ∷ pos 781 ∷ pos 3345 ∷ pos 74 ∷ [];
      mark = 2 ∷ 2 ∷ 2 ∷ 2 ∷ 75 ∷ [];
      records = october_record ∷ november_record ∷ december_record ∷ january_record ∷ no_month ∷ [];
      v = pos 0 ∷ pos 3740 ∷ pos 3012 ∷ pos 0 ∷ pos 76 ∷ [];
    }

-- ---- each of an answer's and a run's numbers beside what is said of it, in the outline's order
abbrev each_water : WaterFigures → WaterFigures → List Row
each_water w said =
    (pos w.p gives pos said.p)
    ∷ (pos w.pe gives pos said.pe)
    ∷ (pos w.ls gives pos said.ls)
    ∷ (pos w.lu gives pos said.lu)
    ∷ (pos w.et gives pos said.et)
    ∷ (pos w.r gives pos said.r)
    ∷ (pos w.ro gives pos said.ro)
    ∷ (pos w.pr gives pos said.pr)
    ∷ (pos w.pro gives pos said.pro)
    ∷ (pos w.pl gives pos said.pl)
    ∷ (w.cafec gives said.cafec)
    ∷ (pos w.kinds.p gives pos said.kinds.p)
    ∷ (pos w.kinds.pe gives pos said.kinds.pe)
    ∷ []

-- records place by place, and each number by number
abbrev each_record : List (List ℤ) → List (List ℤ) → List Row
each_record [] [] = []
each_record (a ∷ l) (b ∷ said) = each_place a b ++ each_record l said
each_record [] (b ∷ said) = (pos 0 gives pos 1) ∷ []
each_record (a ∷ l) [] = (pos 0 gives pos 1) ∷ []

abbrev each_of_run : Run → Run → List Row
each_of_run r said =
    (pos r.months gives pos said.months)
    ∷ (pos r.opens gives pos said.opens)
    ∷ (pos r.calendar gives pos said.calendar)
    ∷ (pos r.soil.capacity gives pos said.soil.capacity)
    ∷ (pos r.soil.surface gives pos said.soil.surface)
    ∷ (pos r.soil.underlying gives pos said.soil.underlying)
    ∷ (r.values.x1 gives said.values.x1)
    ∷ (r.values.x2 gives said.values.x2)
    ∷ (r.values.x3 gives said.values.x3)
    ∷ (r.values.v gives said.values.v)
    ∷ each_place r.constants said.constants

abbrev each_figure : Figures → Figures → List Row
each_figure f said =
    each_water f.water said.water
    ++ ((f.z gives said.z)
    ∷ (pos f.percent gives pos said.percent)
    ∷ (f.x1 gives said.x1)
    ∷ (f.x2 gives said.x2)
    ∷ (f.x3 gives said.x3)
    ∷ (f.index gives said.index)
    ∷ (pos f.mark gives pos said.mark)
    ∷ (f.modified gives said.modified)
    ∷ [])

abbrev each_answer : Added → Added → List Row
each_answer a said =
    (pos a.number gives pos said.number)
    ∷ (pos a.settled gives pos said.settled)
    ∷ (each_figure a.figures said.figures ++ each_of_run a.run said.run)

abbrev each_column : Book → Book → List Row
each_column cs said =
    each_place cs.x1 said.x1
    ++ (each_place cs.x2 said.x2
    ++ (each_place cs.x3 said.x3
    ++ (each_place cs.index said.index
    ++ (each_place (map pos cs.mark) (map pos said.mark)
    ++ (each_record cs.records said.records
    ++ each_place cs.v said.v)))))

abbrev each : Result → Added → Book → List Row
each b said leaves = each_answer b.answer said ++ each_column b.columns leaves

-- "a refused start: all zeros"; what one that is not refused gives goes into the months above
abbrev start_table : List Row
start_table =
    (pos (station 500 3000 13).number gives pos 6)
    ∷ each_of_run (station 500 3000 13).run
    (record {
      months = 0;
      opens = 0;
      calendar = 0;
      soil = record { capacity = 0; surface = 0; underlying = 0 };
      values = record { x1 = pos 0; x2 = pos 0; x3 = pos 0; v = pos 0 };
      constants = replicate 60 (pos 0);
    })

-- two months added, three settled in all, and the rest is January's
abbrev season_table : List Row
season_table =
    (pos season.answer.number gives pos 0)
    ∷ (pos season.answer.added gives pos 2)
    ∷ (pos season.answer.settled gives pos 3)
    ∷ (each_figure season.answer.figures january_said.figures
    ++ (each_of_run season.answer.run january_said.run
    ++ each_column season.columns january_leaves))

-- a row and a month's record, field by field
abbrev each_of_month : Record → Record → List Row
each_of_month m said =
    (m.z gives said.z)
    ∷ (m.p gives said.p)
    ∷ (m.pe gives said.pe)
    ∷ (m.et gives said.et)
    ∷ (m.r gives said.r)
    ∷ (m.l gives said.l)
    ∷ (m.ro gives said.ro)
    ∷ (m.ss gives said.ss)
    ∷ (m.su gives said.su)
    ∷ (m.surface gives said.surface)
    ∷ (m.underlying gives said.underlying)
    ∷ (m.water gives said.water)
    ∷ (m.modified gives said.modified)
    ∷ (m.kind gives said.kind)
    ∷ []

abbrev each_of_row : Shown → Shown → List Row
each_of_row s said =
    (pos s.number gives pos said.number)
    ∷ (s.x1 gives said.x1)
    ∷ (s.x2 gives said.x2)
    ∷ (s.x3 gives said.x3)
    ∷ (s.index gives said.index)
    ∷ (pos s.mark gives pos said.mark)
    ∷ (s.v gives said.v)
    ∷ each_of_month s.month said.month

-- after January: December's row, which is settled; the records of January and of October, which had no water; and of a place that no month has
-- "11: row number not below the months added", and all zeros
abbrev row_table : List Row
row_table =
    each_of_row (row 2)
    (record {
      number = 0;
      x1 = pos 781;
      x2 = minus 293;
      x3 = minus 2494;
      index = pos 781;
      mark = 2;
      month =
          record {
            z = minus 878;
            p = pos 400;
            pe = pos 950;
            et = pos 908;
            r = pos 0;
            l = pos 508;
            ro = pos 0;
            ss = pos 300;
            su = pos 5000;
            surface = pos 0;
            underlying = pos 4792;
            water = pos 1;
            modified = minus 1379;
            kind = pos 2;
          };
      v = pos 3012;
    })
    ++ (each_of_month (row 3).month
    (record {
      z = pos 7933;
      p = pos 5900;
      pe = pos 400;
      et = pos 400;
      r = pos 1208;
      l = pos 0;
      ro = pos 4292;
      ss = pos 0;
      su = pos 4792;
      surface = pos 1000;
      underlying = pos 5000;
      water = pos 1;
      modified = pos 3345;
      kind = pos 2;
    })
    ++ (each_of_month (row 0).month
    (record {
      z = minus 12210;
      p = pos 0;
      pe = pos 0;
      et = pos 0;
      r = pos 0;
      l = pos 0;
      ro = pos 0;
      ss = pos 300;
      su = pos 5000;
      surface = pos 300;
      underlying = pos 5000;
      water = pos 0;
      modified = minus 4070;
      kind = pos 0;
    })
    ++ each_of_row (row 4)
    (record {
      number = 11;
      x1 = pos 0;
      x2 = pos 0;
      x3 = pos 0;
      index = pos 0;
      mark = 0;
      month =
          record {
            z = pos 0;
            p = pos 0;
            pe = pos 0;
            et = pos 0;
            r = pos 0;
            l = pos 0;
            ro = pos 0;
            ss = pos 0;
            su = pos 0;
            surface = pos 0;
            underlying = pos 0;
            water = pos 0;
            modified = pos 0;
            kind = pos 0;
          };
      v = pos 0;
    })))

-- what January leaves of index and mark, from the Z alone
abbrev series_table : List Row
series_table =
    (pos series.number gives pos 0)
    ∷ (each_place series.index (minus 4070 ∷ pos 1197 ∷ pos 781 ∷ pos 3345 ∷ [])
    ++ each_place (map pos series.mark) (pos 2 ∷ pos 2 ∷ pos 2 ∷ pos 2 ∷ []))

abbrev pub answer_table : List Row
answer_table =
    each march march_said march_leaves
    ++ (each march_inches march_said march_leaves
    ++ (each november november_said november_leaves
    ++ (each refused refused_said november_leaves
    ++ (each december december_said december_leaves
    ++ (each january january_said january_leaves
    ++ (start_table
    ++ (season_table
    ++ (row_table
    ++ series_table))))))))
