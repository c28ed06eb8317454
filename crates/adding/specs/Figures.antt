-- Document 01: "The figures are P, PE, Ls, Lu, ET, R, RO, PR, PRO, PL, CAFEC, Z, percent, X1, X2, X3, index and mark; for an added Z all
-- those before Z are 0." And document 02: E4's modified index, last, and E7's kinds of the two readings, beside the water; both are handed in. Assumes nothing.
use Rattle.std.specs.Prelude.{ℕ, ℤ, pos}
use Rattle.door.specs.Outcome.{no_kinds}
use Rattle.door.specs.declared.MonthKinds.{MonthKinds}
use Rattle.water.specs.declared.Month.{Month}
use Rattle.spells.specs.declared.SpellMonth.{SpellMonth}
use Rattle.hindsight.specs.Months.{mark_for}
use Rattle.adding.specs.declared.WaterFigures.{WaterFigures}
use Rattle.adding.specs.declared.Figures.{Figures}

abbrev pub water_figures : ℕ → ℕ → MonthKinds → Month → WaterFigures
water_figures p pe kinds m =
    record {
      p = p;
      pe = pe;
      ls = m.ls;
      lu = m.lu;
      et = m.et;
      r = m.r;
      ro = m.ro;
      pr = m.pr;
      pro = m.pro;
      pl = m.pl;
      cafec = m.cafec;
      kinds = kinds;
    }

abbrev pub no_water : WaterFigures
no_water = record { p = 0; pe = 0; ls = 0; lu = 0; et = 0; r = 0; ro = 0; pr = 0; pro = 0; pl = 0; cafec = pos 0; kinds = no_kinds }

abbrev pub figures_of : WaterFigures → ℤ → SpellMonth → ℤ → Figures
figures_of w z s modified =
    record {
      water = w;
      z = z;
      percent = s.percent;
      x1 = s.after.x1;
      x2 = s.after.x2;
      x3 = s.after.x3;
      index = s.index;
      mark = mark_for s.decision;
      modified = modified;
    }

-- "A refusal returns its number with all figures 0"
abbrev pub no_figures : Figures
no_figures = record { water = no_water; z = pos 0; percent = 0; x1 = pos 0; x2 = pos 0; x3 = pos 0; index = pos 0; mark = 0; modified = pos 0 }
