-- Document 01, "Worked months": W1 to W4, one row for each figure that they name. "C is 6,000 throughout." Beside them two months of a
-- thin soil (document 02, E5), every figure of each. The crate `demands` joins them with the spells' rows to one table, and its one claim
-- is that every row agrees. Assumes nothing.
use Rattle.std.specs.Prelude.{ℕ, List, [], ◌∷◌, ◌++◌, pos, neg_ℤ}
use Rattle.exact.specs.Worked.{Row, ◌gives◌}
use Rattle.water.specs.Balance.{balance_of}
use Rattle.water.specs.Expected.{potentials_of, n_of, month_of}
use Rattle.water.specs.declared.Soil.{Soil}
use Rattle.water.specs.declared.Constants.{Constants}
use Rattle.water.specs.declared.Balance.{Balance}
use Rattle.water.specs.declared.Month.{Month}

-- a soil of 6,000 that holds ss and su
abbrev pub holding : ℕ → ℕ → Soil
holding ss su = record { capacity = 6000; surface = ss; underlying = su }

-- "W1 Ss 500, Su 3,000, P 1,000, PE 2,500: .. With 8000, 1000, 500, 2000, K 15000"
abbrev pub of1 : Constants
of1 = record { alpha = 8000; beta = 1000; gamma = 500; delta = 2000; k = 15000 }

abbrev pub w1 : Month
w1 = month_of (holding 500 3000) 1000 2500 of1

-- "W2 500, 4,900, P 2,000, PE 400"
abbrev pub w2 : Balance
w2 = balance_of (holding 500 4900) 2000 400

-- "W3 0, 1, P 0: PE 3,000 .. PE 2,999"
abbrev pub w3 : ℕ → Balance
w3 pe = balance_of (holding 0 1) 0 pe

-- "W4 1,000, 5,000, P 0, PE 100,000"
abbrev pub w4 : Balance
w4 = balance_of (holding 1000 5000) 0 100000

-- a soil of 100 that holds ss: all surface layer
abbrev pub thin : ℕ → Soil
thin ss = record { capacity = 100; surface = ss; underlying = 0 }

-- it dries: Ss 100, P 30, PE 80, with W1's constants
abbrev pub thin_dry : Month
thin_dry = month_of (thin 100) 30 80 of1

-- it overflows: Ss 50, P 200, PE 20, with the same
abbrev pub thin_wet : Month
thin_wet = month_of (thin 50) 200 20 of1

-- what is said of them, worked out by hand from the documents' words. Ls 50 of a want of 50, and end 50. N = 640,000 + 0 + 50,000 - 160,000 is
-- 530,000, and Z is -34.5, a half, away from zero
abbrev pub thin_dry_said : Month
thin_dry_said =
    record {
      ls = 50;
      lu = 0;
      et = 80;
      r = 0;
      ro = 0;
      pr = 0;
      pro = 100;
      pl = 80;
      cafec = pos 53;
      z = neg_ℤ (pos 35);
      surface = 50;
      underlying = 0;
    }

-- R 50 of an excess of 180, and end 100. N = 160,000 + 50,000 + 25,000 - 40,000 is 195,000, so that CAFEC is 19.5, a half, and Z 270.75
abbrev pub thin_wet_said : Month
thin_wet_said =
    record {
      ls = 0;
      lu = 0;
      et = 20;
      r = 50;
      ro = 130;
      pr = 50;
      pro = 50;
      pl = 20;
      cafec = pos 20;
      z = pos 271;
      surface = 100;
      underlying = 0;
    }

-- every figure of a month beside what is said of it
abbrev pub each_figure : Month → Month → List Row
each_figure m said =
    (pos m.ls gives pos said.ls)
    ∷ (pos m.lu gives pos said.lu)
    ∷ (pos m.et gives pos said.et)
    ∷ (pos m.r gives pos said.r)
    ∷ (pos m.ro gives pos said.ro)
    ∷ (pos m.pr gives pos said.pr)
    ∷ (pos m.pro gives pos said.pro)
    ∷ (pos m.pl gives pos said.pl)
    ∷ (m.cafec gives said.cafec)
    ∷ (m.z gives said.z)
    ∷ (pos m.surface gives pos said.surface)
    ∷ (pos m.underlying gives pos said.underlying)
    ∷ []

abbrev pub thin_table : List Row
thin_table = each_figure thin_dry thin_dry_said ++ each_figure thin_wet thin_wet_said

abbrev pub water_table : List Row
water_table =
    -- W1 "Ls 500, Lu 500, ET 2,000, end 0 and 2,500, PL 1,500."
    (pos w1.ls gives pos 500)
    ∷ (pos w1.lu gives pos 500)
    ∷ (pos w1.et gives pos 2000)
    ∷ (pos w1.surface gives pos 0)
    ∷ (pos w1.underlying gives pos 2500)
    ∷ (pos w1.pl gives pos 1500)
    -- "N = 21,250,000, CAFEC 2,125, Z = -1,688." That is -1,687.5, a half, away from zero
    ∷ (n_of of1 2500 (potentials_of (holding 500 3000) 2500) gives pos 21250000)
    ∷ (w1.cafec gives pos 2125)
    ∷ (w1.z gives neg_ℤ (pos 1688))
    -- W2 "R 600, RO 1,000, end 1,000 and 5,000."
    ∷ (pos w2.r gives pos 600)
    ∷ (pos w2.ro gives pos 1000)
    ∷ (pos w2.surface gives pos 1000)
    ∷ (pos w2.underlying gives pos 5000)
    -- W3 "PE 3,000 gives Lu 1; PE 2,999 gives 0." The half of 3,000 x 1 / 6,000 goes up
    ∷ (pos (w3 3000).lu gives pos 1)
    ∷ (pos (w3 2999).lu gives pos 0)
    -- W4 "Lu 5,000." At most what the layer holds: 99,000 x 5,000 / 6,000 is 82,500
    ∷ (pos w4.lu gives pos 5000)
    ∷ []
