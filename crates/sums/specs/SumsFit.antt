-- A proof's vocabulary, which `requires` cite: sums over so many years, each part within its whole. Assumes nothing.
use Rattle.std.specs.Prelude.{ℕ, ◌*◌, ◌≤◌}
use Rattle.door.specs.Readings.{most_reading}
use Rattle.sums.specs.declared.Sums.{Sums}

pub record SumsFit (s : Sums) (k : ℕ) : Type 0 where
  pub et : s.et ≤ s.pe
  pub pe : s.pe ≤ most_reading * k
  pub r : s.r ≤ s.pr
  pub pr : s.pr ≤ most_reading * k
  pub ro : s.ro ≤ most_reading * k
  pub pro : s.pro ≤ most_reading * k
  pub l : s.l ≤ s.pl
  pub pl : s.pl ≤ most_reading * k

-- each of them is at most so much a year
pub record Within (s : Sums) (k : ℕ) : Type 0 where
  pub et : s.et ≤ most_reading * k
  pub pe : s.pe ≤ most_reading * k
  pub r : s.r ≤ most_reading * k
  pub ro : s.ro ≤ most_reading * k
  pub pro : s.pro ≤ most_reading * k
  pub l : s.l ≤ most_reading * k
  pub pl : s.pl ≤ most_reading * k

-- all but PR's, which PRO's tells in the end
abbrev pub with_pr : Sums → ℕ → Sums
with_pr s pr = record { et = s.et; pe = s.pe; r = s.r; pr = pr; ro = s.ro; pro = s.pro; l = s.l; pl = s.pl }

abbrev pub without_pr : Sums → Sums
without_pr s = with_pr s 0

-- the most years before the last
abbrev pub most_before : ℕ
most_before = 999
