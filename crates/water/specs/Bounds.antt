-- A proof's vocabulary, which `requires` cite: a month's five constants in their ranges, as facts, and the most that N comes to. Assumes nothing.
use Rattle.std.specs.Prelude.{ℕ, ◌≤◌}
use Rattle.water.specs.Constants.{most_share, most_gamma, most_k}
use Rattle.water.specs.declared.Constants.{Constants}

pub record ConstantsFit (k : Constants) : Type 0 where
  pub alpha : k.alpha ≤ most_share
  pub beta : k.beta ≤ most_share
  pub gamma : k.gamma ≤ most_gamma
  pub delta : k.delta ≤ most_share
  pub weight : k.k ≤ most_k

-- the most that N comes to in size, with every constant and every amount at its own: 10,000 x 100,000 + 50,000 x 30,000
abbrev pub most_n : ℕ
most_n = 2500000000
