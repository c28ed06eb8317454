-- A proof's vocabulary, which `requires` cite: the running values before a month of spells, as "not a run" lets them through. Assumes
-- nothing.
use Rattle.std.specs.Prelude.{ℕ, ◌≤◌, ℤ, pos, nat_abs, ◌≤ℤ◌, ◌<ℤ◌}
use Rattle.outline.specs.Numbers.{most_x}
use Rattle.ending.specs.Bounds.{most_v}
use Rattle.spells.specs.declared.Running.{Running}

-- X1 and X2 alone: neither "beyond 13,000,000 in size", nor "X1 negative or X2 positive"
pub record SidesFit (x1 x2 : ℤ) : Type 0 where
  pub x1_size : nat_abs x1 ≤ most_x
  pub x2_size : nat_abs x2 ≤ most_x
  pub x1_sign : pos 0 ≤ℤ x1
  pub x2_sign : x2 ≤ℤ pos 0

-- "any X beyond 13,000,000 in size; X1 negative or X2 positive; V beyond .. in size; V above 0 without X3 below 0, or V below 0 without X3
-- above 0": none of these, where V's size is at most `most`
pub record FitsWithin (most : ℕ) (s : Running) : Type 0 where
  pub x1_size : nat_abs s.x1 ≤ most_x
  pub x2_size : nat_abs s.x2 ≤ most_x
  pub x3_size : nat_abs s.x3 ≤ most_x
  pub v_size : nat_abs s.v ≤ most
  pub x1_sign : pos 0 ≤ℤ s.x1
  pub x2_sign : s.x2 ≤ℤ pos 0
  pub v_above : pos 0 <ℤ s.v → s.x3 <ℤ pos 0
  pub v_below : s.v <ℤ pos 0 → pos 0 <ℤ s.x3

-- as the arithmetic takes them
abbrev pub ValuesFit : Running → Type 0
ValuesFit s = FitsWithin most_v s
