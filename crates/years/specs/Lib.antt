-- What must be believed: which years of a run count, and that each of their months had water (Years).
pub mod Years
