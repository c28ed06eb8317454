-- What must be believed: a wrong month repaired (Repair).
pub mod Repair
-- What only a proof wants: an answer without the run's constants (Tried).
pub mod Tried
