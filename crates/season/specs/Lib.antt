-- What must be believed: a season in one call (Season).
pub mod Season
-- What only a proof wants: a season so far, without the run's constants (SoFar).
pub mod SoFar
