-- What must be believed: the running values of a fresh run (Values), a month of spells (Spells), and a decision as a number (Decisions).
pub mod Values
pub mod Spells
pub mod Decisions
-- What only a proof wants: running values as "not a run" lets them through, as facts (ValuesFit), and a month without its chance (Chance).
pub mod ValuesFit
pub mod Chance
