-- What must be believed beside what `drought` and `season` have: what a reading says that C hands in (FromC);
-- and the kinds of a reading, worked out (Worked).
pub mod FromC
pub mod Worked
