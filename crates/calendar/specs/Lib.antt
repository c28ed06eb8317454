-- What must be believed: a calendar month's five constants, a K of 0 among the twelve, and the month after one (Calendar); and where the sixty
-- stand (Worked).
pub mod Calendar
pub mod Worked
-- What only a proof wants: constants that serve (Serve).
pub mod Serve
