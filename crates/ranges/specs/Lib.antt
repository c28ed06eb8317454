-- What must be believed: the ranges of the sixty constants and of the calendar (Ranges).
pub mod Ranges
-- What only a proof wants: a month's five constants at once (Five).
pub mod Five
