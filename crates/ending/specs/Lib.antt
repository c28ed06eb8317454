-- What must be believed: U, V, E, Q, the three endings and the percent (Ending).
pub mod Ending
-- What only a proof wants: V's room in the arithmetic (Bounds).
pub mod Bounds
