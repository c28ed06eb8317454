-- What must be believed: nearest (Nearest), next(x) (Next), and what a table of worked months claims (Worked).
pub mod Nearest
pub mod Next
pub mod Worked
-- What only a proof wants: the room of a number that is to be rounded (Bounds).
pub mod Bounds
