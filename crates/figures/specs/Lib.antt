-- What must be believed: the elements that are sent out, and what a value of theirs says of its month (Figures).
pub mod Figures
-- What only a proof wants: the steps from a line's values to what is seen of its months (Steps).
pub mod Steps
