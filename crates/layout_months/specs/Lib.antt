-- What must be believed: what a value says as a month's precipitation, and what the months of a line make (Months).
pub mod Months
-- What only a proof wants: the steps from a line's values to what is found of its months (Steps).
pub mod Steps
