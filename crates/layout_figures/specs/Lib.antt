-- What must be believed: what a line says of a year of index, Z or modified index, or why it is refused (Line).
pub mod Line
-- What only a proof wants: what a line's figures are of the code's own answer (Said), and the parts of a refusal (Steps).
pub mod Said
pub mod Steps
