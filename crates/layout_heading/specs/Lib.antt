-- What must be believed: the first ten columns, and where they are at fault (Heading), and how they are written (Written).
pub mod Heading
pub mod Written
-- What only a proof wants: what is read of a heading, and refused by it (Steps).
pub mod Steps
