-- What must be believed: a line by its columns (Columns), digits and a value by its seven characters (Field), a value as it is written (Written),
-- the numbers of the refusals (Refusals), and numbers of which 0 stands for none (Told).
pub mod Columns
pub mod Field
pub mod Written
pub mod Refusals
pub mod Told
