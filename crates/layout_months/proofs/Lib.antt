-- What the proofs share, and those of the crates above: sets of months (Sets), and the months of a line, one after another (Months).
pub mod Sets
pub mod Months
