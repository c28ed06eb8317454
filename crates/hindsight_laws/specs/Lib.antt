-- What must be believed: marks and decisions over a list of months (Counts).
pub mod Counts
