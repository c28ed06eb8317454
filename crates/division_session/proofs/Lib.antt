-- What the proofs share, and those of the crates above: a line that is closed (Closing), and that what is lent is enough (Room).
pub mod Closing
pub mod Room
