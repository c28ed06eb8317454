-- What must be believed: a month of a list, as a reading (Listed).
pub mod Listed
