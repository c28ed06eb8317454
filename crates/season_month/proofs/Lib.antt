-- A month of a list as a reading.
pub mod Months
