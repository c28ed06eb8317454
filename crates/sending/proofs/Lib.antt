-- A line month by month: what fits and what is laid (Lines), and a line written or refused, by the tests of its refusals (Refused).
pub mod Lines
pub mod Refused
