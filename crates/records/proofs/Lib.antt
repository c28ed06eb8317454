-- A record by its fields (Fields); what a record can hold of a soil and of a month of water, and a number beside an amount (Fitting); the last record and the run
-- (Meeting).
pub mod Fields
pub mod Fitting
pub mod Meeting
