-- What must be believed: a month's record, and its numbers in their order (Record), that the last record ends where the run stands (Ends), and
-- that a month had water (Water).
pub mod Record
pub mod Ends
pub mod Water
-- What only a proof wants: what a record can hold (Recordable).
pub mod Recordable
