-- What is sent out: a line by its fields (Fields), read back (ReadBack), its numbers and what is lent (Outcome), months and rows (Months), the
-- reader's numbers (Reading), lines worked out (Worked), and the statement (SentOut).
pub mod Fields
pub mod ReadBack
pub mod Outcome
pub mod Months
pub mod Reading
pub mod Worked
pub mod SentOut
