-- What must be believed: the ranges of all that the lent lists record of a month (KeptRows).
pub mod KeptRows
-- What only a proof wants: the same, list by list (Lists).
pub mod Lists
