-- What must be believed: the sixty constants worked out again, and the sums of a calendar month (WorkOut).
pub mod WorkOut
-- What only a proof wants: what both calls ask (Asked).
pub mod Asked
