-- What must be believed: the run before a month and the columns as they were then, from the rows (Before).
pub mod Before
-- What only a proof wants: rows whose X1 and X2 are in range, as facts (Sided).
pub mod Sided
