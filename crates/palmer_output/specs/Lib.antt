-- What must be believed: the row that is printed of a month, and the rows of the first months in order (Printed).
pub mod Printed
-- What only a proof wants: what is laid out of a session that has ended, and the room for it (Output). What that is for a whole input says
-- crates/palmer_laws/specs/Palmer.antt.
pub mod Output
