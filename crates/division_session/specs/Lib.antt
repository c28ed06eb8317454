-- What must be believed: what the program `division` makes of its lines (ByLines).
pub mod ByLines
-- What only a proof wants: what it holds while it reads, and what a line changes of it (Session).
pub mod Session
