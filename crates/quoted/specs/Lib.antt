-- What must be believed: what it means that the start of a line is kept (Quotes).
pub mod Quotes
-- What only a proof wants: how it is kept, byte by byte (Start).
pub mod Start
