-- What is proved of `division_input` beside its promises: the bytes kept of a line tell all that the line tells (Kept), and the reading is by
-- lines (ByLines).
pub mod Kept
pub mod ByLines
