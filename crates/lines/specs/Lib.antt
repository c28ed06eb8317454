-- What must be believed: what a line says (Line), and where a line that is no whole number is at fault (Fault).
pub mod Line
pub mod Fault
-- What only a proof wants: a line that is read byte by byte (Reading).
pub mod Reading
