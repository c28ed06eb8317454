-- What must be believed: what the program `palmer` holds from line to line (ByLines).
pub mod ByLines
-- What only a proof wants: what it holds byte by byte (Input).
pub mod Input
