-- What must be believed: an argument (Arguments).
pub mod Arguments
-- What only a proof wants: what the program `division` holds, byte by byte (Input).
pub mod Input
