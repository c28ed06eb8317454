-- What only a proof wants: the bytes that a line is told by (Kept).
pub mod Kept
