-- What must be believed: bytes and digits (Bytes), and the lines of an input (Lines).
pub mod Bytes
pub mod Lines
