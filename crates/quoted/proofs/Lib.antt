-- What the proofs share: what one byte of the input does (Steps); and the theorem that the line at fault is what is quoted (Quotes).
pub mod Steps
pub mod Quotes
