-- The refusal of a line, by its parts (Refusals).
pub mod Refusals
