-- The theorems about a month of spells (Theorems), its mirror (Mirror) and what a fresh run comes to (Reached), and the cases that their
-- proofs go by.
pub mod Cases
pub mod Abates
pub mod Parts
pub mod Theorems
pub mod Mirror
pub mod Reached
