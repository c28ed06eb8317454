-- What the proofs share, a text that is put into a list (Laid) and the digits of a number (Digits); that a promise allows one outcome
-- (OneAnswer), and worked rows (Worked).
pub mod Laid
pub mod Digits
pub mod OneAnswer
pub mod Worked
