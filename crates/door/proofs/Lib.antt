-- What the proofs of `door` share, the theorem that a reading has one answer, and what no reading of a list says (Traces).
pub mod Places
pub mod Range
pub mod Fields
pub mod Answers
pub mod OneAnswer
pub mod Bounds
pub mod Traces
