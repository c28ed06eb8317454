-- What must be believed: the exact value of a binary32 number (Exact), an answer in the paper's terms (Outcome), what each reading gives
-- (Readings), and the numbers of the kinds (Kinds).
pub mod Exact
pub mod Outcome
pub mod Readings
pub mod Kinds
