-- What the functions' proofs cite, here and in the crates above.
pub mod Alone
pub mod Back
pub mod Forward
