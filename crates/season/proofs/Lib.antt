-- What the proofs of `season` share.
pub mod Steps
