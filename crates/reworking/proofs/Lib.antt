-- What the proofs of the crate share: a month worked again from its record (Steps), one after the other (Passes), from where the run stood before the first (Entry).
pub mod Steps
pub mod Passes
pub mod Entry
