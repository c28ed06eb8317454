-- What the proofs of `settle` and `look_forward` cite: columns of which a part is rewritten (Parts), a group of open months and the month that
-- decides it (Groups), and the two loops (Scans).
pub mod Parts
pub mod Groups
pub mod Scans
