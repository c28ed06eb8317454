-- What the proofs share with those of `division_input` and `division_laws` (Parts).
pub mod Parts
