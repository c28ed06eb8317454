-- What the proofs share: where a line is at fault, and that it is so exactly where it is refused with 14 (Faults), and its refusal (Refusals).
-- What else is proved of the reader stands in the crate `layout_laws`.
pub mod Faults
pub mod Refusals
