-- What the proofs of the crate share: a repair's refusals, one by one, and what a number of 0 says (Passes); what kinds a reading has (ReadingKinds); and a repair that is
-- refused and one that is done (Answered).
pub mod Passes
pub mod ReadingKinds
pub mod Answered
