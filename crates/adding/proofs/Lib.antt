-- What the proofs of the calls share: a month taken (Taken), a run's month of water by its steps (Measured), what a good run may be asked
-- (Readiness), an answer or its refusal (Answered).
pub mod Taken
pub mod Measured
pub mod Readiness
pub mod Answered
