-- What the proofs share (Steps), the theorem about whole lines (ByLines), and that a promise allows one outcome (OneOutcome).
pub mod Steps
pub mod ByLines
pub mod OneOutcome
