-- What the proofs share (Sizes), the theorem about a line that is read byte by byte (Lines), that a promise allows one answer (OneAnswer),
-- that a fault is told where there is one (Faults), and worked lines (Worked).
pub mod Sizes
pub mod Lines
pub mod OneAnswer
pub mod Faults
pub mod Worked
