-- What must be believed: what a run is (Runs).
pub mod Runs
-- What only a proof wants: the same as facts (RunFits), and a run without its constants (Progress).
pub mod RunFits
pub mod Progress
