-- What must be believed: months reworked from what their records hold (Reworked).
pub mod Reworked
-- What only a proof wants: what the functions below the refusals may assume (Workable).
pub mod Workable
