-- What must be believed: an add's figures (Figures), and the month that is added or refused (Taken).
pub mod Figures
pub mod Taken
-- What only a proof wants: what the functions below the calls may assume (Ready), a run without its constants (Progress), and a month of
-- spells (Spelled).
pub mod Ready
pub mod Progress
pub mod Spelled
