-- What must be believed: a start (Start); which number it gives, exactly when (Given); and starts at and beside the ends of every range and
-- with a K of 0 (Worked).
pub mod Start
pub mod Given
pub mod Worked
