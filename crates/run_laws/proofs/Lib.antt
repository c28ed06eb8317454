-- The run and the columns that a month leaves (Keeps), and what an accepted add of water did (Accepts).
pub mod Keeps
pub mod Accepts
