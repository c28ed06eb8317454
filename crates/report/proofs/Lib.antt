-- What the functions' proofs cite (Same, Filling, Gathering), and the crate above (Changes).
pub mod Same
pub mod Filling
pub mod Gathering
pub mod Changes
