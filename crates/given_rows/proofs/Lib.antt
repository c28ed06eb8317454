-- What is proved of rows of water: as facts, each within its potentials (RowLaws).
pub mod RowLaws
