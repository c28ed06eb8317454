-- The laws of the layers and of the month's figures, which the proofs share, and the theorems about a month of water.
pub mod LayerLaws
pub mod WaterLaws
pub mod Sizes
pub mod Theorems
