-- The way back over the open months (Back), and the laws of the run before a month (Laws).
pub mod Back
pub mod Laws
