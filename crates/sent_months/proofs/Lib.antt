-- How a size is rounded (Sizes), and a figure as the code holds it (Holds).
pub mod Sizes
pub mod Holds
