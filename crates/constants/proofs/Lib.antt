-- What is proved of the two calls: what passed refusals say (Passes).
pub mod Passes
