-- The laws of tests joined by "and" (Tests), of a test passed at every place (Every), and of a refusal's number (Refusals).
pub mod Tests
pub mod Every
pub mod Refusals
pub mod Refused
