-- What is known of a digit's byte (Digits), and of a loop over bytes (Folds).
pub mod Digits
pub mod Folds
