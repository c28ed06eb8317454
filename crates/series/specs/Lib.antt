-- What must be believed: the whole series (Series).
pub mod Series
