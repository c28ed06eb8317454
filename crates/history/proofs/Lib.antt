-- What an add stores and `settle` leaves, as the definition has it.
pub mod Adding
