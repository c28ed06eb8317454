-- What must be believed: the departures of a calendar month, and D (Departures).
pub mod Departures
