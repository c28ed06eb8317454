-- What the numbers of a spell in force keep within, and the percent's bounds.
pub mod Rooms
