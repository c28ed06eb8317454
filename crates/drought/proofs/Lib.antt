-- A month of water from two readings: its refusals, and what is added (Readings).
pub mod Readings
pub mod Joined
