-- How large a calendar month's departures come to be (DepartureLaws).
pub mod DepartureLaws
