-- The laws of the calendar.
pub mod CalendarLaws
