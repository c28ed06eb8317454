-- What must be believed: a month's row, a refusal and a year's row as text (Text).
pub mod Text
-- What only a proof wants: bytes laid into a list, and the most that a row can have (Room).
pub mod Room
