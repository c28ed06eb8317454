-- What must be believed: a run's year written as a line, or why it is refused (Sending).
pub mod Sending
-- What only a proof wants: the same by the length of what is lent (Steps).
pub mod Steps
