-- What must be believed: X1 and X2 of a month, before one of them may found a spell (Months), the running values with every sign changed
-- (Mirror), and the worked months (Worked).
pub mod Months
pub mod Mirror
pub mod Worked
-- What only a proof wants: the spell in force and what it comes to, no spell, and what a month shows by its decision (Cases), a month with
-- every sign changed and where the rules are not even-handed (Uneven), and what holds of the values that a fresh run comes to (Reached).
pub mod Cases
pub mod Uneven
pub mod Reached
