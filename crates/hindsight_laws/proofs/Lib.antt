-- Adding months one by one shows what the forward rule says (Hindsight); so do the columns that `add` leaves (Adds). A step with a state in
-- front of the adding (Promises), and the rows that it gives (Steps).
pub mod Hindsight
pub mod Adds
pub mod Promises
pub mod Steps
