-- What must be believed: the words in which the demands are said (Months), which number each call gives and exactly when (Given, Table), the demands,
-- the programs that they reject (Rejected), the requests said in the same words (Seasons, Mirror, Longer, Recorded, Modified, Traces, Repairs, WorkedOut), and the worked months with the
-- outline's numbers (Pinned) and whole answers (Answered) beside them (Worked).
pub mod Months
pub mod Given
pub mod Table
pub mod Demands
pub mod Rejected
pub mod Seasons
pub mod Mirror
pub mod Longer
pub mod Recorded
pub mod Modified
pub mod Traces
pub mod Repairs
pub mod WorkedOut
pub mod Pinned
pub mod Answered
pub mod Worked
