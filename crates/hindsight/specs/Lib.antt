-- What must be believed: the rule that looks forward (Rule), the rule that adds month by month (Adding), what the lent columns hold
-- (Columns), and a month of spells as both rules have it (Months).
pub mod Rule
pub mod Adding
pub mod Columns
pub mod Months
-- What only a proof wants: decisions, sides and rows as the code has them, and what an add leaves, fact by fact (Coded).
pub mod Coded
