-- What must be believed: the five lent columns (Columns), all that is lent (Book) and as the code hands it on (Lists), each call's refusals in
-- their order (Refusals), and neither 1 nor 7, as facts (Good).
pub mod Columns
pub mod Book
pub mod Lists
pub mod Refusals
pub mod Good
-- What only a proof wants: the same by the length of what is lent (Lent).
pub mod Lent
