-- What a number of 0 says (Refused), and the refusals by the length of what is lent (Lent).
pub mod Refused
pub mod Lent
pub mod Same
