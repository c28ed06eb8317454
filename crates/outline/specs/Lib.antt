-- What must be believed: the outline's numbers (Numbers), its table of refusals, with the one way in which a refusal stands in for an
-- answer (Refusals), the number of each refusal of the code (Refused), and a test that is passed at every place (Every).
pub mod Numbers
pub mod Refusals
pub mod Every
pub mod Refused
