-- What the proofs share: a byte more, and that what is lent is enough (Fed), and a part of a line (Part). That the reading is by lines is
-- proved in the crate `division_laws`.
pub mod Fed
pub mod Part
