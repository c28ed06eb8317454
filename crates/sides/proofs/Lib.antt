-- What the functions' proofs cite: a column that is rewritten (Rewriting), and the group that is settled in it (Settling).
pub mod Rewriting
pub mod Settling
