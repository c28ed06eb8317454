-- A fraction and what is left of it, halves away from zero (Halves), the numbers of an abating month as naturals (Mixture), the month by its cases (Laws), and
-- the abating month and the theorems (Abating).
pub mod Halves
pub mod Mixture
pub mod Laws
pub mod Abating
