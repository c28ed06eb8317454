-- The theorems about the whole series (SeriesLaws), and the test of each Z, which the functions' proofs cite (EachZ).
pub mod EachZ
pub mod SeriesLaws
