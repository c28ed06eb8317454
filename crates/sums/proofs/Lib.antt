-- What is proved of the sums: each part is within its whole, and so alpha, beta and delta are in their ranges (SumLaws).
pub mod SumLaws
