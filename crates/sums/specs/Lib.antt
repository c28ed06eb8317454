-- What must be believed: the sums of a calendar month over the years, and alpha, beta, gamma and delta (Sums).
pub mod Sums
-- What only a proof wants: sums in their ranges (SumsFit).
pub mod SumsFit
