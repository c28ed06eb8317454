-- The laws of the years: where the first January stands, that the years lie inside the run, and that each of their months had water (YearLaws).
pub mod YearLaws
