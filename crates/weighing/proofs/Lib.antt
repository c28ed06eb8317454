-- What is proved of the sixty constants: the weights (WeightLaws), lists by the month (Monthly), and the set (SetLaws).
pub mod WeightLaws
pub mod Monthly
pub mod SetLaws
