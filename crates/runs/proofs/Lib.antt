-- The theorems about a run.
pub mod RunLaws
