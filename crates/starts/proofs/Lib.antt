-- What a start's numbers and its refusals say (StartLaws), and the theorems about a start (Theorems).
pub mod StartLaws
pub mod Theorems
