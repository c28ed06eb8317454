-- What is proved of the tests of the rows: as facts (Ranges), and list by list (Lists).
pub mod Ranges
pub mod Lists
