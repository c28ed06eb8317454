-- What the proofs share: a part of a line looked through byte by byte (Parts), the number that digits make (Naturals), and what a field says,
-- by what its parts are (Fields); that a value is written as it is read, and read as it is written (Inverse, Back); and what an option says of a number
-- that 0 stands for none in (Told).
pub mod Parts
pub mod Naturals
pub mod Fields
pub mod Inverse
pub mod Back
pub mod Told
