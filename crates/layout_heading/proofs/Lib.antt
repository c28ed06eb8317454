-- What the proofs share with those of `layout`: the first column that is told, and what a heading tells (Headings). And of a heading that is
-- written, that it is read as it was written (Inverse).
pub mod Headings
pub mod Inverse
