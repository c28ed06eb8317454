-- What must be believed: the modified index (Modified), and worked months of it (Worked).
pub mod Modified
pub mod Worked
-- What only a proof wants: the numbers of an abating month, as facts (Leans).
pub mod Leans
