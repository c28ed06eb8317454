-- What must be believed: the capacity and the two layers (Layers), the ranges of a month's five constants (Constants), the balance
-- (Balance), the potentials, N, CAFEC and Z (Expected), and the worked months (Worked).
pub mod Layers
pub mod Constants
pub mod Balance
pub mod Expected
pub mod Worked
-- What only a proof wants: a month's constants as facts, and the most that N comes to (Bounds).
pub mod Bounds
