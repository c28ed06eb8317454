-- What only a proof wants: each Z in its range, and the open months of a group, as settling has them (Sides).
pub mod Sides
