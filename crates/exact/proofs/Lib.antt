-- The kit for signed numbers (Z, Orders, Held), and the laws of `nearest` and `next_of`.
pub mod Z
pub mod Orders
pub mod Held
pub mod Nearest
pub mod Moved
pub mod NextLaws
