-- What only a proof wants: what settling leaves of a group of open months (Groups).
pub mod Groups
