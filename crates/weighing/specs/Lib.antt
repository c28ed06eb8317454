-- What must be believed: what is worked out of a span of years, month by month, and the sixty constants (Weighing).
pub mod Weighing
-- What only a proof wants: the same as stores into lists, and the rows of the years (Stores).
pub mod Stores
