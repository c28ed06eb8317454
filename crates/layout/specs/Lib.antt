-- What must be believed: what a line says of a year's precipitation, or why it is refused (Rainfall), what that is of the code's answer
-- (Said), and where a person must look when it
-- is refused with 14 (Fault). They speak of the crates `fields`, `layout_months` and `layout_heading`.
pub mod Rainfall
pub mod Said
pub mod Fault
-- What only a proof wants: the fault of what follows a line's heading (Steps).
pub mod Steps
