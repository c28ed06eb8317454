-- What a line makes of what is held where none before it was refused (Heard); that the program prints what it should (Printed), and which line it
-- refuses (Refused); and worked inputs (Worked).
pub mod Heard
pub mod Printed
pub mod Refused
pub mod Worked
