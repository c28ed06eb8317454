-- What must be believed: what the program `palmer` prints for an input (Palmer).
pub mod Palmer
-- What only a proof wants: the program's calls, each by its promise (Calls), and which line is refused, and with which number (Refused).
pub mod Calls
pub mod Refused
