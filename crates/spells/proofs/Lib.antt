-- What the definitions of one month choose, case by case (Choices), the same without the chance (Chance), and which case the calls of a step tell
-- (Forced).
pub mod Choices
pub mod Chance
pub mod Forced
