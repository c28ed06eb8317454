-- What is proved of `layout` beside its promises: each refusal is given exactly where the document says, there is a fault to be told exactly
-- where a line is refused with 14, and no missing month is filled in (Exactly), any two answers are the same (OneAnswer), and worked lines
-- (Worked).
pub mod Exactly
pub mod OneAnswer
pub mod Worked
