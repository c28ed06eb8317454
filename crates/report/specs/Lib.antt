-- What must be believed: the months that changed, as the report has them (Report).
pub mod Report
-- What only a proof wants: the values of before, held in the report while months are reworked (Held).
pub mod Held
