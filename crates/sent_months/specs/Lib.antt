-- What must be believed: what each month of a run's year sends (Sent).
pub mod Sent
-- What only a proof wants: a figure as the code holds it (Signed).
pub mod Signed
