-- What must be believed: what each call on a run answers, hands back and writes (Calls).
pub mod Calls
