-- What must be believed: what is proved of a record that is sent out (SentOut).
pub mod SentOut
