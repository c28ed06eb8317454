-- What must be believed: a row of water that an add gives, and as what it is read (GivenRows).
pub mod GivenRows
-- What only a proof wants: such rows as facts (Facts).
pub mod Facts
