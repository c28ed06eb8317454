-- Document 02, E1: "Refusals: 14 malformed line or precipitation neither the mark nor 0 to 100 inches, 15 other state, division or element, 16
-- not the expected year, in that order." Here are their numbers; when each is given is Rainfall, of the crate `layout`. Assumes nothing.
use Rattle.std.specs.Prelude.{ℕ}

abbrev pub malformed : ℕ
malformed = 14

abbrev pub another : ℕ
another = 15

abbrev pub not_the_year : ℕ
not_the_year = 16

-- Document 02, E14: "24 such a value, or a state, division or year that doesn't fit its digits, 25 output list too short for the line, in that
-- order, with nothing written"; when each is given is Sent, of the crate `sending`.
abbrev pub unfit : ℕ
unfit = 24

abbrev pub no_room : ℕ
no_room = 25
