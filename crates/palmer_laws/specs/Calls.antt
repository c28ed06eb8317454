-- What the program does with its input, call by call, each call by its promise and by nothing else: `palmer_input` reads, `palmer_output` lays
-- out, and what stands before the end of that is printed. No contract can say what is read or written: that the bytes are read in this order and
-- written as they stand is run and compared. Assumes nothing.
use Rattle.std.specs.Prelude.{◌≡◌, ℕ, length, take}
use mathlib.Core.List.{List, [], ◌∷◌, foldl}
use Rattle.rows.specs.Room.{laid}
use Rattle.palmer_input.specs.ByLines.{State, state, fresh}
use Rattle.palmer_input.specs.Input.{byte_fed, input_ended}
use Rattle.palmer_input.specs.declared.Session.{Session}
use Rattle.palmer_output.specs.Output.{laid_out}
use Rattle.palmer_laws.specs.Palmer.{start}

-- `Heard::take`, for each piece in turn, on what the call before left
pub data Takes : State → List (List ℕ) → State → Type 0 where
  none : {t : State} → Takes t [] t
  one_more : {t u v : State} {piece : List ℕ} {pieces : List (List ℕ)} → u ≡ foldl byte_fed t piece → Takes u pieces v → Takes t (piece ∷ pieces) v

-- the program, for an input that comes in these pieces, and of which the rest is not read
pub record Prints (pieces : List (List ℕ)) (rest printed : List ℕ) : Type 0 where
  -- `palmer_input::begin`, with the lists and the percents all zeros
  pub begun : Session
  pub begins : begun ≡ fresh
  pub read : State
  pub takes : Takes (state begun start.columns start.percents) pieces read
  -- the reading stops where the input ends, or where a line is refused
  pub stops : read.session.refused ≡ 0 → rest ≡ []
  -- `Heard::end`
  pub ended : State
  pub ends : ended ≡ input_ended read
  -- `palmer_output::put_heard`, on any list
  pub before : List ℕ
  pub after : List ℕ
  pub end : ℕ
  pub ends_at : end ≡ length (laid_out ended)
  pub lays : after ≡ laid (laid_out ended) 0 before
  -- what is handed to be written
  pub writes : printed ≡ take end after
