-- The answer that Rainfall describes, of what the code answers: a year, or a refusal, whose every other figure is 0. Assumes nothing.
use Rattle.std.specs.Prelude.{Result, Ok, Err}
use Rattle.outline.specs.declared.Refusal.{Refusal}
use Rattle.outline.specs.Refused.{refusal_number}
use Rattle.fields.specs.Told.{or_zero}
use Rattle.layout.specs.declared.Year.{Year}
use Rattle.layout.specs.Rainfall.{Answer, refused}

abbrev pub answer_of : Result Year Refusal → Answer
answer_of (Ok y) =
    record { number = 0; amounts = y.amounts; present = y.present; count = y.count; first_missing = or_zero y.first_missing }
answer_of (Err e) = refused (refusal_number e)
