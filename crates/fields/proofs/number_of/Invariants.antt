use Rattle.std.proofs.Common.{◌≡◌, ◌<◌, ◌^◌, drop}
use mathlib.Core.List.{foldl}
use Rattle.text.specs.Bytes.{all_digits, and_digit, natural}
use Rattle.fields.proofs.number_of.Given as goal

abbrev pub invariant-loop-b : goal.invariant-loop-b
invariant-loop-b l =
    record {
      small : l.n < 10 ^ l.b-index;
      digits : all_digits (drop l.b-index l.part) ≡ all_digits l.part;
      makes : foldl and_digit l.n (drop l.b-index l.part) ≡ natural l.part;
    }
