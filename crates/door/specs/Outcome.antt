-- An answer in the paper's terms: its number in the table of refusals, its thousandths of an inch, and (document 02, E7) its kind: "The reading
-- answer must tell three things apart: none, trace .., and measured. A trace counts as no water." `outcome` gives all three for each answer of the
-- code, an amount or a refusal, and no two answers the same (proofs/OneAnswer.antt). Assumes nothing.
use Rattle.std.specs.Prelude.{ℕ, zero, suc, Result, Ok, Err}
use Rattle.outline.specs.Refused.{refusal_number}
use Rattle.outline.specs.declared.Refusal.{Refusal}
use Rattle.door.specs.declared.Amount.{Amount}
use Rattle.door.specs.declared.Amount.TheVariants.{Water, Trace}
use Rattle.door.specs.declared.Told.{Told}
use Rattle.door.specs.declared.MonthTold.{MonthTold}
use Rattle.door.specs.declared.MonthKinds.{MonthKinds}

-- ---- the kinds
abbrev pub none : ℕ
none = 0

abbrev pub trace : ℕ
trace = 1

abbrev pub measured : ℕ
measured = 2

-- of thousandths that are no trace
abbrev pub kind_of_water : ℕ → ℕ
kind_of_water zero = none
kind_of_water (suc n) = measured

-- ---- an answer
pub record Outcome : Type 0 where
  pub number : ℕ
  pub water : ℕ
  pub kind : ℕ

-- 0: done
abbrev pub accepted : ℕ → Outcome
accepted n = record { number = 0; water = n; kind = kind_of_water n }

-- 0: "A trace counts as no water."
abbrev pub traced : Outcome
traced = record { number = 0; water = 0; kind = trace }

-- "A refusal returns its number with all figures 0"
abbrev pub refused : ℕ → Outcome
refused k = record { number = k; water = 0; kind = none }

abbrev pub accepted_as : Amount → Outcome
accepted_as (Water n) = accepted n
accepted_as Trace = traced

abbrev pub outcome : Result Amount Refusal → Outcome
outcome (Ok a) = accepted_as a
outcome (Err e) = refused (refusal_number e)

-- an answer as its three numbers
abbrev pub told_as : Told → Outcome
told_as t = record { number = t.number; water = t.water; kind = t.kind }

-- of one month's two readings
pub record MonthOutcomes : Type 0 where
  pub p : Outcome
  pub pe : Outcome

abbrev pub told_month : MonthTold → MonthOutcomes
told_month t = record { p = told_as t.p; pe = told_as t.pe }

abbrev pub kinds_of : Outcome → Outcome → MonthKinds
kinds_of p pe = record { p = p.kind; pe = pe.kind }

-- of a month of no readings: "A whole-number reading of 0 is none, as is a Z-only month."
abbrev pub no_kinds : MonthKinds
no_kinds = record { p = none; pe = none }
