-- A month of water from two readings: which refusal is the definition's, from 1 and 7 on, and what is added where none is. Assumes nothing.
use mathlib.Core.Path.{◌≡◌, refl, sym, ap, ap₂, ◌∙◌}
use mathlib.Core.List.{List}
use Prim.Native.Nat.{ℕ, ◌≤◌}
use lib.IntN.{ℤ}
use Rattle.std.specs.Prelude.{Err}
use Rattle.outline.specs.Refusals.{or_else}
use Rattle.outline.specs.Refused.{refusal_number}
use Rattle.outline.specs.declared.Refusal.{Refusal}
use Rattle.outline.proofs.Refusals.{or-second}
use Rattle.outline.proofs.Refused.{or-refusal}
use Rattle.door.specs.Outcome.{Outcome, accepted_as, refused, kinds_of}
use Rattle.door.specs.Readings.{reading, most_reading}
use Rattle.door.specs.declared.Amount.{Amount}
use Rattle.door.specs.declared.Amount.TheVariants.{Water, Trace}
use Rattle.door.specs.declared.Reading.{Reading}
use Rattle.door.proofs.Bounds.{reading-most}
use Rattle.runs.specs.Progress.{run_of}
use Rattle.runs.specs.declared.Progress.{Progress}
use Rattle.runs.specs.declared.Run.{Run}
use Rattle.refusals.specs.Book.{Book, long}
use Rattle.refusals.specs.Good.{Good}
use Rattle.refusals.specs.Refusals.{run_refusal, room_refusal, water_refusal}
use Rattle.refusals.proofs.Refused.{good-passes}
use Rattle.adding.specs.Taken.{Result, result_of, taken_water}
use Rattle.adding.specs.Progress.{answer_of}
use Rattle.adding.proofs.Answered.{refuses, accepts}
use Rattle.drought.specs.Calls.{add_outcomes, add_water}

-- an amount is no refusal
pub amount-number : (a : Amount) → (accepted_as a).number ≡ 0
amount-number (Water n) = refl
amount-number Trace = refl

module _ (at : Progress) (ks : List ℤ) (p pe : Reading) (cs : Book) where
  abbrev r : Run
  r = run_of at ks

  abbrev room : ℕ
  room = room_refusal (long cs) r.months

  -- what is asked after 1 and 7: "precipitation 8 or 9, PE 8 or 9, 10"
  abbrev number : ℕ
  number = or_else (reading p).number (or_else (reading pe).number room)

  -- the call refuses with e
  abbrev pub Refuses : Refusal → Type 0
  Refuses e = result_of (answer_of (Err e) at ks) cs ≡ add_water r p pe cs

  -- 1 or 7
  pub run-refused : (e : Refusal) → refusal_number e ≡ run_refusal r cs → Refuses e
  unfolding add_water add_outcomes water_refusal
  run-refused e h = refuses _ cs _ at ks e (sym (or-refusal e number) ∙ ap (λ (k : ℕ). or_else k number) h)

  module _ (g : Good r cs) where
    whole : number ≡ water_refusal r (reading p).number (reading pe).number cs
    unfolding water_refusal
    whole = sym (or-second (run_refusal r cs) number (good-passes r cs g))

    refused-as : (e : Refusal) → refusal_number e ≡ number → Refuses e
    unfolding add_water add_outcomes
    refused-as e h = refuses _ cs _ at ks e (h ∙ whole)

    -- precipitation 8 or 9
    pub first-refused : (e : Refusal) → refused (refusal_number e) ≡ reading p → Refuses e
    first-refused e h =
        refused-as e (sym (or-refusal e (or_else (reading pe).number room)) ∙ ap (λ (o : Outcome). or_else o.number (or_else (reading pe).number room)) h)

    module _ (a : Amount) (i : accepted_as a ≡ reading p) where
      first-zero : (reading p).number ≡ 0
      first-zero = ap (λ (o : Outcome). o.number) (sym i) ∙ amount-number a

      after-first : or_else (reading pe).number room ≡ number
      after-first = sym (or-second (reading p).number (or_else (reading pe).number room) first-zero)

      -- PE 8 or 9
      pub second-refused : (e : Refusal) → refused (refusal_number e) ≡ reading pe → Refuses e
      second-refused e h = refused-as e (sym (or-refusal e room) ∙ ap (λ (o : Outcome). or_else o.number room) h ∙ after-first)

      module _ (b : Amount) (j : accepted_as b ≡ reading pe) where
        second-zero : (reading pe).number ≡ 0
        second-zero = ap (λ (o : Outcome). o.number) (sym j) ∙ amount-number b

        after-both : room ≡ number
        after-both = sym (or-second (reading pe).number room second-zero) ∙ after-first

        -- 10
        pub room-refused : (e : Refusal) → refusal_number e ≡ room → Refuses e
        room-refused e h = refused-as e (h ∙ after-both)

        -- the two amounts are what a reading can give
        pub waters : ((accepted_as a).water ≤ most_reading) × ((accepted_as b).water ≤ most_reading)
        waters = (rw i (reading-most p), rw j (reading-most pe))

        -- nothing is refused
        pub accepted : 0 ≡ room → (w : Result) → w ≡ taken_water r (accepted_as a).water (accepted_as b).water (kinds_of (accepted_as a) (accepted_as b)) cs → w ≡ add_water r p pe cs
        unfolding add_water add_outcomes
        accepted z w f =
            accepts _ cs _ r w (z ∙ after-both ∙ whole) (f ∙ ap₂ (λ (o q : Outcome). taken_water r o.water q.water (kinds_of o q) cs) i j)
