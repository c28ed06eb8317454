-- What each helper of the statement of a repaired month rules out, as Helpers.antt has it of the other statements: `corrected`, `KeptWhole`, `Stand` and `blank`. Assumes
-- nothing.
use mathlib.Core.Path.{◌≡◌, refl, sym}
use mathlib.Core.List.{List, [], ◌∷◌, ◌++◌}
use Prim.Native.Nat.{ℕ}
use native.Mathlib.Omega.{arith}
use lib.IntN.{ℤ, pos}
use lib.ListN.{set}
use Rattle.outline.proofs.Refusals.{is-done, is-refused}
use Rattle.door.specs.Readings.{reading, whole}
use Rattle.door.specs.declared.Reading.{Reading}
use Rattle.door.specs.declared.Reading.TheVariants.{Whole}
use Rattle.starts.specs.Start.{run_for_z}
use Rattle.records.specs.Record.{no_record}
use Rattle.records.specs.declared.Record.{Record}
use Rattle.refusals.specs.Book.{book}
use Rattle.demands.specs.Months.{Ask, water, asked, State, standing}
use Rattle.demands.specs.Repairs.{adds, repairs, repair_in, corrected, KeptWhole, Stand, blank}
use Rattle.demands.proofs.Helpers.{apart}

-- ---- `corrected`: a repair that is done puts its readings in place of the month's, and one that is refused changes none; so of an add
module _ (s : State) (asks : List Ask) where
  pub repair-corrects : (i : ℕ) (p pe : Reading) (report : List (List ℤ)) → (repair_in s i p pe report).answer.number ≡ 0 → corrected s asks (repairs i p pe report) ≡ set asks i (water p pe)
  repair-corrects i p pe report z = is-done (repair_in s i p pe report).answer.number _ _ z

  pub refused-corrects : (i : ℕ) (p pe : Reading) (report : List (List ℤ)) → ((repair_in s i p pe report).answer.number ≡ 0 → ⊥) → corrected s asks (repairs i p pe report) ≡ asks
  refused-corrects i p pe report n = is-refused (repair_in s i p pe report).answer.number _ _ n

  pub add-corrects : (a : Ask) → (asked s.run a s.columns).answer.number ≡ 0 → corrected s asks (adds a) ≡ asks ++ (a ∷ [])
  add-corrects a z = is-done (asked s.run a s.columns).answer.number _ _ z

-- ---- `KeptWhole`: no other index and no other mark; what it says of the rest is `Kept`
abbrev holding : ℤ → ℕ → State
holding index mark = standing run_for_z (book (pos 1 ∷ []) (pos 2 ∷ []) (pos 3 ∷ []) (index ∷ []) (mark ∷ []) ((pos 6 ∷ []) ∷ []) (pos 7 ∷ []))

pub keeps : KeptWhole (holding (pos 4) 2) (holding (pos 4) 2) 0
keeps = (record { x1 = refl; x2 = refl; x3 = refl; numbers = refl; v = refl }, refl, refl)

pub keeps-not : (KeptWhole (holding (pos 4) 2) (holding (pos 5) 2) 0 → ⊥) × (KeptWhole (holding (pos 4) 2) (holding (pos 4) 1) 0 → ⊥)
keeps-not = ((λ h. apart refl h.1), (λ h. let e = h.2 in omega arith))

-- ---- `Stand`: 5 and 7 thousandths, measured, stand in a record of these; no other precipitation, no other PE and no other kind does
abbrev kept : ℕ → ℕ → ℕ → Record
kept p pe kind =
    record {
      z = no_record.z;
      p = pos p;
      pe = pos pe;
      et = no_record.et;
      r = no_record.r;
      l = no_record.l;
      ro = no_record.ro;
      ss = no_record.ss;
      su = no_record.su;
      surface = no_record.surface;
      underlying = no_record.underlying;
      water = no_record.water;
      modified = no_record.modified;
      kind = pos kind;
    }

abbrev Stands : ℕ → ℕ → ℕ → Type 0
Stands p pe kind = Stand (Whole (pos 5)) (Whole (pos 7)) (kept p pe kind)

pub stand : Stands 5 7 2
unfolding reading whole
stand = (refl, refl, refl)

pub stand-not : (Stands 6 7 2 → ⊥) × (Stands 5 8 2 → ⊥) × (Stands 5 7 1 → ⊥)
unfolding reading whole
stand-not = ((λ h. apart refl h.0), (λ h. apart refl h.1), (λ h. apart refl (sym h.2)))

-- ---- `blank`: five zeros at each place
pub blanks : blank 2 ≡ (pos 0 ∷ pos 0 ∷ pos 0 ∷ pos 0 ∷ pos 0 ∷ []) ∷ (pos 0 ∷ pos 0 ∷ pos 0 ∷ pos 0 ∷ pos 0 ∷ []) ∷ []
blanks = refl
