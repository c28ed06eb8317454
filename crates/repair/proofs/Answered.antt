-- A repair's answer, from what the functions that it calls answer: a refused one hands back what it was given; one that is done leaves what the months are
-- reworked to, and the report of the months that changed since it held what was before. Assumes nothing.
use mathlib.Core.Path.{◌≡◌, sym, ap, ◌∙◌}
use mathlib.Core.List.{List}
use Prim.Native.Nat.{ℕ, ◌≤◌}
use lib.IntN.{ℤ}
use lib.ListN.{length}
use Rattle.outline.specs.Refusals.{unless_refused}
use Rattle.outline.proofs.Refusals.{is-done, is-refused}
use Rattle.door.specs.Outcome.{Outcome}
use Rattle.runs.specs.declared.Run.{Run}
use Rattle.refusals.specs.Book.{Book}
use Rattle.refusals.specs.Lent.{reading_refusal}
use Rattle.report.specs.Report.{reported}
use Rattle.report.specs.Held.{held, changes_since}
use Rattle.report.proofs.Changes.{changes-held, changes-most}
use Rattle.reworking.specs.Reworked.{Left, reworked_from}
use Rattle.repair.specs.Repair.{repair_result, repair_refusal, changed, repaired, not_repaired, repair_outcomes}
use Rattle.repair.proofs.Passes.{joined}

module _ (r : Run) (i : ℕ) (p pe : Outcome) (cs : Book) (report : List (List ℤ)) where
  abbrev asked : ℕ
  asked = repair_refusal r i p.number pe.number cs (length report)

  abbrev worked : Left
  worked = reworked_from r i p.water pe.water p.kind cs

  -- the two readings' numbers may be joined to one, and PE's number and kind then be 0
  pub both-joined : repair_outcomes r i (record { number = reading_refusal p.number pe.number; water = p.water; kind = p.kind }) (record { number = 0; water = pe.water; kind = 0 }) cs report ≡ repair_outcomes r i p pe cs report
  unfolding repair_outcomes
  both-joined =
      ap (λ (k : ℕ). unless_refused k (repaired r.months cs report worked) (not_repaired k r cs report)) (joined r i cs (length report) p.number pe.number)

  pub refuses : (k : ℕ) → k ≡ asked → (k ≡ 0 → ⊥) → not_repaired k r cs report ≡ repair_outcomes r i p pe cs report
  unfolding repair_outcomes
  refuses k e h = ap (λ (n : ℕ). not_repaired n r cs report) e ∙ sym (is-refused asked _ _ (λ z. h (e ∙ z)))

  -- a report that held what was before
  module _ (hold : List (List ℤ)) (e : hold ≡ held cs.index cs.mark (length report)) (l : r.months ≤ length report) where
    abbrev since : Left → List (List ℤ)
    since t = changes_since hold t.columns.index t.columns.mark r.months

    since-is : (t : Left) → since t ≡ changed r.months cs t
    since-is t = rw e (changes-held cs.index t.columns.index cs.mark t.columns.mark (length report) r.months l)

    pub since-most : (t : Left) → length (since t) ≤ r.months
    since-most t = rw (since-is t) (changes-most cs.index t.columns.index cs.mark t.columns.mark r.months)

    pub accepts : asked ≡ 0 → length hold ≡ length report → (t : Left) → t ≡ worked → (k : ℕ) → k ≡ length (since t)
        → (told : List (List ℤ)) → told ≡ reported (length hold) (since t)
        → repair_result (record { number = 0; changed = k; run = t.run }) t.columns told ≡ repair_outcomes r i p pe cs report
    unfolding repair_outcomes
    accepts z n t f k g told h = rw (g, h, n, since-is t) (ap (repaired r.months cs report) f) ∙ sym (is-done asked _ _ z)
