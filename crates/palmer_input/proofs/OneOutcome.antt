-- Any two outcomes that the promise of `take` or of `end` allows are the same, the function's or that of `Heard`: where the reading stands with
-- the run in it, the lent lists and the percents. Each promise is an equation of all of these with a definition of the input, and where the
-- reading stands tells the session (`from`). Assumes nothing.
use mathlib.Core.Path.{◌≡◌, refl, sym, ap, ◌∙◌}
use mathlib.Core.Bool.{cond}
use mathlib.Core.List.{List, foldl}
use Prim.Native.Nat.{ℕ}
use lib.Dec.{eqb}
use borrow.Author.Tests.{ne_eqb}
use Rattle.std.specs.Prelude.{Option, Some, None}
use Rattle.outline.specs.Refused.{refusal_number}
use Rattle.outline.specs.declared.Refusal.{Refusal}
use Rattle.outline.proofs.Refused.{refusal_at, refusal_at-number, number-ne-zero}
use Rattle.refusals.specs.Book.{Book}
use Rattle.palmer_input.specs.ByLines.{number_of, Standing, standing, State, state}
use Rattle.palmer_input.specs.Input.{byte_fed, input_ended}
use Rattle.palmer_input.specs.declared.Session.{Session}

abbrev refused_from : ℕ → Option Refusal
refused_from k = cond (eqb k 0) None (Some (refusal_at k))

refused-from-number : (r : Option Refusal) → refused_from (number_of r) ≡ r
refused-from-number None = refl
refused-from-number (Some e) = rw (ne_eqb (refusal_number e) 0 (number-ne-zero e), refusal_at-number e) refl

abbrev from : Standing → Session
from s = record { line = s.line; refused = refused_from s.refused; run = s.run }

from-standing : (s : Session) → from (standing s) ≡ s
from-standing s = ap (λ (r : Option Refusal). record s { refused = r }) (refused-from-number s.refused)

one_outcome : {said : State} {a b : Session} {cs ds : Book} {ps qs : List ℕ} → state a cs ps ≡ said → state b ds qs ≡ said → (a ≡ b) × (cs ≡ ds) × (ps ≡ qs)
one_outcome {said} {a} {b} p q =
    let e = p ∙ sym q in
    (sym (from-standing a) ∙ ap (λ (t : State). from t.session) e ∙ from-standing b, ap (λ (t : State). t.columns) e, ap (λ (t : State). t.percents) e)

pub one-take : (t : State) (bytes : List ℕ) (a b : Session) (cs ds : Book) (ps qs : List ℕ) → state a cs ps ≡ foldl byte_fed t bytes → state b ds qs ≡ foldl byte_fed t bytes → (a ≡ b) × (cs ≡ ds) × (ps ≡ qs)
one-take t bytes a b cs ds ps qs p q = one_outcome p q

pub one_end : (t : State) (a b : Session) (cs ds : Book) (ps qs : List ℕ) → state a cs ps ≡ input_ended t → state b ds qs ≡ input_ended t → (a ≡ b) × (cs ≡ ds) × (ps ≡ qs)
one_end t a b cs ds ps qs p q = one_outcome p q
