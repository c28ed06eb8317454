-- A byte more, by what came before; and what is lent is enough, whatever comes. Assumes nothing.
use mathlib.Core.Path.{◌≡◌, refl, ◌∙◌}
use mathlib.Core.Bool.{Bool, true, false, ◌&&◌}
use mathlib.Core.List.{List, [], ◌∷◌, foldl}
use Prim.Native.Nat.{ℕ, ◌≤◌}
use native.Mathlib.Omega.{arith}
use lib.Dec.{eqb}
use lib.ListN.{length, take, set, length-set}
use borrow.Author.Tests.{eq-eqb, ne_eqb}
use Rattle.text.specs.Bytes.{line_feed}
use Rattle.fields.specs.Refusals.{another}
use Rattle.kept_line.specs.Kept.{most_kept, is_kept, kept_count, kept_line}
use Rattle.kept_line.proofs.Parts.{kept-within}
use Rattle.division_session.specs.Session.{Session, Held, line_closed, last_closed, with_refusal, none_found}
use Rattle.outline.proofs.Refusals.{is-done, is-refused, holds_of}
use Rattle.division_session.proofs.Room.{cond-so, HeldBy, held-closed, held-last}
use Rattle.division_input.specs.Input.{State, after_line, byte_kept, byte_fed, input_ended}

module _ (t : State) (b : ℕ) where
  pub byte-refused : (t.session.refused ≡ 0 → ⊥) → byte_fed t b ≡ t
  unfolding byte_fed
  byte-refused e = is-refused _ _ t e

  pub byte-closes : t.session.refused ≡ 0 → b ≡ line_feed → byte_fed t b ≡ after_line t (line_closed t.session (take t.session.kept t.line) t.out)
  unfolding byte_fed
  byte-closes e f = is-done _ _ t e ∙ rw (eq-eqb b line_feed f)

  pub byte-within : t.session.refused ≡ 0 → (b ≡ line_feed → ⊥) → byte_fed t b ≡ byte_kept t b
  unfolding byte_fed
  byte-within e f = is-done _ _ t e ∙ rw (ne_eqb b line_feed f)

-- ---- what is held, of a whole state
abbrev pub HeldIn : State → Type 0
HeldIn t = Held t.session t.line t.out

-- ---- whatever comes
count_by : (kept b : ℕ) (t : Bool) → is_kept kept b ≡ t → kept ≤ most_kept → kept_count kept b ≤ most_kept
unfolding kept_count
count_by kept b true e h = rw e (omega (arith, kept-within kept b e))
count_by kept b false e h = rw e h

length-kept : (kept b : ℕ) (line : List ℕ) → length (kept_line kept b line) ≡ length line
unfolding kept_line
length-kept kept b line = cond-so (λ l. length l ≡ length line) (is_kept kept b) (set line kept b) line (length-set line kept b) refl

pub held-byte : (t : State) (b : ℕ) → HeldIn t → HeldIn (byte_fed t b)
unfolding byte_fed
held-byte t b h =
    let kept = t.session.kept in
    holds_of HeldIn t.session.refused _ t
    (cond-so HeldIn (eqb b line_feed) _ (byte_kept t b) (held-closed _ t.line _ h) (omega (arith, count_by kept b _ refl h.0, length-kept kept b t.line))) h

pub held_bytes : (t : State) (bs : List ℕ) → HeldIn t → HeldIn (foldl byte_fed t bs)
held_bytes t [] h = h
held_bytes t (b ∷ bs) h = held_bytes (byte_fed t b) bs (held-byte t b h)

pub held-ended : (s : Session) (line out : List ℕ) → Held s line out → HeldBy line (input_ended s line out)
unfolding input_ended none_found
held-ended s line out h =
    let u = (last_closed s line out).session in
    let l = held-last s line out h in
    cond-so (λ (v : Session). Held v line (last_closed s line out).out) (eqb u.refused 0 && eqb u.next 0) (with_refusal u another) u l l
