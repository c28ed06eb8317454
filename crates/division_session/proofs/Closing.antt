-- A line that is closed, by its number; and what a refusal leaves. Assumes nothing.
use mathlib.Core.Path.{◌≡◌, refl, sym, ap, ap₂, ◌∙◌}
use mathlib.Core.List.{List}
use Prim.Native.Nat.{ℕ, zero, suc}
use mathlib.Core.Bool.{true, false}
use lib.ListN.{take}
use Rattle.std.specs.Prelude.{Option, Some, None, is_some}
use Rattle.std.specs.Option.{unwrap_or}
use Rattle.outline.specs.declared.Refusal.{Refusal}
use Rattle.outline.proofs.Refused.{number-ne-zero}
use Rattle.outline.proofs.Refusals.{is-done, is-refused}
use Rattle.fields.specs.Told.{unless_zero, or_zero}
use Rattle.fields.proofs.Told.{told_some, told_some_is}
use borrow.Author.Tests.{eq-eqb, ne_eqb}
use Rattle.fields.specs.Refusals.{another}
use Rattle.layout.specs.Rainfall.{Answer, year_said, year_of}
use Rattle.rows.specs.Room.{laid}
use Rattle.division_session.specs.ByLines.{expected}
use Rattle.division_session.specs.Session.{Session, closed, row_text, with_row, passed, stopped, closed_by, closed_with, line_closed, last_closed, with_refusal, none_found, stopped_by}

-- ---- the year that a line must have
pub first : (next : Option ℕ) (line : List ℕ) (said : Option ℕ) (y : ℕ) → next ≡ None → y ≡ unwrap_or said 0 → or_zero said ≡ year_of line → y ≡ expected (or_zero next) line
unfolding expected
first next line None y e f g = rw e (f ∙ g)
first next line (Some n) y e f g = rw e (f ∙ g)

later : (n : ℕ) (line : List ℕ) → (n ≡ 0 → ⊥) → expected n line ≡ n
unfolding expected
later zero line e = absurd (e refl)
later (suc n) line e = refl

pub following : (next : Option ℕ) (y : ℕ) (line : List ℕ) → next ≡ unless_zero (or_zero next) → next ≡ Some y → expected (or_zero next) line ≡ y
following next y line a e = let t = told_some (or_zero next) y (sym a ∙ e) in later (or_zero next) line t.1 ∙ t.0

-- ---- whether the reading has stopped, and whether a line has been taken
pub going : (refused : Option Refusal) → is_some refused ≡ false → stopped_by refused ≡ 0
going None e = refl
going (Some r) e = absurd (cc)

pub halted : (refused : Option Refusal) → is_some refused ≡ true → stopped_by refused ≡ 0 → ⊥
halted None e h = absurd (cc)
halted (Some r) e h = number-ne-zero r h

pub unstarted : (next : Option ℕ) → is_some next ≡ false → or_zero next ≡ 0
unstarted None e = refl
unstarted (Some n) e = absurd (cc)

pub started : (next : Option ℕ) → next ≡ unless_zero (or_zero next) → is_some next ≡ true → or_zero next ≡ 0 → ⊥
started next a e = told_some_is (or_zero next) next a e

-- ---- the end
module _ (s : Session) where
  pub none-told : s.refused ≡ 0 → s.next ≡ 0 → none_found s ≡ with_refusal s another
  unfolding none_found
  none-told e f = rw (eq-eqb s.refused 0 e, eq-eqb s.next 0 f)

  pub none-halted : (s.refused ≡ 0 → ⊥) → none_found s ≡ s
  unfolding none_found
  none-halted e = rw (ne_eqb s.refused 0 e)

  pub none-started : s.refused ≡ 0 → (s.next ≡ 0 → ⊥) → none_found s ≡ s
  unfolding none_found
  none-started e f = rw (eq-eqb s.refused 0 e, ne_eqb s.next 0 f)

  module _ (line out : List ℕ) where
    pub last-line : s.refused ≡ 0 → (s.kept ≡ 0 → ⊥) → last_closed s line out ≡ line_closed s (take s.kept line) out
    unfolding last_closed
    last-line e f = is-done s.refused _ (closed s out) e ∙ rw (ne_eqb s.kept 0 f)

    pub last-none : s.refused ≡ 0 → s.kept ≡ 0 → last_closed s line out ≡ closed s out
    unfolding last_closed
    last-none e f = is-done s.refused _ (closed s out) e ∙ rw (eq-eqb s.kept 0 f)

    pub last-halted : (s.refused ≡ 0 → ⊥) → last_closed s line out ≡ closed s out
    unfolding last_closed
    last-halted e = is-refused s.refused _ (closed s out) e

-- ---- a line closed
module _ (s : Session) (out : List ℕ) (year : Answer) (y : ℕ) where
  pub closing-row : year.number ≡ 0 → closed_with s out year y ≡ closed (with_row s year y) (laid (row_text year y) s.end out)
  closing-row e = ap (λ (k : ℕ). closed_by k s out year y) e

  pub closing-passed : year.number ≡ another → closed_with s out year y ≡ closed (passed s) out
  closing-passed e = ap (λ (k : ℕ). closed_by k s out year y) e

  stops-by : (k : ℕ) → (k ≡ another → ⊥) → (k ≡ 0 → ⊥) → closed_by k s out year y ≡ closed (stopped s k) out
  stops-by zero e f = absurd (f refl)
  stops-by (suc k) e f = rw (ne_eqb (suc k) another e)

  pub closing-stopped : (year.number ≡ another → ⊥) → (year.number ≡ 0 → ⊥) → closed_with s out year y ≡ closed (stopped s year.number) out
  closing-stopped e f = stops-by year.number e f

  pub closing : (line : List ℕ) → y ≡ expected s.next line → year ≡ year_said line s.state s.division y → closed_with s out year y ≡ line_closed s line out
  unfolding line_closed
  closing line e f = ap₂ (closed_with s out) (f ∙ ap (year_said line s.state s.division) e) e
