-- `division_session::Session::close_line`: the line is taken, passed over or stops the reading, by what is read of it. Assumes nothing.
use Rattle.std.proofs.Common.{◌≡◌, refl, sym, ap, ◌∙◌, take, List, ℕ, Ok, Err}
use mathlib.Core.Path.{ap₂}
use Rattle.outline.specs.Refused.{refusal_number}
use Rattle.outline.proofs.Refused.{number-ne-zero, one-refusal}
use Rattle.outline.specs.declared.Refusal.TheVariants.{OtherLine}
use Rattle.layout.specs.Rainfall.{Answer, refusal, year_said}
use Rattle.layout.specs.Said.{answer_of}
use Rattle.layout.proofs.Refusals.{number_is}
use Rattle.division_session.specs.ByLines.{expected}
use Rattle.division_session.specs.Session.{Session, seen, closed}
use Rattle.division_session.proofs.Closing.{closing-row, closing-passed, closing-stopped, closing}
use Rattle.division_session.proofs.Room.{accepted-year, room-for-row}
use Rattle.division_session.proofs.Session.close_line.Goals as goal

-- a line whose number is 0 is not refused
unrefused : (line : List ℕ) (s d next : ℕ) (year : Answer) (y : ℕ) → y ≡ expected next line → year ≡ year_said line s d y → year.number ≡ 0 → refusal line s d (expected next line) ≡ 0
unrefused line s d next year y e f n =
    sym (number_is line s d (expected next line)) ∙ sym (ap (λ (y : Answer). y.number) (f ∙ ap (year_said line s d) e)) ∙ n

pub add_row-requires-clause-y_lt_most_years : goal.add_row-requires-clause-y_lt_most_years
add_row-requires-clause-y_lt_most_years c =
    let s = seen c.args.self.now in
    let l = take s.kept c.args.self.now.kept.line in
    let y = c.expected_year-y.ensures in
    rw y (accepted-year l s.state s.division _ (unrefused l s.state s.division s.next (answer_of (Ok c.in-Ok.year)) _ y (rw c.bytes.ensures at c.in-Ok.ensures.value) refl))

pub add_row-requires-clause-most_year_in_bounds : goal.add_row-requires-clause-most_year_in_bounds
add_row-requires-clause-most_year_in_bounds c =
    let s = seen c.args.self.now in
    let l = take s.kept c.args.self.now.kept.line in
    let y = c.expected_year-y.ensures in
    room-for-row s c.args.self.now.kept.line c.args.out.now c.requires (unrefused l s.state s.division s.next (answer_of (Ok c.in-Ok.year)) _ y (rw c.bytes.ensures at c.in-Ok.ensures.value) refl)

-- what is read of a refused line
pub returns-in-OtherLine-clause-out_after : goal.returns-in-OtherLine-clause-out_after
returns-in-OtherLine-clause-out_after c =
    let s = seen c.args.self.now in
    let o = c.args.out.now in
    let year = answer_of (Err c.in-Err.refusal) in
    let l = take s.kept c.args.self.now.kept.line in
    ap (λ (t : Session). closed t o) c.pass_over.ensures.told ∙ sym (closing-passed s o year _ (ap refusal_number c.in-OtherLine.is))
    ∙ closing s o year _ l c.expected_year-y.ensures (rw c.bytes.ensures at c.in-Err.ensures.value)

pub returns-in_default : goal.returns-in_default
returns-in_default c =
    let s = seen c.args.self.now in
    let o = c.args.out.now in
    let e = c.in-Err.refusal in
    let year = answer_of (Err e) in
    let l = take s.kept c.args.self.now.kept.line in
    record {
      out_after = ap (λ (t : Session). closed t o) c.stop.ensures.told ∙ sym (closing-stopped s o year _ (λ h. c.in_default.not-OtherLine (one-refusal e OtherLine h)) (number-ne-zero e))
          ∙ closing s o year _ l c.expected_year-y.ensures (rw c.bytes.ensures at c.in-Err.ensures.value);
      line = c.stop.ensures.line;
    }

pub returns-in-Ok-clause-out_after : goal.returns-in-Ok-clause-out_after
returns-in-Ok-clause-out_after c =
    let s = seen c.args.self.now in
    let o = c.args.out.now in
    let year = answer_of (Ok c.in-Ok.year) in
    let l = take s.kept c.args.self.now.kept.line in
    ap₂ closed c.add_row.ensures.told c.add_row.ensures.out_after ∙ sym (closing-row s o year _ refl)
    ∙ closing s o year _ l c.expected_year-y.ensures (rw c.bytes.ensures at c.in-Ok.ensures.value)
