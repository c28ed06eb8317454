-- What a number, a byte and the end of the input make of what is held, one law for each way through the code. Assumes nothing.
use mathlib.Core.Path.{◌≡◌, refl, ap, ◌∙◌}
use mathlib.Core.Bool.{Bool, true, false, cond}
use mathlib.Core.List.{List}
use Prim.Native.Nat.{ℕ, zero, suc}
use lib.IntN.{ℤ}
use lib.Dec.{ltb}
use native.Mathlib.Omega.{arith}
use borrow.Author.Tests.{eq-eqb, ne_eqb}
use Rattle.std.specs.Prelude.{Option, Some, None}
use Rattle.std.specs.Option.{is_some}
use Rattle.outline.specs.Numbers.{z_fits}
use Rattle.outline.specs.Refusals.{bad_lists, bad_z, not_a_run, full, or_else}
use Rattle.outline.specs.declared.Refusal.{Refusal}
use Rattle.outline.proofs.Refused.{number-ne-zero}
use Rattle.outline.proofs.Refusals.{is-done, is-refused}
use Rattle.text.specs.Bytes.{line_feed}
use Rattle.lines.specs.Line.{Judged}
use Rattle.lines.specs.Reading.{finished}
use Rattle.lines.specs.declared.Line.{Line}
use Rattle.runs.specs.declared.Run.{Run}
use Rattle.refusals.specs.Book.{Book, book, long, columns_fit}
use Rattle.refusals.specs.Refusals.{is_run_of, run_refusal, room_refusal, z_refusal}
use Rattle.drought.specs.Calls.{add_z}
use Rattle.adding.specs.Taken.{Result, result_of, answered, taken, taken_z}
use Rattle.adding.specs.declared.Added.{Added}
use Rattle.palmer_input.specs.ByLines.{number_of, of_added, State, stands, state, percent_kept, after_line, after_add, with_z, heard_as}
use Rattle.palmer_input.specs.Input.{line_closed, with_byte, byte_fed, is_blank, input_ended}
use Rattle.palmer_input.specs.declared.Session.{Session}

-- ---- a refusal has a number, and none has 0
pub none-refused : (r : Option Refusal) → is_some r ≡ false → number_of r ≡ 0
none-refused None h = refl
none-refused (Some e) h = let z : ◌≡◌ {A = ℕ} 0 1 = cc in absurd (omega arith)

pub some-refused : (r : Option Refusal) → is_some r ≡ true → number_of r ≡ 0 → ⊥
some-refused None h k = let z : ◌≡◌ {A = ℕ} 0 1 = cc in absurd (omega arith)
some-refused (Some e) h k = number-ne-zero e k

-- ---- an added Z has one of five numbers
or-of_added : (a b : ℕ) → of_added a ≡ true → of_added b ≡ true → of_added (or_else a b) ≡ true
or-of_added zero b p q = q
or-of_added (suc a) b p q = p

cond-of_added : (t : Bool) (a b : ℕ) → of_added a ≡ true → of_added b ≡ true → of_added (cond t a b) ≡ true
cond-of_added true a b p q = p
cond-of_added false a b p q = q

run-of_added : (run : Run) (cs : Book) → of_added (run_refusal run cs) ≡ true
unfolding of_added run_refusal
run-of_added run cs =
    cond-of_added (columns_fit cs) (cond (is_run_of cs run) 0 not_a_run) bad_lists (cond-of_added (is_run_of cs run) 0 not_a_run refl refl) refl

room-of_added : (n months : ℕ) → of_added (room_refusal n months) ≡ true
unfolding of_added room_refusal
room-of_added n months = cond-of_added (ltb months n) 0 full refl refl

z-of_added : (run : Run) (z : ℤ) (cs : Book) → of_added (z_refusal run z cs) ≡ true
unfolding of_added z_refusal
z-of_added run z cs =
    or-of_added (run_refusal run cs) (or_else (cond (z_fits z) 0 bad_z) (room_refusal (long cs) run.months)) (run-of_added run cs)
    (or-of_added (cond (z_fits z) 0 bad_z) (room_refusal (long cs) run.months) (cond-of_added (z_fits z) 0 bad_z refl refl) (room-of_added (long cs) run.months))

answered-of_added : (k : ℕ) (run : Run) (z : ℤ) (cs : Book) → of_added k ≡ true → of_added (answered k run cs (taken_z run z cs)).answer.number ≡ true
unfolding of_added taken
answered-of_added zero run z cs p = refl
answered-of_added (suc k) run z cs p = p

pub added-number : (run : Run) (z : ℤ) (cs : Book) (a : Added) (ds : Book) → result_of a ds ≡ add_z run z cs → of_added a.number ≡ true
unfolding add_z
added-number run z cs a ds e =
    ap (λ (r : Result). of_added r.answer.number) e ∙ answered-of_added (z_refusal run z cs) run z cs (z-of_added run z cs)

-- ---- a line's Z
pub with-z : (run : Run) (z : ℤ) (cs : Book) (ps : List ℕ) (a : Added) (ds : Book) (qs : List ℕ) (k : ℕ) → result_of a ds ≡ add_z run z cs → k ≡ a.number → qs ≡ percent_kept k run.months a.figures.percent ps → stands (after_line k a.run) ds qs ≡ with_z run z cs ps
unfolding with_z
with-z run z cs ps a ds qs k e p q = rw (q, p) (ap (λ (r : Result). after_add run.months r ps) e)

-- ---- a line, by what it says
pub closed : (line : Line) (j : Judged) (run : Run) (cs : Book) (ps : List ℕ) → j ≡ finished line → heard_as j run cs ps ≡ line_closed line run cs ps
unfolding line_closed
closed line j run cs ps e = ap (λ (k : Judged). heard_as k run cs ps) e

module _ (t : State) where
  -- ---- a byte
  pub byte-closes : (b : ℕ) → t.session.refused ≡ 0 → b ≡ line_feed → byte_fed t b ≡ line_closed t.session.line t.session.run t.columns t.percents
  unfolding byte_fed
  byte-closes b k e = is-done _ _ t k ∙ rw (eq-eqb b line_feed e)

  pub byte-within : (b : ℕ) → t.session.refused ≡ 0 → (b ≡ line_feed → ⊥) → byte_fed t b ≡ with_byte t b
  unfolding byte_fed
  byte-within b k h = is-done _ _ t k ∙ rw (ne_eqb b line_feed h)

  pub byte-refused : (b : ℕ) → (t.session.refused ≡ 0 → ⊥) → byte_fed t b ≡ t
  unfolding byte_fed
  byte-refused b k = is-refused _ _ t k

  -- ---- the end
  pub end-closes : t.session.refused ≡ 0 → is_blank t.session.line ≡ false → input_ended t ≡ line_closed t.session.line t.session.run t.columns t.percents
  unfolding input_ended
  end-closes k e = is-done _ _ t k ∙ rw e

  pub end-blank : t.session.refused ≡ 0 → is_blank t.session.line ≡ true → input_ended t ≡ t
  unfolding input_ended
  end-blank k e = is-done _ _ t k ∙ rw e

  pub end_refused : (t.session.refused ≡ 0 → ⊥) → input_ended t ≡ t
  unfolding input_ended
  end_refused k = is-refused _ _ t k

-- ---- what is held, part by part
pub state-same : {s r : Session} {a1 b1 a2 b2 a3 b3 ai bi av bv : List ℤ} {am bm ps qs : List ℕ} {ar br : List (List ℤ)} → s ≡ r → a1 ≡ b1 → a2 ≡ b2 → a3 ≡ b3 → ai ≡ bi → am ≡ bm → ar ≡ br → av ≡ bv → ps ≡ qs → state s (book a1 a2 a3 ai am ar av) ps ≡ state r (book b1 b2 b3 bi bm br bv) qs
state-same e1 e2 e3 e4 e5 e6 e7 e8 e9 = rw (e1, e2, e3, e4, e5, e6, e7, e8, e9)
