-- `reopening::reopen` meets its contract. The loop's invariant is `Going`, whatever the records are: the months from j up to m are open again. Assumes nothing.
use mathlib.Core.Path.{◌≡◌, refl, sym, ◌∙◌}
use mathlib.Core.Bool.{true, false}
use mathlib.Core.List.{List}
use Prim.Native.Nat.{◌-◌, ◌+◌}
use native.Mathlib.Omega.{arith}
use lib.IntN.{ℤ}
use mir.Facts.{to_z-of_z}
use Rattle.spells.specs.Spells.{provisional}
use Rattle.refusals.specs.Book.{Book, book}
use Rattle.reopening.specs.Before.{decided, opens_before}
use Rattle.reopening.proofs.Back.{kept, at_first, turn, none_open, first, stopped, whole, opened}
use Rattle.reopening.proofs.reopen.Goals as goal

pub loop-i-init : goal.loop-i-init
loop-i-init c =
    let a = c.args in
    (refl, refl, (λ records. at_first (book a.x1.now a.x2.now a.x3.now a.index.now a.mark.now records a.v.now) a.m))

pub values_at-s-requires : goal.values_at-s-requires
values_at-s-requires c = (omega arith, omega arith, omega arith, omega arith)

pub overflow_sub-result : goal.overflow_sub-result
overflow_sub-result c = omega arith

pub shape_of-index-then-decided : goal.shape_of-index-then-decided
shape_of-index-then-decided c = c.loop-i.invariant.0

pub shape_of-mark-then-decided : goal.shape_of-mark-then-decided
shape_of-mark-then-decided c = c.loop-i.invariant.1

-- the month before j decided, so none before j is open
pub returns-then-decided : goal.returns-then-decided
returns-then-decided c =
    let a = c.args in
    let lp = c.loop-i in
    let lent : List (List ℤ) → Book = λ records. book a.x1.now a.x2.now a.x3.now a.index.now a.mark.now records a.v.now in
    let did : decided c.values_at-s.result ≡ true = sym c.decided.ensures ∙ c.if-decided.true in
    let stops : (records : List (List ℤ)) → opens_before (lent records) lp.i ≡ 0 = λ records. none_open (lent records) lp.i (omega arith) (rw c.values_at-s.ensures at did) in
    let e : lp.i - 1 + 1 ≡ lp.i = omega arith in
    record {
      value = λ records. rw e (stopped (lent records) a.m lp.i (omega arith) (stops records) lp.index lp.mark (lp.invariant.2 records));
      v_after = λ records. opened (lent records) a.m lp.i (omega arith) (stops records) lp.index lp.mark (lp.invariant.2 records);
    }

pub provisional_of-shown-requires : goal.provisional_of-shown-requires
provisional_of-shown-requires c =
    rw c.values_at-s.ensures (c.requires.sided (c.loop-i.i - 1) (omega arith))

pub offset_bounds-index-i : goal.offset_bounds-index-i
offset_bounds-index-i c = omega arith

pub bounds-index-i : goal.bounds-index-i
bounds-index-i c = omega arith

pub bounds-mark-i : goal.bounds-mark-i
bounds-mark-i c = omega arith

-- the index that is written is the month's provisional one
pub loop-i-preserved : goal.loop-i-preserved
loop-i-preserved c =
    let a = c.args in
    let lp = c.loop-i in
    let lent : List (List ℤ) → Book = λ records. book a.x1.now a.x2.now a.x3.now a.index.now a.mark.now records a.v.now in
    let i = lp.i - 1 in
    let did-not : decided c.values_at-s.result ≡ false = sym c.decided.ensures ∙ c.if-decided.false in
    let shown : c.provisional_of-shown.result ≡ provisional c.values_at-s.result = c.provisional_of-shown.ensures in
    rw (to_z-of_z (record { sfits = c.provisional_of-shown.type_inv })) (
      kept lp.index i c.provisional_of-shown.result lp.invariant.0,
      kept lp.mark i 1 lp.invariant.1,
      (λ records.
          turn (lent records) a.m i lp.i (omega arith) (omega arith) (rw c.values_at-s.ensures at did-not)
          lp.index lp.mark c.provisional_of-shown.result (omega arith) (omega arith) (rw c.values_at-s.ensures at shown) (lp.invariant.2 records)),
    )

pub shape_of-index : goal.shape_of-index
shape_of-index c = c.loop-i.invariant.0

pub shape_of-mark : goal.shape_of-mark
shape_of-mark c = c.loop-i.invariant.1

pub returns : goal.returns
returns c =
    let a = c.args in
    let lp = c.loop-i in
    let lent : List (List ℤ) → Book = λ records. book a.x1.now a.x2.now a.x3.now a.index.now a.mark.now records a.v.now in
    let none : (records : List (List ℤ)) → opens_before (lent records) lp.i ≡ 0 = λ records. first (lent records) lp.i (omega arith) in
    record {
      value = λ records. whole (lent records) a.m lp.i (omega arith) (none records) lp.index lp.mark (lp.invariant.2 records) (omega arith);
      v_after = λ records. opened (lent records) a.m lp.i (omega arith) (none records) lp.index lp.mark (lp.invariant.2 records);
    }
