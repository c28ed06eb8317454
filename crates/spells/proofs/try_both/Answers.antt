-- `spells::try_both` meets its contract: each test takes the definition one choice further. Assumes nothing.
use mathlib.Core.Path.{◌≡◌, sym, ap, ◌∙◌}
use lib.IntN.{ℤ, pos, negsuc}
use lib.Signed.{◌≤ℤ◌, ◌<ℤ◌}
use mir.Syntax.{w32}
use mir.Val.{SFits, of_z}
use mir.Facts.{to_z-of_z, sfits_lit}
use Rattle.exact.proofs.Z.{le_yes, le-no}
use Rattle.exact.proofs.Held.{same_bits}
use Rattle.spells.specs.Spells.{unfounded}
use Rattle.spells.proofs.Choices.{tried-first, tried-second, tried-x1, tried-x2, tried_open}
use Rattle.spells.proofs.try_both.Goals as goal
use Rattle.spells.proofs.try_both.Goals.{Then-x1-ge-FOUNDS, Else-x1-ge-FOUNDS, Then-x2, Else-x2, Else-x1-eq0}
use Rattle.std.specs.Prelude.{None}

-- X1 founds
first : (c : Then-x1-ge-FOUNDS) → pos 1000 ≤ℤ c.args.x1
first c =
    let f1 = c.ranges.x1 in
    let f2 = c.ranges.x2 in
    le_yes (pos 1000) c.args.x1 (simp to_z-of_z at c.if-x1-ge-FOUNDS.true)

pub returns-then-x1-ge-FOUNDS : goal.returns-then-x1-ge-FOUNDS
returns-then-x1-ge-FOUNDS c =
    let f = c.ranges.x1 in
    (simp to_z-of_z at c.found.ensures) ∙ sym (tried-first c.args.x1 c.args.x2 c.args.percent (first c.before))

-- X1 does not
not_first : (c : Else-x1-ge-FOUNDS) → c.args.x1 <ℤ pos 1000
not_first c = let f = c.ranges.x1 in le-no (pos 1000) c.args.x1 (simp to_z-of_z at c.if-x1-ge-FOUNDS.false)

-- X2 founds
second : (c : Then-x2) → c.args.x2 ≤ℤ negsuc 999
second c = let f = c.ranges.x2 in le_yes c.args.x2 (negsuc 999) (simp to_z-of_z at c.if-x2.true)

pub returns-then-x2 : goal.returns-then-x2
returns-then-x2 c =
    let f = c.ranges.x2 in
    (simp to_z-of_z at c.found-then-x2.ensures) ∙ sym (tried-second c.args.x1 c.args.x2 c.args.percent (not_first c.before.before) (second c.before))

-- X2 does not
not-second : (c : Else-x2) → negsuc 999 <ℤ c.args.x2
not-second c = let f = c.ranges.x2 in le-no c.args.x2 (negsuc 999) (simp to_z-of_z at c.if-x2.false)

pub returns-then-x1-eq0 : goal.returns-then-x1-eq0
returns-then-x1-eq0 c =
    let f1 = c.ranges.x1 in
    let f2 = c.ranges.x2 in
    (simp to_z-of_z at c.leave.ensures)
    ∙ sym (tried-x2 c.args.x1 c.args.x2 c.args.percent (not_first c.before.before.before) (not-second c.before.before)
    (same_bits {y = pos 0} f1 (sfits_lit tt) c.if-x1-eq0.true))

some-x1 : (c : Else-x1-eq0) → c.args.x1 ≡ pos 0 → ⊥
some-x1 c e = c.if-x1-eq0.false (ap (of_z w32) e)

pub returns-then-x2-eq0 : goal.returns-then-x2-eq0
returns-then-x2-eq0 c =
    let f1 = c.ranges.x1 in
    let f2 = c.ranges.x2 in
    (simp to_z-of_z at c.leave-then-x2-eq0.ensures)
    ∙ sym (tried-x1 c.args.x1 c.args.x2 c.args.percent (not_first c.before.before.before.before) (not-second c.before.before.before)
    (some-x1 c.before.before) (same_bits {y = pos 0} f2 (sfits_lit tt) c.if-x2-eq0.true))

pub returns : goal.returns
returns c =
    let f1 = c.ranges.x1 in
    let f2 = c.ranges.x2 in
    let fi : SFits w32 c.larger_in_size.result = record { sfits = c.larger_in_size.type_inv } in
    (simp to_z-of_z at c.leave-2.ensures)
    ∙ ap (λ (i : ℤ). unfounded c.args.x1 c.args.x2 None i c.args.percent) (simp to_z-of_z at c.larger_in_size.ensures)
    ∙ sym (tried_open c.args.x1 c.args.x2 c.args.percent (not_first c.before.before.before.before.before) (not-second c.before.before.before.before)
    (some-x1 c.before.before.before) (λ e. c.if-x2-eq0.false (ap (of_z w32) e)))
