-- `reopening::decided` meets its contract: each way by what its tests say. Assumes nothing.
use mathlib.Core.Path.{◌≡◌, ap, ◌∙◌}
use mathlib.Core.Bool.{true, false}
use borrow.Author.Rules.{rules}
use borrow.Author.Tests.{eqb-true, eqb-false, eq-eqb, ne_eqb}
use lib.Dec.{eqb}
use lib.IntN.{ℤ, pos}
use mir.Syntax.{w32, w64}
use mir.Val.{SFits, of_z}
use mir.Facts.{sfits_lit}
use Rattle.outline.proofs.Tests.{alike}
use Rattle.exact.proofs.Held.{same_bits}
use Rattle.spells.specs.Spells.{is_zero}
use Rattle.spells.specs.declared.Running.{Running}
use Rattle.spells.proofs.Choices.{zero_is, zero-not}
use Rattle.reopening.specs.Before.{decided}
use Rattle.reopening.proofs.decided.Goals as goal

-- a test of bits is one of the number
bits-zero : (x : ℤ) → SFits w32 x → eqb (of_z w32 x) 0 ≡ is_zero x
bits-zero x f =
    alike (eqb (of_z w32 x) 0) (is_zero x) (λ e. zero_is x (same_bits {y = pos 0} f (sfits_lit tt) (eqb-true (of_z w32 x) 0 e)))
    (λ e. zero-not x (λ z. eqb-false (of_z w32 x) 0 e (ap (of_z w32) z)))

module _ (s : Running) where
  v-some : (s.v ≡ pos 0 → ⊥) → false ≡ decided s
  unfolding decided
  v-some h = rw (zero-not s.v h)

  x1-none : s.v ≡ pos 0 → s.x1 ≡ pos 0 → true ≡ decided s
  unfolding decided
  x1-none h g = rw (zero_is s.v h, zero_is s.x1 g)

  x1-some : s.v ≡ pos 0 → (s.x1 ≡ pos 0 → ⊥) → is_zero s.x2 ≡ decided s
  unfolding decided
  x1-some h g = rw (zero_is s.v h, zero-not s.x1 g)

pub returns-else-s-eq0 : goal.returns-else-s-eq0
returns-else-s-eq0 c = ne_eqb _ 0 c.if-s-eq0.false ∙ v-some c.args.s (λ e. c.if-s-eq0.false (ap (of_z w64) e))

pub returns-then-s-eq0-2 : goal.returns-then-s-eq0-2
returns-then-s-eq0-2 c =
    let s = c.args.s in
    let f : SFits w64 s.v = search rules in
    let g : SFits w32 s.x1 = search rules in
    eq-eqb _ 0 c.if-s-eq0-2.true ∙ x1-none s (same_bits {y = pos 0} f (sfits_lit tt) c.if-s-eq0.true) (same_bits {y = pos 0} g (sfits_lit tt) c.if-s-eq0-2.true)

pub returns-else-s-eq0-2 : goal.returns-else-s-eq0-2
returns-else-s-eq0-2 c =
    let s = c.args.s in
    let f : SFits w64 s.v = search rules in
    let g : SFits w32 s.x2 = search rules in
    bits-zero s.x2 g ∙ x1-some s (same_bits {y = pos 0} f (sfits_lit tt) c.if-s-eq0.true) (λ e. c.if-s-eq0-2.false (ap (of_z w32) e))
