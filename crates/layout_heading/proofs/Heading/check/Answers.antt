-- `layout_heading::Heading::check`: the two headings are the same but for the year exactly where the first three tests of the definition pass.
-- Assumes nothing.
use Rattle.std.proofs.Common.{◌≡◌, refl, Bool, true, false, ℕ, cond, nat_eq}
use mathlib.Core.Bool.{not, ◌&&◌}
use borrow.Author.Tests.{eq-eqb, ne_eqb}
use Rattle.layout_heading.specs.Steps.{element_refusal}
use Rattle.layout_heading.specs.declared.Heading.{Heading}
use Rattle.layout_heading.proofs.Heading.check.Goals as goal

another_by : (a b d y t : Bool) (n k : ℕ) → y ≡ true → t ≡ not (a && (b && (d && y))) → t ≡ true → k ≡ cond (a && b && d) n k
another_by true true true true t n k e f g = absurd (cc)
another_by true true true false t n k e f g = absurd (cc)
another_by true true false y t n k e f g = refl
another_by true false d y t n k e f g = refl
another_by false b d y t n k e f g = refl

the_same_by : (a b d y t : Bool) (n k : ℕ) → y ≡ true → t ≡ not (a && (b && (d && y))) → t ≡ false → n ≡ cond (a && b && d) n k
the_same_by true true true y t n k e f g = refl
the_same_by true true false y t n k e f g = absurd (cc)
the_same_by true false d y t n k e f g = absurd (cc)
the_same_by false b d y t n k e f g = absurd (cc)

module _ (h a : Heading) (t : Bool) (e : t ≡ not (nat_eq h.state a.state && (nat_eq h.division a.division && (nat_eq h.element a.element && nat_eq a.year a.year)))) where
  abbrev said : ℕ
  said = cond (nat_eq h.year a.year) 0 16

  another : t ≡ true → 15 ≡ element_refusal h.state h.division h.element h.year a.state a.division a.element a.year
  unfolding element_refusal
  another f = another_by (nat_eq h.state a.state) (nat_eq h.division a.division) (nat_eq h.element a.element) (nat_eq a.year a.year) t said 15 (eq-eqb a.year a.year refl) e f

  the_same : t ≡ false → said ≡ element_refusal h.state h.division h.element h.year a.state a.division a.element a.year
  unfolding element_refusal
  the_same f = the_same_by (nat_eq h.state a.state) (nat_eq h.division a.division) (nat_eq h.element a.element) (nat_eq a.year a.year) t said 15 (eq-eqb a.year a.year refl) e f

pub returns-then-ne : goal.returns-then-ne
returns-then-ne c = another c.args.self c.args.asked c.ne.result c.ne.ensures c.if-ne.true

pub returns-then-self-asked : goal.returns-then-self-asked
returns-then-self-asked c =
    rw (ne_eqb c.args.self.year c.args.asked.year c.if-self-asked.true) at (the_same c.args.self c.args.asked c.ne.result c.ne.ensures c.if-ne.false)

pub returns-else-self-asked : goal.returns-else-self-asked
returns-else-self-asked c =
    rw (eq-eqb c.args.self.year c.args.asked.year c.if-self-asked.false) at (the_same c.args.self c.args.asked c.ne.result c.ne.ensures c.if-ne.false)
