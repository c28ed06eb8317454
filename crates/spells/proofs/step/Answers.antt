-- `spells::step` meets its contract: the tests of the code are the definition's, and each takes it to the month of its case, with its chance
-- where CHANCE says so. Assumes nothing.
use mathlib.Core.Path.{sym, ap, ◌∙◌}
use mathlib.Core.Logic.{inl, inr}
use lib.IntN.{ℤ}
use borrow.Author.Rules.{rules}
use mir.Syntax.{w32, w64}
use mir.Val.{SFits}
use mir.Facts.{to_z-of_z}
use Rattle.spells.specs.Chance.{chance_shown}
use Rattle.spells.specs.Spells.{abating_month, no_spell}
use Rattle.spells.proofs.Chance.{percent-shown, none-shown, steady-shown, abating-shown, no-spell-shown}
use Rattle.spells.proofs.Forced.{percent_for, v-is, percent-is, is-steady, is-ended, is-abating, is-unforced}
use Rattle.spells.proofs.step.Goals as goal
use Rattle.spells.proofs.step.Goals.{then-this-ne0, else-this-ne0, then-wet-is_dry+else-is_steady+else-not-has_ended+then-this-ne0-2, then-wet-is_dry+else-is_steady+else-not-has_ended+else-this-ne0-2, else-wet-is_dry}

pub returns-then-is_steady : goal.returns-then-is_steady
returns-then-is_steady g c =
    let fx : SFits w32 c.args.s.x3 = search rules in
    let fv : SFits w64 c.args.s.v = search rules in
    let fz = c.ranges.z in
    (simp to_z-of_z at c.steady.ensures)
    ∙ steady-shown _ _ _
    ∙ ap (chance_shown _) (sym (is-steady c.args.s c.args.z _ _ fx fv fz c.is_wet-wet.ensures c.is_dry.ensures c.if-wet-is_dry.true _ c.is_steady.ensures c.if-is_steady.true))

pub returns-then-not-has_ended : goal.returns-then-not-has_ended
returns-then-not-has_ended g c =
    let fx : SFits w32 c.args.s.x3 = search rules in
    let fv : SFits w64 c.args.s.v = search rules in
    let fz = c.ranges.z in
    let fk : SFits w64 c.kept_v-v.result = record { sfits = c.kept_v-v.type_inv } in
    (simp to_z-of_z at c.abating.ensures)
    ∙ ap (λ (v : ℤ). abating_month c.args.s v c.args.z c.if-this-ne0.percent)
    (v-is c.args.s c.args.z _ _ fx fv fz c.is_wet-wet.ensures c.is_dry.ensures _ c.kept_v-v.ensures)
    ∙ elim c.if-this-ne0.branch [
      | then-this-ne0 w ↦ (
          ap (abating_month c.args.s _ c.args.z)
          (percent-shown (inl (search rules, w.percent-is ∙ percent-is c.args.s c.args.z _ _ fx fv fz c.is_wet-wet.ensures c.is_dry.ensures _ w.chance-percent.ensures)))
          ∙ abating-shown _ c.args.s _ c.args.z _
          ∙ ap (chance_shown _) (sym (is-abating c.args.s c.args.z _ _ fx fv fz c.is_wet-wet.ensures c.is_dry.ensures c.if-wet-is_dry.true _ _ c.is_steady.ensures c.if-is_steady.false c.has_ended.ensures c.if-not-has_ended.true))
          )
      | else-this-ne0 w ↦ (ap (abating_month c.args.s _ c.args.z) (percent-shown {q = percent_for c.args.s c.args.z} (inr (search rules, w.percent-is)))
          ∙ abating-shown _ c.args.s _ c.args.z _
          ∙ ap (chance_shown _) (sym (is-abating c.args.s c.args.z _ _ fx fv fz c.is_wet-wet.ensures c.is_dry.ensures c.if-wet-is_dry.true _ _ c.is_steady.ensures c.if-is_steady.false c.has_ended.ensures c.if-not-has_ended.true)))
    ]

pub returns : goal.returns
returns g c =
    let fx : SFits w32 c.args.s.x3 = search rules in
    let fv : SFits w64 c.args.s.v = search rules in
    let fz = c.ranges.z in
    (simp to_z-of_z at c.no_spell.ensures)
    ∙ elim c.if-wet-is_dry.branch [
      | then-wet-is_dry+else-is_steady+else-not-has_ended+then-this-ne0-2 w ↦ (
          ap (no_spell c.args.s c.args.z) (percent-shown {q = 100} (inl (search rules, w.percent-is)))
          ∙ no-spell-shown _ c.args.s c.args.z 100
          ∙ ap (chance_shown _) (sym (is-ended c.args.s c.args.z _ _ fx fv fz c.is_wet-wet.ensures c.is_dry.ensures w.if-wet-is_dry.true _ _ w.is_steady.ensures w.if-is_steady.false w.has_ended.ensures w.if-not-has_ended.false))
          )
      | then-wet-is_dry+else-is_steady+else-not-has_ended+else-this-ne0-2 w ↦ (
          ap (no_spell c.args.s c.args.z) (percent-shown {q = 100} (inr (search rules, w.percent-is)))
          ∙ no-spell-shown _ c.args.s c.args.z 100
          ∙ ap (chance_shown _) (sym (is-ended c.args.s c.args.z _ _ fx fv fz c.is_wet-wet.ensures c.is_dry.ensures w.if-wet-is_dry.true _ _ w.is_steady.ensures w.if-is_steady.false w.has_ended.ensures w.if-not-has_ended.false))
          )
      | else-wet-is_dry w ↦ (
          ap (no_spell c.args.s c.args.z) (w.percent-is ∙ none-shown _)
          ∙ no-spell-shown _ c.args.s c.args.z 0
          ∙ ap (chance_shown _) (sym (is-unforced c.args.s c.args.z _ _ fx fv fz c.is_wet-wet.ensures c.is_dry.ensures w.if-wet-is_dry.false))
          )
    ]
