-- Spells that end, as `Ends` of specs/Mirror.antt states it: what a fresh run comes to is never beyond what `dry-over` and `wet-over` ask of it, and
-- -550 is reached by 46 months that are worked out. Assumes nothing.
use mathlib.Core.Path.{◌≡◌, refl, sym, ap, ◌∙◌, subst}
use mathlib.Core.Bool.{true}
use mathlib.Core.List.{List, map}
use Prim.Native.Nat.{suc, ◌≤◌, ◌<◌}
use native.Mathlib.Omega.{arith}
use lib.IntN.{ℤ, pos, neg_ℤ}
use lib.Signed.{◌<ℤ◌}
use lib.ListN.{length}
use Rattle.outline.specs.Numbers.{z_fits}
use Rattle.exact.specs.Nearest.{nearest, nearest_ℕ}
use Rattle.exact.specs.Next.{next_of}
use Rattle.spells.specs.Values.{fresh as fresh-values}
use Rattle.spells.specs.Spells.{raised, lowered, larger_in_size, provisional, steady_month, abating_values, abating_month, founded, unfounded, tried, no_spell, ending_month, in_force, step_of}
use Rattle.ending.specs.Ending.{turn, u_of, v_of, e_of, q_of, ending_of, percent_of}
use Rattle.spells.specs.declared.Running.{Running}
use Rattle.spell_laws.specs.Reached.{Reached}
use Rattle.spell_laws.proofs.Reached.{fresh-reached, dry-over, wet-over}
use Rattle.hindsight.specs.Coded.{state_of}
use Rattle.hindsight.specs.Months.{next_values}
use Rattle.refusals.specs.Book.{long, columns_fit}
use Rattle.adding.specs.declared.Figures.{Figures}
use Rattle.demands.specs.Months.{Ask, anomaly, asked, State, Accepted}
use Rattle.demands.specs.Demands.{Fresh, first, now}
use Rattle.demands.specs.Mirror.{reaching, ending, Ends}
use Rattle.demands.proofs.Honest.{good-now}
use Rattle.demands.proofs.Sequence.{months-all, long-all, reached-after}
use Rattle.demands.proofs.Shown.{figures-are}
use Rattle.demands.proofs.Singly.{accepts-z, singly-accepted}
use Rattle.demands.proofs.Mirror.{run-values}

-- the 46 months, worked out: 45 draw X2 to X3, and the last ends the drought
level : Running
level = record { x1 = pos 0; x2 = neg_ℤ (pos 578); x3 = neg_ℤ (pos 578); v = pos 2560 }

reaches : (state_of next_values fresh-values reaching ≡ level) × ((step_of level ending).percent ≡ 100) × ((step_of level ending).after.x2 ≡ neg_ℤ (pos 550))
unfolding nearest nearest_ℕ next_of turn u_of v_of e_of q_of ending_of percent_of raised lowered larger_in_size provisional steady_month abating_values abating_month founded unfounded tried no_spell ending_month in_force step_of level
reaches = (refl, refl, refl)

module _ (f : Fresh) where
  reached-at : (asks : List Ask) → Accepted (first f) asks → Reached (now f asks).run.values
  reached-at asks h = reached-after (first f) asks fresh-reached h

  abbrev before : List Ask → State
  before asks = now f asks

  -- the series that reaches -550 is accepted wherever there is room for it
  module _ (fit : columns_fit f.columns ≡ true) (l : suc (length reaching) ≤ long f.columns) where
    accepts : Accepted (first f) (map anomaly reaching)
    unfolding z_fits
    accepts = singly-accepted f reaching fit (omega arith) refl

    last : (asked (before (map anomaly reaching)).run (anomaly ending) (before (map anomaly reaching)).columns).answer.number ≡ 0
    unfolding z_fits
    last =
        accepts-z (before (map anomaly reaching)).run (before (map anomaly reaching)).columns ending
        (good-now f fit (map anomaly reaching))
        (omega (arith, months-all (first f) (map anomaly reaching) accepts, long-all (first f) (map anomaly reaching) accepts))
        refl

    at-578 : (before (map anomaly reaching)).run.values ≡ level
    at-578 = run-values f reaching accepts ∙ reaches.0

    reached-550 :
        Accepted (first f) (map anomaly reaching)
        × ((asked (before (map anomaly reaching)).run (anomaly ending) (before (map anomaly reaching)).columns).answer.number ≡ 0)
        × ((before (map anomaly reaching)).run.values.x3 <ℤ neg_ℤ (pos 500))
        × ((asked (before (map anomaly reaching)).run (anomaly ending) (before (map anomaly reaching)).columns).answer.figures.percent ≡ 100)
        × ((asked (before (map anomaly reaching)).run (anomaly ending) (before (map anomaly reaching)).columns).answer.figures.x2 ≡ neg_ℤ (pos 550))
    unfolding level
    reached-550 =
        let e = figures-are (before (map anomaly reaching)).run (anomaly ending) (before (map anomaly reaching)).columns last in (
          accepts,
          last,
          subst (λ (v : Running). v.x3 <ℤ neg_ℤ (pos 500)) (sym at-578) (record { lt = tt }),
          ap (λ (g : Figures). g.percent) e ∙ ap (λ (v : Running). (step_of v ending).percent) at-578 ∙ reaches.1,
          ap (λ (g : Figures). g.x2) e ∙ ap (λ (v : Running). (step_of v ending).after.x2) at-578 ∙ reaches.2,
        )

  pub ends : Ends f
  ends =
      record {
        drought = λ asks a h e n p. rw (figures-are _ a _ e) (dry-over _ _ (reached-at asks h) n (sym (ap (λ (f : Figures). f.percent) (figures-are _ a _ e)) ∙ p));
        wet = λ asks a h e n p. rw (figures-are _ a _ e) (wet-over _ _ (reached-at asks h) n (sym (ap (λ (f : Figures). f.percent) (figures-are _ a _ e)) ∙ p));
        reached = reached-550;
      }
