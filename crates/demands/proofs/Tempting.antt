-- LAWS THAT TEMPT about wet and dry, and that none of them holds: each theorem takes the law and comes to a contradiction, on months that are
-- worked out here by computation. What does hold is in specs/Mirror.antt. Assumes nothing.
use mathlib.Core.Path.{◌≡◌, refl, sym, ap, ◌∙◌, subst}
use mathlib.Core.List.{List, [], ◌∷◌}
use Prim.Native.Nat.{ℕ, suc, ◌<◌}
use native.Mathlib.Omega.{arith}
use lib.IntN.{ℤ, pos, neg_ℤ}
use lib.Signed.{◌<ℤ◌}
use lib.ListN.{length, replicate}
use Rattle.outline.specs.Numbers.{founds_from, in_force_beyond, length_fits, z_fits}
use Rattle.exact.specs.Nearest.{nearest, nearest_ℕ}
use Rattle.exact.specs.Next.{next_of}
use Rattle.exact.specs.Worked.{minus}
use Rattle.exact.proofs.Z.{zs, is-Z}
use Rattle.water.specs.Layers.{least_capacity, surface_holds, underlying_holds}
use Rattle.spells.specs.declared.Running.{Running}
use Rattle.spells.specs.declared.With.TheVariants.{X1, X2}
use Rattle.spells.specs.Values.{fresh}
use Rattle.spells.specs.Spells.{raised, lowered, larger_in_size, provisional, steady_month, abating_values, abating_month, founded, unfounded, tried, no_spell, ending_month, in_force, step_of}
use Rattle.ending.specs.Ending.{turn, u_of, v_of, e_of, q_of, ending_of, percent_of}
use Rattle.spell_laws.specs.Months.{x2_of}
use Rattle.spell_laws.specs.Cases.{NoneInForce, NoSpell, none}
use Rattle.hindsight.specs.Rule.{Shown}
use Rattle.hindsight.specs.Coded.{state_of}
use Rattle.hindsight.specs.Months.{next_values}
use Rattle.ranges.specs.Ranges.{limit_of, constant_fits, constants_fit_to, calendar_fits}
use Rattle.calendar.specs.Calendar.{constants_at, zero_k_within, next_calendar}
use Rattle.starts.specs.Start.{ones, capacity_fits, storages_fit, month_fits, start_refusal, run_for_z}
use Rattle.starts.proofs.Theorems.{z-starts}
use Rattle.runs.specs.Runs.{soil_fits, sizes_fit, signs_fit, v_fits, is_run}
use Rattle.runs.specs.declared.Run.{Run}
use Rattle.records.specs.Ends.{amounts, ends_meet}
use Rattle.refusals.specs.Book.{Book, lengths_fit}
use Rattle.refusals.specs.Refusals.{is_run_for, run_refusal, room_refusal, z_refusal}
use Rattle.adding.specs.Taken.{taken}
use Rattle.drought.specs.Calls.{add_z}
use Rattle.demands.specs.Mirror.{turned, mirror_run, Given, shown_at}
use Rattle.demands.specs.Demands.{Fresh}
use Rattle.demands.proofs.Rejected.{blank}
use Rattle.std.specs.Prelude.{Some}

-- the running values after a list of Z from a fresh run
abbrev values_after : List ℤ → Running
values_after zs = state_of next_values fresh zs

-- ---- the months that tell

-- a run for Z that holds these values: none of its calls refuses it, and no months from a start lead to it
abbrev holding : Running → Run
holding s =
    record {
      months = run_for_z.months;
      opens = run_for_z.opens;
      calendar = run_for_z.calendar;
      soil = run_for_z.soil;
      values = s;
      constants = run_for_z.constants;
    }

-- X1 5,000 and X2 -5,000, which is its own mirror: with Z 0 both could found a spell, and X1 is tried first
abbrev both : Run
both = holding (record { x1 = pos 5000; x2 = minus 5000; x3 = pos 0; v = pos 0 })

-- X2 -5,000 under X3 -1,000: Z 1,041 ends the drought, and X2 founds another
abbrev under : Run
under = holding (record { x1 = pos 0; x2 = minus 5000; x3 = minus 1000; v = pos 0 })

-- Z 1,500, -673 on a station for Z: X1 224 and X2 -224, and the month is open
abbrev tie : List ℤ
tie = pos 1500 ∷ minus 673 ∷ []

abbrev for_z : Fresh
for_z = record { constants = ones; capacity = pos least_capacity; surface = pos 0; underlying = pos 0; month = pos 1; columns = blank 2; started = z-starts }

abbrev second : List ℤ → Shown
second zs = shown_at for_z zs 1

-- Z -3,000 founds a drought, and 33 times -150 lets X3 creep to -499: no month ended it, and it is in force no more. Z -3,001 founds the next
abbrev lapsing : List ℤ
lapsing = minus 3000 ∷ replicate 33 (minus 150)

abbrev lapsed : Running
lapsed = record { x1 = pos 0; x2 = pos 0; x3 = minus 499; v = pos 0 }

record Worked : Type 0 where
  both_taken : (add_z both (pos 0) (blank 1)).answer.number ≡ 0
  both_x3 : (add_z both (pos 0) (blank 1)).answer.run.values.x3 ≡ pos 4485
  under_taken : (add_z under (pos 1041) (blank 1)).answer.number ≡ 0
  under_percent : (add_z under (pos 1041) (blank 1)).answer.figures.percent ≡ 100
  under_x2 : x2_of under.values (pos 1041) ≡ minus 4138
  tied_given : Given for_z tie
  tied_mark : (second tie).mark ≡ 1
  tied_index : (second tie).index ≡ minus 224
  tied_turned : (second (turned tie)).index ≡ minus 224
  level_decides : (step_of fresh (pos 0)).decision ≡ Some X2
  lapsed_values : values_after lapsing ≡ lapsed
  lapsed_x2 : x2_of lapsed (minus 3001) ≡ minus 1000

worked : Worked
unfolding nearest nearest_ℕ next_of turn u_of v_of e_of q_of ending_of percent_of raised lowered larger_in_size provisional steady_month abating_values abating_month founded unfounded tried no_spell ending_month in_force step_of surface_holds underlying_holds limit_of constant_fits constants_fit_to constants_at zero_k_within calendar_fits next_calendar length_fits z_fits capacity_fits storages_fit month_fits start_refusal soil_fits sizes_fit signs_fit v_fits is_run is_run_for ends_meet amounts lengths_fit run_refusal room_refusal z_refusal taken add_z
worked =
    record {
      both_taken = refl;
      both_x3 = refl;
      under_taken = refl;
      under_percent = refl;
      under_x2 = refl;
      tied_given = (refl, (refl, tt));
      tied_mark = refl;
      tied_index = refl;
      tied_turned = refl;
      level_decides = refl;
      lapsed_values = refl;
      lapsed_x2 = refl;
    }

-- no number but 0 is its own mirror
own : (x : ℤ) → x ≡ neg_ℤ x → x ≡ pos 0
own x = rw (is-Z x) (simp zs (omega arith))

some : (n : ℕ) → pos (suc n) ≡ pos 0 → ⊥
some n = simp zs (omega arith)

-- ---- "from any run": the mirror of any run that the calls take goes on as its mirror
abbrev pub AnyRun : Type 0
AnyRun =
    (r : Run) (z : ℤ) (cs : Book) → (add_z r z cs).answer.number ≡ 0
    → (add_z (mirror_run r) (neg_ℤ z) cs).answer.run ≡ mirror_run (add_z r z cs).answer.run

pub any-run-fails : AnyRun → ⊥
any-run-fails law =
    let x3 = (add_z both (pos 0) (blank 1)).answer.run.values.x3 in
    let e : x3 ≡ neg_ℤ x3 = ap (λ (r : Run). r.values.x3) (law both (pos 0) (blank 1) worked.both_taken) in
    some 4484 (sym worked.both_x3 ∙ own x3 e)

-- .. and in any run a drought that ends leaves X2 above -1,000
abbrev pub AnyRunEnds : Type 0
AnyRunEnds =
    (r : Run) (z : ℤ) (cs : Book) → (add_z r z cs).answer.number ≡ 0 → r.values.x3 <ℤ neg_ℤ (pos in_force_beyond) → (add_z r z cs).answer.figures.percent ≡ 100
    → neg_ℤ (pos founds_from) <ℤ x2_of r.values z

pub any-run-ends-fails : AnyRunEnds → ⊥
any-run-ends-fails law =
    not-above (x2_of under.values (pos 1041)) worked.under_x2 (law under (pos 1041) (blank 1) worked.under_taken (record { lt = tt }) worked.under_percent)
  where
    not-above : (x : ℤ) → x ≡ minus 4138 → neg_ℤ (pos 1000) <ℤ x → ⊥
    not-above x = rw (is-Z x) (simp zs (omega arith))

-- ---- "every provisional index": an open month's index turns about, whatever X1 and X2 are
abbrev pub EveryProvisional : Type 0
EveryProvisional =
    (f : Fresh) (zs : List ℤ) → Given f zs → (i : ℕ) → i < length zs → (shown_at f zs i).mark ≡ 1
    → (shown_at f (turned zs) i).index ≡ neg_ℤ (shown_at f zs i).index

pub every-provisional-fails : EveryProvisional → ⊥
every-provisional-fails law =
    let e = law for_z tie worked.tied_given 1 (omega arith) worked.tied_mark in
    not_own (sym worked.tied_turned ∙ e ∙ ap neg_ℤ worked.tied_index)
  where
    not_own : minus 224 ≡ neg_ℤ (minus 224) → ⊥
    not_own = simp zs (omega arith)

-- ---- "a month that decides with X2 decides with X1 when turned"
abbrev pub DecidesAlike : Type 0
DecidesAlike = (zs : List ℤ) (z : ℤ) → (step_of (values_after zs) z).decision ≡ Some X2 → (step_of (values_after (turned zs)) (neg_ℤ z)).decision ≡ Some X1

pub decides-alike-fails : DecidesAlike → ⊥
decides-alike-fails law = apart (sym worked.level_decides ∙ law [] (pos 0) worked.level_decides)
  where
    apart : Some X2 ≡ Some X1 → ⊥
    apart e = let k : ◌≡◌ {A = ℕ} 0 1 = cc in omega arith

-- ---- a drought that is over, however it went, leaves X2 above -1,000: X3 was below 0, and there is no spell, or one just ended
abbrev pub Lapses : Type 0
Lapses = (zs : List ℤ) (z : ℤ) → (values_after zs).x3 <ℤ pos 0 → NoSpell (values_after zs) z → neg_ℤ (pos founds_from) <ℤ x2_of (values_after zs) z

pub lapses-fails : Lapses → ⊥
lapses-fails law =
    let e = worked.lapsed_values in
    not-above (x2_of (values_after lapsing) (minus 3001)) (ap (λ (s : Running). x2_of s (minus 3001)) e ∙ worked.lapsed_x2)
    (law lapsing (minus 3001) (subst (λ (s : Running). s.x3 <ℤ pos 0) (sym e) (record { lt = tt })) (none (subst NoneInForce (sym e) (record { le = tt }, record { le = tt }))))
  where
    not-above : (x : ℤ) → x ≡ minus 1000 → neg_ℤ (pos 1000) <ℤ x → ⊥
    not-above x = rw (is-Z x) (simp zs (omega arith))
