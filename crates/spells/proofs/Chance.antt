-- The months of each case, with their chance or without. Assumes nothing.
use mathlib.Core.Path.{◌≡◌, refl}
use mathlib.Core.Bool.{Bool, true, false, cond}
use mathlib.Core.Logic.{◌⊎◌, inl, inr}
use Prim.Native.Nat.{ℕ}
use lib.IntN.{ℤ, pos, neg_ℤ}
use lib.Signed.{le_z}
use Rattle.outline.specs.Numbers.{founds_from}
use Rattle.spells.specs.Spells.{is_zero, larger_in_size, steady_month, abating_month, founded, unfounded, tried, no_spell}
use Rattle.spells.specs.Chance.{without_chance, chance_shown}
use Rattle.spells.specs.declared.Running.{Running}
use Rattle.spells.specs.declared.With.TheVariants.{X1, X2}
use Rattle.std.specs.Prelude.{None, Some}

-- the percent of a month with its chance, 0 without
pub percent-shown : {b : Bool} {p q : ℕ} → ((b ≡ true) × (p ≡ q)) ⊎ ((b ≡ false) × (p ≡ 0)) → p ≡ cond b q 0
percent-shown (inl (b, p)) = rw b p
percent-shown (inr (b, p)) = rw b p

pub none-shown : (b : Bool) → ◌≡◌ {A = ℕ} 0 (cond b 0 0)
none-shown true = refl
none-shown false = refl

pub steady-shown : (b : Bool) (x3 z : ℤ) → steady_month x3 z ≡ chance_shown b (steady_month x3 z)
unfolding steady_month
steady-shown true x3 z = refl
steady-shown false x3 z = refl

pub abating-shown : (b : Bool) (s : Running) (v z : ℤ) (percent : ℕ) → abating_month s v z (cond b percent 0) ≡ chance_shown b (abating_month s v z percent)
unfolding abating_month
abating-shown true s v z percent = refl
abating-shown false s v z percent = refl

tried-bare : (x1 x2 : ℤ) (percent : ℕ) → tried x1 x2 0 ≡ without_chance (tried x1 x2 percent)
unfolding tried founded unfounded
tried-bare x1 x2 percent = go (le_z (pos founds_from) x1) (le_z x2 (neg_ℤ (pos founds_from))) (is_zero x1) (is_zero x2)
  where
    go : (a b c d : Bool)
        → cond a (founded x1 (Some X1) 0) (cond b (founded x2 (Some X2) 0) (cond c (unfounded x1 x2 (Some X2) x2 0) (cond d (unfounded x1 x2 (Some X1) x1 0) (unfounded x1 x2 None (larger_in_size x1 x2) 0))))
        ≡ without_chance (cond a (founded x1 (Some X1) percent) (cond b (founded x2 (Some X2) percent) (cond c (unfounded x1 x2 (Some X2) x2 percent) (cond d (unfounded x1 x2 (Some X1) x1 percent) (unfounded x1 x2 None (larger_in_size x1 x2) percent)))))
    go true b c d = refl
    go false true c d = refl
    go false false true d = refl
    go false false false true = refl
    go false false false false = refl

pub no-spell-shown : (b : Bool) (s : Running) (z : ℤ) (percent : ℕ) → no_spell s z (cond b percent 0) ≡ chance_shown b (no_spell s z percent)
unfolding no_spell
no-spell-shown true s z percent = refl
no-spell-shown false s z percent = tried-bare _ _ percent
