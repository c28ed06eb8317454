-- The changes: by what the report holds and by the columns of before, how many there are at most, and none where nothing changed. Assumes nothing.
use mathlib.Core.Path.{◌≡◌, refl, ◌∙◌}
use mathlib.Core.Bool.{◌&&◌}
use mathlib.Core.List.{List, []}
use mathlib.Core.Logic.{⊎_elim}
use Prim.Native.Nat.{ℕ, zero, suc, ◌≤◌, ◌<◌}
use native.Mathlib.Nat.{le_of_suc-le-suc, eq-or-lt_of_le}
use native.Mathlib.Omega.{arith}
use lib.IntN.{ℤ, pos}
use lib.ListN.{length, get_or, length-append, get_or-append}
use lib.Seq.{get_or_at}
use Rattle.outline.proofs.Tests.{if-so}
use Rattle.report.specs.Report.{change, change_of, changes, same}
use Rattle.report.specs.Held.{held, changes_since}
use Rattle.report.proofs.Same.{same_self}

-- ---- what is held
held-long : (index : List ℤ) (mark : List ℕ) (n : ℕ) → length (held index mark n) ≡ n
unfolding held
held-long index mark zero = refl
held-long index mark (suc n) = simp length-append (omega (arith, held-long index mark n))

held_at : (index : List ℤ) (mark : List ℕ) (n i : ℕ) → i < n
    → get_or (held index mark n) i [] ≡ change 0 (get_or index i (pos 0)) (pos 0) (pos (get_or mark i 0)) (pos 0)
unfolding held
held_at index mark zero i h = absurd (omega arith)
held_at index mark (suc n) i h = ⊎_elim (λ e. rw e (get_or_at (held index mark n) (change 0 (get_or index n (pos 0)) (pos 0) (pos (get_or mark n 0)) (pos 0)) [] [] n (held-long index mark n)))
    (λ l. get_or-append (held index mark n) _ [] i (omega (arith, held-long index mark n)) ∙ held_at index mark n i l) (eq-or-lt_of_le (le_of_suc-le-suc h))

pub changes-held : (old new : List ℤ) (oldMark newMark : List ℕ) (n k : ℕ) → k ≤ n
    → changes_since (held old oldMark n) new newMark k ≡ changes old new oldMark newMark k
unfolding changes_since changes
changes-held old new oldMark newMark n zero h = refl
changes-held old new oldMark newMark n (suc k) h = rw (changes-held old new oldMark newMark n k (omega arith), held_at old oldMark n k h)

-- ---- how many there are
of-most : (i : ℕ) (old new oldMark newMark : ℤ) → length (change_of i old new oldMark newMark) ≤ 1
unfolding change_of
of-most i old new oldMark newMark = if-so (same old new && same oldMark newMark) (λ e. rw e (omega arith)) (λ e. rw e (omega arith))

pub changes-most : (old new : List ℤ) (oldMark newMark : List ℕ) (k : ℕ) → length (changes old new oldMark newMark k) ≤ k
unfolding changes
changes-most old new oldMark newMark zero = omega arith
changes-most old new oldMark newMark (suc k) =
    simp length-append (omega (arith, changes-most old new oldMark newMark k, of-most k (get_or old k (pos 0)) (get_or new k (pos 0)) (pos (get_or oldMark k 0)) (pos (get_or newMark k 0))))

-- ---- none
of_none : (i : ℕ) (a m : ℤ) → change_of i a a m m ≡ []
unfolding change_of
of_none i a m = rw (same_self a, same_self m)

pub changes-none : (old : List ℤ) (oldMark : List ℕ) (k : ℕ) → changes old old oldMark oldMark k ≡ []
unfolding changes
changes-none old oldMark zero = refl
changes-none old oldMark (suc k) = rw (changes-none old oldMark k, of_none)
