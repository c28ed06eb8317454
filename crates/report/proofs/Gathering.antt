-- Gathering the changes: the report's first k places are those of the first i months, up to i there is nothing, and from i on it still holds what was before. Assumes nothing.
use mathlib.Core.Path.{◌≡◌, refl, sym, ◌∙◌, ap}
use mathlib.Core.Bool.{true, false, not, ◌&&◌}
use mathlib.Core.List.{List, [], ◌∷◌, ◌++◌, append-nil, append_assoc}
use Prim.Native.Nat.{ℕ, suc, ◌+◌, ◌-◌, ◌≤◌, ◌<◌}
use native.Mathlib.Nat.{add-zero}
use native.Mathlib.Numerals.{add-one}
use native.Mathlib.Omega.{arith}
use borrow.Author.Tests.{not-true, not-false}
use lib.IntN.{ℤ, pos}
use lib.ListN.{length, take, drop, set, get_or, replicate, length-append, length-set}
use lib.Seq.{take-set-lt, set_at, drop-set-lt, drop-drop, get_or-drop}
use mir.Syntax.{w32}
use mir.Val.{SFits, to_z, of_z}
use mir.Facts.{to_z-of_z}
use Rattle.std.specs.Ordering.{int_eq}
use Rattle.report.specs.Report.{change, change_of, no_change, same}
use Rattle.report.specs.Held.{changes_since}
use Rattle.report.proofs.Same.{differs, differs-is}
use Rattle.report.proofs.Filling.{cleared-next}

-- the state of the loop at i, with k changes found
pub record Going (report₀ : List (List ℤ)) (index : List ℤ) (mark : List ℕ) (months : ℕ) (report : List (List ℤ)) (k i : ℕ) : Type 0 where
  pub found : take i report ≡ changes_since report₀ index mark i ++ replicate (i - k) no_change
  pub later : drop i report ≡ drop i report₀
  pub many : k ≡ length (changes_since report₀ index mark i)
  pub low : k ≤ i
  pub high : i ≤ months
  pub long : length report ≡ length report₀

pub at_first : (report : List (List ℤ)) (index : List ℤ) (mark : List ℕ) (months : ℕ) → Going report index mark months report 0 0
unfolding changes_since
at_first report index mark months = record { found = refl; later = refl; many = refl; low = omega arith; high = omega arith; long = refl }

-- a change goes where there is nothing
put-at : (report l : List (List ℤ)) (w : List ℤ) (k i : ℕ) → k ≡ length l → k ≤ i → take (i + 1) report ≡ l ++ replicate (i + 1 - k) no_change
    → take (i + 1) (set report k w) ≡ (l ++ (w ∷ [])) ++ replicate (i + 1 - (k + 1)) no_change
put-at report l w k i e b p =
    let s : i + 1 - k ≡ suc (i + 1 - (k + 1)) = omega arith in
    take-set-lt (i + 1) report k w (omega arith) ∙ rw (p, s, append_assoc) (set_at l no_change (replicate (i + 1 - (k + 1)) no_change) w k (sym e))

-- what was before, of a month's place
abbrev pub old_at : List (List ℤ) → ℕ → ℤ
old_at report i = get_or (get_or report i []) 1 (pos 0)

abbrev pub old_mark_at : List (List ℤ) → ℕ → ℤ
old_mark_at report i = get_or (get_or report i []) 3 (pos 0)

-- a month's numbers, as the code reads them
pub record Read (i : ℕ) (old new oldMark newMark : ℤ) : Type 0 where
  pub place : SFits w32 (pos i)
  pub old_fits : SFits w32 old
  pub new_fits : SFits w32 new
  pub old_mark : SFits w32 oldMark
  pub new_mark : SFits w32 newMark

-- what the code writes
abbrev pub written : ℕ → ℤ → ℤ → ℤ → ℤ → List ℤ
written i old new oldMark newMark = to_z w32 i ∷ to_z w32 (of_z w32 old) ∷ to_z w32 (of_z w32 new) ∷ to_z w32 (of_z w32 oldMark) ∷ to_z w32 (of_z w32 newMark) ∷ []

module _ (i : ℕ) (old new oldMark newMark : ℤ) (f : Read i old new oldMark newMark) where
  written_is : written i old new oldMark newMark ≡ change i old new oldMark newMark
  written_is = cc (to_z-of_z f.place, to_z-of_z f.old_fits, to_z-of_z f.new_fits, to_z-of_z f.old_mark, to_z-of_z f.new_mark)

  none : differs old new oldMark newMark ≡ false → change_of i old new oldMark newMark ≡ []
  unfolding change_of
  none t = rw (not-false (same old new && same oldMark newMark) (sym (differs-is old new oldMark newMark) ∙ t))

  one : differs old new oldMark newMark ≡ true → change_of i old new oldMark newMark ≡ written i old new oldMark newMark ∷ []
  unfolding change_of
  one t = rw (not-true (same old new && same oldMark newMark) (sym (differs-is old new oldMark newMark) ∙ t), written_is)

  -- the code's test, of the numbers as it reads them
  pub read-differs : not (int_eq (to_z w32 (of_z w32 old)) (to_z w32 (of_z w32 new)) && int_eq (to_z w32 (of_z w32 oldMark)) (to_z w32 (of_z w32 newMark))) ≡ differs old new oldMark newMark
  read-differs = rw (to_z-of_z f.old_fits, to_z-of_z f.new_fits, to_z-of_z f.old_mark, to_z-of_z f.new_mark)

module _ (report₀ : List (List ℤ)) (index : List ℤ) (mark : List ℕ) (months : ℕ) (report : List (List ℤ)) (k i : ℕ) (g : Going report₀ index mark months report k i) where
  -- what the month's place holds is what was before
  still : get_or report i [] ≡ get_or report₀ i []
  still = rw add-zero at (sym (get_or-drop i report 0 []) ∙ ap (λ (l : List (List ℤ)). get_or l 0 []) g.later ∙ get_or-drop i report₀ 0 [])

  -- and after it all is as it was
  rest : drop (suc i) report ≡ drop (suc i) report₀
  rest = rw (← add-one i) (sym (drop-drop 1 i report) ∙ ap (λ (l : List (List ℤ)). drop 1 l) g.later ∙ drop-drop 1 i report₀)

  next : (m : ℤ) → m ≡ pos (get_or mark i 0) → changes_since report₀ index mark (i + 1)
      ≡ changes_since report₀ index mark i ++ change_of i (old_at report i) (get_or index i (pos 0)) (old_mark_at report i) m
  unfolding changes_since
  next m e = rw (add-one i, still, e)

  module _ (h : i < months) (l : months ≤ length report₀) (m : ℤ) (is : m ≡ pos (get_or mark i 0)) (f : Read i (old_at report i) (get_or index i (pos 0)) (old_mark_at report i) m) where
    -- the place is cleared
    cleared : take (i + 1) (set report i no_change) ≡ changes_since report₀ index mark i ++ replicate (i + 1 - k) no_change
    cleared = cleared-next (changes_since report₀ index mark i) report k i g.low (omega (arith, g.long)) g.found

    after : drop (i + 1) (set report i no_change) ≡ drop (i + 1) report₀
    after = rw (add-one i, drop-set-lt (suc i) report i no_change (omega arith)) rest

    pub unchanged : differs (old_at report i) (get_or index i (pos 0)) (old_mark_at report i) m ≡ false → Going report₀ index mark months (set report i no_change) k (i + 1)
    unchanged t =
        let e : changes_since report₀ index mark (i + 1) ≡ changes_since report₀ index mark i = next m is ∙ rw (none i (old_at report i) (get_or index i (pos 0)) (old_mark_at report i) m f t, append-nil) in
        record {
          found = rw e cleared;
          later = after;
          many = rw e g.many;
          low = omega (arith, g.low);
          high = omega arith;
          long = rw (length-set report i no_change) g.long;
        }

    pub changed : differs (old_at report i) (get_or index i (pos 0)) (old_mark_at report i) m ≡ true
        → Going report₀ index mark months (set (set report i no_change) k (written i (old_at report i) (get_or index i (pos 0)) (old_mark_at report i) m)) (k + 1) (i + 1)
    changed t =
        let w : List ℤ = written i (old_at report i) (get_or index i (pos 0)) (old_mark_at report i) m in
        let e : changes_since report₀ index mark (i + 1) ≡ changes_since report₀ index mark i ++ (w ∷ []) = next m is ∙ rw (one i (old_at report i) (get_or index i (pos 0)) (old_mark_at report i) m f t) in
        record {
          found = rw e (put-at (set report i no_change) (changes_since report₀ index mark i) w k i g.many g.low cleared);
          later = rw (drop-set-lt (i + 1) (set report i no_change) k w (omega (arith, g.low))) after;
          many = rw e (simp length-append (omega (arith, g.many)));
          low = omega (arith, g.low);
          high = omega arith;
          long = rw (length-set (set report i no_change) k w, length-set report i no_change) g.long;
        }
