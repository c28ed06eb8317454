-- Two numbers are the same exactly where the code finds them equal, so its test is the one of which the report speaks. Assumes nothing.
use mathlib.Core.Path.{◌≡◌}
use mathlib.Core.Bool.{Bool, true, not, ◌&&◌}
use native.Mathlib.Omega.{arith}
use lib.IntN.{ℤ, pos, negsuc}
use lib.Signed.{le_z}
use borrow.Author.Tests.{le-leb}
use Rattle.std.specs.Ordering.{int_eq}
use Rattle.std.proofs.lemmas.Bool.Decides.{same_from_decides, Decides-int_eq}
use Rattle.exact.proofs.Z.{le_yes, ≤ℤ-antisym}
use Rattle.outline.proofs.Tests.{both, each}
use Rattle.report.specs.Report.{same}

itself : (a : ℤ) → le_z a a ≡ true
itself (pos a) = le-leb a a (omega arith)
itself (negsuc a) = le-leb a a (omega arith)

pub same_self : (a : ℤ) → same a a ≡ true
unfolding same
same_self a = both (itself a) (itself a)

same_true : (a b : ℤ) → same a b ≡ true → a ≡ b
unfolding same
same_true a b e = let p = each (le_z a b) (le_z b a) e in ≤ℤ-antisym a b (le_yes a b p.0) (le_yes b a p.1)

-- as the code compares them
compared : (a b : ℤ) → int_eq a b ≡ same a b
compared a b = same_from_decides (int_eq a b) (same a b) (Decides-int_eq a b) (same_true a b, λ (e : a ≡ b). rw e (same_self b))

-- the code's test: the index or the mark is not as it was
abbrev pub differs : ℤ → ℤ → ℤ → ℤ → Bool
differs old new oldMark newMark = not (int_eq old new && int_eq oldMark newMark)

pub differs-is : (old new oldMark newMark : ℤ) → differs old new oldMark newMark ≡ not (same old new && same oldMark newMark)
differs-is old new oldMark newMark = rw (compared old new, compared oldMark newMark)
