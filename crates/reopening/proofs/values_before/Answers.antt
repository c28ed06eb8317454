-- `reopening::values_before` meets its contract: none before the first month, else what the rows hold of the month before. Assumes nothing.
use mathlib.Core.Path.{◌≡◌, refl, ◌∙◌}
use Prim.Native.Nat.{ℕ, zero, suc, ◌-◌}
use lib.IntN.{ℤ, pos}
use Rattle.spells.specs.declared.Running.{Running}
use native.Mathlib.Omega.{arith}
use Rattle.spells.specs.Values.{fresh}
use Rattle.refusals.specs.Book.{Book, book, values_at}
use Rattle.reopening.specs.Before.{values_before}
use Rattle.reopening.proofs.values_before.Goals as goal

fresh-is : (s : Running) → (s.x1 ≡ pos 0) × ((s.x2 ≡ pos 0) × ((s.x3 ≡ pos 0) × (s.v ≡ pos 0))) → s ≡ fresh
fresh-is s e = go s.x1 s.x2 s.x3 s.v e.0 e.1.0 e.1.1.0 e.1.1.1
  where
    go : (a b c d : ℤ) → a ≡ pos 0 → b ≡ pos 0 → c ≡ pos 0 → d ≡ pos 0 → ◌≡◌ {A = Running} (record { x1 = a; x2 = b; x3 = c; v = d }) fresh
    go a b c d p q r t = rw (p, q, r, t) refl

at_first : (cs : Book) (m : ℕ) → m ≡ 0 → fresh ≡ values_before cs m
at_first cs m e = rw e

later : (cs : Book) (m : ℕ) → (m ≡ 0 → ⊥) → values_at cs (m - 1) ≡ values_before cs m
later cs zero h = absurd (h refl)
later cs (suc i) h = let e : suc i - 1 ≡ i = omega arith in rw e

pub returns-then-m-eq0 : goal.returns-then-m-eq0
returns-then-m-eq0 c index mark records =
    let d = fresh-is c.default.result c.default.ensures in
    let a = c.args in
    d ∙ at_first (book a.x1.now a.x2.now a.x3.now index mark records a.v.now) a.m c.if-m-eq0.true

pub returns : goal.returns
returns c index mark records =
    let a = c.args in
    rw c.values_at.ensures (later (book a.x1.now a.x2.now a.x3.now index mark records a.v.now) a.m c.if-m-eq0.false)
