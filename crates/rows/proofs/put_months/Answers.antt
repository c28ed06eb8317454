-- `rows::put_months`: whatever was put so far, the text of the months still to come, laid where it ends, makes the whole. Assumes nothing.
use mathlib.Core.Path.{◌≡◌, refl, ◌∙◌}
use mathlib.Core.List.{List, [], ◌∷◌, ◌++◌}
use Prim.Native.Nat.{ℕ, ◌+◌, ◌/◌, ◌%◌, ◌≤◌, ◌<◌}
use native.Mathlib.Numerals.{add-one}
use native.Mathlib.Omega.{arith}
use lib.ListN.{length, drop, get_or, drop_of_length-le}
use lib.Seq.{drop-cons}
use Rattle.text.specs.Bytes.{space}
use Rattle.rows.specs.Text.{month_text, months_text}
use Rattle.rows.specs.Room.{laid}
use Rattle.rows.proofs.Laid.{Put, put_then, put-none}
use Rattle.rows.proofs.put_months.Goals as goal

-- what is still to be put, laid at `end` in p, makes the whole text laid at `at` in o
abbrev Left : List ℕ → ℕ → List ℕ → List ℕ → ℕ → List ℕ → Type 0
Left whole at o rest end p = Put whole at o (end + length rest) (laid rest end p)

one_less : (whole : List ℕ) (at : ℕ) (o b rest : List ℕ) (end r : ℕ) (p q : List ℕ) → end ≤ length p → Left whole at o (b ++ rest) end p → Put b end p r q → Left whole at o rest r q
one_less whole at o b rest end r p q h l f =
    let g = put_then b rest end p h r (r + length rest) q (laid rest r q) f (refl, refl) in
    (g.0 ∙ l.0, g.1 ∙ l.1)

none_left : (whole : List ℕ) (at : ℕ) (o : List ℕ) (end : ℕ) (p : List ℕ) → Left whole at o [] end p → Put whole at o end p
none_left whole at o end p l = let n = put-none end p in (n.0 ∙ l.0, n.1 ∙ l.1)

next-month : (s : List ℕ) (i set : ℕ) → i < length s → months_text (drop i s) set ≡ (space ∷ month_text (get_or s i 0) (set % 2)) ++ months_text (drop (i + 1) s) (set / 2)
unfolding months_text
next-month s i set h = rw (add-one i, drop-cons s i 0 h)

no-month : (s : List ℕ) (i set : ℕ) → length s ≤ i → months_text (drop i s) set ≡ []
unfolding months_text
no-month s i set h = rw (drop_of_length-le s h)

pub loop-amount-preserved : goal.loop-amount-preserved
loop-amount-preserved c =
    let t = c.args.amounts.now in
    let l = c.loop-amount in
    let v = l.invariant in
    let e = c.put_month-end.ensures in (
      omega (arith, v.0, e.upper_bound),
      c.put_month-end.auto.out ∙ v.1,
      one_less _ _ _ (space ∷ month_text (get_or t l.amount-index 0) (l.left % 2)) _ _ _ _ _ (omega (arith, c.requires, v.0, v.1)) (rw (next-month t l.amount-index l.left c.loop-amount-test.true) at v.2) (e.value, e.out_after),
    )

pub returns-clause-value : goal.returns-clause-value
returns-clause-value c =
    (none_left _ _ _ _ _ (rw (no-month c.args.amounts.now c.loop-amount.amount-index c.loop-amount.left (omega arith)) at c.loop-amount.invariant.2)).0

pub returns-clause-out_after : goal.returns-clause-out_after
returns-clause-out_after c =
    (none_left _ _ _ _ _ (rw (no-month c.args.amounts.now c.loop-amount.amount-index c.loop-amount.left (omega arith)) at c.loop-amount.invariant.2)).1
