-- The loop over the groups, and the scan for the month that decides one: what both hold is a record each, with laws for its first turn, the next
-- and the ways out. Assumes nothing.
use mathlib.Core.Path.{◌≡◌, refl, sym, ap, ◌∙◌}
use mathlib.Core.Bool.{true, false}
use mathlib.Core.List.{List, [], ◌∷◌, ◌++◌, map, append-nil}
use Prim.Native.Nat.{ℕ, suc, ◌+◌, ◌-◌, ◌*◌, ◌≤◌, ◌<◌}
use native.Mathlib.Numerals.{add-one}
use native.Mathlib.Omega.{arith}
use lib.IntN.{ℤ, pos}
use lib.ListN.{length, take, drop, set, get_or, replicate, length-set, take-append-drop, drop_of_length-le}
use lib.Seq.{take_all, drop-cons}
use Rattle.outline.specs.Numbers.{most_u, most_months}
use Rattle.ending.specs.Bounds.{most_v}
use Rattle.spells.specs.Chance.{without_chance}
use Rattle.spells.specs.declared.Running.{Running}
use Rattle.spells.specs.declared.SpellMonth.{SpellMonth}
use Rattle.spells.specs.Values.{fresh}
use Rattle.spells.specs.ValuesFit.{FitsWithin, ValuesFit}
use Rattle.spells.specs.Spells.{step_of}
use Rattle.spell_laws.proofs.Parts.{alone}
use Rattle.spell_laws.proofs.Theorems.{values-kept, fits_in}
use Rattle.hindsight.specs.Rule.{Row, nonzero, forward_indexes, forward_marks}
use Rattle.hindsight.specs.Months.{mark_for, next_values, row_of_z, rows_of_z}
use Rattle.hindsight.specs.Coded.{told}
use Rattle.hindsight_laws.proofs.Hindsight.{x_of, shown_of, Wait, map-append, wait-more, forward-waits, ones, indexes-settle, marks-settle}
use Rattle.hindsight_laws.proofs.Steps.{rows_long, rows_append, state-append}
use Rattle.sides.specs.Sides.{EachFits, sides_of, code, codes, side_mark}
use Rattle.sides.proofs.Rewriting.{part}
use Rattle.forward.specs.Groups.{group_indexes}
use Rattle.forward.proofs.Parts.{part-rest, part_length, part-more, Column, column-front, column-part, column-tail, column-set, column-more, rewritten}
use Rattle.forward.proofs.Groups.{rows, values_after, group-codes, group-indexes}
use Rattle.std.specs.Prelude.{Option, None, Some, is_some}
use Rattle.spells.specs.declared.With.{With}

-- ---- the loop over the groups, where one begins at `from` with the values v

pub record Months (zs index : List ℤ) (mark : List ℕ) (v : Running) (from : ℕ) : Type 0 where
  pub index_is : take from index ++ forward_indexes (rows v (drop from zs)) ≡ forward_indexes (rows_of_z zs)
  pub mark_is : take from mark ++ forward_marks (rows v (drop from zs)) ≡ forward_marks (rows_of_z zs)
  pub index_long : length index ≡ length zs
  pub mark_long : length mark ≡ length zs
  pub fits : FitsWithin (most_u * from) v

pub months-first : {zs index : List ℤ} {mark : List ℕ} → length index ≡ length zs → length mark ≡ length zs → Months zs index mark fresh 0
months-first hi hm =
    record {
      index_is = refl;
      mark_is = refl;
      index_long = hi;
      mark_long = hm;
      fits = alone (most_u * 0) (pos 0) (omega arith);
    }

pub months-out : {zs index : List ℤ} {mark : List ℕ} {v : Running} {from : ℕ} → Months zs index mark v from → length zs ≤ from
    → (index ≡ forward_indexes (rows_of_z zs)) × (mark ≡ forward_marks (rows_of_z zs))
months-out {zs} {index} {mark} {v} {from} g h =
    let e = drop_of_length-le zs h in (
      rw (e, take_all from index (omega (arith, g.index_long)), append-nil index) at g.index_is,
      rw (e, take_all from mark (omega (arith, g.mark_long)), append-nil mark) at g.mark_is,
    )

-- ---- the scan from there on, at the month `at`: none that it has passed decides

-- the rows that it has passed
abbrev pub passed : Running → List ℤ → ℕ → ℕ → List Row
passed v₀ zs from at = rows v₀ (part from at zs)

pub record Scanning (zs index₀ : List ℤ) (mark₀ : List ℕ) (v₀ : Running) (from : ℕ) (index : List ℤ) (mark : List ℕ) (v : Running) (by : Option With) (at : ℕ) : Type 0 where
  pub high : at ≤ length zs
  pub none : by ≡ None
  pub state : v ≡ values_after v₀ (part from at zs)
  pub wait : Wait (passed v₀ zs from at)
  pub fits : FitsWithin (most_u * at) v
  pub index_is : Column index₀ index (map shown_of (passed v₀ zs from at)) (drop at index₀) from at
  pub mark_is : Column mark₀ mark (codes (map x_of (passed v₀ zs from at))) (drop at mark₀) from at
  pub index_long : length index ≡ length zs
  pub mark_long : length mark ≡ length zs

-- where the scan is left: the month `at` decides so, or with None the series ends there. Before the group X1 and X2 were a and b
pub record Left (zs index : List ℤ) (mark : List ℕ) (a b : ℤ) (v : Running) (from : ℕ) (by : Option With) (at : ℕ) : Type 0 where
  pub low : from ≤ at
  pub high : at ≤ length zs
  pub index_long : length index ≡ length zs
  pub mark_long : length mark ≡ length zs
  pub fits : FitsWithin (most_u * (at + 1)) v
  pub codes_are : part from at mark ≡ codes (sides_of a b (part from at zs))
  pub index_all : take from index ++ (group_indexes by (part from at index) (sides_of a b (part from at zs)) ++ (take 1 (drop at index) ++ forward_indexes (rows v (drop (at + 1) zs)))) ≡ forward_indexes (rows_of_z zs)
  pub mark_all : take from mark ++ (replicate (at - from) (mark_for by) ++ (take 1 (drop at mark) ++ forward_marks (rows v (drop (at + 1) zs)))) ≡ forward_marks (rows_of_z zs)

module _ {zs index₀ : List ℤ} {mark₀ : List ℕ} {v₀ : Running} {from : ℕ} (g₀ : Months zs index₀ mark₀ v₀ from) where
  pub scan-first : from ≤ length zs → Scanning zs index₀ mark₀ v₀ from index₀ mark₀ v₀ None from
  scan-first m =
      let e : from - from ≡ 0 = omega arith in
      record {
        high = omega arith;
        none = refl;
        state = rw e refl;
        wait = rw e tt;
        fits = g₀.fits;
        index_is = rw e (record { low = omega arith; within = omega (arith, g₀.index_long); long = omega arith; is = sym (take-append-drop from index₀) });
        mark_is = rw e (record { low = omega arith; within = omega (arith, g₀.mark_long); long = omega arith; is = sym (take-append-drop from mark₀) });
        index_long = g₀.index_long;
        mark_long = g₀.mark_long;
      }

  module _ {index : List ℤ} {mark : List ℕ} {v : Running} {by : Option With} {at : ℕ} (g : Scanning zs index₀ mark₀ v₀ from index mark v by at) where
    -- the step may be asked
    pub scan-fits : length zs ≤ most_months → ValuesFit v
    scan-fits h = fits_in (most_u * at) most_v v g.fits (omega (arith, g.fits.v_size, g.high))

    abbrev t : List Row
    t = passed v₀ zs from at

    long : length t ≡ at - from
    long = rows_long next_values row_of_z v₀ (part from at zs) ∙ part_length zs from at g.index_is.low g.high

    -- where the scan is left, with what the columns then end in, and the law of the group
    left : {index' : List ℤ} {mark' : List ℕ} {v' : Running} {k : Option With} {i : List ℤ} {m : List ℕ}
        → Column index₀ index' (map shown_of t) i from at → Column mark₀ mark' (codes (map x_of t)) m from at
        → length index' ≡ length zs → length mark' ≡ length zs → FitsWithin (most_u * (at + 1)) v'
        → group_indexes k (map shown_of t) (sides_of v₀.x1 v₀.x2 (part from at zs)) ++ (take 1 i ++ forward_indexes (rows v' (drop (at + 1) zs))) ≡ forward_indexes (rows v₀ (drop from zs))
        → replicate (at - from) (mark_for k) ++ (take 1 m ++ forward_marks (rows v' (drop (at + 1) zs))) ≡ forward_marks (rows v₀ (drop from zs))
        → Left zs index' mark' v₀.x1 v₀.x2 v' from k at
    left p q pl ql f x y =
        record {
          low = g.index_is.low;
          high = g.high;
          index_long = pl;
          mark_long = ql;
          fits = f;
          codes_are = column-part q ∙ group-codes v₀ (part from at zs) g.wait;
          index_all = rw (column-front p, column-part p, column-tail p, x) g₀.index_is;
          mark_all = rw (column-front q, column-tail q, y) g₀.mark_is;
        }

    -- nobody decides
    pub left_out : length zs ≤ at → Left zs index mark v₀.x1 v₀.x2 v from by at
    left_out o =
        let d : drop (at + 1) zs ≡ [] = drop_of_length-le zs {i = at + 1} (omega arith) in
        let i : drop at index₀ ≡ [] = drop_of_length-le index₀ {i = at} (omega (arith, g₀.index_long)) in
        let m : drop at mark₀ ≡ [] = drop_of_length-le mark₀ {i = at} (omega (arith, g₀.mark_long)) in
        let last : part from at zs ++ drop at zs ≡ part from at zs = rw (drop_of_length-le zs o) (append-nil (part from at zs)) in
        let all : rows v₀ (drop from zs) ≡ t = ap (rows v₀) (part-rest zs from at g.index_is.low ∙ last) in
        left g.index_is g.mark_is g.index_long g.mark_long (fits_in (most_u * at) (most_u * (at + 1)) v g.fits (omega (arith, g.fits.v_size)))
        (rw (g.none, d, i, all, append-nil (map shown_of t)) (sym (forward-waits t g.wait)))
        (rw (g.none, d, m, all, append-nil (replicate {A = ℕ} (at - from) 1)) (sym (ones t g.wait ∙ ap (λ (n : ℕ). replicate n 1) long)))

    -- a step from there
    module _ (ok : EachFits zs) (l : at < length zs) where
      abbrev z : ℤ
      z = get_or zs at (pos 0)

      abbrev r : SpellMonth
      r = step_of v z

      step_fits : FitsWithin (most_u * (at + 1)) r.after
      step_fits = let k = values-kept v z (most_u * at) g.fits (ok at l) in fits_in (most_u * at + most_u) (most_u * (at + 1)) r.after k (omega (arith, k.v_size))

      index-set : Column index₀ (set index at r.index) (map shown_of t) (r.index ∷ drop (at + 1) index₀) from at
      index-set = column-set g.index_is r.index refl (omega (arith, g₀.index_long))

      mark_set : (a : ℕ) → Column mark₀ (set mark at a) (codes (map x_of t)) (a ∷ drop (at + 1) mark₀) from at
      mark_set a = column-set g.mark_is a refl (omega (arith, g₀.mark_long))

      rows_more : passed v₀ zs from (at + 1) ≡ t ++ (row_of_z v z ∷ [])
      rows_more = rw (part-more zs from at g.index_is.low (pos 0) l, rows_append next_values row_of_z v₀ (part from at zs) (z ∷ []), ← g.state) refl

      rows-rest : rows v₀ (drop from zs) ≡ t ++ (row_of_z v z ∷ rows r.after (drop (at + 1) zs))
      rows-rest =
          ap (rows v₀) (part-rest zs from at g.index_is.low)
          ∙ rw (drop-cons zs at (pos 0) l, rows_append next_values row_of_z v₀ (part from at zs) (z ∷ drop (suc at) zs), ← g.state, add-one at) refl

      coded : (m : SpellMonth) (k : Option With) → m ≡ without_chance r → k ≡ m.decision → r.decision ≡ k
      coded m k e f = sym (f ∙ ap (λ (m : SpellMonth). m.decision) e)

      -- a month that decides nothing is passed
      pub scan-next : (m : SpellMonth) (k : Option With) (a : ℕ) → m ≡ without_chance r → k ≡ m.decision → is_some k ≡ false → a ≡ side_mark (told (nonzero m.after.x1) (nonzero m.after.x2))
          → Scanning zs index₀ mark₀ v₀ from (set index at m.index) (set mark at a) m.after k (at + 1)
      scan-next m (Some w) a e f o c = cc
      scan-next m None a e f o c =
          rw (c, e)
          (record {
            high = omega arith;
            none = refl;
            state = rw (part-more zs from at g.index_is.low (pos 0) l, state-append next_values v₀ (part from at zs) (z ∷ []), ← g.state) refl;
            wait = rw rows_more (wait-more t (row_of_z v z) g.wait (coded m None e f));
            fits = step_fits;
            index_is = rw (rows_more, map-append shown_of t (row_of_z v z ∷ [])) (column-more index-set);
            mark_is = rw (rows_more, map-append x_of t (row_of_z v z ∷ []), map-append code (map x_of t) ((row_of_z v z).x ∷ [])) (column-more (mark_set _));
            index_long = simp length-set g.index_long;
            mark_long = simp length-set g.mark_long;
          })

      -- a month that decides ends the group
      pub left-decides : (m : SpellMonth) (k : Option With) → m ≡ without_chance r → k ≡ m.decision → is_some k ≡ true
          → Left zs (set index at m.index) (set mark at 2) v₀.x1 v₀.x2 m.after from k at
      left-decides m None e f o = cc
      left-decides m (Some w) e f o =
          let d : r.decision ≡ Some w = coded m (Some w) e f in
          rw e
          (left index-set (mark_set 2) (simp length-set g.index_long) (simp length-set g.mark_long) step_fits
          (rw (rows-rest, indexes-settle t (row_of_z v z) w (rows r.after (drop (at + 1) zs)) g.wait d, group-indexes v₀ (part from at zs) g.wait z w (rw (← g.state) d)) refl)
          (rw (rows-rest, marks-settle t (row_of_z v z) w (rows r.after (drop (at + 1) zs)) g.wait d, long) refl))

-- ---- the group is settled, and the next begins

pub months-next : {zs index index' : List ℤ} {mark mark' : List ℕ} {a b : ℤ} {v : Running} {from : ℕ} {by : Option With} {at : ℕ} → Left zs index mark a b v from by at
    → length index' ≡ length index → length mark' ≡ length mark
    → index' ≡ take from index ++ (group_indexes by (part from at index) (sides_of a b (part from at zs)) ++ drop at index)
    → mark' ≡ take from mark ++ (replicate (at - from) (mark_for by) ++ drop at mark)
    → Months zs index' mark' v (at + 1)
months-next {zs} {index} {index'} {mark} {mark'} {a} {b} {v} {from} {by} {at} g li lm ei em =
    record {
      index_is = rewritten index index' (group_indexes by (part from at index) (sides_of a b (part from at zs))) _ from at g.low (omega (arith, g.high, g.index_long)) li ei ∙ g.index_all;
      mark_is = rewritten mark mark' (replicate (at - from) (mark_for by)) _ from at g.low (omega (arith, g.high, g.mark_long)) lm em ∙ g.mark_all;
      index_long = li ∙ g.index_long;
      mark_long = lm ∙ g.mark_long;
      fits = g.fits;
    }
