-- What an accepted add writes, on any columns: its own place in all five, index and mark of the months that it settles, as many as it answers,
-- its own place among the records and in V, and nothing else. Assumes nothing.
use mathlib.Core.Path.{◌≡◌, refl, sym, ap, ◌∙◌, subst}
use mathlib.Core.List.{List, [], ◌∷◌, ◌++◌, append_assoc}
use Prim.Native.Nat.{ℕ, zero, suc, ◌+◌, ◌-◌, ◌≤◌, ◌<◌}
use native.Mathlib.Omega.{arith}
use lib.IntN.{ℤ, pos}
use lib.ListN.{length, get_or, take, drop, set, replicate, length-append, length-drop}
use lib.Seq.{take-set-le, take-suc-set, take-take, take_at, drop_at, get_or_at, length-take-le}
use Rattle.spells.specs.declared.With.{With}
use Rattle.hindsight.specs.Rule.{X, Row}
use Rattle.hindsight.specs.Adding.{History, settled_all, add_as, settled_as}
use Rattle.hindsight.specs.Columns.{x_at, xs_from}
use Rattle.hindsight.specs.Months.{mark_for}
use Rattle.history.proofs.Adding.{length-xs, drop-xs}
use Rattle.runs.specs.declared.Run.{Run}
use Rattle.refusals.specs.Book.{Book}
use Rattle.refusals.proofs.Refused.{columns_are}
use Rattle.run_laws.proofs.Keeps.{settled-long}
use Rattle.adding.specs.Taken.{held_by, taken}
use Rattle.adding.proofs.Readiness.{run_is}
use Rattle.demands.specs.Months.{Ask, asked, station_of, station_row}
use Rattle.demands.specs.Demands.{marks_with, Writes}
use Rattle.demands.proofs.Took.{took}
use Rattle.std.specs.Prelude.{Option, None, Some}

whole : (n : ℕ) → suc n - 0 ≡ suc n
whole n = omega arith

less : (n k : ℕ) → suc n - suc k ≡ n - k
less n k = omega arith

-- ---- the marks
snoc-same : (n : ℕ) → ◌++◌ {A = ℕ} (replicate n 2) (2 ∷ []) ≡ replicate (suc n) 2
snoc-same zero = refl
snoc-same (suc n) = ap (λ (l : List ℕ). 2 ∷ l) (snoc-same n)

module _ (held : History) (at : ℕ) (p : length held.past ≡ at) (o : held.opens ≤ at) (r : Row) where
  marks-as : (mark : List ℕ) → at < length mark → held.mark ≡ take at mark → (d : Option With) → (add_as d held r).mark ++ drop (suc at) mark ≡ marks_with (settled_as d held.opens) at mark
  marks-as mark l m None = rw (m, whole at) (ap (λ (k : List ℕ). k ++ drop (suc at) mark) (sym (take-suc-set mark at 1 l)))
  marks-as mark l m (Some w) =
      rw (m, p, take-take (at - held.opens) at mark (omega arith), less at held.opens, take-set-le (at - held.opens) mark at 1 (omega arith), snoc-same held.opens)
      (append_assoc (take (at - held.opens) mark) (replicate (suc held.opens) 2) (drop (suc at) mark))

  -- ---- the indexes: those before the settled ones, the settled ones, the month's own, and those behind it
  module _ (index : List ℤ) (l : at < length index) where
    abbrev Kept : Option With → List ℤ → Type 0
    Kept d new =
        let n = suc at - settled_as d held.opens in
        (take n new ≡ take n (set index at r.shown)) × (get_or new at (pos 0) ≡ r.shown) × (drop (suc at) new ≡ drop (suc at) index)

    parts : (n : ℕ) (settled : List ℤ) → n + length settled ≡ at
        → let new = (take n index ++ (settled ++ (r.shown ∷ []))) ++ drop (suc at) index in
        (take n new ≡ take n index) × (get_or new at (pos 0) ≡ r.shown) × (drop (suc at) new ≡ drop (suc at) index) × (take (length settled) (drop n new) ≡ settled)
    parts n settled e =
        let front = take n index in
        let rest = drop (suc at) index in
        let long : length front ≡ n = length-take-le n index (omega arith) in
        let all : length (front ++ (settled ++ (r.shown ∷ []))) ≡ suc at = simp length-append (omega (arith, long)) in
        let before : length (front ++ settled) ≡ at = simp length-append (omega (arith, long)) in (
          ap (take n) (append_assoc front (settled ++ (r.shown ∷ [])) rest) ∙ take_at front _ n long,
          ap (λ (u : List ℤ). get_or u at (pos 0)) (append_assoc front (settled ++ (r.shown ∷ [])) rest ∙ ap (λ (u : List ℤ). front ++ u) (append_assoc settled (r.shown ∷ []) rest) ∙ sym (append_assoc front settled (r.shown ∷ rest)))
              ∙ get_or_at (front ++ settled) r.shown rest (pos 0) at before,
          drop_at (front ++ (settled ++ (r.shown ∷ []))) rest (suc at) all,
          ap (λ (u : List ℤ). take (length settled) (drop n u)) (append_assoc front (settled ++ (r.shown ∷ [])) rest)
              ∙ ap (take (length settled)) (drop_at front _ n long ∙ append_assoc settled (r.shown ∷ []) rest)
              ∙ take_at settled _ (length settled) refl,
        )

    index-as : held.index ≡ take at index → (d : Option With) → Kept d ((add_as d held r).index ++ drop (suc at) index)
    index-as i None =
        let q = parts at [] (omega arith) in
        let long : length (take at index ++ (r.shown ∷ [])) ≡ suc at = simp length-append (omega (arith, length-take-le at index (omega arith))) in
        rw (i, whole at) (take_at (take at index ++ (r.shown ∷ [])) (drop (suc at) index) (suc at) long ∙ sym (take-suc-set index at r.shown l), q.1, q.2)
    index-as i (Some w) =
        let n = at - held.opens in
        let q = parts n (settled_all w (drop n held.past)) (omega (arith, settled-long w (drop n held.past), length-drop n held.past)) in
        rw (i, p, take-take n at index (omega arith), less at held.opens, take-set-le n index at r.shown (omega arith)) (q.0, q.1, q.2)

    settled-as : held.index ≡ take at index → (d : Option With) (w : With) → d ≡ Some w
        → take held.opens (drop (at - held.opens) ((add_as d held r).index ++ drop (suc at) index)) ≡ settled_all w (drop (at - held.opens) held.past)
    settled-as i d w e =
        let n = at - held.opens in
        let s = settled_all w (drop n held.past) in
        let long : length s ≡ held.opens = omega (arith, settled-long w (drop n held.past), length-drop n held.past) in
        rw (e, i, p, take-take n at index (omega arith)) (ap (λ (k : ℕ). take k (drop n ((take n index ++ (s ++ (r.shown ∷ []))) ++ drop (suc at) index))) (sym long) ∙ (parts n s (omega (arith, long))).3)

-- ---- the count: "the open months before it plus one if it decides, else 0"
count-as : (d : Option With) (opens : ℕ) → (mark_for d ≡ 2 → settled_as d opens ≡ suc opens) × (mark_for d ≡ 1 → settled_as d opens ≡ 0)
count-as None opens = (λ e. absurd (omega arith), λ e. refl)
count-as (Some w) opens = (λ e. refl, λ e. absurd (omega arith))

-- the last k of n months
last_of : (f : ℕ → X) (n k : ℕ) → k ≤ n → xs_from f (0 + (n - k)) (n - (n - k)) ≡ xs_from f (n - k) k
last_of f n k l = rw (zero_more (n - k), back n k l)
  where
    zero_more : (m : ℕ) → 0 + m ≡ m
    zero_more m = omega arith

    back : (n k : ℕ) → k ≤ n → n - (n - k) ≡ k
    back n k l = omega arith

pub writes : (r : Run) (a : Ask) (cs : Book) → (asked r a cs).answer.number ≡ 0 → Writes r a cs (asked r a cs)
unfolding taken
writes r a cs h =
    let t = took r cs a h in
    let row = station_row (station_of r) a in
    let n = columns_are cs t.good.fit in
    let p = length-xs (x_at cs.x1 cs.x2 cs.x3) 0 r.months in
    let o = (run_is r cs t.good).opens in
    let i = index-as (held_by r cs) r.months p o row cs.index (omega (arith, n.index_is, t.room)) refl row.decision in
    subst (Writes r a cs) (sym t.did)
    (record {
      x1 = refl;
      x2 = refl;
      x3 = refl;
      index_kept = i.0;
      index_own = i.1;
      index_beyond = i.2;
      index-settled = λ w e.
          settled-as (held_by r cs) r.months p o row cs.index (omega (arith, n.index_is, t.room)) refl row.decision w e
          ∙ ap (settled_all w) (drop-xs (x_at cs.x1 cs.x2 cs.x3) 0 r.months (r.months - r.opens) (omega arith) ∙ last_of (x_at cs.x1 cs.x2 cs.x3) r.months r.opens o);
      marks = marks-as (held_by r cs) r.months p o row cs.mark (omega (arith, n.mark_is, t.room)) refl row.decision;
      decides = (count-as row.decision r.opens).0;
      undecided = (count-as row.decision r.opens).1;
      records = refl;
      v = refl;
    })
