-- A part of a line, with no line feed in it: feeding its bytes keeps it. And a piece of the input, cut where its first line ends: a part, the
-- line feed if there is one, and the rest. Assumes nothing.
use mathlib.Core.Path.{◌≡◌, refl, sym, ap, subst, ◌∙◌}
use mathlib.Core.Bool.{Bool, true, false}
use mathlib.Core.List.{List, [], ◌∷◌, ◌++◌, append_assoc, append-nil, foldl, foldl-append}
use Prim.Native.Nat.{ℕ, suc, ◌+◌, ◌-◌, ◌≤◌, ◌<◌}
use native.Mathlib.Omega.{arith}
use lib.Dec.{eqb, ltb}
use lib.ListN.{length, take, drop, length-take, length-drop, drop_of_length-le}
use lib.Seq.{drop-drop}
use borrow.Author.Tests.{eqb-true, eqb-false, ltb-true, ltb-false}
use Rattle.text.specs.Bytes.{line_feed}
use Rattle.kept_line.specs.Kept.{until_feed, kept_of, part_kept}
use Rattle.kept_line.specs.declared.Kept.{Kept}
use Rattle.division_session.specs.Session.{Closed, line_closed}
use Rattle.division_input.specs.Input.{State, held, with_kept, byte_kept, byte_fed, ended}
use Rattle.division_input.proofs.Fed.{byte-refused, byte-closes, byte-within, HeldIn, held_bytes}

-- ---- a part with no line feed in it
no-feed-by : (b : ℕ) (bs : List ℕ) (t : Bool) → eqb b line_feed ≡ t → until_feed (b ∷ bs) ≡ b ∷ bs → (b ≡ line_feed → ⊥) × (until_feed bs ≡ bs)
unfolding until_feed
no-feed-by b bs true e h = let n = rw e at h in absurd (let z : ◌≡◌ {A = ℕ} 0 1 = cc in omega arith)
no-feed-by b bs false e h = let n = rw e at h in (eqb-false b line_feed e, cc)

-- what is held once a part is kept
abbrev pub part_in : State → Kept → State
part_in t k = held (with_kept t.session k.count) k.line t.out

part-fed : (t : State) (part : List ℕ) → t.session.refused ≡ 0 → until_feed part ≡ part → foldl byte_fed t part ≡ part_in t (part_kept (kept_of t.session.kept t.line) part)
unfolding part_kept
part-fed t [] e h = refl
part-fed t (b ∷ bs) e h =
    let n = no-feed-by b bs _ refl h in
    ap (λ u. foldl byte_fed u bs) (byte-within t b e n.0) ∙ part-fed (byte_kept t b) bs e n.1

pub fed-refused : (t : State) (bs : List ℕ) → (t.session.refused ≡ 0 → ⊥) → foldl byte_fed t bs ≡ t
fed-refused t [] e = refl
fed-refused t (b ∷ bs) e = ap (λ u. foldl byte_fed u bs) (byte-refused t b e) ∙ fed-refused t bs e

module _ (t : State) (part : List ℕ) (k : Kept) (goes : t.session.refused ≡ 0) (h : until_feed part ≡ part) (e : k ≡ part_kept (kept_of t.session.kept t.line) part) where
  fed : part_in t k ≡ foldl byte_fed t part
  fed = ap (part_in t) e ∙ sym (part-fed t part goes h)

  pub fed-within : (ends : Bool) → ends ≡ false → part_in t k ≡ foldl byte_fed t (ended ends part)
  fed-within ends f = rw f fed

  pub fed-closes : (ends : Bool) (r : Closed) → ends ≡ true → r ≡ line_closed (part_in t k).session (take k.count k.line) t.out → held r.session k.line r.out ≡ foldl byte_fed t (ended ends part)
  fed-closes ends r f g = rw (f, foldl-append, g) (sym (byte-closes (part_in t k) line_feed goes refl) ∙ ap (λ u. byte_fed u line_feed) fed)

  pub held-part : HeldIn t → HeldIn (part_in t k)
  held-part r = subst HeldIn (sym fed) (held_bytes t part r)

-- ---- a piece, cut at its first line feed
-- the bytes before it are the first of the piece and have none among them; the line feed, if there is one, and what follows make the piece
abbrev Cut : List ℕ → List ℕ → Type 0
Cut part bs =
    (take (length part) bs ≡ part) × (until_feed part ≡ part) × (length part < length bs → bs ≡ part ++ line_feed ∷ drop (suc (length part)) bs) × (length bs ≤ length part → bs ≡ part)

cut_by : (b : ℕ) (bs : List ℕ) (t : Bool) → eqb b line_feed ≡ t → Cut (until_feed bs) bs → Cut (until_feed (b ∷ bs)) (b ∷ bs)
unfolding until_feed
cut_by b bs true e c = rw e (refl, refl, λ _. ap (λ x. x ∷ bs) (eqb-true b line_feed e), λ h. absurd (omega arith))
cut_by b bs false e c = rw e (ap (λ l. b ∷ l) c.0, rw e (ap (λ l. b ∷ l) c.1), λ h. ap (λ l. b ∷ l) (c.2 (omega arith)), λ h. ap (λ l. b ∷ l) (c.3 (omega arith)))

cut : (bs : List ℕ) → Cut (until_feed bs) bs
unfolding until_feed
cut [] = (refl, refl, λ h. absurd (omega arith), λ h. refl)
cut (b ∷ bs) = cut_by b bs _ refl (cut bs)

module _ (piece : List ℕ) (i end : ℕ) (h : i < length piece) (e : end ≡ i + length (until_feed (drop i piece))) where
  part-is : take (end - i) (drop i piece) ≡ until_feed (drop i piece)
  part-is = let n : end - i ≡ length (until_feed (drop i piece)) = omega arith in rw n (cut (drop i piece)).0

  pub part-unbroken : until_feed (take (end - i) (drop i piece)) ≡ take (end - i) (drop i piece)
  part-unbroken = rw part-is (cut (drop i piece)).1

  pub end-within : end ≤ length piece
  end-within = omega (arith, simp (length-take, length-drop) at (ap length (cut (drop i piece)).0))

  after : drop (suc (length (until_feed (drop i piece)))) (drop i piece) ≡ drop (end + 1) piece
  after = let n : i + suc (length (until_feed (drop i piece))) ≡ end + 1 = omega arith in rw (drop-drop, n)

  line-by : (ends : Bool) → ltb end (length piece) ≡ ends → ended ends (until_feed (drop i piece)) ++ drop (end + 1) piece ≡ drop i piece
  line-by true f = rw (append_assoc, ← after) (sym ((cut (drop i piece)).2 (omega (arith, ltb-true end (length piece) f, length-drop i piece))))
  line-by false f =
      let l = ltb-false end (length piece) f in
      let n : length piece ≤ end + 1 = omega arith in
      rw (drop_of_length-le piece n, append-nil) (sym ((cut (drop i piece)).3 (omega (arith, length-drop i piece))))

  -- one line fed, the rest takes what is held to where it would have been taken
  pub line-fed : (t u : State) → u ≡ foldl byte_fed t (ended (ltb end (length piece)) (take (end - i) (drop i piece))) → HeldIn t → (foldl byte_fed u (drop (end + 1) piece) ≡ foldl byte_fed t (drop i piece)) × HeldIn u
  line-fed t u f r =
      let fed = ended (ltb end (length piece)) (take (end - i) (drop i piece)) in
      rw f (rw (part-is, ← foldl-append) (ap (foldl byte_fed t) (line-by _ refl)), held_bytes t fed r)
