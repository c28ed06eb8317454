-- What is known of a list in which a text is laid. The idea: a text laid where another ends is the one text laid where the first began, so a
-- row put piece by piece is the row put at once. Assumes nothing.
use mathlib.Core.Path.{◌≡◌, sym, ap, ap₂, ◌∙◌}
use mathlib.Core.List.{List, [], ◌∷◌, ◌++◌, append_assoc, append-nil}
use Prim.Native.Nat.{ℕ, suc, ◌+◌, ◌≤◌, ◌<◌}
use native.Mathlib.Numerals.{add-one}
use native.Mathlib.Omega.{arith}
use lib.ListN.{length, take, drop, set, length-append, take-append-drop}
use lib.Seq.{take_at, drop_at, drop-drop, set_split, append_snoc, length-take-le}
use Rattle.rows.specs.Room.{laid}

-- what a function that puts a text says: r is where it ends, and q the list that was o
abbrev pub Put : List ℕ → ℕ → List ℕ → ℕ → List ℕ → Type 0
Put text at o r q = (r ≡ at + length text) × (q ≡ laid text at o)

-- one byte laid is one element set
pub laid_one : (b at : ℕ) (o : List ℕ) → at < length o → set o at b ≡ laid (b ∷ []) at o
laid_one b at o h = set_split o at b h ∙ sym (append_snoc (take at o) b (drop (suc at) o)) ∙ ap (λ n. take at o ++ (b ∷ []) ++ drop n o) (sym (add-one at))

module _ (a b : List ℕ) (at : ℕ) (o : List ℕ) (h : at ≤ length o) where
  seam : length (take at o ++ a) ≡ at + length a
  seam = length-append (take at o) a ∙ ap (λ n. n + length a) (length-take-le at o h)

  front : take (at + length a) (laid a at o) ≡ take at o ++ a
  front = take_at (take at o ++ a) (drop (at + length a) o) (at + length a) seam

  back : drop (at + length a + length b) (laid a at o) ≡ drop (at + length a + length b) o
  back =
      sym (drop-drop (length b) (at + length a) (laid a at o))
      ∙ ap (drop (length b)) (drop_at (take at o ++ a) (drop (at + length a) o) (at + length a) seam)
      ∙ drop-drop (length b) (at + length a) o

  ends : at + length a + length b ≡ at + length (a ++ b)
  ends = omega (arith, length-append a b)

  -- b laid where a ends is both laid where a began
  pub laid-laid : laid b (at + length a) (laid a at o) ≡ laid (a ++ b) at o
  laid-laid =
      ap₂ (λ s t. s ++ b ++ t) front back ∙ ap (λ s. s ++ drop (at + length a + length b) o) (append_assoc (take at o) a b)
      ∙ ap (λ n. take at o ++ (a ++ b) ++ drop n o) ends

  pub put_then : (e r : ℕ) (p q : List ℕ) → Put a at o e p → Put b e p r q → Put (a ++ b) at o r q
  put_then e r p q f g =
      (g.0 ∙ ap (λ n. n + length b) f.0 ∙ ends, g.1 ∙ ap₂ (laid b) f.0 f.1 ∙ laid-laid)

-- no text laid changes nothing
pub put-none : (at : ℕ) (o : List ℕ) → Put [] at o at o
put-none at o =
    let none : at + 0 ≡ at = omega arith in
    (sym none, sym (ap₂ (λ s n. s ++ drop n o) (append-nil (take at o)) none ∙ take-append-drop at o))

-- how far a row that is put piece by piece has come: the text so far, at most k bytes, in a list that is as long as it was
pub record Reached (text : List ℕ) (k at : ℕ) (o : List ℕ) (r : ℕ) (q : List ℕ) : Type 0 where
  pub put : Put text at o r q
  pub within : r ≤ at + k
  pub kept : length q ≡ length o

-- one piece more, of at most l bytes
pub reach-then : (b : List ℕ) (l : ℕ) {a : List ℕ} {k at e r : ℕ} {o p q : List ℕ} → at ≤ length o → Reached a k at o e p → Put b e p r q → r ≤ e + l → length q ≡ length p → Reached (a ++ b) (k + l) at o r q
reach-then b l {a} {k} {at} {e} {r} {o} {p} {q} h f g w s =
    record { put = put_then a b at o h e r p q f.put g; within = omega (arith, f.within); kept = s ∙ f.kept }
