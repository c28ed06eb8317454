-- The report filled place by place: with what was before, and with nothing from a place on. Assumes nothing.
use mathlib.Core.Path.{◌≡◌, refl, sym, ap, ◌∙◌}
use mathlib.Core.List.{List, [], ◌∷◌, ◌++◌, append-nil, append_assoc}
use Prim.Native.Nat.{ℕ, ◌+◌, ◌-◌, ◌≤◌, ◌<◌}
use native.Mathlib.Numerals.{add-one}
use native.Mathlib.Omega.{arith}
use lib.IntN.{ℤ, pos}
use lib.ListN.{length, take, drop, set, get_or, replicate, replicate-append-replicate, length-drop, drop_of_length-le}
use lib.Seq.{take-suc-set, take_all}
use mir.Syntax.{w32}
use mir.Val.{SFits, to_z, of_z}
use mir.Facts.{to_z-of_z}
use borrow.Rule.Slice.PartMut.{post_of}
use Rattle.std.specs.List.{AllZip, each_same}
use Rattle.report.specs.Report.{no_change, reported}
use Rattle.report.specs.Held.{held}

-- ---- holding
pub held_first : (index : List ℤ) (mark : List ℕ) → [] ≡ held index mark 0
unfolding held
held_first index mark = refl

pub held_next : (index : List ℤ) (mark : List ℕ) (report : List (List ℤ)) (i : ℕ) (m : ℤ) → i < length report
    → SFits w32 (get_or index i (pos 0)) → SFits w32 m → m ≡ pos (get_or mark i 0) → take i report ≡ held index mark i
    → take (i + 1) (set report i (pos 0 ∷ to_z w32 (of_z w32 (get_or index i (pos 0))) ∷ pos 0 ∷ to_z w32 (of_z w32 m) ∷ pos 0 ∷ [])) ≡ held index mark (i + 1)
unfolding held
held_next index mark report i m h f g e p = rw (add-one, take-suc-set, p, to_z-of_z f, to_z-of_z g, e)

-- ---- clearing
pub cleared-next : (l report : List (List ℤ)) (from i : ℕ) → from ≤ i → i < length report
    → take i report ≡ l ++ replicate (i - from) no_change
    → take (i + 1) (set report i no_change) ≡ l ++ replicate (i + 1 - from) no_change
cleared-next l report from i b h p =
    let e : i + 1 - from ≡ (i - from) + 1 = omega arith in
    rw (e, add-one i, take-suc-set, p, append_assoc, ← replicate-append-replicate (i - from) 1 no_change)

-- a clone of nothing is nothing
pub nothing-cloned : (y : List ℤ) → AllZip (λ (a b : ℤ). b ≡ a) no_change y → y ≡ no_change
nothing-cloned y h = each_same no_change y h

-- the places from the months on are filled
pub filled-from : (report new : List (List ℤ)) (months : ℕ) → months ≤ length report
    → new ≡ replicate (length (take (length report - months) (drop months report))) no_change
    → take months report ++ (new ++ post_of months (length report - months) report) ≡ take months report ++ replicate (length report - months) no_change
filled-from report new months h e =
    let l : length (drop months report) ≡ length report - months = length-drop months report in
    let r : drop (length report - months) (drop months report) ≡ [] = drop_of_length-le (drop months report) (omega arith) in
    rw (r, append-nil) (ap (λ (xs : List (List ℤ)). take months report ++ xs) (e ∙ rw (take_all (length report - months) (drop months report) (omega arith), l)))

-- ---- all of it
pub all-of : (report l : List (List ℤ)) (i n : ℕ) → length report ≡ n → n ≤ i → take i report ≡ l → report ≡ l
all-of report l i n e h p = sym (take_all i report (omega arith)) ∙ p

-- the changes at the beginning, and nothing after them, up to the months and from them on
pub reported-is : (report after changes : List (List ℤ)) (n k months : ℕ) → length report ≡ n → k ≡ length changes → k ≤ months → months ≤ n
    → take months report ≡ changes ++ replicate (months - k) no_change
    → after ≡ take months report ++ replicate (length report - months) no_change → after ≡ reported n changes
unfolding reported
reported-is report after changes n k months e l b m p q =
    let s : n - k ≡ (months - k) + (n - months) = omega arith in
    rw (← l, s, ← replicate-append-replicate (months - k) (n - months) no_change, ← append_assoc, ← p, ← e) q
