-- Adding months one by one shows what the forward rule says. The invariant: the months so far are `s ++ t`, nobody in t decides, s is closed
-- (whatever comes after s, the forward rule says of s what it said, and nothing of s bears on what comes after), and the run is `run_of s t`. Assumes nothing.
use mathlib.Core.Path.{◌≡◌, refl, sym, ap, ◌∙◌}
use mathlib.Core.Logic.{◌↔◌, ◌⊎◌, inl, inr}
use mathlib.Core.List.{List, [], ◌∷◌, ◌++◌, map, append_assoc, append-nil}
use Prim.Native.Nat.{ℕ, zero, suc, ◌+◌, ◌-◌, ◌<◌, ◌≤◌}
use native.Mathlib.Nat.{not-suc-le-zero, le_of_suc-le-suc}
use native.Mathlib.Omega.{arith}
use lib.IntN.{ℤ, pos}
use lib.ListN.{length, take, drop, replicate, get_or, length-append, length-map, length-replicate}
use lib.Seq.{take_at, drop_at}
use Rattle.spells.specs.declared.With.{With}
use Rattle.hindsight.specs.Rule.{X, Row, Deciding, nobody, after, one_earlier, deciding_for, deciding, Shown, shown_by, settled_index, forward, forward_all, forward_indexes, forward_marks, index_of, mark_of}
use Rattle.hindsight.proofs.Forward.{length-forward_all, get_d-forward_all, get_d_map}
use Rattle.hindsight_laws.specs.Counts.{NoneFrom, count}
use Rattle.hindsight.specs.Adding.{History, fresh, settled_all, kept, add_as, add_month, settled_count, settled_as, add_to, add_all}
use Rattle.std.specs.Prelude.{Option, None, Some}

abbrev pub x_of : Row → X
x_of r = r.x

abbrev pub shown_of : Row → ℤ
shown_of r = r.shown

-- nobody of these months decides
abbrev pub Wait : List Row → Type 0
Wait [] = Unit {0}
Wait (r ∷ later) = (r.decision ≡ None) × Wait later

-- the forward rule at s is done, and what comes later starts afresh
abbrev pub Closed : List Row → Type 0
Closed s = (rest : List Row) → forward_all (s ++ rest) ≡ forward_all s ++ forward_all rest

-- the run whose settled months are s and whose open months are t
abbrev pub run_of : List Row → List Row → History
run_of s t =
    record {
      past = map x_of s ++ map x_of t;
      index = map index_of (forward_all s) ++ map shown_of t;
      mark = replicate (length s) 2 ++ replicate (length t) 1;
      opens = length t;
    }

-- lists
pub map-append : {A B : Type 0} (f : A → B) (l m : List A) → map f (l ++ m) ≡ map f l ++ map f m
map-append f [] m = refl
map-append {B = B} f (x ∷ l) m = ap (λ (r : List B). f x ∷ r) (map-append f l m)

replicate-append : {A : Type 0} (l m : List A) (n : ℕ) → replicate (length (l ++ m)) n ≡ replicate (length l) n ++ replicate (length m) n
replicate-append [] m n = refl
replicate-append (x ∷ l) m n = ap (λ (r : List ℕ). n ∷ r) (replicate-append l m n)

-- the deciding month of t followed by a month that decides is that month
settles : (t : List Row) (r : Row) (w : With) (rest : List Row) → Wait t → r.decision ≡ Some w → deciding (t ++ (r ∷ rest)) ≡ after (map x_of t) w r.shown
settles [] r w rest h e = rw e
settles (m ∷ t) r w rest h e = rw (h.0, settles t r w rest h.1 e)

waits-nobody : (t : List Row) → Wait t → deciding t ≡ nobody
waits-nobody [] h = refl
waits-nobody (m ∷ t) h = rw (h.0, waits-nobody t h.1)

-- so t is settled by it, and it shows its own index
shows : With → List X → List Shown
shows w [] = []
shows w (m ∷ later) = record { mark = 2; index = settled_index w m later } ∷ shows w later

forward-settles : (t : List Row) (r : Row) (w : With) (rest : List Row) → Wait t → r.decision ≡ Some w
    → forward_all (t ++ (r ∷ rest)) ≡ shows w (map x_of t) ++ (record { mark = 2; index = r.shown } ∷ forward_all rest)
unfolding shows
forward-settles [] r w rest h e = rw e
forward-settles (m ∷ t) r w rest h e = rw (settles (m ∷ t) r w rest h e, forward-settles t r w rest h.1 e)

pub forward-waits : (t : List Row) → Wait t → forward_indexes t ≡ map shown_of t
forward-waits [] h = refl
forward-waits (m ∷ t) h = rw (waits-nobody (m ∷ t) h, forward-waits t h.1)

-- the marks and the indexes of what is settled
shows-marks : (w : With) (l : List X) → map mark_of (shows w l) ≡ replicate (length l) 2
unfolding shows
shows-marks w [] = refl
shows-marks w (m ∷ l) = ap (λ (r : List ℕ). 2 ∷ r) (shows-marks w l)

shows-indexes : (w : With) (l : List X) → map index_of (shows w l) ≡ settled_all w l
unfolding shows
shows-indexes w [] = refl
shows-indexes w (m ∷ l) = ap (λ (r : List ℤ). settled_index w m l ∷ r) (shows-indexes w l)

-- so the columns begin with the group's, and then with the month's own
module _ (t : List Row) (r : Row) (w : With) (rest : List Row) (h : Wait t) (e : r.decision ≡ Some w) where
  pub indexes-settle : forward_indexes (t ++ (r ∷ rest)) ≡ settled_all w (map x_of t) ++ (r.shown ∷ forward_indexes rest)
  indexes-settle = rw (forward-settles t r w rest h e) (simp (map-append, shows-indexes))

  pub marks-settle : forward_marks (t ++ (r ∷ rest)) ≡ replicate (length t) 2 ++ (2 ∷ forward_marks rest)
  marks-settle = rw (forward-settles t r w rest h e) (simp (map-append, shows-marks, length-map))

-- the two closings: nothing is closed, and s with the open months and the month that settles them is
closed-nil : Closed []
closed-nil rest = refl

closed-more : (s t : List Row) (r : Row) (w : With) → Closed s → Wait t → r.decision ≡ Some w → Closed (s ++ (t ++ (r ∷ [])))
closed-more s t r w c h e rest =
    rw (
      append_assoc s (t ++ (r ∷ [])) rest,
      append_assoc t (r ∷ []) rest,
      c (t ++ (r ∷ rest)),
      c (t ++ (r ∷ [])),
      forward-settles t r w rest h e,
      forward-settles t r w [] h e,
      append_assoc (forward_all s) (shows w (map x_of t) ++ (record { mark = 2; index = r.shown } ∷ [])) (forward_all rest),
      append_assoc (shows w (map x_of t)) (record { mark = 2; index = r.shown } ∷ []) (forward_all rest),
    )

pub wait-more : (t : List Row) (r : Row) → Wait t → r.decision ≡ None → Wait (t ++ (r ∷ []))
wait-more [] r h e = (e, tt)
wait-more (m ∷ t) r h e = (h.0, wait-more t r h.1 e)

-- the open months' places begin where s ends
kept-is : (s t : List Row) → kept (run_of s t) ≡ length s
kept-is s t =
    omega (arith, length-append (map x_of s) (map x_of t), length-map s x_of, length-map t x_of)

length-snoc : (t : List Row) (r : Row) → length (t ++ (r ∷ [])) ≡ suc (length t)
length-snoc t r = omega (arith, length-append t (r ∷ []))

replicate-snoc : (n a : ℕ) → replicate n a ++ (a ∷ []) ≡ a ∷ replicate n a
replicate-snoc zero a = refl
replicate-snoc (suc n) a = ap (λ (r : List ℕ). a ∷ r) (replicate-snoc n a)

-- one month more, which does not decide
add-waits : (s t : List Row) (r : Row) → add_as None (run_of s t) r ≡ run_of s (t ++ (r ∷ []))
add-waits s t r = simp (map-append, append_assoc, length-snoc, replicate-snoc)

-- one month more, which decides: the three columns
module _ (s t : List Row) (r : Row) (w : With) (c : Closed s) (h : Wait t) (e : r.decision ≡ Some w) where
  past-decides : map x_of s ++ map x_of t ++ (r.x ∷ []) ≡ map x_of (s ++ (t ++ (r ∷ []))) ++ []
  past-decides = simp (map-append, append_assoc, append-nil)

  index-decides : take (kept (run_of s t)) (map index_of (forward_all s) ++ map shown_of t) ++ (settled_all w (drop (kept (run_of s t)) (map x_of s ++ map x_of t)) ++ (r.shown ∷ []))
      ≡ map index_of (forward_all (s ++ (t ++ (r ∷ [])))) ++ []
  index-decides =
      rw (
        take_at (map index_of (forward_all s)) (map shown_of t) (kept (run_of s t)) (length-map (forward_all s) index_of ∙ length-forward_all s ∙ sym (kept-is s t)),
        drop_at (map x_of s) (map x_of t) (kept (run_of s t)) (length-map s x_of ∙ sym (kept-is s t)),
        c (t ++ (r ∷ [])),
      )
      (simp (map-append, indexes-settle t r w [] h e, append-nil))

  mark-decides : take (kept (run_of s t)) (replicate {A = ℕ} (length s) 2 ++ replicate {A = ℕ} (length t) 1) ++ (replicate {A = ℕ} (length t) 2 ++ (2 ∷ []))
      ≡ replicate {A = ℕ} (length (s ++ (t ++ (r ∷ [])))) 2 ++ []
  mark-decides =
      rw (take_at (replicate {A = ℕ} (length s) 2) (replicate {A = ℕ} (length t) 1) (kept (run_of s t)) (length-replicate (length s) 2 ∙ sym (kept-is s t)))
      (simp (replicate-append, append-nil))

  add-decides : add_as (Some w) (run_of s t) r ≡ run_of (s ++ (t ++ (r ∷ []))) []
  add-decides = λ i. record { past = past-decides i; index = index-decides i; mark = mark-decides i; opens = 0 }

  twos-more : map mark_of (forward_all s) ≡ replicate {A = ℕ} (length s) 2 → map mark_of (forward_all (s ++ (t ++ (r ∷ [])))) ≡ replicate {A = ℕ} (length (s ++ (t ++ (r ∷ [])))) 2
  twos-more p = rw (c (t ++ (r ∷ []))) (simp (map-append, marks-settle t r w [] h e, replicate-append, p))

-- THE INVARIANT of adding one by one
pub record Inv (rows : List Row) (run : History) : Type 0 where
  pub s : List Row
  pub t : List Row
  pub split : rows ≡ s ++ t
  pub closed : Closed s
  pub wait : Wait t
  pub twos : map mark_of (forward_all s) ≡ replicate (length s) 2
  pub is : run ≡ run_of s t

inv-fresh : Inv [] fresh
inv-fresh = record { s = []; t = []; split = refl; closed = closed-nil; wait = tt; twos = refl; is = refl }

inv-add : (rows : List Row) (run : History) (r : Row) → Inv rows run → Inv (rows ++ (r ∷ [])) (add_month run r)
inv-add rows run r v = go r.decision refl
  where
    go : (d : Option With) → r.decision ≡ d → Inv (rows ++ (r ∷ [])) (add_as d run r)
    go None e =
        record {
          s = v.s;
          t = v.t ++ (r ∷ []);
          split = ap (λ (l : List Row). l ++ (r ∷ [])) v.split ∙ append_assoc v.s v.t (r ∷ []);
          closed = v.closed;
          wait = wait-more v.t r v.wait e;
          twos = v.twos;
          is = ap (λ (u : History). add_as None u r) v.is ∙ add-waits v.s v.t r;
        }
    go (Some w) e =
        record {
          s = v.s ++ (v.t ++ (r ∷ []));
          t = [];
          split = ap (λ (l : List Row). l ++ (r ∷ [])) v.split ∙ append_assoc v.s v.t (r ∷ []) ∙ sym (append-nil (v.s ++ (v.t ++ (r ∷ []))));
          closed = closed-more v.s v.t r w v.closed v.wait e;
          wait = tt;
          twos = twos-more v.s v.t r w v.closed v.wait e v.twos;
          is = ap (λ (u : History). add_as (Some w) u r) v.is ∙ add-decides v.s v.t r w v.closed v.wait e;
        }

inv-all : (rows : List Row) (run : History) (more : List Row) → Inv rows run → Inv (rows ++ more) (add_to run more)
inv-all rows run [] v = rw append-nil v
inv-all rows run (r ∷ more) v =
    rw append_assoc at (inv-all (rows ++ (r ∷ [])) (add_month run r) more (inv-add rows run r v))

pub inv : (rows : List Row) → Inv rows (add_all rows)
inv rows = inv-all [] fresh rows inv-fresh

-- ═══ WHAT FOLLOWS ═══

pub ones : (t : List Row) → Wait t → forward_marks t ≡ replicate (length t) 1
ones [] h = refl
ones (m ∷ t) h = rw (waits-nobody (m ∷ t) h, ones t h.1)

pub index-columns : (rows : List Row) (run : History) → Inv rows run → run.index ≡ map index_of (forward_all rows)
index-columns rows run v = rw (v.is, v.split, v.closed v.t) (simp (map-append, forward-waits v.t v.wait))

pub mark-columns : (rows : List Row) (run : History) → Inv rows run → run.mark ≡ map mark_of (forward_all rows)
mark-columns rows run v = rw (v.is, v.split, v.closed v.t) (simp (map-append, v.twos, ones v.t v.wait))

-- THEOREM 1: after any list of months added one by one to a fresh run, the index and the mark at every place are the forward rule's
pub every-index : (rows : List Row) (i : ℕ) → get_or (add_all rows).index i (pos 0) ≡ (forward rows i).index
every-index rows i =
    rw (index-columns rows (add_all rows) (inv rows), ← get_d-forward_all rows i)
    (get_d_map index_of (forward_all rows) i (record { mark = 0; index = pos 0 }))

pub every-mark : (rows : List Row) (i : ℕ) → get_or (add_all rows).mark i 0 ≡ (forward rows i).mark
every-mark rows i =
    rw (mark-columns rows (add_all rows) (inv rows), ← get_d-forward_all rows i)
    (get_d_map mark_of (forward_all rows) i (record { mark = 0; index = pos 0 }))

-- the columns are as long as the months
length-columns : (rows : List Row) (run : History) → Inv rows run → (length run.index ≡ length rows) × (length run.mark ≡ length rows)
length-columns rows run v =
    (rw (index-columns rows run v) (simp (length-map, length-forward_all)), rw (mark-columns rows run v) (simp (length-map, length-forward_all)))

pub every-place : (rows : List Row) → (length (add_all rows).index ≡ length rows) × (length (add_all rows).mark ≡ length rows)
every-place rows = length-columns rows (add_all rows) (inv rows)

-- THEOREM 2: a month is open exactly when no month from it onward decides
none-wait : (rows : List Row) → NoneFrom rows 0 → Wait rows
none-wait [] f = tt
none-wait (m ∷ rows) f = (f 0 m (omega arith) (omega arith), none-wait rows (λ j r h k. f (suc j) r (omega arith) (omega arith)))

wait-none : (rows : List Row) → Wait rows → NoneFrom rows 0
wait-none [] w j r h k = absurd (not-suc-le-zero k)
wait-none (m ∷ rows) w zero r h k = w.0
wait-none (m ∷ rows) w (suc j) r h k = wait-none rows w.1 j r (omega arith) (le_of_suc-le-suc k)

pub open-if-none : (rows : List Row) (i : ℕ) → i < length rows → NoneFrom rows i → (forward rows i).mark ≡ 1
open-if-none [] i h f = absurd (not-suc-le-zero h)
open-if-none (m ∷ rows) zero h f = rw (waits-nobody (m ∷ rows) (none-wait (m ∷ rows) f))
open-if-none (m ∷ rows) (suc i) h f = open-if-none rows i (le_of_suc-le-suc h) (λ j r a b. f (suc j) r (omega arith) (omega arith))

not-nobody : (before : List X) (w : With) (i : ℤ) → after before w i ≡ nobody → ⊥
not-nobody before w i e = let z : ◌≡◌ {A = ℕ} 0 1 = cc in omega arith

nobody-waits : (rows : List Row) → deciding rows ≡ nobody → Wait rows
nobody-waits [] e = tt
nobody-waits (m ∷ rows) e = go m.decision (deciding rows) refl (nobody-waits rows) e
  where
    go : (d : Option With) (b : Deciding) → m.decision ≡ d → (b ≡ nobody → Wait rows) → deciding_for d m b ≡ nobody → Wait (m ∷ rows)
    go None nobody p f q = (p, f refl)
    go None (after before w i) p f q = absurd (not-nobody (m.x ∷ before) w i q)
    go (Some w) b p f q = absurd (not-nobody [] w m.shown q)

one-nobody : (p : ℤ) (d : Deciding) → (shown_by p d).mark ≡ 1 → d ≡ nobody
one-nobody p nobody e = refl
one-nobody p (after [] w i) e = absurd (omega arith)
one-nobody p (after (m ∷ before) w i) e = absurd (omega arith)

pub none-if-open : (rows : List Row) (i : ℕ) → (forward rows i).mark ≡ 1 → NoneFrom rows i
none-if-open [] i e = λ j r h k. absurd (not-suc-le-zero k)
none-if-open (m ∷ rows) zero e = wait-none (m ∷ rows) (nobody-waits (m ∷ rows) (one-nobody m.shown (deciding (m ∷ rows)) e))
none-if-open (m ∷ rows) (suc i) e = later (none-if-open rows i e)
  where
    later : NoneFrom rows i → NoneFrom (m ∷ rows) (suc i)
    later f zero r h k = absurd (not-suc-le-zero h)
    later f (suc j) r h k = f j r (le_of_suc-le-suc h) (le_of_suc-le-suc k)

pub open-exactly : (rows : List Row) (i : ℕ) → i < length rows → (get_or (add_all rows).mark i 0 ≡ 1) ↔ NoneFrom rows i
open-exactly rows i h = (λ e. none-if-open rows i (sym (every-mark rows i) ∙ e), λ f. every-mark rows i ∙ open-if-none rows i h f)

-- every month's mark is 1 or 2
mark-cases : (p : ℤ) (d : Deciding) → ((shown_by p d).mark ≡ 1) ⊎ ((shown_by p d).mark ≡ 2)
mark-cases p nobody = inl refl
mark-cases p (after [] w i) = inr refl
mark-cases p (after (m ∷ before) w i) = inr refl

forward-mark : (rows : List Row) (i : ℕ) → i < length rows → ((forward rows i).mark ≡ 1) ⊎ ((forward rows i).mark ≡ 2)
forward-mark [] i h = absurd (not-suc-le-zero h)
forward-mark (m ∷ rows) zero h = mark-cases m.shown (deciding (m ∷ rows))
forward-mark (m ∷ rows) (suc i) h = forward-mark rows i (le_of_suc-le-suc h)

pub one-or-two : (rows : List Row) (i : ℕ) → i < length rows → (get_or (add_all rows).mark i 0 ≡ 1) ⊎ (get_or (add_all rows).mark i 0 ≡ 2)
one-or-two rows i h = rw (every-mark rows i) (forward-mark rows i h)

-- THEOREM 3: what is settled stays, whatever months are added later
Found : Deciding → Type 0
Found nobody = ⊥
Found (after before w i) = Unit {0}

found-stays : (rows more : List Row) → Found (deciding rows) → deciding (rows ++ more) ≡ deciding rows
unfolding Found
found-stays [] more f = absurd f
found-stays (m ∷ rows) more f = go m.decision (deciding rows) (found-stays rows more) f
  where
    go : (d : Option With) (b : Deciding) → (Found b → deciding (rows ++ more) ≡ b) → Found (deciding_for d m b) → deciding_for d m (deciding (rows ++ more)) ≡ deciding_for d m b
    go None nobody g h = absurd h
    go None (after before w i) g h = ap (one_earlier m.x) (g tt)
    go (Some w) b g h = refl

two-found : (p : ℤ) (d : Deciding) → (shown_by p d).mark ≡ 2 → Found d
unfolding Found
two-found p nobody e = absurd (omega arith)
two-found p (after [] w i) e = tt
two-found p (after (m ∷ before) w i) e = tt

pub forward-stays : (rows more : List Row) (i : ℕ) → (forward rows i).mark ≡ 2 → forward (rows ++ more) i ≡ forward rows i
forward-stays [] more i e = absurd (omega arith)
forward-stays (m ∷ rows) more zero e = ap (shown_by m.shown) (found-stays (m ∷ rows) more (two-found m.shown (deciding (m ∷ rows)) e))
forward-stays (m ∷ rows) more (suc i) e = forward-stays rows more i e

pub add-append : (run : History) (rows more : List Row) → add_to run (rows ++ more) ≡ add_to (add_to run rows) more
add-append run [] more = refl
add-append run (r ∷ rows) more = add-append (add_month run r) rows more

pub settled-stays : (rows more : List Row) (i : ℕ) → get_or (add_all rows).mark i 0 ≡ 2
    → (get_or (add_to (add_all rows) more).mark i 0 ≡ 2) × (get_or (add_to (add_all rows) more).index i (pos 0) ≡ get_or (add_all rows).index i (pos 0))
settled-stays rows more i e =
    let f : forward (rows ++ more) i ≡ forward rows i = forward-stays rows more i (sym (every-mark rows i) ∙ e) in
    rw (← add-append fresh rows more) (
      every-mark (rows ++ more) i ∙ ap mark_of f ∙ sym (every-mark rows i) ∙ e,
      every-index (rows ++ more) i ∙ ap index_of f ∙ sym (every-index rows i),
    )

-- THEOREM 4: the marks are 2 up to the last `opens` months, which are 1. So the open count is the number of open marks, and these are the last ones
last-marks : (rows : List Row) (run : History) → Inv rows run
    → (run.mark ≡ replicate (length rows - run.opens) 2 ++ replicate run.opens 1) × (run.opens ≤ length rows)
last-marks rows run v = rw (v.is, v.split, length-append v.s v.t) (rw (long (length v.s) (length v.t)) refl, omega arith)
  where
    long : (a b : ℕ) → a + b - b ≡ a
    long a b = omega arith

pub last-are-open : (rows : List Row) → (add_all rows).mark ≡ replicate (length rows - (add_all rows).opens) 2 ++ replicate (add_all rows).opens 1
last-are-open rows = (last-marks rows (add_all rows) (inv rows)).0

pub opens-within : (rows : List Row) → (add_all rows).opens ≤ length rows
opens-within rows = (last-marks rows (add_all rows) (inv rows)).1

count-append : (k : ℕ) (l m : List ℕ) → count k (l ++ m) ≡ count k l + count k m
count-append k [] m = omega arith
count-append k (a ∷ l) m = omega (arith, count-append k l m)

count-twos : (n : ℕ) → count 2 (replicate n 2) ≡ n
count-twos zero = refl
count-twos (suc n) = omega (arith, count-twos n)

count_ones : (n : ℕ) → count 1 (replicate n 1) ≡ n
count_ones zero = refl
count_ones (suc n) = omega (arith, count_ones n)

no-two : (n : ℕ) → count 2 (replicate n 1) ≡ 0
no-two zero = refl
no-two (suc n) = omega (arith, no-two n)

no_one : (n : ℕ) → count 1 (replicate n 2) ≡ 0
no_one zero = refl
no_one (suc n) = omega (arith, no_one n)

pub opens-counts : (rows : List Row) → (add_all rows).opens ≡ count 1 (add_all rows).mark
opens-counts rows =
    omega (
      arith,
      ap (count 1) (last-are-open rows),
      count-append 1 (replicate (length rows - (add_all rows).opens) 2) (replicate (add_all rows).opens 1),
      no_one (length rows - (add_all rows).opens),
      count_ones (add_all rows).opens,
    )

-- THEOREM 5: what an add answers is the number of marks that it writes as 2.
-- Of any run at all: after a month that decides, the marks before the open months stand as they were, and as many marks as it answers follow, each 2 ..
pub writes-settled : (run : History) (r : Row) (w : With) → r.decision ≡ Some w
    → (add_month run r).mark ≡ take (kept run) run.mark ++ replicate (settled_count run r) 2
writes-settled run r w e = rw e (rw replicate-snoc refl)

-- .. and after one that does not, it answers 0, and one mark, 1, follows
pub writes-open : (run : History) (r : Row) → r.decision ≡ None → ((add_month run r).mark ≡ run.mark ++ (1 ∷ [])) × (settled_count run r ≡ 0)
writes-open run r e = rw e (refl, refl)

-- Of a run that was made by adding: the answer is by how many the marks 2 grow
count-settled : (a b : ℕ) → count 2 (replicate a 2 ++ (replicate b 2 ++ (2 ∷ []))) ≡ count 2 (replicate a 2 ++ replicate b 1) + suc b
count-settled a b =
    rw (replicate-snoc b 2)
    (omega (
      arith,
      count-append 2 (replicate a 2) (replicate (suc b) 2),
      count-append 2 (replicate a 2) (replicate b 1),
      count-twos a,
      count-twos (suc b),
      no-two b,
    ))

grows-as : (s t : List Row) (r : Row) (d : Option With) → count 2 (add_as d (run_of s t) r).mark ≡ count 2 (run_of s t).mark + settled_as d (length t)
grows-as s t r None = count-append 2 (run_of s t).mark (1 ∷ [])
grows-as s t r (Some w) =
    rw (take_at (replicate {A = ℕ} (length s) 2) (replicate {A = ℕ} (length t) 1) (kept (run_of s t)) (length-replicate (length s) 2 ∙ sym (kept-is s t)))
    (count-settled (length s) (length t))

grows : (rows : List Row) (run : History) (r : Row) → Inv rows run → count 2 (add_month run r).mark ≡ count 2 run.mark + settled_count run r
grows rows run r v = rw v.is (grows-as v.s v.t r r.decision)

pub answers-settled : (rows : List Row) (r : Row) → count 2 (add_month (add_all rows) r).mark ≡ count 2 (add_all rows).mark + settled_count (add_all rows) r
answers-settled rows r = grows rows (add_all rows) r (inv rows)
