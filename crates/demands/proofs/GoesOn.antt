-- Longer columns, as specs/Longer.antt states it: seasons, months one by one, and a run that goes on. A season is followed once for longer columns and
-- for copied months (`each-alike`). Assumes nothing.
use mathlib.Core.Path.{◌≡◌, refl, sym, ap, ap₂, ◌∙◌, subst, subst₂}
use mathlib.Core.Bool.{true}
use mathlib.Core.Logic.{⊎_elim}
use mathlib.Core.List.{List, [], ◌∷◌}
use Prim.Native.Nat.{ℕ, zero, suc, ◌+◌, ◌-◌, ◌≤◌}
use native.Mathlib.Omega.{arith}
use lib.IntN.{ℤ}
use lib.ListN.{length, drop, length-drop}
use Rattle.outline.specs.Refusals.{full, unless_refused}
use Rattle.outline.proofs.Refusals.{is-done, is-refused, holds_of}
use Rattle.runs.specs.declared.Run.{Run}
use Rattle.refusals.specs.Book.{Book, long, columns_fit}
use Rattle.refusals.specs.Refusals.{is_run_of, run_refusal}
use Rattle.adding.specs.Taken.{Result}
use Rattle.adding.specs.declared.Added.{Added}
use Rattle.adding.proofs.Readiness.{run_is}
use Rattle.season.specs.declared.Season.{Season}
use Rattle.season.specs.Season.{SeasonResult, season_result, nothing, joined, stopped, add_each, season_refusal, add_season}
use Rattle.season_month.specs.Listed.{listed}
use Rattle.demands.specs.Months.{Ask, water, asked, State, standing, after, after_all, Accepted, answers_to}
use Rattle.demands.specs.Demands.{number_of}
use Rattle.demands.specs.Given.{Begins, SeasonGives, season-10}
use Rattle.demands.specs.Longer.{first_places, longer, Lent, SameMonths, resumed, LongerColumns}
use Rattle.demands.proofs.Took.{took, good-kept}
use Rattle.demands.proofs.Sequence.{long-all}
use Rattle.demands.proofs.Shown.{refused-add}
use Rattle.demands.proofs.Given.{zero_or}
use Rattle.demands.proofs.Seasons.{begins, refused}
use Rattle.demands.proofs.SeasonGiven.{begins-done, season-gives}
use Rattle.demands.proofs.Longer.{usable, first-longer, number-of, long-longer, run-longer, run-copied, adds, adds_on, copied-adds, rows, copied_rows}

-- ---- a season on two sets of columns between which P holds, and on which a single add answers the same, unless its number is one of `Bad`
module _ (P : Run → Book → Book → Type 0) (Bad : ℕ → Type 0) (done : Bad 0 → ⊥)
    (add : (r : Run) (a : Ask) (cs ds : Book) → P r cs ds → (Bad (asked r a cs).answer.number → ⊥) → ((asked r a ds).answer ≡ (asked r a cs).answer) × P (asked r a cs).answer.run (asked r a cs).columns (asked r a ds).columns) where
  abbrev Alike : SeasonResult → SeasonResult → Type 0
  Alike t u = (Bad t.answer.number → ⊥) → (u.answer ≡ t.answer) × P t.answer.run t.columns u.columns

  each-alike : (ps pes : List ℤ) (s : Season) (cs ds : Book) → P s.run cs ds → Alike (add_each (season_result s cs) ps pes) (add_each (season_result s ds) ps pes)
  unfolding add_each
  each-alike [] pes s cs ds q = λ b. (refl, q)
  each-alike (p ∷ ps) [] s cs ds q = λ b. (refl, q)
  each-alike (p ∷ ps) (pe ∷ pes) s cs ds q =
      let a = water (listed p) (listed pe) in
      let alone = asked s.run a cs in
      let other = asked s.run a ds in
      ⊎_elim
      (λ z. let g = add s.run a cs ds q (λ h. done (subst Bad z h)) in
      let k : other.answer.number ≡ 0 = ap (λ (x : Added). x.number) g.0 ∙ z in
      subst₂ Alike (sym (is-done alone.answer.number _ _ z)) (sym (is-done other.answer.number _ _ k))
      (subst (λ (x : Added). Alike (add_each (season_result (joined s alone.answer) alone.columns) ps pes) (add_each (season_result (joined s x) other.columns) ps pes)) (sym g.0)
      (each-alike ps pes (joined s alone.answer) alone.columns other.columns g.1)))
      (λ n. λ b.
      let e = is-refused alone.answer.number (add_each (season_result (joined s alone.answer) alone.columns) ps pes) (season_result (stopped s alone.answer.number) cs) n in
      let g = add s.run a cs ds q (λ h. b (subst (λ (t : SeasonResult). Bad t.answer.number) (sym e) h)) in
      let k : other.answer.number ≡ alone.answer.number = ap (λ (x : Added). x.number) g.0 in
      let d = is-refused other.answer.number (add_each (season_result (joined s other.answer) other.columns) ps pes) (season_result (stopped s other.answer.number) ds) (λ z. n (sym k ∙ z)) in
      subst₂ (λ (t u : SeasonResult). (u.answer ≡ t.answer) × P t.answer.run t.columns u.columns) (sym e) (sym d) (ap (stopped s) k, q))
      (zero_or alone.answer.number)

-- 1 and 7 before the first month, asked alike
begins-alike : (r : Run) (ps pes : List ℤ) (cs ds : Book) → columns_fit cs ≡ true → columns_fit ds ≡ true → is_run_of ds r ≡ is_run_of cs r → season_refusal r ps pes ds ≡ season_refusal r ps pes cs
unfolding season_refusal run_refusal
begins-alike r ps pes cs ds f g is = rw (f, g, is)

-- ---- what an add leaves, accepted or refused
module _ (r : Run) (a : Ask) (cs : Book) (f : columns_fit cs ≡ true) where
  fit-after : columns_fit (asked r a cs).columns ≡ true
  fit-after =
      ⊎_elim
      (λ z. (good-kept r a cs (took r cs a (number-of r a cs ∙ z))).fit)
      (λ q. rw ((refused-add r a cs).1 q).1 f)
      (zero_or (number_of r a cs))

  there-after : r.months ≤ long cs → (asked r a cs).answer.run.months ≤ long (asked r a cs).columns
  there-after l =
      ⊎_elim
      (λ z. (run_is _ _ (good-kept r a cs (took r cs a (number-of r a cs ∙ z)))).months)
      (λ q. rw (((refused-add r a cs).1 q).0, ((refused-add r a cs).1 q).1) l)
      (zero_or (number_of r a cs))

-- ---- months and seasons on longer columns
-- ds are longer than cs by `more`, and cs have the run's months
record By (more : Book) (r : Run) (cs ds : Book) : Type 0 where
  is : ds ≡ longer cs more
  lent : Lent cs more
  there : r.months ≤ long cs

module _ (more : Book) where
  begun : (r : Run) (cs : Book) → Lent cs more → r.months ≤ long cs → By more r cs (longer cs more)
  begun r cs f l = record { is = refl; lent = f; there = l }

  -- an add that is not full
  by_add : (r : Run) (a : Ask) (cs ds : Book) → By more r cs ds → ((asked r a cs).answer.number ≡ full → ⊥) → ((asked r a ds).answer ≡ (asked r a cs).answer) × By more (asked r a cs).answer.run (asked r a cs).columns (asked r a ds).columns
  by_add r a cs ds b n =
      let e = adds r a cs more b.lent b.there n in
      subst (λ (d : Book). ((asked r a d).answer ≡ (asked r a cs).answer) × By more (asked r a cs).answer.run (asked r a cs).columns (asked r a d).columns) (sym b.is) (
        ap (λ (x : Result). x.answer) e,
        record {
          is = ap (λ (x : Result). x.columns) e;
          lent = record { shorter = fit-after r a cs b.lent.shorter; longer = subst (λ (x : Result). columns_fit x.columns ≡ true) e (fit-after r a (longer cs more) b.lent.longer) };
          there = there-after r a cs b.lent.shorter b.there;
        },
      )

  seasons : (r : Run) (ps pes : List ℤ) (cs : Book) → Lent cs more → r.months ≤ long cs → ((add_season r ps pes cs).answer.number ≡ full → ⊥)
      → add_season r ps pes (longer cs more) ≡ season_result (add_season r ps pes cs).answer (longer (add_season r ps pes cs).columns more)
  seasons r ps pes cs f l n =
      let k = begins-alike r ps pes cs (longer cs more) f.shorter f.longer (run-longer r cs more f.shorter l) in
      ⊎_elim
      (λ z. let t = begins r ps pes cs z in
      let g = each-alike (By more) (λ (m : ℕ). m ≡ full) (λ e. omega arith) by_add ps pes (nothing 0 r) cs (longer cs more) (begun r cs f l) (λ e. n (ap (λ (x : SeasonResult). x.answer.number) t ∙ e)) in
      begins r ps pes (longer cs more) (k ∙ z) ∙ ap₂ season_result g.0 g.1.is ∙ ap (λ (x : SeasonResult). season_result x.answer (longer x.columns more)) (sym t))
      (λ q. refused r ps pes (longer cs more) (λ z. q (sym k ∙ z))
      ∙ ap (λ (m : ℕ). season_result (nothing m r) (longer cs more)) k
      ∙ ap (λ (x : SeasonResult). season_result x.answer (longer x.columns more)) (sym (refused r ps pes cs q)))
      (zero_or (season_refusal r ps pes cs))

  -- months one by one
  all-by : (asks : List Ask) (r : Run) (cs ds : Book) → By more r cs ds → Accepted (standing r cs) asks
      → let s = after_all (standing r cs) asks in let t = after_all (standing r ds) asks in
      Accepted (standing r ds) asks × (t.run ≡ s.run) × By more s.run s.columns t.columns
  all-by [] r cs ds b h = (tt, refl, b)
  all-by (a ∷ later) r cs ds b h =
      let g = by_add r a cs ds b (λ e. let z : 0 ≡ full = sym h.0 ∙ e in omega arith) in
      subst (λ (x : Added). let t = standing x.run (asked r a ds).columns in ((x.number ≡ 0) × Accepted t later) × ((after_all t later).run ≡ (after_all (standing r cs) (a ∷ later)).run) × By more (after_all (standing r cs) (a ∷ later)).run (after_all (standing r cs) (a ∷ later)).columns (after_all t later).columns) (sym g.0)
      (let i = all-by later (asked r a cs).answer.run (asked r a cs).columns (asked r a ds).columns g.1 h.1 in ((h.0, i.0), i.1, i.2))

-- ---- a season that goes on where the shorter columns are full
each-adds : (ps pes : List ℤ) (s : Season) (cs : Book) → s.added ≤ (add_each (season_result s cs) ps pes).answer.added
unfolding add_each
each-adds [] pes s cs = omega arith
each-adds (p ∷ ps) [] s cs = omega arith
each-adds (p ∷ ps) (pe ∷ pes) s cs =
    let b = asked s.run (water (listed p) (listed pe)) cs in
    let i = each-adds ps pes (joined s b.answer) b.columns in
    holds_of (λ (t : SeasonResult). s.added ≤ t.answer.added) b.answer.number _ _ (omega (arith, i)) (omega arith)

-- a season with so many months more added before it, and so many settled
abbrev plus : ℕ → ℕ → SeasonResult → SeasonResult
plus k m t = resumed (record { number = 0; added = k; settled = m; figures = t.answer.figures; run = t.answer.run }) t

more-done : (k : ℕ) (f : SeasonResult → SeasonResult) (a b c d : SeasonResult) → a ≡ f c → b ≡ f d → unless_refused k a b ≡ f (unless_refused k c d)
more-done zero f a b c d g h = g
more-done (suc k) f a b c d g h = h

each-plus : (ps pes : List ℤ) (k m : ℕ) (s : Season) (cs : Book) → add_each (plus k m (season_result s cs)) ps pes ≡ plus k m (add_each (season_result s cs) ps pes)
unfolding add_each
each-plus [] pes k m s cs = refl
each-plus (p ∷ ps) [] k m s cs = refl
each-plus (p ∷ ps) (pe ∷ pes) k m s cs =
    let b = asked s.run (water (listed p) (listed pe)) cs in
    let e : k + s.added + 1 ≡ k + (s.added + 1) = omega arith in
    let h : m + s.settled + b.answer.settled ≡ m + (s.settled + b.answer.settled) = omega arith in
    more-done b.answer.number (plus k m) _ _ (add_each (season_result (joined s b.answer) b.columns) ps pes) (season_result (stopped s b.answer.number) cs)
    (rw (e, h) (each-plus ps pes k m (joined s b.answer) b.columns)) refl

-- a season that stopped because the columns are full: the month at which it did, with those after it, is what longer columns go on with
abbrev not_stopped : Season → Season
not_stopped s = record { number = 0; added = s.added; settled = s.settled; figures = s.figures; run = s.run }

record Rest (more : Book) (ps pes : List ℤ) (s : Season) (ds : Book) (t : SeasonResult) : Type 0 where
  n : ℕ
  counted : t.answer.added ≡ s.added + n
  p : ℤ
  pe : ℤ
  later_ps : List ℤ
  later_pes : List ℤ
  ps_are : drop n ps ≡ p ∷ later_ps
  pes_are : drop n pes ≡ pe ∷ later_pes
  is_full : (asked t.answer.run (water (listed p) (listed pe)) t.columns).answer.number ≡ full
  lent : Lent t.columns more
  goes : add_each (season_result s ds) ps pes ≡ add_each (season_result (not_stopped t.answer) (longer t.columns more)) (p ∷ later_ps) (pe ∷ later_pes)

module _ (more : Book) where
  abbrev Goes : List ℤ → List ℤ → Season → Book → SeasonResult → Type 0
  Goes ps pes s ds t = t.answer.number ≡ full → Rest more ps pes s ds t

  one_later : (q qe : ℤ) (ps pes : List ℤ) (s : Season) (b : Added) (ds es : Book) (t : SeasonResult)
      → add_each (season_result s ds) (q ∷ ps) (qe ∷ pes) ≡ add_each (season_result (joined s b) es) ps pes
      → Rest more ps pes (joined s b) es t → Rest more (q ∷ ps) (qe ∷ pes) s ds t
  one_later q qe ps pes s b ds es t e h =
      record {
        n = suc h.n;
        counted = omega (arith, h.counted);
        p = h.p;
        pe = h.pe;
        later_ps = h.later_ps;
        later_pes = h.later_pes;
        ps_are = h.ps_are;
        pes_are = h.pes_are;
        is_full = h.is_full;
        lent = h.lent;
        goes = e ∙ h.goes;
      }

  each-rest : (ps pes : List ℤ) (s : Season) (cs ds : Book) → s.number ≡ 0 → By more s.run cs ds → Goes ps pes s ds (add_each (season_result s cs) ps pes)
  unfolding add_each
  each-rest [] pes s cs ds o q = λ e. absurd (omega (arith, o, e))
  each-rest (p ∷ ps) [] s cs ds o q = λ e. absurd (omega (arith, o, e))
  each-rest (p ∷ ps) (pe ∷ pes) s cs ds o q =
      let a = water (listed p) (listed pe) in
      let alone = asked s.run a cs in
      let other = asked s.run a ds in
      ⊎_elim
      (λ z. let g = by_add more s.run a cs ds q (λ e. let c : 0 ≡ full = sym z ∙ e in omega arith) in
      let k : other.answer.number ≡ 0 = ap (λ (x : Added). x.number) g.0 ∙ z in
      subst (Goes (p ∷ ps) (pe ∷ pes) s ds) (sym (is-done alone.answer.number _ _ z))
      (λ e. one_later p pe ps pes s alone.answer ds other.columns _ (is-done other.answer.number _ _ k ∙ ap (λ (x : Added). add_each (season_result (joined s x) other.columns) ps pes) g.0)
      (each-rest ps pes (joined s alone.answer) alone.columns other.columns refl g.1 e)))
      (λ n. subst (Goes (p ∷ ps) (pe ∷ pes) s ds) (sym (is-refused alone.answer.number (add_each (season_result (joined s alone.answer) alone.columns) ps pes) (season_result (stopped s alone.answer.number) cs) n))
      (λ e. record {
        n = 0;
        counted = omega arith;
        p = p;
        pe = pe;
        later_ps = ps;
        later_pes = pes;
        ps_are = refl;
        pes_are = refl;
        is_full = e;
        lent = q.lent;
        goes = rw (q.is, ← o) refl;
      }))
      (zero_or alone.answer.number)

-- a season that is full has begun
full-begins : (r : Run) (ps pes : List ℤ) (cs : Book) → SeasonGives r ps pes cs full → Begins r ps pes cs
full-begins r ps pes cs (season-10 b w) = b

-- the first month of a season so far is added
each_first : (p pe : ℤ) (ps pes : List ℤ) (s : Season) (cs : Book) → let b = asked s.run (water (listed p) (listed pe)) cs in b.answer.number ≡ 0
    → add_each (season_result s cs) (p ∷ ps) (pe ∷ pes) ≡ add_each (season_result (joined s b.answer) b.columns) ps pes
unfolding add_each
each_first p pe ps pes s cs z = is-done (asked s.run (water (listed p) (listed pe)) cs).answer.number _ _ z

resumes : (more : Book) → 1 ≤ long more → (ps pes : List ℤ) (r : Run) (ds : Book) (t : SeasonResult) → length ps ≡ length pes → Rest more ps pes (nothing 0 r) ds t
    → let n = t.answer.added in
    let u = add_season t.answer.run (drop n ps) (drop n pes) (longer t.columns more) in
    (add_each (season_result (nothing 0 r) ds) ps pes ≡ resumed t.answer u) × (1 ≤ u.answer.added)
resumes more some ps pes r ds t e h =
    let l = longer t.columns more in
    let a = water (listed h.p) (listed h.pe) in
    let b = asked t.answer.run a l in
    let z = adds_on t.answer.run a t.columns more h.lent h.is_full some in
    let n : t.answer.added ≡ h.n = omega (arith, h.counted) in
    let m : length (h.p ∷ h.later_ps) ≡ length (h.pe ∷ h.later_pes) = sym (ap length h.ps_are) ∙ length-drop h.n ps ∙ ap (λ (k : ℕ). k - h.n) e ∙ sym (length-drop h.n pes) ∙ ap length h.pes_are in
    let began = joined (nothing 0 t.answer.run) b.answer in
    let v = add_each (season_result began b.columns) h.later_ps h.later_pes in
    let u : add_season t.answer.run (drop t.answer.added ps) (drop t.answer.added pes) l ≡ v =
    rw (n, h.ps_are, h.pes_are) (
    begins t.answer.run (h.p ∷ h.later_ps) (h.pe ∷ h.later_pes) l (begins-done t.answer.run (h.p ∷ h.later_ps) (h.pe ∷ h.later_pes) l (record { one_length = m; good = (took t.answer.run l a z).good }))
    ∙ each_first h.p h.pe h.later_ps h.later_pes (nothing 0 t.answer.run) l z
    ) in
    let i : t.answer.added + 1 ≡ t.answer.added + (0 + 1) = omega arith in
    let j : t.answer.settled + b.answer.settled ≡ t.answer.settled + (0 + b.answer.settled) = omega arith in
    let w : season_result (joined (not_stopped t.answer) b.answer) b.columns ≡ plus t.answer.added t.answer.settled (season_result began b.columns) = rw (i, j) in
    let x = each-adds h.later_ps h.later_pes began b.columns in
    rw u (
      h.goes ∙ each_first h.p h.pe h.later_ps h.later_pes (not_stopped t.answer) l z
          ∙ ap (λ (y : SeasonResult). add_each y h.later_ps h.later_pes) w
          ∙ each-plus h.later_ps h.later_pes t.answer.added t.answer.settled began b.columns,
      omega (arith, x),
    )

seasons-on : (r : Run) (ps pes : List ℤ) (cs more : Book) → Lent cs more → (add_season r ps pes cs).answer.number ≡ full → 1 ≤ long more
    → let t = add_season r ps pes cs in
    let n = t.answer.added in
    let u = add_season t.answer.run (drop n ps) (drop n pes) (longer t.columns more) in
    (add_season r ps pes (longer cs more) ≡ resumed t.answer u) × (1 ≤ u.answer.added)
seasons-on r ps pes cs more f e l =
    let b = full-begins r ps pes cs (subst (SeasonGives r ps pes cs) e (season-gives r ps pes cs)) in
    let z = begins-done r ps pes cs b in
    let m = (run_is r cs b.good).months in
    let k = begins-alike r ps pes cs (longer cs more) f.shorter f.longer (run-longer r cs more f.shorter m) in
    let t = begins r ps pes cs z in
    let h = each-rest more ps pes (nothing 0 r) cs (longer cs more) refl (begun more r cs f m) (sym (ap (λ (x : SeasonResult). x.answer.number) t) ∙ e) in
    rw (begins r ps pes (longer cs more) (k ∙ z), t) (resumes more l ps pes r (longer cs more) _ b.one_length h)

-- ---- a run whose months were copied
copied-seasons : (r : Run) (ps pes : List ℤ) (cs ds : Book) → SameMonths r cs ds
    → let b = add_season r ps pes cs in let d = add_season r ps pes ds in
    (d.answer ≡ b.answer) × SameMonths b.answer.run b.columns d.columns
copied-seasons r ps pes cs ds m =
    let k = begins-alike r ps pes cs ds m.lent.0 m.lent.1 (run-copied r cs ds m) in
    ⊎_elim
    (λ z. rw (begins r ps pes cs z, begins r ps pes ds (k ∙ z)) (each-alike SameMonths (λ (n : ℕ). ⊥) (λ e. e) (λ r a cs ds q n. copied-adds r a cs ds q) ps pes (nothing 0 r) cs ds m (λ e. e)))
    (λ q. rw (refused r ps pes cs q, refused r ps pes ds (λ z. q (sym k ∙ z))) (ap (λ (n : ℕ). nothing n r) k, m))
    (zero_or (season_refusal r ps pes cs))

all_same : (later : List Ask) (r : Run) (cs ds : Book) → SameMonths r cs ds
    → let s = after_all (standing r cs) later in let t = after_all (standing r ds) later in
    (answers_to (standing r ds) later ≡ answers_to (standing r cs) later) × (t.run ≡ s.run) × SameMonths s.run s.columns t.columns
all_same [] r cs ds m = (refl, refl, m)
all_same (a ∷ later) r cs ds m =
    let g = copied-adds r a cs ds m in
    let s = after (standing r cs) a in
    subst (λ (x : Added). let t = standing x.run (asked r a ds).columns in (◌≡◌ {A = List Added} (x ∷ answers_to t later) (answers_to (standing r cs) (a ∷ later))) × ((after_all t later).run ≡ (after_all s later).run) × SameMonths (after_all s later).run (after_all s later).columns (after_all t later).columns) (sym g.0)
    (let i = all_same later s.run s.columns (asked r a ds).columns g.1 in (ap (λ (l : List Added). (asked r a cs).answer ∷ l) i.0, i.1, i.2))

goes_on : (s : State) (asks later : List Ask) (more ds : Book) → Lent s.columns more → s.run.months ≤ long s.columns → Accepted s asks
    → let saved = after_all s asks in
    let never-stopped = after_all (standing s.run (longer s.columns more)) asks in
    columns_fit ds ≡ true → long ds ≡ long (longer s.columns more)
    → first_places saved.run.months ds ≡ first_places saved.run.months saved.columns
    → (answers_to (standing saved.run ds) later ≡ answers_to never-stopped later)
    × ((after_all (standing saved.run ds) later).run ≡ (after_all never-stopped later).run)
    × SameMonths (after_all never-stopped later).run (after_all never-stopped later).columns (after_all (standing saved.run ds) later).columns
goes_on s asks later more ds f l h g n e =
    let saved = after_all s asks in
    let b = all-by more asks s.run s.columns (longer s.columns more) (begun more s.run s.columns f l) h in
    let t : after_all (standing s.run (longer s.columns more)) asks ≡ standing saved.run (longer saved.columns more) = ap₂ standing b.1 b.2.is in
    let m : SameMonths saved.run (longer saved.columns more) ds =
    record {
      lent = (b.2.lent.longer, g);
      one_length = n ∙ long-longer s.columns more ∙ ap (λ (k : ℕ). k + long more) (sym (long-all s asks h)) ∙ sym (long-longer saved.columns more);
      months = e ∙ sym (first-longer saved.run.months saved.columns more b.2.lent.shorter b.2.there);
    } in
    rw t (all_same later saved.run (longer saved.columns more) ds m)

months : (s : State) (asks : List Ask) (more : Book) → Lent s.columns more → s.run.months ≤ long s.columns → Accepted s asks
    → let t = standing s.run (longer s.columns more) in
    Accepted t asks × (after_all t asks ≡ standing (after_all s asks).run (longer (after_all s asks).columns more))
months s asks more f l h =
    let b = all-by more asks s.run s.columns (longer s.columns more) (begun more s.run s.columns f l) h in
    (b.0, ap₂ standing b.1 b.2.is)

pub longer-columns : LongerColumns
longer-columns =
    record {
      usable = usable;
      adds = adds;
      adds_on = adds_on;
      seasons = λ r ps pes cs more. seasons more r ps pes cs;
      seasons-on = seasons-on;
      rows = rows;
      months = months;
      copied-adds = copied-adds;
      copied-seasons = copied-seasons;
      copied_rows = copied_rows;
      goes_on = goes_on;
    }
