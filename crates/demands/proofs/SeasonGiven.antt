-- Which number a season gives, exactly when: 1 and 7 are tested once, and then it is the first refusal of the single adds (`each_number`). Assumes
-- nothing.
use mathlib.Core.Path.{◌≡◌, refl, sym, ap, ◌∙◌, subst}
use mathlib.Core.Bool.{Bool, true, false, cond}
use mathlib.Core.Logic.{◌↔◌, ◌⊎◌, inl, inr, ⊎_elim}
use mathlib.Core.List.{List, [], ◌∷◌}
use Prim.Native.Nat.{ℕ}
use native.Mathlib.Omega.{arith}
use borrow.Author.Tests.{eq-eqb, ne_eqb, eqb-true, eqb-false}
use lib.Dec.{eqb}
use lib.IntN.{ℤ}
use lib.ListN.{length}
use Rattle.outline.specs.Refusals.{bad_lists, not_a_run, missing, not_acceptable, full, or_else}
use Rattle.outline.proofs.Tests.{if-so, cond-zero}
use Rattle.outline.proofs.Refusals.{or-zero, or-first, or-second, is-done, is-refused}
use Rattle.runs.specs.declared.Run.{Run}
use Rattle.refusals.specs.Book.{Book, columns_fit}
use Rattle.refusals.specs.Good.{Good}
use Rattle.refusals.specs.Refusals.{is_run_of, run_refusal}
use Rattle.refusals.proofs.Refused.{good-passes, run-passes}
use Rattle.season.specs.Season.{SeasonResult, season_result, nothing, joined, stopped, single, add_each, season_refusal, add_season}
use Rattle.season_month.specs.Listed.{listed}
use Rattle.demands.specs.Months.{Ask, water, asked, State, standing, after, Accepted, months_of, left_of}
use Rattle.demands.specs.Given.{AddGives, add_0, add_1, add_7, add_8, add_9, add_10, add_12, StopsWith, Begins, SeasonGives, season-0, season-1-lists, season-1, season-7, season-8, season-9, season-10}
use Rattle.demands.specs.Demands.{Honest, Fresh, now}
use Rattle.demands.proofs.Given.{zero_or, exactly, run-1, run-7, by-run, add-given, add-gives, month-which, not-both-ways}
use Rattle.demands.proofs.Honest.{good-after, good-now}
use Rattle.demands.proofs.Seasons.{refused, begins}

-- the first refusal of months added one by one, or 0
abbrev first_of : State → List Ask → ℕ
first_of s [] = 0
first_of s (a ∷ later) = or_else (asked s.run a s.columns).answer.number (first_of (after s a) later)

each_number : (ps pes : List ℤ) (t : SeasonResult) → t.answer.number ≡ 0 → (add_each t ps pes).answer.number ≡ first_of (left_of t) (months_of ps pes)
unfolding add_each
each_number [] pes t z = z
each_number (p ∷ ps) [] t z = z
each_number (p ∷ ps) (pe ∷ pes) t z =
    let b = single t p pe in
    let k = b.answer.number in
    let next = season_result (joined t.answer b.answer) b.columns in
    let stop = season_result (stopped t.answer k) t.columns in
    let rest = first_of (left_of next) (months_of ps pes) in
    ⊎_elim
    (λ e. ap (λ (u : SeasonResult). u.answer.number) (is-done k (add_each next ps pes) stop e) ∙ each_number ps pes next refl ∙ sym (or-second k rest e))
    (λ h. ap (λ (u : SeasonResult). u.answer.number) (is-refused k (add_each next ps pes) stop h) ∙ sym (or-first k rest h))
    (zero_or k)

-- it is 0 where every month is accepted, and otherwise what the first refused one gives
first_gives : (s : State) (asks : List Ask) → ((first_of s asks ≡ 0) × Accepted s asks) ⊎ StopsWith (first_of s asks) s asks
first_gives s [] = inl (refl, tt)
first_gives s (a ∷ later) =
    let k = (asked s.run a s.columns).answer.number in
    let g = add-gives s.run a s.columns in
    let rest = first_of (after s a) later in
    ⊎_elim
    (λ e. ⊎_elim
    (λ p. inl (or-second k rest e ∙ p.0, (e, p.1)))
    (λ w. inr (subst (λ (n : ℕ). StopsWith n s (a ∷ later)) (sym (or-second k rest e)) (inr (subst (AddGives s.run a s.columns) e g, w))))
    (first_gives (after s a) later))
    (λ h. inr (subst (λ (n : ℕ). StopsWith n s (a ∷ later)) (sym (or-first k rest h)) (inl (h, g))))
    (zero_or k)

first-accepted : (s : State) (asks : List Ask) → Accepted s asks → first_of s asks ≡ 0
first-accepted s [] h = refl
first-accepted s (a ∷ later) h = or-second _ (first_of (after s a) later) h.0 ∙ first-accepted (after s a) later h.1

first_stops : (n : ℕ) (s : State) (asks : List Ask) → StopsWith n s asks → first_of s asks ≡ n
first_stops n s [] w = absurd w
first_stops n s (a ∷ later) (inl w) =
    let e = add-given s.run a s.columns n w.1 in or-first _ (first_of (after s a) later) (λ z. w.0 (sym e ∙ z)) ∙ e
first_stops n s (a ∷ later) (inr w) = or-second _ (first_of (after s a) later) (add-given s.run a s.columns 0 w.0) ∙ first_stops n (after s a) later w.1

-- it is 8, 9 or 10
add-which : (r : Run) (cs : Book) (p pe : ℤ) (n : ℕ) → Good r cs → AddGives r (water (listed p) (listed pe)) cs n → (n ≡ 0 → ⊥) → (n ≡ missing) ⊎ ((n ≡ not_acceptable) ⊎ (n ≡ full))
add-which r cs p pe n g (add_0 h o l) k = absurd (k refl)
add-which r cs p pe n g (add_1 f) k = absurd (not-both-ways g.fit f)
add-which r cs p pe n g (add_7 f h) k = absurd (not-both-ways g.run h)
add-which r cs p pe n g (add_8 h o) k = inl refl
add-which r cs p pe n g (add_9 h o) k = inr (inl refl)
add-which r cs p pe n g (add_10 h o l) k = inr (inr refl)
add-which r cs p pe n g (add_12 h o) k = absurd (⊎_elim (λ e. omega arith) (λ e. omega arith) (month-which (listed p) (listed pe) 12 o k))

stops-which : (ps pes : List ℤ) (n : ℕ) (s : State) → Good s.run s.columns → StopsWith n s (months_of ps pes) → (n ≡ missing) ⊎ ((n ≡ not_acceptable) ⊎ (n ≡ full))
stops-which [] pes n s g w = absurd w
stops-which (p ∷ ps) [] n s g w = absurd w
stops-which (p ∷ ps) (pe ∷ pes) n s g (inl w) = add-which s.run s.columns p pe n g w.1 w.0
stops-which (p ∷ ps) (pe ∷ pes) n s g (inr w) = stops-which ps pes n (after s (water (listed p) (listed pe))) (good-after s (water (listed p) (listed pe)) g) w.1

module _ (r : Run) (ps pes : List ℤ) (cs : Book) where
  abbrev months : List Ask
  months = months_of ps pes

  abbrev told : ℕ
  told = (add_season r ps pes cs).answer.number

  -- before the first month
  told-refused : (k : ℕ) → season_refusal r ps pes cs ≡ k → (k ≡ 0 → ⊥) → told ≡ k
  told-refused k e h = ap (λ (t : SeasonResult). t.answer.number) (refused r ps pes cs (λ z. h (sym e ∙ z))) ∙ e

  lists-1 : (length ps ≡ length pes → ⊥) → told ≡ bad_lists
  unfolding season_refusal
  lists-1 h = told-refused bad_lists (rw (ne_eqb (length ps) (length pes) h)) (λ e. omega arith)

  columns-1 : columns_fit cs ≡ false → told ≡ bad_lists
  unfolding season_refusal
  columns-1 f = told-refused bad_lists (rw (run-1 r cs f) (go (eqb (length ps) (length pes)))) (λ e. omega arith)
    where
      go : (t : Bool) → or_else (cond t 0 bad_lists) bad_lists ≡ bad_lists
      go true = refl
      go false = refl

  run_none : length ps ≡ length pes → columns_fit cs ≡ true → is_run_of cs r ≡ false → told ≡ not_a_run
  unfolding season_refusal
  run_none e f h = told-refused not_a_run (rw (eq-eqb (length ps) (length pes) e) (run-7 r cs f h)) (λ e. omega arith)

  pub begins-done : Begins r ps pes cs → season_refusal r ps pes cs ≡ 0
  unfolding season_refusal
  begins-done b = rw (eq-eqb (length ps) (length pes) b.one_length) (good-passes r cs b.good)

  -- and from it on
  told-first : Begins r ps pes cs → told ≡ first_of (standing r cs) months
  told-first b = ap (λ (t : SeasonResult). t.answer.number) (begins r ps pes cs (begins-done b)) ∙ each_number ps pes (season_result (nothing 0 r) cs) refl

  season-given : (n : ℕ) → SeasonGives r ps pes cs n → told ≡ n
  season-given n (season-0 b h) = told-first b ∙ first-accepted (standing r cs) months h
  season-given n (season-1-lists h) = lists-1 h
  season-given n (season-1 f) = columns-1 f
  season-given n (season-7 e f h) = run_none e f h
  season-given n (season-8 b w) = told-first b ∙ first_stops missing (standing r cs) months w
  season-given n (season-9 b w) = told-first b ∙ first_stops not_acceptable (standing r cs) months w
  season-given n (season-10 b w) = told-first b ∙ first_stops full (standing r cs) months w

  season-stops : (n : ℕ) → Begins r ps pes cs → StopsWith n (standing r cs) months → SeasonGives r ps pes cs n
  season-stops n b w =
      ⊎_elim (λ e. subst (SeasonGives r ps pes cs) (sym e) (season-8 b (subst (λ (k : ℕ). StopsWith k (standing r cs) months) e w)))
      (⊎_elim
      (λ e. subst (SeasonGives r ps pes cs) (sym e) (season-9 b (subst (λ (k : ℕ). StopsWith k (standing r cs) months) e w)))
      (λ e. subst (SeasonGives r ps pes cs) (sym e) (season-10 b (subst (λ (k : ℕ). StopsWith k (standing r cs) months) e w))))
      (stops-which ps pes n (standing r cs) b.good w)

  season-begun : (b : Begins r ps pes cs) → SeasonGives r ps pes cs (first_of (standing r cs) months)
  season-begun b = ⊎_elim (λ p. subst (SeasonGives r ps pes cs) (sym p.0) (season-0 b p.1)) (λ w. season-stops (first_of (standing r cs) months) b w) (first_gives (standing r cs) months)

  pub season-gives : SeasonGives r ps pes cs told
  season-gives =
      if-so (eqb (length ps) (length pes))
      (λ t. let e = eqb-true (length ps) (length pes) t in
      by-run r cs
      (λ f. subst (SeasonGives r ps pes cs) (sym (columns-1 f)) (season-1 f))
      (λ f h. subst (SeasonGives r ps pes cs) (sym (run_none e f h)) (season-7 e f h))
      (λ g. let b : Begins r ps pes cs = record { one_length = e; good = g } in subst (SeasonGives r ps pes cs) (sym (told-first b)) (season-begun b)))
      (λ t. let h = eqb-false (length ps) (length pes) t in subst (SeasonGives r ps pes cs) (sym (lists-1 h)) (season-1-lists h))

  pub seasons_exactly : (n : ℕ) → (told ≡ n) ↔ SeasonGives r ps pes cs n
  seasons_exactly = exactly (SeasonGives r ps pes cs) told season-gives season-given

  -- on a good run it is neither 1 nor 7
  season-honest : (n : ℕ) → Begins r ps pes cs → SeasonGives r ps pes cs n → Honest n
  season-honest n b (season-1-lists h) = absurd (h b.one_length)
  season-honest n b (season-1 f) = absurd (not-both-ways b.good.fit f)
  season-honest n b (season-7 e f h) = absurd (not-both-ways b.good.run h)
  season-honest n b (season-0 c h) = ((λ e. omega arith), (λ e. omega arith))
  season-honest n b (season-8 c w) = ((λ e. omega arith), (λ e. omega arith))
  season-honest n b (season-9 c w) = ((λ e. omega arith), (λ e. omega arith))
  season-honest n b (season-10 c w) = ((λ e. omega arith), (λ e. omega arith))

  pub season-never-refused : length ps ≡ length pes → Good r cs → Honest told
  season-never-refused e g = season-honest told (record { one_length = e; good = g }) season-gives

  begun-of : season_refusal r ps pes cs ≡ 0 → Begins r ps pes cs
  unfolding season_refusal
  begun-of z =
      let p = or-zero (cond (eqb (length ps) (length pes)) 0 bad_lists) (run_refusal r cs) z in
      record { one_length = eqb-true (length ps) (length pes) (cond-zero (eqb (length ps) (length pes)) 0 p.0); good = run-passes r cs p.1 }

  -- with 1 or 7 nothing is added
  pub seasons-refused : (told ≡ bad_lists) ⊎ (told ≡ not_a_run) → add_season r ps pes cs ≡ season_result (nothing told r) cs
  seasons-refused h =
      ⊎_elim
      (λ z. let k = season-honest told (begun-of z) season-gives in absurd (⊎_elim k.0 k.1 h))
      (λ k. let e = refused r ps pes cs k in e ∙ ap (λ (n : ℕ). season_result (nothing n r) cs) (sym (ap (λ (t : SeasonResult). t.answer.number) e)))
      (zero_or (season_refusal r ps pes cs))

pub honest-seasons : (f : Fresh) → columns_fit f.columns ≡ true → (asks : List Ask) (ps pes : List ℤ) → length ps ≡ length pes
    → Honest (add_season (now f asks).run ps pes (now f asks).columns).answer.number
honest-seasons f fit asks ps pes e = season-never-refused (now f asks).run ps pes (now f asks).columns e (good-now f fit asks)
