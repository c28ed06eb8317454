-- The numbers of a line that is asked for, each exactly when; and what the lent list holds. Assumes nothing.
use mathlib.Core.Path.{◌≡◌, refl, ap, ◌∙◌}
use mathlib.Core.Bool.{Bool, true, false, cond, not, ◌&&◌}
use mathlib.Core.List.{List, ◌++◌}
use Prim.Native.Nat.{ℕ, zero, suc, ◌+◌, ◌≤◌}
use native.Mathlib.Omega.{arith}
use lib.Dec.{eqb}
use lib.ListN.{length, take, drop, length-append, length-drop}
use lib.Seq.{take_at, drop_at}
use borrow.Author.Tests.{leb-true}
use Rattle.outline.specs.Refusals.{or_else, unless_refused, bad_lists, not_a_run}
use Rattle.outline.proofs.Refusals.{or-zero, is-done, is-refused}
use Rattle.outline.proofs.Tests.{each}
use Rattle.fields.specs.Columns.{last_column}
use Rattle.fields.specs.Refusals.{unfit, no_room}
use Rattle.refusals.specs.Book.{columns_fit}
use Rattle.refusals.specs.Refusals.{is_run_of, run_refusal}
use Rattle.years.specs.Years.{calendar_first}
use Rattle.figures.specs.Figures.{number_of}
use Rattle.sending.specs.Sending.{line_text, heading_fits, all_fit, line_refusal, Written, written, write_line}
use Rattle.sending_laws.specs.SentOut.{Asked, outcome, sent, good, fits, room, Exactly, Lent}
use Rattle.sending_laws.proofs.Fields.{AllSent, year-sent, line-long}

-- ---- by the four questions, in their order
said : Bool → Bool → Bool → Bool → ℕ
said a b c d = cond a (cond b (cond c (cond d 0 no_room) unfit) not_a_run) bad_lists

-- the refusal of what is asked
abbrev pub number : Asked → ℕ
number q = line_refusal q.run q.element q.state q.division q.year q.which q.columns (length q.line)

abbrev pub text : Asked → List ℕ
text q = line_text q.state q.division (number_of q.element) (q.year + q.which) (sent q)

unless-number : (k : ℕ) (x y : List ℕ) → (unless_refused k (written 0 x) (written k y)).number ≡ k
unless-number zero x y = refl
unless-number (suc k) x y = refl

pub number_is : (q : Asked) → (outcome q).number ≡ number q
unfolding write_line
number_is q = unless-number (number q) _ _

refusal-by : (q : Asked) (a b c d : Bool) → columns_fit q.columns ≡ a → is_run_of q.columns q.run ≡ b → fits q ≡ c → room q ≡ d → number q ≡ said a b c d
unfolding line_refusal run_refusal said
refusal-by q false b c d p r s t = rw p refl
refusal-by q true false c d p r s t = rw (p, r) refl
refusal-by q true true false d p r s t = rw (p, r, s) refl
refusal-by q true true true false p r s t = rw (p, r, s, t) refl
refusal-by q true true true true p r s t = rw (p, r, s, t) refl

number-said : (q : Asked) → (outcome q).number ≡ said (columns_fit q.columns) (is_run_of q.columns q.run) (fits q) (room q)
number-said q = number_is q ∙ refusal-by q _ _ _ _ refl refl refl refl

-- ---- each number exactly when
said-1 : (a b c d : Bool) → eqb (said a b c d) bad_lists ≡ not a
unfolding said
said-1 false b c d = refl
said-1 true false c d = refl
said-1 true true false d = refl
said-1 true true true false = refl
said-1 true true true true = refl

said-7 : (a b c d : Bool) → eqb (said a b c d) not_a_run ≡ (a && not b)
unfolding said
said-7 false b c d = refl
said-7 true false c d = refl
said-7 true true false d = refl
said-7 true true true false = refl
said-7 true true true true = refl

said-24 : (a b c d : Bool) → eqb (said a b c d) unfit ≡ ((a && b) && not c)
unfolding said
said-24 false b c d = refl
said-24 true false c d = refl
said-24 true true false d = refl
said-24 true true true false = refl
said-24 true true true true = refl

said-25 : (a b c d : Bool) → eqb (said a b c d) no_room ≡ ((a && b) && (c && not d))
unfolding said
said-25 false b c d = refl
said-25 true false c d = refl
said-25 true true false d = refl
said-25 true true true false = refl
said-25 true true true true = refl

said-0 : (a b c d : Bool) → eqb (said a b c d) 0 ≡ ((a && b) && (c && d))
unfolding said
said-0 false b c d = refl
said-0 true false c d = refl
said-0 true true false d = refl
said-0 true true true false = refl
said-0 true true true true = refl

pub each_number : (q : Asked) → Exactly q
each_number q =
    let a = columns_fit q.columns in
    let b = is_run_of q.columns q.run in
    record {
      lists = ap (λ (k : ℕ). eqb k bad_lists) (number-said q) ∙ said-1 a b (fits q) (room q);
      run = ap (λ (k : ℕ). eqb k not_a_run) (number-said q) ∙ said-7 a b (fits q) (room q);
      value = ap (λ (k : ℕ). eqb k unfit) (number-said q) ∙ said-24 a b (fits q) (room q);
      line = ap (λ (k : ℕ). eqb k no_room) (number-said q) ∙ said-25 a b (fits q) (room q);
      done = ap (λ (k : ℕ). eqb k 0) (number-said q) ∙ said-0 a b (fits q) (room q);
    }

pub unfit-said : (q : Asked) → good q ≡ true → fits q ≡ false → (outcome q).number ≡ unfit
unfolding said
unfit-said q g f =
    let t = each (columns_fit q.columns) (is_run_of q.columns q.run) g in
    number-said q ∙ rw (t.0, t.1, f) refl

-- ---- where nothing is refused
zero-by : (c d : Bool) → or_else (cond c 0 unfit) (cond d 0 no_room) ≡ 0 → (c ≡ true) × (d ≡ true)
zero-by true true h = (refl, refl)
zero-by true false h = absurd (omega arith)
zero-by false d h = absurd (omega arith)

pub all-passed : (q : Asked) → number q ≡ 0 → (heading_fits q.state q.division (q.year + q.which) ≡ true) × (all_fit (sent q) ≡ true) × (last_column ≤ length q.line)
unfolding line_refusal
all-passed q h =
    let t = or-zero (run_refusal q.run q.columns) (or_else (cond (fits q) 0 unfit) (cond (room q) 0 no_room)) h in
    let u = zero-by (fits q) (room q) t.1 in
    let v = each (heading_fits q.state q.division (q.year + q.which)) (all_fit (sent q)) u.0 in
    (v.0, v.1, leb-true last_column (length q.line) u.1)

pub sent-all : (q : Asked) → AllSent (sent q)
sent-all q = year-sent q.element q.columns (calendar_first q.run) q.run.months q.which

pub text-long : (q : Asked) → length (text q) ≡ last_column
text-long q = line-long q.state q.division (number_of q.element) (q.year + q.which) (sent q) (sent-all q) refl

pub line-done : (q : Asked) → number q ≡ 0 → (outcome q).line ≡ text q ++ drop last_column q.line
unfolding write_line
line-done q h = ap (λ (w : Written). w.line) (is-done (number q) (written 0 (text q ++ drop last_column q.line)) (written (number q) q.line) h)

pub line_kept : (q : Asked) → (number q ≡ 0 → ⊥) → (outcome q).line ≡ q.line
unfolding write_line
line_kept q h = ap (λ (w : Written). w.line) (is-refused (number q) (written 0 (text q ++ drop last_column q.line)) (written (number q) q.line) h)

pub first-of-line : (q : Asked) → number q ≡ 0 → take last_column (outcome q).line ≡ text q
first-of-line q h = ap (take last_column) (line-done q h) ∙ take_at (text q) (drop last_column q.line) last_column (text-long q)

-- 0, or not
zero_or : (k : ℕ) {A : Type 0} → (k ≡ 0 → A) → ((k ≡ 0 → ⊥) → A) → A
zero_or zero p r = p refl
zero_or (suc k) p r = r (λ e. omega arith)

pub each-place : (q : Asked) → Lent q
each-place q =
    record {
      long = zero_or (number q) (λ z. ap length (line-done q z) ∙ length-append (text q) (drop last_column q.line) ∙ omega (arith, text-long q, length-drop last_column q.line, (all-passed q z).2)) (λ z. ap length (line_kept q z));
      after = zero_or (number q) (λ z. ap (drop last_column) (line-done q z) ∙ drop_at (text q) (drop last_column q.line) last_column (text-long q)) (λ z. ap (drop last_column) (line_kept q z));
      refused = λ n. line_kept q (λ z. n (number_is q ∙ z));
    }
