-- Any two outcomes of `lay_out`, each an answer and what the list holds at the end, that its promise allows are the same, and so of
-- `lay_refusal` and `lay_year`: the promise says outright what both are. Assumes nothing.
use mathlib.Core.Path.{◌≡◌, sym, ◌∙◌}
use mathlib.Core.List.{List}
use Prim.Native.Nat.{ℕ, ◌+◌, ◌≤◌}
use lib.ListN.{length}
use Rattle.rows.specs.Text.{row_text, refused_text, year_text}
use Rattle.rows.specs.Room.{laid, most_row, most_year}
use Rattle.rows.specs.declared.Row.{Row}

-- the promise of a call that lays a text of so many bytes at most out: it answers r, and leaves q in the list that was o
pub record Allowed (most : ℕ) (text : List ℕ) (at : ℕ) (o : List ℕ) (r : ℕ) (q : List ℕ) : Type 0 where
  pub ends : r ≡ at + length text
  pub within : r ≤ at + most
  pub holds : q ≡ laid text at o

one-text : {most : ℕ} {text : List ℕ} {at : ℕ} {o : List ℕ} {r s : ℕ} {p q : List ℕ} → Allowed most text at o r p → Allowed most text at o s q → (r ≡ s) × (p ≡ q)
one-text a b = (a.ends ∙ sym b.ends, a.holds ∙ sym b.holds)

pub one-row : (row : Row) {at : ℕ} {o : List ℕ} {r s : ℕ} {p q : List ℕ} → Allowed most_row (row_text row) at o r p → Allowed most_row (row_text row) at o s q → (r ≡ s) × (p ≡ q)
one-row row a b = one-text a b

pub one_refusal : (line number : ℕ) {at : ℕ} {o : List ℕ} {r s : ℕ} {p q : List ℕ} → Allowed most_row (refused_text line number) at o r p → Allowed most_row (refused_text line number) at o s q → (r ≡ s) × (p ≡ q)
one_refusal line number a b = one-text a b

pub one-year : (year : ℕ) (amounts : List ℕ) (set count : ℕ) {at : ℕ} {o : List ℕ} {r s : ℕ} {p q : List ℕ} → Allowed most_year (year_text year amounts set count) at o r p → Allowed most_year (year_text year amounts set count) at o s q → (r ≡ s) × (p ≡ q)
one-year year amounts set count a b = one-text a b
