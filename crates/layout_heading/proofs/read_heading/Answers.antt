-- `layout_heading::read_heading`: each of the four parts is digits, or the first that is not is told. Assumes nothing.
use Rattle.std.proofs.Common.{◌≡◌, refl, sym, ◌∙◌, ℕ, Some, None, Ok, Err}
use Rattle.std.specs.Prelude.{Option}
use Rattle.std.specs.Option.{ok_or}
use Rattle.std.proofs.lemmas.Result.{err_from_is_err_and}
use Rattle.fields.specs.Columns.{state, division, element, year}
use Rattle.layout_heading.specs.Heading.{headed, first_told, heading_fault}
use Rattle.layout_heading.specs.Steps.{heading_of}
use Rattle.fields.proofs.Naturals.{made-digits, other-digits}
use Rattle.layout_heading.proofs.read_heading.Goals as goal

-- ---- an option, and the column where there is none
none_of : (o : Option ℕ) (k e : ℕ) → ok_or {E = ℕ} o k ≡ Err e → (o ≡ None) × (e ≡ k)
none_of (Some n) k e h = absurd (cc)
none_of None k e h = (refl, cc)

some_of : (o : Option ℕ) (k n : ℕ) → ok_or {E = ℕ} o k ≡ Ok n → o ≡ Some n
some_of (Some m) k n h = cc
some_of None k n h = absurd (cc)

pub returns-in_err-state : goal.returns-in_err-state
unfolding heading_of headed heading_fault first_told
returns-in_err-state c =
    let l = c.args.line.now in
    let p = err_from_is_err_and c.from_residual.result c.from_residual.ensures.1 in
    let n = none_of c.number_of.result 1 _ (sym c.ok_or.ensures.value ∙ c.in_err-state.was) in
    rw (p.1, p.2, n.1, other-digits (state l) (sym c.number_of.ensures ∙ n.0))

pub returns-in_err-division : goal.returns-in_err-division
unfolding heading_of headed heading_fault first_told
returns-in_err-division c =
    let l = c.args.line.now in
    let p = err_from_is_err_and c.from_residual-in_err-division.result c.from_residual-in_err-division.ensures.1 in
    let s = made-digits (state l) _ (sym c.number_of.ensures ∙ some_of c.number_of.result 1 _ (sym c.ok_or.ensures.value ∙ c.in_ok-state.was)) in
    let n = none_of c.number_of-2.result 3 _ (sym c.ok_or-2.ensures.value ∙ c.in_err-division.was) in
    rw (p.1, p.2, n.1, s.0, other-digits (division l) (sym c.number_of-2.ensures ∙ n.0))

pub returns-in_err-element : goal.returns-in_err-element
unfolding heading_of headed heading_fault first_told
returns-in_err-element c =
    let l = c.args.line.now in
    let p = err_from_is_err_and c.from_residual-in_err-element.result c.from_residual-in_err-element.ensures.1 in
    let s = made-digits (state l) _ (sym c.number_of.ensures ∙ some_of c.number_of.result 1 _ (sym c.ok_or.ensures.value ∙ c.in_ok-state.was)) in
    let d = made-digits (division l) _ (sym c.number_of-2.ensures ∙ some_of c.number_of-2.result 3 _ (sym c.ok_or-2.ensures.value ∙ c.in_ok-division.was)) in
    let n = none_of c.number_of-3.result 5 _ (sym c.ok_or-3.ensures.value ∙ c.in_err-element.was) in
    rw (p.1, p.2, n.1, s.0, d.0, other-digits (element l) (sym c.number_of-3.ensures ∙ n.0))

pub returns-in_err-year : goal.returns-in_err-year
unfolding heading_of headed heading_fault first_told
returns-in_err-year c =
    let l = c.args.line.now in
    let p = err_from_is_err_and c.from_residual-in_err-year.result c.from_residual-in_err-year.ensures.1 in
    let s = made-digits (state l) _ (sym c.number_of.ensures ∙ some_of c.number_of.result 1 _ (sym c.ok_or.ensures.value ∙ c.in_ok-state.was)) in
    let d = made-digits (division l) _ (sym c.number_of-2.ensures ∙ some_of c.number_of-2.result 3 _ (sym c.ok_or-2.ensures.value ∙ c.in_ok-division.was)) in
    let e = made-digits (element l) _ (sym c.number_of-3.ensures ∙ some_of c.number_of-3.result 5 _ (sym c.ok_or-3.ensures.value ∙ c.in_ok-element.was)) in
    let n = none_of c.number_of-4.result 7 _ (sym c.ok_or-4.ensures.value ∙ c.in_err-year.was) in
    rw (p.1, p.2, n.1, s.0, d.0, e.0, other-digits (year l) (sym c.number_of-4.ensures ∙ n.0))

pub returns : goal.returns
unfolding heading_of headed
returns c =
    let l = c.args.line.now in
    let s = made-digits (state l) _ (sym c.number_of.ensures ∙ some_of c.number_of.result 1 _ (sym c.ok_or.ensures.value ∙ c.in_ok-state.was)) in
    let d = made-digits (division l) _ (sym c.number_of-2.ensures ∙ some_of c.number_of-2.result 3 _ (sym c.ok_or-2.ensures.value ∙ c.in_ok-division.was)) in
    let e = made-digits (element l) _ (sym c.number_of-3.ensures ∙ some_of c.number_of-3.result 5 _ (sym c.ok_or-3.ensures.value ∙ c.in_ok-element.was)) in
    let y = made-digits (year l) _ (sym c.number_of-4.ensures ∙ some_of c.number_of-4.result 7 _ (sym c.ok_or-4.ensures.value ∙ c.in_ok-year.was)) in
    rw (s.0, d.0, e.0, y.0, s.1, d.1, e.1, y.1)
