-- `constants::set_of` meets its contract: 19, 20 and 21, each way by its tests, and the stores come to the set. Assumes nothing.
use Rattle.std.proofs.lemmas.Result.{err_from_is_err_and}
use mathlib.Core.Path.{◌≡◌, sym, ap, ap₂, ◌∙◌}
use mathlib.Core.Bool.{true, not}
use mathlib.Core.List.{List}
use Prim.Native.Nat.{ℕ}
use borrow.Author.Tests.{not-true, not-false}
use lib.IntN.{ℤ, pos}
use lib.ListN.{replicate}
use Rattle.outline.specs.Numbers.{many_constants, last_month}
use Rattle.calendar.specs.Calendar.{some_zero_k}
use Rattle.weighing.specs.Weighing.{Span, span, shares_in, departure_in, gammas_fit, products, ks_fit, total_in, departures_in, sixty_in}
use Rattle.weighing.specs.Stores.{fours_to, means_to, ks_to}
use Rattle.weighing.proofs.SetLaws.{departures-are, sixty-is, sixty-fits}
use Rattle.outline.proofs.Tests.{cond-zero}
use Rattle.constants.specs.WorkOut.{not_worked_out}
use Rattle.constants.specs.declared.WorkedOut.{WorkedOut}
use Rattle.constants.proofs.Passes.{refused-by, gamma-refuses, total-refuses, ks-refuse, zero-refuses, set-passes}
use Rattle.constants.proofs.set_of.Goals as goal
use Rattle.constants.proofs.set_of.Goals.{Start}

-- the years
abbrev whole : Start → Span
whole s = let a = s.args in span a.capacity a.records.now a.first a.years

-- what the stores put, where every gamma is in its range: the twelve D, their sum with the weights, and then the sixty
module _ (s : Span) (weights : List ℤ) (d : List ℕ) (total : ℕ) (d-is : d ≡ means_to (departure_in s) (replicate last_month 0) last_month) where
  means-are : d ≡ departures_in s
  means-are = d-is ∙ departures-are s weights

  module _ (t-is : total ≡ products d weights last_month) where
    total-is : total ≡ total_in s weights
    total-is = rw means-are at t-is

    sixty-put : (l m : List ℤ) → l ≡ fours_to (shares_in s) (replicate many_constants (pos 0)) last_month → m ≡ ks_to total weights l last_month → m ≡ sixty_in s weights
    sixty-put l m l-is m-is =
        m-is
        ∙ ap₂ (λ (t : ℕ) (l : List ℤ). ks_to t weights l last_month) total-is l-is
        ∙ sixty-is s weights

pub put_shares-requires : goal.put_shares-requires
put_shares-requires c = c.requires.first_le_most_months

pub returns-in_err-put_shares : goal.returns-in_err-put_shares
returns-in_err-put_shares c =
    let e = refused-by _ _ 19 c.in_err-put_shares.ensures.value in
    let p = err_from_is_err_and c.from_residual.result c.from_residual.ensures.1 in
    rw (p.1, p.2) (ap not_worked_out e.1 ∙ gamma-refuses (whole (goal.at.returns-in_err-put_shares c).Start) c.args.weights.now e.0)

pub invariant_of-twelve : goal.invariant_of-twelve
invariant_of-twelve c = record { fit = c.requires.weights_len }

pub returns-then-total-eq0 : goal.returns-then-total-eq0
returns-then-total-eq0 c =
    let s = whole (goal.at.returns-then-total-eq0 c).Start in
    let w = c.args.weights.now in
    let t = total-is s w c.put_shares.new.means c.products-total.result c.in_ok-put_shares.ensures.means_after c.products-total.ensures in
    total-refuses s w (cond-zero _ 18 (sym c.in_ok-put_shares.ensures.value)) (sym t ∙ c.if-total-eq0.true)

pub returns-in_err-put_ks : goal.returns-in_err-put_ks
returns-in_err-put_ks c =
    let s = whole (goal.at.returns-in_err-put_ks c).Start in
    let w = c.args.weights.now in
    let t = total-is s w c.put_shares.new.means c.products-total.result c.in_ok-put_shares.ensures.means_after c.products-total.ensures in
    let e = refused-by _ _ 20 (rw t at c.in_err-put_ks.ensures.value) in
    let p = err_from_is_err_and c.from_residual-in_err-put_ks.result c.from_residual-in_err-put_ks.ensures.1 in
    rw (p.1, p.2)
    (ap not_worked_out e.1
    ∙ ks-refuse s w (cond-zero _ 18 (sym c.in_ok-put_shares.ensures.value)) (λ z. c.if-total-eq0.false (t ∙ z)) e.0)

pub returns-then-not-constants_serve : goal.returns-then-not-constants_serve
returns-then-not-constants_serve c =
    let s = whole (goal.at.returns-then-not-constants_serve c).Start in
    let w = c.args.weights.now in
    let g : gammas_fit s last_month ≡ true = cond-zero _ 18 (sym c.in_ok-put_shares.ensures.value) in
    let t = total-is s w c.put_shares.new.means c.products-total.result c.in_ok-put_shares.ensures.means_after c.products-total.ensures in
    let k : ks_fit (total_in s w) w last_month ≡ true = cond-zero _ 19 (sym (rw t at c.in_ok-put_ks.ensures.value)) in
    let put = sixty-put s w c.put_shares.new.means c.products-total.result c.in_ok-put_shares.ensures.means_after c.products-total.ensures c.put_shares.new.set c.put_ks.new.set c.in_ok-put_shares.ensures.set_after c.in_ok-put_ks.ensures.set_after in
    let serve : c.constants_serve.result ≡ not (some_zero_k (sixty_in s w)) = rw (put, sixty-fits s w c.requires.first_le_most_months.1 g k) at c.constants_serve.ensures in
    zero-refuses s w g (λ z. c.if-total-eq0.false (t ∙ z)) k (not-false _ (sym serve ∙ c.if-not-constants_serve.true))

-- what is answered
abbrev made : List ℤ → List ℕ → WorkedOut
made l d = record { number = 0; constants = l; departures = d }

pub returns : goal.returns
returns c =
    let s = whole (goal.at.returns c).Start in
    let w = c.args.weights.now in
    let g : gammas_fit s last_month ≡ true = cond-zero _ 18 (sym c.in_ok-put_shares.ensures.value) in
    let t = total-is s w c.put_shares.new.means c.products-total.result c.in_ok-put_shares.ensures.means_after c.products-total.ensures in
    let k : ks_fit (total_in s w) w last_month ≡ true = cond-zero _ 19 (sym (rw t at c.in_ok-put_ks.ensures.value)) in
    let put = sixty-put s w c.put_shares.new.means c.products-total.result c.in_ok-put_shares.ensures.means_after c.products-total.ensures c.put_shares.new.set c.put_ks.new.set c.in_ok-put_shares.ensures.set_after c.in_ok-put_ks.ensures.set_after in
    let serve : c.constants_serve.result ≡ not (some_zero_k (sixty_in s w)) = rw (put, sixty-fits s w c.requires.first_le_most_months.1 g k) at c.constants_serve.ensures in
    ap₂ made put (means-are s w c.put_shares.new.means c.products-total.result c.in_ok-put_shares.ensures.means_after)
    ∙ set-passes s w g (λ z. c.if-total-eq0.false (t ∙ z)) k (not-true _ (sym serve ∙ c.if-not-constants_serve.false))
