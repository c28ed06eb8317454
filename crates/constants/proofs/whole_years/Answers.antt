-- `constants::whole_years` meets its contract: the calendar of row 0, its first January, and the years from there. Assumes nothing.
use mathlib.Core.Path.{ap, ◌∙◌}
use Prim.Native.Nat.{ℕ}
use Rattle.years.specs.Years.{first_january, years_from}
use Rattle.reopening.proofs.Laws.{calendar-back}
use Rattle.constants.proofs.whole_years.Goals as goal

pub first_january-first-requires : goal.first_january-first-requires
first_january-first-requires c = rw c.calendar_back.ensures (calendar-back c.args.at.calendar c.args.at.months c.requires)

pub returns : goal.returns
returns c k =
    let a = c.args.at in
    let e = c.first_january-first.ensures ∙ ap first_january c.calendar_back.ensures in
    (e, c.years_from.ensures ∙ ap (λ (n : ℕ). years_from n a.months) e)
