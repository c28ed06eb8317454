-- `season_month::reading_of` meets its contract. Assumes nothing.
use mathlib.Core.Path.{sym, ap}
use lib.IntN.{negsuc}
use mir.Syntax.{w32}
use mir.Val.{of_z}
use mir.Facts.{to_z-of_z, sfits_lit}
use Rattle.exact.proofs.Held.{same_bits}
use Rattle.season_month.proofs.Months.{listed-missing, listed-whole}
use Rattle.season_month.proofs.reading_of.Goals as goal

pub returns-then-n-eq-MISSING_MONTH : goal.returns-then-n-eq-MISSING_MONTH
returns-then-n-eq-MISSING_MONTH c = sym (listed-missing _ (same_bits {y = negsuc 0} c.ranges.n (sfits_lit tt) c.if-n-eq-MISSING_MONTH.true))

pub returns : goal.returns
returns c = rw (to_z-of_z c.ranges.n) (sym (listed-whole c.args.n (λ e. c.if-n-eq-MISSING_MONTH.false (ap (of_z w32) e))))
