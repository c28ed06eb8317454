-- `given_rows::row_given` meets its contract: a row without water is asked nothing, and one of water is held to its balance. Assumes nothing.
use borrow.Author.Rules.{rules}
use borrow.Author.Tests.{eq-eqb, ne_eqb, lt-ltb, le-ltb}
use mathlib.Core.Path.{◌≡◌, sym, ap, ap₂, ◌∙◌}
use mathlib.Core.Bool.{true, false}
use Prim.Native.Nat.{◌≤◌, ◌<◌}
use native.Mathlib.Nat.{le_of_lt}
use lib.IntN.{nat_abs}
use mir.Syntax.{w32}
use mir.Val.{SFits, of_z}
use mir.Facts.{to_z-of_z}
use Rattle.water.specs.Balance.{balance_of}
use Rattle.records.specs.Record.{record_at}
use Rattle.records.specs.Water.{had_water}
use Rattle.records.specs.declared.Record.{Record}
use Rattle.records.proofs.Fitting.{water-is}
use Rattle.given_rows.specs.GivenRows.{holds, balance_from, row_given}
use Rattle.given_rows.proofs.RowLaws.{Addable, addable-is, soil-fits, Small, small, counted, none-given, not-added, held-given}
use Rattle.given_rows.proofs.row_given.Goals as goal
use Rattle.given_rows.proofs.row_given.Goals.{Else-not-addable, Then-p-pe, Else-p-pe, After-dry_month, After-wet_month}

-- the mark of its water, as the code reads it
no_water : (m : Record) → SFits w32 m.water → (of_z w32 m.water ≡ 1 → ⊥) → had_water m ≡ false
no_water m f ne = sym (water-is m f) ∙ ne_eqb _ 1 ne

with-water : (m : Record) → SFits w32 m.water → of_z w32 m.water ≡ 1 → had_water m ≡ true
with-water m f e = sym (water-is m f) ∙ eq-eqb _ 1 e

pub returns-then-m-ne-WATER : goal.returns-then-m-ne-WATER
returns-then-m-ne-WATER c =
    none-given c.args.capacity c.record_at-m.result (no_water c.record_at-m.result (search rules) c.if-m-ne-WATER.true) ∙ ap (row_given c.args.capacity) c.record_at-m.ensures

pub returns-then-not-addable : goal.returns-then-not-addable
returns-then-not-addable c =
    let capacity = c.args.capacity in
    not-added capacity c.record_at-m.result (with-water c.record_at-m.result (search rules) c.if-m-ne-WATER.false) (sym c.addable.ensures ∙ c.if-not-addable.true) ∙ ap (row_given capacity) c.record_at-m.ensures

starts : (c : Else-not-addable) → Addable c.args.capacity c.record_at-m.result
starts c = addable-is c.args.capacity c.record_at-m.result (sym c.addable.ensures ∙ c.if-not-addable.false)

pub overflow_cast-surface : goal.overflow_cast-surface
overflow_cast-surface c = counted c.record_at-m.result.ss (starts (goal.at.overflow_cast-surface c).Else-not-addable).ss.0 (search rules)

pub overflow_cast-underlying : goal.overflow_cast-underlying
overflow_cast-underlying c = counted c.record_at-m.result.su (starts (goal.at.overflow_cast-underlying c).Else-not-addable).su.0 (search rules)

pub overflow_cast-p : goal.overflow_cast-p
overflow_cast-p c = counted c.record_at-m.result.p (starts (goal.at.overflow_cast-p c).Else-not-addable).p.0 (search rules)

pub overflow_cast-pe : goal.overflow_cast-pe
overflow_cast-pe c = counted c.record_at-m.result.pe (starts (goal.at.overflow_cast-pe c).Else-not-addable).pe.0 (search rules)

-- which kind of month it is
below : (c : Then-p-pe) → let m = c.record_at-m.result in nat_abs m.p < nat_abs m.pe
below c =
    let m = c.record_at-m.result in
    let fp : SFits w32 m.p = search rules in
    let fpe : SFits w32 m.pe = search rules in
    rw (to_z-of_z fp, to_z-of_z fpe) at c.if-p-pe.true

not-below : (c : Else-p-pe) → let m = c.record_at-m.result in nat_abs m.pe ≤ nat_abs m.p
not-below c =
    let m = c.record_at-m.result in
    let fp : SFits w32 m.p = search rules in
    let fpe : SFits w32 m.pe = search rules in
    rw (to_z-of_z fp, to_z-of_z fpe) at c.if-p-pe.false

pub dry_month-requires : goal.dry_month-requires
dry_month-requires c =
    let m = c.record_at-m.result in
    let t = starts (goal.at.dry_month-requires c).Else-not-addable in
    let fss : SFits w32 m.ss = search rules in
    let fsu : SFits w32 m.su = search rules in
    let fp : SFits w32 m.p = search rules in
    let fpe : SFits w32 m.pe = search rules in
    record {
      soil_fits = rw (to_z-of_z fss, to_z-of_z fsu) (soil-fits c.args.capacity m c.requires.0 c.requires.1 t);
      p_le_pe = rw (to_z-of_z fp, to_z-of_z fpe) (le_of_lt (below c), t.pe.1);
    }

pub wet_month-requires : goal.wet_month-requires
wet_month-requires c =
    let m = c.record_at-m.result in
    let t = starts (goal.at.wet_month-requires c).Else-not-addable in
    let fss : SFits w32 m.ss = search rules in
    let fsu : SFits w32 m.su = search rules in
    let fp : SFits w32 m.p = search rules in
    let fpe : SFits w32 m.pe = search rules in
    record {
      soil_fits = rw (to_z-of_z fss, to_z-of_z fsu) (soil-fits c.args.capacity m c.requires.0 c.requires.1 t);
      pe_le_p = rw (to_z-of_z fp, to_z-of_z fpe) (not-below c, t.p.1);
    }

-- what the month of water makes of the row
dry-is : (c : After-dry_month) → c.dry_month.result ≡ balance_from c.args.capacity c.record_at-m.result
unfolding balance_of
dry-is c =
    let m = c.record_at-m.result in
    let fss : SFits w32 m.ss = search rules in
    let fsu : SFits w32 m.su = search rules in
    let fp : SFits w32 m.p = search rules in
    let fpe : SFits w32 m.pe = search rules in
    let b : nat_abs m.p < nat_abs m.pe = rw (to_z-of_z fp, to_z-of_z fpe) at c.if-p-pe.true in
    rw (lt-ltb _ _ b) (simp to_z-of_z at c.dry_month.ensures)

wet-is : (c : After-wet_month) → c.wet_month.result ≡ balance_from c.args.capacity c.record_at-m.result
unfolding balance_of
wet-is c =
    let m = c.record_at-m.result in
    let fss : SFits w32 m.ss = search rules in
    let fsu : SFits w32 m.su = search rules in
    let fp : SFits w32 m.p = search rules in
    let fpe : SFits w32 m.pe = search rules in
    let b : nat_abs m.pe ≤ nat_abs m.p = rw (to_z-of_z fp, to_z-of_z fpe) at c.if-p-pe.false in
    rw (le-ltb _ _ b) (simp to_z-of_z at c.wet_month.ensures)

-- each figure of it is in the range of a reading
balance-small : (e : Else-not-addable) → Small (balance_from e.args.capacity e.record_at-m.result)
balance-small e = small e.args.capacity e.record_at-m.result e.requires.0 e.requires.1 (starts e)

pub holds-requires : goal.holds-requires
holds-requires c =
    let b = balance-small (goal.at.holds-requires c).Else-not-addable in
    rw (dry-is c) (record { et_le_most_reading = (b.et, b.r, b.l, b.ro); surface_le_most_reading = (b.surface, b.underlying); i_in_bounds = c.requires.2 })

pub holds-requires-else-p-pe : goal.holds-requires-else-p-pe
holds-requires-else-p-pe c =
    let b = balance-small (goal.at.holds-requires-else-p-pe c).Else-not-addable in
    rw (wet-is c) (record { et_le_most_reading = (b.et, b.r, b.l, b.ro); surface_le_most_reading = (b.surface, b.underlying); i_in_bounds = c.requires.2 })

-- a row that is held to its balance
kept : (e : Else-not-addable) → let capacity = e.args.capacity in holds e.record_at-m.result (balance_from capacity e.record_at-m.result) ≡ row_given capacity (record_at e.args.records.now e.args.i)
kept e =
    let capacity = e.args.capacity in
    held-given capacity e.record_at-m.result (with-water e.record_at-m.result (search rules) e.if-m-ne-WATER.false) (sym e.addable.ensures ∙ e.if-not-addable.false) ∙ ap (row_given capacity) e.record_at-m.ensures

pub returns-then-p-pe : goal.returns-then-p-pe
returns-then-p-pe c =
    let at = goal.at.returns-then-p-pe c in
    c.holds.ensures ∙ ap₂ holds (sym c.record_at-m.ensures) (dry-is at.After-dry_month) ∙ kept at.Else-not-addable

pub returns-else-p-pe : goal.returns-else-p-pe
returns-else-p-pe c =
    let at = goal.at.returns-else-p-pe c in
    c.holds-else-p-pe.ensures ∙ ap₂ holds (sym c.record_at-m.ensures) (wet-is at.After-wet_month) ∙ kept at.Else-not-addable
