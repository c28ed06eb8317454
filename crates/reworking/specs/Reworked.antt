-- Document 02, E8: a repair "reworks from there". A month is reworked from what its record holds, "P and PE, or Z where there was no water", as the adds take it (the
-- crate `adding`), on the run and the columns that the month before left; the kind of its precipitation stays as it is recorded. The month that is repaired gets
-- its new readings into its record first. Assumes nothing.
use Rattle.std.specs.Prelude.{ℕ, zero, suc, ◌-◌, cond, pos, nat_abs, set}
use Rattle.door.specs.Outcome.{none}
use Rattle.door.specs.declared.MonthKinds.{MonthKinds}
use Rattle.runs.specs.declared.Run.{Run}
use Rattle.records.specs.Record.{numbers_of, record_at}
use Rattle.records.specs.Water.{had_water}
use Rattle.records.specs.declared.Record.{Record}
use Rattle.refusals.specs.Book.{Book, book}
use Rattle.adding.specs.Taken.{Result, taken_z, taken_water}
use Rattle.reopening.specs.Before.{run_before, reopened}

-- the run and all that is lent, as they are left
pub record Left : Type 0 where
  pub run : Run
  pub columns : Book

abbrev pub left : Run → Book → Left
left r cs = record { run = r; columns = cs }

-- the kinds of a month's readings, as far as they are recorded; what kind its PE was is kept nowhere, and nothing that is kept hangs on it
abbrev pub kept_kinds : Record → MonthKinds
kept_kinds m = record { p = nat_abs m.kind; pe = none }

-- a month again, from its record
unfoldable pub again : Run → Record → Book → Result
again r m cs = cond (had_water m) (taken_water r (nat_abs m.p) (nat_abs m.pe) (kept_kinds m) cs) (taken_z r m.z cs)

-- k months again, each from its record where it stands
unfoldable pub reworked : ℕ → Run → Book → Left
reworked zero r cs = left r cs
reworked (suc k) r cs = let b = again r (record_at cs.records r.months) cs in reworked k b.answer.run b.columns

-- a record with new readings; all else of it is written anew when its month is
abbrev pub renewed : Record → ℕ → ℕ → ℕ → Record
renewed m p pe kind =
    record {
      z = m.z;
      p = pos p;
      pe = pos pe;
      et = m.et;
      r = m.r;
      l = m.l;
      ro = m.ro;
      ss = m.ss;
      su = m.su;
      surface = m.surface;
      underlying = m.underlying;
      water = m.water;
      modified = m.modified;
      kind = pos kind;
    }

-- the columns with new readings in the month at place i
abbrev pub renewed_in : Book → ℕ → ℕ → ℕ → ℕ → Book
renewed_in cs i p pe kind =
    book cs.x1 cs.x2 cs.x3 cs.index cs.mark (set cs.records i (numbers_of (renewed (record_at cs.records i) p pe kind))) cs.v

-- the month at place i with precipitation p, of this kind, and PE pe, and all months after it: from where the run stood before it
unfoldable pub reworked_from : Run → ℕ → ℕ → ℕ → ℕ → Book → Left
reworked_from r i p pe kind cs = reworked (r.months - i) (run_before r cs i) (renewed_in (reopened cs i) i p pe kind)
