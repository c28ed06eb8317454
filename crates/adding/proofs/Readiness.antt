-- A run that is one, on columns that fit and with room, is ready for a month. Assumes nothing.
use Prim.Native.Nat.{◌<◌}
use native.Mathlib.Omega.{arith}
use lib.ListN.{length}
use Rattle.runs.specs.RunFits.{RunFits}
use Rattle.runs.specs.declared.Run.{Run}
use Rattle.runs.proofs.RunLaws.{run_fits, values_fit}
use Rattle.ranges.proofs.RangeLaws.{is-calendar}
use Rattle.refusals.specs.Book.{Book, columns_of, long}
use Rattle.refusals.specs.Good.{Good}
use Rattle.refusals.proofs.Refused.{columns_are, run-parts}
use Rattle.adding.specs.Ready.{Ready, Watered}

module _ (r : Run) (cs : Book) (g : Good r cs) where
  pub run_is : RunFits (long cs) r
  run_is = run_fits (long cs) r (run-parts r cs g.run).0

  pub ready : r.months < long cs → Ready r.months r.opens r.values (columns_of cs)
  ready room =
      let l = columns_are cs g.fit in
      record {
        opens_fit = run_is.opens;
        room = room;
        most = l.most;
        x2 = l.x2_is;
        x3 = l.x3_is;
        index = l.index_is;
        mark = l.mark_is;
        values_fit = values_fit (long cs) r l.most run_is;
      }

  -- the month has its place among the records and in the list of V
  pub placed : r.months < long cs → (r.months < length cs.records) × (r.months < length cs.v)
  placed room = let l = columns_are cs g.fit in (omega (arith, l.records_is), omega (arith, l.v_is))

  pub watered : Watered r
  watered = record { soil = run_is.soil; constants = run_is.constants; calendar = is-calendar r.calendar run_is.first_month run_is.last_month }
