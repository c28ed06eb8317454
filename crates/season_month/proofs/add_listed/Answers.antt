-- `season_month::add_listed` meets its contract: each of the two months of the lists is refused or its water taken, and then it refuses for
-- want of room or adds the run's month of water. Assumes nothing.
use mathlib.Core.Path.{sym}
use mir.Facts.{to_z-of_z}
use Rattle.std.proofs.lemmas.Result.{err_from_is_err_and}
use Rattle.refusals.specs.Book.{Book}
use Rattle.refusals.proofs.Refused.{room-passes}
use Rattle.refusals.specs.Lists.{held}
use Rattle.runs.specs.Progress.{run_of}
use Rattle.runs.specs.declared.Run.{Run}
use Rattle.adding.specs.Taken.{result_of}
use Rattle.adding.specs.Progress.{added_of}
use Rattle.adding.proofs.Readiness.{ready, placed, watered}
use Rattle.season_month.specs.Listed.{listed}
use Rattle.drought.proofs.Readings.{first-refused, second-refused, room-refused, waters, accepted}
use Rattle.season_month.proofs.add_listed.Goals as goal
use Rattle.season_month.proofs.add_listed.Goals.{Start}

abbrev lent : Start → Book
lent c = let a = c.args in held a.lists.now

abbrev given : Start → Run
given c = run_of c.args.at c.args.constants.now

pub returns-in_err-first-clause-outcome : goal.returns-in_err-first-clause-outcome
returns-in_err-first-clause-outcome c =
    let a = c.args in
    let f = c.ranges.p in
    let g = c.ranges.pe in
    let p = err_from_is_err_and c.from_residual.result c.from_residual.ensures.1 in
    rw (p.1, p.2) (first-refused a.at a.constants.now (listed a.p) (listed a.pe) (held a.lists.now) c.requires _ (rw (c.reading_of.ensures, to_z-of_z f) at c.in_err-first.ensures))

pub returns-in_err-second-clause-outcome : goal.returns-in_err-second-clause-outcome
returns-in_err-second-clause-outcome c =
    let a = c.args in
    let f = c.ranges.p in
    let g = c.ranges.pe in
    let p = err_from_is_err_and c.from_residual-in_err-second.result c.from_residual-in_err-second.ensures.1 in
    rw (p.1, p.2)
    (second-refused a.at a.constants.now (listed a.p) (listed a.pe) (held a.lists.now) c.requires c.in_ok-first.first (rw (c.reading_of.ensures, to_z-of_z f) at c.in_ok-first.ensures) _ (rw (c.reading_of-2.ensures, to_z-of_z g) at c.in_err-second.ensures))

pub returns-in_err-room_refusal-clause-outcome : goal.returns-in_err-room_refusal-clause-outcome
returns-in_err-room_refusal-clause-outcome c =
    let a = c.args in
    let f = c.ranges.p in
    let g = c.ranges.pe in
    let p = err_from_is_err_and c.from_residual-in_err-room_refusal.result c.from_residual-in_err-room_refusal.ensures.1 in
    rw (p.1, p.2)
    (room-refused a.at a.constants.now (listed a.p) (listed a.pe) (held a.lists.now) c.requires c.in_ok-first.first (rw (c.reading_of.ensures, to_z-of_z f) at c.in_ok-first.ensures) c.in_ok-second.second (rw (c.reading_of-2.ensures, to_z-of_z g) at c.in_ok-second.ensures) _ c.in_err-room_refusal.ensures)

pub add_measured-month-requires : goal.add_measured-month-requires
add_measured-month-requires c =
    let a = c.args in
    let f = c.ranges.p in
    let g = c.ranges.pe in
    let r = run_of a.at a.constants.now in
    let cs = held a.lists.now in
    let room = room-passes _ _ (sym c.in_ok-room_refusal.ensures) in
    record {
      ready = ready r cs c.requires room;
      months_in_bounds = placed r cs c.requires room;
      watered = watered r cs c.requires;
      p_le_most_reading = rw (c.water.ensures, c.water-2.ensures) (waters a.at a.constants.now (listed a.p) (listed a.pe) cs c.requires c.in_ok-first.first (rw (c.reading_of.ensures, to_z-of_z f) at c.in_ok-first.ensures) c.in_ok-second.second (rw (c.reading_of-2.ensures, to_z-of_z g) at c.in_ok-second.ensures));
    }

pub returns-clause-outcome : goal.returns-clause-outcome
returns-clause-outcome c =
    let a = c.args in
    let f = c.ranges.p in
    let g = c.ranges.pe in
    let n = c.add_measured-month.new in
    accepted a.at a.constants.now (listed a.p) (listed a.pe) (held a.lists.now) c.requires c.in_ok-first.first (rw (c.reading_of.ensures, to_z-of_z f) at c.in_ok-first.ensures) c.in_ok-second.second (rw (c.reading_of-2.ensures, to_z-of_z g) at c.in_ok-second.ensures) c.in_ok-room_refusal.ensures
    (result_of (added_of c.add_measured-month.result a.constants.now) (held n.lists))
    (rw (c.water.ensures, c.water-2.ensures, c.number.ensures, c.number-2.ensures, c.kind.ensures, c.kind-2.ensures) at c.add_measured-month.ensures.outcome)
