-- Demand 2 over sequences: what accepted months answer is what the rules give of the start alone; the constants stay, and the calendar moves on by
-- one with each month. Assumes nothing.
use mathlib.Core.Path.{◌≡◌, refl, ap, ap₂, ◌∙◌}
use mathlib.Core.List.{List, [], ◌∷◌}
use Prim.Native.Nat.{◌-◌, ◌≤◌}
use native.Mathlib.Omega.{arith}
use lib.IntN.{nat_abs}
use lib.ListN.{length}
use Rattle.outline.specs.Numbers.{last_month}
use Rattle.hindsight.specs.Coded.{state_of}
use Rattle.calendar.specs.Calendar.{next_calendar}
use Rattle.adding.specs.declared.Figures.{Figures}
use Rattle.starts.proofs.Theorems.{fresh-fits}
use Rattle.demands.specs.Months.{Ask, State, after, Accepted, figures_answered, Station, station_of, station_next, figures_of_months}
use Rattle.demands.specs.Demands.{Fresh, first, now, calendar_after}
use Rattle.demands.proofs.Took.{took, station-next}
use Rattle.demands.proofs.Sequence.{station-all}
use Rattle.demands.proofs.Shown.{figures-are}

-- ---- month after month
figures-all : (s : State) (asks : List Ask) → Accepted s asks → figures_answered s asks ≡ figures_of_months (station_of s.run) asks
figures-all s [] h = refl
figures-all s (a ∷ later) h =
    ap₂ (λ (f : Figures) (fs : List Figures). f ∷ fs) (figures-are s.run a s.columns h.0)
    (figures-all (after s a) later h.1 ∙ ap (λ (d : Station). figures_of_months d later) (station-next s.run a s.columns (took s.run s.columns a h.0)))

pub chain : (f : Fresh) (asks : List Ask) → Accepted (first f) asks → figures_answered (first f) asks ≡ figures_of_months (station_of (first f).run) asks
chain f asks h = figures-all (first f) asks h

-- ---- the constants and the calendar
pub constants-stay : (d : Station) (asks : List Ask) → (state_of station_next d asks).constants ≡ d.constants
constants-stay d [] = refl
constants-stay d (a ∷ later) = constants-stay (station_next d a) later

pub calendar-moves : (d : Station) (asks : List Ask) → 1 ≤ d.calendar → d.calendar ≤ last_month → (state_of station_next d asks).calendar ≡ calendar_after d.calendar (length asks)
unfolding next_calendar
calendar-moves d [] l m = omega arith
calendar-moves d (a ∷ later) l m = let e = calendar-moves (station_next d a) later (omega arith) (omega arith) in omega arith

pub kept : (f : Fresh) (asks : List Ask) → Accepted (first f) asks → (now f asks).run.constants ≡ f.constants
kept f asks h = ap (λ (d : Station). d.constants) (station-all (first f) asks h) ∙ constants-stay (station_of (first f).run) asks

pub calendar : (f : Fresh) (asks : List Ask) → Accepted (first f) asks → (now f asks).run.calendar ≡ calendar_after (nat_abs f.month) (length asks)
calendar f asks h =
    let r = fresh-fits f.constants f.capacity f.surface f.underlying f.month f.started 0 in
    ap (λ (d : Station). d.calendar) (station-all (first f) asks h) ∙ calendar-moves (station_of (first f).run) asks r.first_month r.last_month
