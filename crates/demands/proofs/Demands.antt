-- The three demands are met, each as it is stated in specs/Demands.antt. Assumes nothing.
use mathlib.Core.Path.{◌≡◌, refl, sym, ◌∙◌}
use mathlib.Core.List.{List}
use Prim.Native.Nat.{ℕ}
use lib.IntN.{ℤ}
use lib.ListN.{length}
use Rattle.starts.proofs.Theorems.{soil-starts}
use Rattle.series.specs.Series.{series_refusal, whole_series}
use Rattle.series.proofs.SeriesLaws.{number-of, refused-writes-nothing}
use Rattle.demands.specs.Demands.{Demand1, Demand2, Demand3}
use Rattle.demands.proofs.Shown.{refused-add, refused-start, figures-are, layers-hold, water-balances, inches-balance, values-at, settled-is-hindsight, open-exactly-when, settled-stays-settled, values-never-change, open-are-last, opens-are-counted, settled-are-counted}
use Rattle.demands.proofs.Given.{nothing-else, readings_exactly, adds_exactly, row_shows, rows_exactly, series_exactly}
use Rattle.demands.proofs.Chain.{chain, kept, calendar}
use Rattle.demands.proofs.Writes.{writes}
use Rattle.demands.proofs.Soils.{z-given, soil-started, soil-always, layers-exist}
use Rattle.demands.proofs.Honest.{never-refused-7, rows-honest}
use Rattle.demands.proofs.ZeroK.{starts_exactly, zero-k, nothing-counts, counts}
use Rattle.demands.proofs.Seasons.{here-more}
use Rattle.demands.proofs.SeasonGiven.{seasons_exactly, seasons-refused, honest-seasons}
use Rattle.demands.proofs.Table.{table}
use Rattle.demands.proofs.Singly.{series-as-singly, singly-accepted}

-- a whole series answers with its number, and a refused one leaves both lists as they were
refused-series : (z index : List ℤ) (mark : List ℕ)
    → ((whole_series z index mark).number ≡ series_refusal z (length index) (length mark))
    × ((series_refusal z (length index) (length mark) ≡ 0 → ⊥) → ((whole_series z index mark).index ≡ index) × ((whole_series z index mark).mark ≡ mark))
refused-series z index mark =
    let w = whole_series z index mark in
    let n = number-of z index mark w.number w.index w.mark refl in
    (n, λ f. refused-writes-nothing z index mark w.number w.index w.mark refl (λ e. f (sym n ∙ e)))

pub demand-1 : Demand1
demand-1 =
    record {
      readings = nothing-else;
      readings_exactly = readings_exactly;
      starts = refused-start;
      starts_exactly = starts_exactly;
      adds = refused-add;
      adds_exactly = adds_exactly;
      seasons = here-more;
      seasons-refused = seasons-refused;
      seasons_exactly = seasons_exactly;
      rows = row_shows;
      rows_exactly = rows_exactly;
      series = refused-series;
      series_exactly = series_exactly;
      table = table;
      honest = never-refused-7;
      honest_rows = rows-honest;
      honest-seasons = honest-seasons;
      zero-k = zero-k;
      nothing = nothing-counts;
      counts = counts;
    }

pub demand-2 : Demand2
demand-2 =
    record {
      figures = figures-are;
      chain = chain;
      columns = values-at;
      kept = kept;
      calendar = calendar;
      balances = water-balances;
      balances_inches = inches-balance;
      anomalies = z-given;
      exists = layers-exist;
      layers = layers-hold;
      started = soil-started;
      always = soil-always;
      soils = soil-starts;
    }

pub demand-3 : Demand3
demand-3 =
    record {
      hindsight = settled-is-hindsight;
      opens = open-exactly-when;
      stays = settled-stays-settled;
      values = values-never-change;
      writes = writes;
      settled = settled-are-counted;
      counted = opens-are-counted;
      last = open-are-last;
      singly = series-as-singly;
      accepted = singly-accepted;
    }
