-- Demand 2's soil: neither layer of a run that exists passes its capacity, by induction over the calls that made it; from a start on that is not
-- refused the capacity is in its range too; and no month has a Z that could not have been given directly. Assumes nothing.
use mathlib.Core.Path.{◌≡◌, sym, ◌∙◌, subst}
use mathlib.Core.Logic.{⊎_elim}
use mathlib.Core.List.{List, [], ◌∷◌}
use Prim.Native.Nat.{◌≤◌, zero-le}
use lib.IntN.{ℤ, nat_abs}
use lib.ListN.{take}
use Rattle.outline.specs.Numbers.{most_z}
use Rattle.water.specs.Layers.{surface_holds, underlying_holds, SoilFits}
use Rattle.water.specs.declared.Soil.{Soil}
use Rattle.starts.specs.Start.{start_refusal, start_of, fresh_run}
use Rattle.starts.specs.declared.Started.{Started}
use Rattle.starts.proofs.StartLaws.{begun as fresh-begun}
use Rattle.starts.proofs.Theorems.{fresh-fits}
use Rattle.runs.specs.declared.Run.{Run}
use Rattle.refusals.specs.Book.{Book}
use Rattle.season.specs.Season.{add_season}
use Rattle.repair.specs.Repair.{repair}
use Rattle.demands.specs.Months.{Ask, asked, State, standing, after, after_all, months_of}
use Rattle.demands.specs.Demands.{number_of, Fresh, first, now, Existing, by_start, by_add, by_season, by_repair}
use Rattle.demands.proofs.Took.{took}
use Rattle.demands.proofs.Shown.{refused-add, refused-start, figures-are, layers-hold}
use Rattle.demands.proofs.Given.{zero_or}
use Rattle.demands.proofs.Seasons.{here-more}
use Rattle.demands.proofs.RepairGiven.{refused}
use Rattle.demands.proofs.Earlier.{soil-left}

-- what holds of every soil that fits is kept: an add that is accepted leaves one, and one that is refused hands the run back
module _ (P : Soil → Type 0) (of : (s : Soil) → SoilFits s → P s) where
  kept-after : (s : State) (a : Ask) → P s.run.soil → P (after s a).run.soil
  kept-after s a f =
      let b = refused-add s.run a s.columns in
      ⊎_elim
      (λ z. of (after s a).run.soil (layers-hold s.run a s.columns (b.0 ∙ z)))
      (λ n. subst (λ (r : Run). P r.soil) (sym (b.1 n).0) f)
      (zero_or (number_of s.run a s.columns))

  kept-all : (s : State) (asks : List Ask) → P s.run.soil → P (after_all s asks).run.soil
  kept-all s [] f = f
  kept-all s (a ∷ later) f = kept-all (after s a) later (kept-after s a f)

module _ (constants : List ℤ) (c ss su m : ℤ) where
  fresh-soil : start_refusal constants c ss su m ≡ 0 → SoilFits (fresh_run constants c ss su m).soil
  fresh-soil h = (fresh-fits constants c ss su m h 0).soil

  pub soil-started : start_refusal constants c ss su m ≡ 0 → SoilFits (start_of constants c ss su m).run.soil
  soil-started h = subst (λ (s : Started). SoilFits s.run.soil) (sym (fresh-begun constants c ss su m h)) (fresh-soil h)

pub soil-always : (f : Fresh) (asks : List Ask) → SoilFits (now f asks).run.soil
soil-always f asks = kept-all SoilFits (λ s h. h) (first f) asks (fresh-soil f.constants f.capacity f.surface f.underlying f.month f.started)

-- ---- every run that exists: a refused start's layers are as empty as its capacity is 0
abbrev Layers : Soil → Type 0
Layers s = (s.surface ≤ surface_holds s.capacity) × (s.underlying ≤ underlying_holds s.capacity)

layers-of : (s : Soil) → SoilFits s → Layers s
layers-of s f = (f.surface, f.underlying)

layers-started : (constants : List ℤ) (c ss su m : ℤ) → Layers (start_of constants c ss su m).run.soil
layers-started constants c ss su m =
    ⊎_elim
    (λ z. layers-of (start_of constants c ss su m).run.soil (soil-started constants c ss su m z))
    (λ n. subst (λ (r : Run). Layers r.soil) (sym ((refused-start constants c ss su m).1 n)) (zero-le, zero-le))
    (zero_or (start_refusal constants c ss su m))

pub layers-exist : (r : Run) → Existing r → Layers r.soil
layers-exist r (by_start constants c ss su m) = layers-started constants c ss su m
layers-exist r (by_add q a cs e) = kept-after Layers layers-of (standing q cs) a (layers-exist q e)
layers-exist r (by_season q ps pes cs e) =
    let n = (add_season q ps pes cs).answer.added in
    subst (λ (s : State). Layers s.run.soil) (sym (here-more q ps pes cs).1) (kept-all Layers layers-of (standing q cs) (take n (months_of ps pes)) (layers-exist q e))
layers-exist r (by_repair q i p pe cs report e) =
    let k = (repair q i p pe cs report).answer.number in
    ⊎_elim
    (λ z. layers-of (repair q i p pe cs report).answer.run.soil (soil-left q i p pe cs report z))
    (λ n. rw (refused q i p pe cs report n) (layers-exist q e))
    (zero_or k)

-- the Z of a month that was taken
pub z-given : (r : Run) (a : Ask) (cs : Book) → (asked r a cs).answer.number ≡ 0 → nat_abs (asked r a cs).answer.figures.z ≤ most_z
z-given r a cs h = rw (figures-are r a cs h) (took r cs a h).z
