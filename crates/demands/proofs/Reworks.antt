-- Months reworked from their records are the months added again: where each record holds what its ask gave (`Holds`), `reworked` leaves what adding the asks leaves
-- (`reworked-is`); columns that hold the same months leave the same run and months (`copied_all`), and all else of them stays, so that they are the same
-- (`books-same`). Assumes nothing.
use mathlib.Core.Path.{◌≡◌, refl, sym, ap, ap₂, ◌∙◌, subst}
use mathlib.Core.Logic.{⊎_elim}
use mathlib.Core.List.{List, [], ◌∷◌}
use Prim.Native.Nat.{ℕ, suc, ◌+◌, ◌≤◌}
use native.Mathlib.Omega.{arith}
use lib.IntN.{ℤ, pos}
use lib.ListN.{length, get_or, take}
use lib.Seq.{get_or-set_same, get_or-set_other, ext_get_or}
use Rattle.door.specs.Readings.{reading, month}
use Rattle.runs.specs.declared.Run.{Run}
use Rattle.records.specs.Ends.{amounts}
use Rattle.records.specs.Record.{numbers_of, record_at, record_in}
use Rattle.records.specs.declared.Record.{Record}
use Rattle.refusals.specs.Book.{Book, book, long}
use Rattle.refusals.specs.Good.{Good}
use Rattle.refusals.proofs.Refused.{columns_are}
use Rattle.adding.specs.Taken.{Result, taken, taken_water}
use Rattle.adding.specs.declared.Added.{Added}
use Rattle.reworking.specs.Reworked.{left, again, reworked}
use Rattle.demands.specs.Months.{Ask, water, inches, anomaly, asked, State, standing, after, after_all, Accepted, Station, station_of, z_for, soil_for, water_for, record_for}
use Rattle.demands.specs.Given.{ItselfGives, AddGives, add_0}
use Rattle.demands.specs.Seasons.{SameFrom}
use Rattle.demands.specs.Longer.{first_places, SameMonths}
use Rattle.demands.proofs.Took.{took, good-kept, months-next, records-next}
use Rattle.demands.proofs.Sequence.{values-stay, long_after}
use Rattle.demands.proofs.Given.{add-given, add-gives}
use Rattle.demands.proofs.Longer.{same_at, copied-adds}
use Rattle.demands.proofs.Reopened.{below}

-- ---- a record that holds what an ask gave
abbrev pub Holds : Record → Ask → Type 0
Holds m (water p pe) = (m.water ≡ pos 1) × (m.p ≡ pos (reading p).water) × (m.pe ≡ pos (reading pe).water) × (m.kind ≡ pos (reading p).kind)
Holds m (inches q) = (m.water ≡ pos 1) × (m.p ≡ pos (month q).p.water) × (m.pe ≡ pos (month q).pe.water) × (m.kind ≡ pos (month q).p.kind)
Holds m (anomaly z) = (m.water ≡ pos 0) × (m.z ≡ z)

-- as its own does
pub holds-own : (d : Station) (a : Ask) → Holds (record_for d a) a
holds-own d (water p pe) = (refl, refl, refl, refl)
holds-own d (inches q) = (refl, refl, refl, refl)
holds-own d (anomaly z) = (refl, refl)

-- records from place i on, each of its own ask
abbrev pub HoldsFrom : List (List ℤ) → ℕ → List Ask → Type 0
HoldsFrom records i [] = Unit {0}
HoldsFrom records i (a ∷ later) = Holds (record_at records i) a × HoldsFrom records (suc i) later

pub holds_same : (k l : List (List ℤ)) (i : ℕ) (asks : List Ask) → ((j : ℕ) → i ≤ j → get_or l j [] ≡ get_or k j []) → HoldsFrom k i asks → HoldsFrom l i asks
holds_same k l i [] e h = tt
holds_same k l i (a ∷ later) e h = (subst (λ (n : List ℤ). Holds (record_in n) a) (sym (e i (omega arith))) h.0, holds_same k l (suc i) later (λ j g. e j (omega arith)) h.1)

-- after months are added, their records do
pub holds-all : (s : State) (asks : List Ask) → Accepted s asks → HoldsFrom (after_all s asks).columns.records s.run.months asks
holds-all s [] h = tt
holds-all s (a ∷ later) h =
    let n = s.run.months in
    let t = took s.run s.columns a h.0 in
    let m = months-next s.run a s.columns t in
    let c = columns_are s.columns t.good.fit in
    let own = record_for (station_of s.run) a in
    let e =
    (values-stay (after s a) later h.1 n (omega arith)).3
    ∙ ap (λ (l : List (List ℤ)). get_or l n []) (records-next s.run a s.columns t)
    ∙ get_or-set_same s.columns.records n (numbers_of own) [] (omega (arith, t.room, c.records_is)) in (
      subst (λ (u : List ℤ). Holds (record_in u) a) (sym e) (holds-own (station_of s.run) a),
      subst (λ (i : ℕ). HoldsFrom (after_all s (a ∷ later)).columns.records i later) m (holds-all (after s a) later h.1),
    )

-- ---- the month again, from such a record, is the month that the ask would add
module _ (r : Run) (cs : Book) where
  abbrev whole : Ask → Result
  whole a = taken r (soil_for (station_of r) a) (water_for (station_of r) a) (z_for (station_of r) a) (record_for (station_of r) a) cs

  pub again-is : (a : Ask) (m : Record) → Holds m a → ((again r m cs).answer.run ≡ (whole a).answer.run) × ((again r m cs).columns ≡ (whole a).columns)
  unfolding again amounts taken_water taken
  again-is (water p pe) m h = (rw (h.0, h.1, h.2), rw (h.0, h.1, h.2, h.3))
  again-is (inches q) m h = (rw (h.0, h.1, h.2), rw (h.0, h.1, h.2, h.3))
  again-is (anomaly z) m h = (rw (h.0, h.1), rw (h.0, h.1))

pub reworked-is : (asks : List Ask) (r : Run) (cs : Book) → Accepted (standing r cs) asks → HoldsFrom cs.records r.months asks
    → let s = after_all (standing r cs) asks in reworked (length asks) r cs ≡ left s.run s.columns
unfolding reworked
reworked-is [] r cs h o = refl
reworked-is (a ∷ later) r cs h o =
    let m = record_at cs.records r.months in
    let t = took r cs a h.0 in
    let w = again-is r cs a m o.0 in
    let n = months-next r a cs t in
    let b = asked r a cs in
    let kept = holds_same cs.records b.columns.records (suc r.months) later (λ j g. ap (λ (l : List (List ℤ)). get_or l j []) (records-next r a cs t) ∙ get_or-set_other cs.records r.months j _ [] (λ e. omega arith)) o.1 in
    ap₂ (λ (u : Run) (ds : Book). reworked (length later) u ds) (w.0 ∙ ap (λ (x : Result). x.answer.run) (sym t.did)) (w.1 ∙ ap (λ (x : Result). x.columns) (sym t.did))
    ∙ reworked-is later b.answer.run b.columns h.1 (subst (λ (i : ℕ). HoldsFrom b.columns.records i later) (sym n) kept)

-- ---- months that are accepted wherever there is room for them
abbrev pub Themselves : List Ask → Type 0
Themselves [] = Unit {0}
Themselves (a ∷ later) = ItselfGives a 0 × Themselves later

itself : (r : Run) (a : Ask) (cs : Book) → AddGives r a cs 0 → ItselfGives a 0
itself r a cs (add_0 g p l) = p

pub themselves : (s : State) (asks : List Ask) → Accepted s asks → Themselves asks
themselves s [] h = tt
themselves s (a ∷ later) h = (itself s.run a s.columns (subst (AddGives s.run a s.columns) h.0 (add-gives s.run a s.columns)), themselves (after s a) later h.1)

pub room_for : (s : State) (asks : List Ask) → Good s.run s.columns → Themselves asks → s.run.months + length asks ≤ long s.columns → Accepted s asks
room_for s [] g h l = tt
room_for s (a ∷ later) g h l =
    let z = add-given s.run a s.columns 0 (add_0 g h.0 (omega arith)) in
    let t = took s.run s.columns a z in
    let m = months-next s.run a s.columns t in
    let n = long_after s.run s.columns a t in
    (z, room_for (after s a) later (good-kept s.run a s.columns t) h.1 (omega arith))

-- ---- on columns that hold the same months
pub copied_all : (asks : List Ask) (r : Run) (cs ds : Book) → SameMonths r cs ds → Accepted (standing r cs) asks
    → let s = after_all (standing r cs) asks in let t = after_all (standing r ds) asks in
    Accepted (standing r ds) asks × (t.run ≡ s.run) × SameMonths s.run s.columns t.columns
copied_all [] r cs ds b h = (tt, refl, b)
copied_all (a ∷ later) r cs ds b h =
    let g = copied-adds r a cs ds b in
    subst (λ (x : Added). let t = standing x.run (asked r a ds).columns in ((x.number ≡ 0) × Accepted t later) × ((after_all t later).run ≡ (after_all (standing r cs) (a ∷ later)).run) × SameMonths (after_all (standing r cs) (a ∷ later)).run (after_all (standing r cs) (a ∷ later)).columns (after_all t later).columns) (sym g.0)
    (let i = copied_all later (asked r a cs).answer.run (asked r a cs).columns (asked r a ds).columns g.1 h.1 in ((h.0, i.0), i.1, i.2))

-- and the places after them
module _ (n : ℕ) where
  both-same : {A : Type 0} (d : A) (l m : List A) → length m ≡ length l → take n m ≡ take n l → ((i : ℕ) → n ≤ i → get_or m i d ≡ get_or l i d) → m ≡ l
  both-same d l m e f g = ext_get_or d m l e (λ i h. ⊎_elim (λ k. same_at n i d l m f k) (λ k. g i k) (below i n))

  pub books-same : (r : Run) (cs ds : Book) → r.months ≡ n → SameMonths r cs ds → SameFrom n cs ds → ds ≡ cs
  books-same r cs ds e s o =
      let c = columns_are cs s.lent.0 in
      let d = columns_are ds s.lent.1 in
      let l = s.one_length in
      let f : first_places n ds ≡ first_places n cs = subst (λ (k : ℕ). first_places k ds ≡ first_places k cs) e s.months in
      let x1 = both-same (pos 0) cs.x1 ds.x1 l (ap (λ (b : Book). b.x1) f) o.x1 in
      let x2 = both-same (pos 0) cs.x2 ds.x2 (d.x2_is ∙ l ∙ sym c.x2_is) (ap (λ (b : Book). b.x2) f) o.x2 in
      let x3 = both-same (pos 0) cs.x3 ds.x3 (d.x3_is ∙ l ∙ sym c.x3_is) (ap (λ (b : Book). b.x3) f) o.x3 in
      let index = both-same (pos 0) cs.index ds.index (d.index_is ∙ l ∙ sym c.index_is) (ap (λ (b : Book). b.index) f) o.index in
      let mark = both-same 0 cs.mark ds.mark (d.mark_is ∙ l ∙ sym c.mark_is) (ap (λ (b : Book). b.mark) f) o.mark in
      let records = both-same [] cs.records ds.records (d.records_is ∙ l ∙ sym c.records_is) (ap (λ (b : Book). b.records) f) o.records in
      let v = both-same (pos 0) cs.v ds.v (d.v_is ∙ l ∙ sym c.v_is) (ap (λ (b : Book). b.v) f) o.v in
      λ i. book (x1 i) (x2 i) (x3 i) (index i) (mark i) (records i) (v i)
