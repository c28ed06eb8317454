-- What a month is does not depend on the kind: an add of water asks and does, but for the kinds, what it would ask and do of lists without them. So adds
-- of one number and one water come to the same. Assumes nothing.
use mathlib.Core.Path.{◌≡◌, refl, sym, ap, ap₂, ◌∙◌}
use mathlib.Core.List.{List, [], ◌∷◌, map}
use Prim.Native.Nat.{ℕ, zero, suc}
use lib.IntN.{ℤ, pos}
use lib.Dec.{lit≤, lit<}
use lib.ListN.{get_or, set, length-map, get_or-map}
use lib.Seq.{get_or-take, take-take}
use Rattle.door.specs.Outcome.{Outcome, kinds_of}
use Rattle.door.specs.Readings.{reading, month}
use Rattle.water.specs.declared.Soil.{Soil}
use Rattle.runs.specs.declared.Run.{Run}
use Rattle.records.specs.Record.{numbers_of}
use Rattle.records.specs.declared.Record.{Record}
use Rattle.records.specs.Ends.{ends_meet}
use Rattle.refusals.specs.Book.{Book}
use Rattle.refusals.specs.Refusals.{is_run_for, run_refusal, water_refusal, z_refusal}
use Rattle.adding.specs.Taken.{Result, answered, taken, taken_z, taken_water}
use Rattle.adding.specs.declared.WaterFigures.{WaterFigures}
use Rattle.drought.specs.Calls.{add_outcomes, add_water, add_inches, add_z}
use Rattle.demands.specs.Months.{Ask, water, inches, anomaly, asked, State, after, after_all}
use Rattle.demands.specs.Traces.{plain_water, plain_numbers, plain_book, plain_result, OneWater, Alike, AllAlike}

-- ---- lists without kinds
map-set : {A B : Type 0} (f : A → B) (l : List A) (i : ℕ) (x : A) → map f (set l i x) ≡ set (map f l) i (f x)
map-set f [] i x = refl
map-set f (y ∷ l) zero x = refl
map-set f (y ∷ l) (suc i) x = ap (λ (m : List _). f y ∷ m) (map-set f l i x)

plain-twice : (l : List (List ℤ)) → map plain_numbers (map plain_numbers l) ≡ map plain_numbers l
plain-twice [] = refl
plain-twice (n ∷ l) = ap₂ (λ (m : List ℤ) (k : List (List ℤ)). m ∷ k) (take-take 13 13 n (lit≤ tt)) (plain-twice l)

-- a record's numbers but the last stand where they stood
ends-plain : (n : ℕ) (s : Soil) (l : List (List ℤ)) → ends_meet n s (map plain_numbers l) ≡ ends_meet n s l
unfolding ends_meet
ends-plain zero s l = refl
ends-plain (suc n) s l =
    let e : get_or (map plain_numbers l) n [] ≡ plain_numbers (get_or l n []) = get_or-map plain_numbers l n [] in
    rw (e, get_or-take 13 (get_or l n []) 9 (pos 0) (lit< tt), get_or-take 13 (get_or l n []) 10 (pos 0) (lit< tt))

-- ---- what is asked: the records' lengths and the last one's storages, and nothing of a kind
run-plain : (r : Run) (cs : Book) → run_refusal r (plain_book cs) ≡ run_refusal r cs
unfolding run_refusal is_run_for
run-plain r cs = rw (length-map cs.records plain_numbers, ends-plain r.months r.soil cs.records)

-- ---- what is done
module _ (r : Run) (soil : Soil) (z : ℤ) where
  -- of any two waters that are one but for the kinds, and records that are
  taken-plain : (w u : WaterFigures) (m n : Record) (cs : Book) → plain_water w ≡ plain_water u → plain_numbers (numbers_of m) ≡ plain_numbers (numbers_of n)
      → plain_result (taken r soil w z m cs) ≡ plain_result (taken r soil u z n (plain_book cs))
  unfolding taken
  taken-plain w u m n cs e f =
      rw (map-set plain_numbers cs.records r.months (numbers_of m), map-set plain_numbers (map plain_numbers cs.records) r.months (numbers_of n), plain-twice cs.records, e, f)

-- ---- an add of water, or of Z, to lists without kinds: the same number, and then the same but for the kinds
by_number : (k : ℕ) (r : Run) (cs : Book) (b c : Result) → plain_result b ≡ plain_result c → plain_result (answered k r cs b) ≡ plain_result (answered k r (plain_book cs) c)
by_number zero r cs b c e = e
by_number (suc k) r cs b c e = rw (plain-twice cs.records)

-- an outcome without its kind
abbrev bare : Outcome → Outcome
bare o = record { number = o.number; water = o.water; kind = 0 }

outcomes-plain : (r : Run) (p pe : Outcome) (cs : Book) → plain_result (add_outcomes r p pe cs) ≡ plain_result (add_outcomes r (bare p) (bare pe) (plain_book cs))
unfolding add_outcomes water_refusal taken_water
outcomes-plain r p pe cs =
    rw (run-plain r cs) (by_number (water_refusal r p.number pe.number cs) r cs (taken_water r p.water pe.water (kinds_of p pe) cs) (taken_water r p.water pe.water (kinds_of (bare p) (bare pe)) (plain_book cs)) (taken-plain r _ _ _ _ _ _ cs refl refl))

z-plain : (r : Run) (z : ℤ) (cs : Book) → plain_result (add_z r z cs) ≡ plain_result (add_z r z (plain_book cs))
unfolding add_z z_refusal
z-plain r z cs = rw (run-plain r cs) (by_number (z_refusal r z cs) r cs (taken_z r z cs) (taken_z r z (plain_book cs)) (taken-plain r _ _ _ _ _ _ cs refl refl))

-- ---- so of one number and one water
module _ (r : Run) (cs ds : Book) (e : plain_book cs ≡ plain_book ds) where
  waters : (p q pe qe : Outcome) → OneWater p q → OneWater pe qe → plain_result (add_outcomes r p pe cs) ≡ plain_result (add_outcomes r q qe ds)
  waters p q pe qe h k =
      let f : bare p ≡ bare q = rw (h.0, h.1) in
      let g : bare pe ≡ bare qe = rw (k.0, k.1) in
      outcomes-plain r p pe cs ∙ rw (e, f, g) (sym (outcomes-plain r q qe ds))

  pub plain : (a b : Ask) → Alike a b → plain_result (asked r a cs) ≡ plain_result (asked r b ds)
  unfolding add_water add_inches
  plain (water p pe) (water q qe) h = waters (reading p) (reading q) (reading pe) (reading qe) h.0 h.1
  plain (water p pe) (inches q) h = waters (reading p) (month q).p (reading pe) (month q).pe h.0 h.1
  plain (water p pe) (anomaly z) h = absurd h
  plain (inches m) (water q qe) h = waters (month m).p (reading q) (month m).pe (reading qe) h.0 h.1
  plain (inches m) (inches q) h = waters (month m).p (month q).p (month m).pe (month q).pe h.0 h.1
  plain (inches m) (anomaly z) h = absurd h
  plain (anomaly y) (water q qe) h = absurd h
  plain (anomaly y) (inches q) h = absurd h
  plain (anomaly y) (anomaly z) h = z-plain r y cs ∙ rw (e, h) (sym (z-plain r z ds))

-- ---- month after month
pub plain-months : (s t : State) (asks others : List Ask) → AllAlike asks others → s.run ≡ t.run → plain_book s.columns ≡ plain_book t.columns
    → ((after_all s asks).run ≡ (after_all t others).run) × (plain_book (after_all s asks).columns ≡ plain_book (after_all t others).columns)
plain-months s t [] [] h e f = (e, f)
plain-months s t [] (b ∷ others) h e f = absurd h
plain-months s t (a ∷ asks) [] h e f = absurd h
plain-months s t (a ∷ asks) (b ∷ others) h e f =
    let u = plain s.run s.columns t.columns f a b h.0 ∙ ap (λ (r : Run). plain_result (asked r b t.columns)) e in
    plain-months (after s a) (after t b) asks others h.1 (ap (λ (x : Result). x.answer.run) u) (ap (λ (x : Result). x.columns) u)
