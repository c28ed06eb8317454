-- Document 02, E6, "Rows that show the water": "Each month's record keeps Z, .. P, PE, ET, R, L, RO and both storages at its start and end .. A
-- Z-only month records its Z .., zeros for the six water figures and the carried storages, with a mark that it had no water." The record's fields
-- are the columns of a lent table that has a place a month. V after the month, which passes 32 bits, has a list of its own. E4's modified index, the last
-- of the fields but one, is handed in: the crate `modified` has its rule. So is E7's, last: "one more column keeps precipitation's" kind. Assumes nothing.
use Rattle.std.specs.Prelude.{ℕ, ◌+◌, List, [], ◌∷◌, ℤ, pos, get_or}
use Rattle.door.specs.Outcome.{none}
use Rattle.water.specs.declared.Soil.{Soil}
use Rattle.water.specs.declared.Month.{Month}
use Rattle.records.specs.declared.Record.{Record}

-- a month of water from this soil, with precipitation p, PE pe, this modified index and precipitation of this kind: L is what both layers lose
abbrev pub water_record : Soil → ℕ → ℕ → Month → ℤ → ℕ → Record
water_record s p pe m modified kind =
    record {
      z = m.z;
      p = pos p;
      pe = pos pe;
      et = pos m.et;
      r = pos m.r;
      l = pos (m.ls + m.lu);
      ro = pos m.ro;
      ss = pos s.surface;
      su = pos s.underlying;
      surface = pos m.surface;
      underlying = pos m.underlying;
      water = pos 1;
      modified = modified;
      kind = pos kind;
    }

-- an added Z: "zeros for the six water figures and the carried storages, with a mark that it had no water"
abbrev pub z_record : Soil → ℤ → ℤ → Record
z_record s z modified =
    record {
      z = z;
      p = pos 0;
      pe = pos 0;
      et = pos 0;
      r = pos 0;
      l = pos 0;
      ro = pos 0;
      ss = pos s.surface;
      su = pos s.underlying;
      surface = pos s.surface;
      underlying = pos s.underlying;
      water = pos 0;
      modified = modified;
      kind = pos none;
    }

-- where there is no month
abbrev pub no_record : Record
no_record =
    record {
      z = pos 0;
      p = pos 0;
      pe = pos 0;
      et = pos 0;
      r = pos 0;
      l = pos 0;
      ro = pos 0;
      ss = pos 0;
      su = pos 0;
      surface = pos 0;
      underlying = pos 0;
      water = pos 0;
      modified = pos 0;
      kind = pos 0;
    }

-- its numbers, in the order in which they stand at its place in the lent list
abbrev pub numbers_of : Record → List ℤ
numbers_of r =
    r.z
    ∷ r.p
    ∷ r.pe
    ∷ r.et
    ∷ r.r
    ∷ r.l
    ∷ r.ro
    ∷ r.ss
    ∷ r.su
    ∷ r.surface
    ∷ r.underlying
    ∷ r.water
    ∷ r.modified
    ∷ r.kind
    ∷ []

-- the record whose numbers these are
abbrev pub record_in : List ℤ → Record
record_in n =
    record {
      z = get_or n 0 (pos 0);
      p = get_or n 1 (pos 0);
      pe = get_or n 2 (pos 0);
      et = get_or n 3 (pos 0);
      r = get_or n 4 (pos 0);
      l = get_or n 5 (pos 0);
      ro = get_or n 6 (pos 0);
      ss = get_or n 7 (pos 0);
      su = get_or n 8 (pos 0);
      surface = get_or n 9 (pos 0);
      underlying = get_or n 10 (pos 0);
      water = get_or n 11 (pos 0);
      modified = get_or n 12 (pos 0);
      kind = get_or n 13 (pos 0);
    }

-- what the lent list holds of the month at place i
abbrev pub record_at : List (List ℤ) → ℕ → Record
record_at records i = record_in (get_or records i [])
