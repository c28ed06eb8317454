-- A record by its fields, one by one. Assumes nothing.
use mathlib.Core.Path.{◌≡◌}
use lib.IntN.{ℤ}
use Rattle.records.specs.declared.Record.{Record}

abbrev fields : ℤ → ℤ → ℤ → ℤ → ℤ → ℤ → ℤ → ℤ → ℤ → ℤ → ℤ → ℤ → ℤ → ℤ → Record
fields z p pe et r l ro ss su surface underlying water modified kind =
    record {
      z = z;
      p = p;
      pe = pe;
      et = et;
      r = r;
      l = l;
      ro = ro;
      ss = ss;
      su = su;
      surface = surface;
      underlying = underlying;
      water = water;
      modified = modified;
      kind = kind;
    }

pub same-fields :
    {a0 a1 a2 a3 a4 a5 a6 a7 a8 a9 a10 a11 a12 a13 b0 b1 b2 b3 b4 b5 b6 b7 b8 b9 b10 b11 b12 b13 : ℤ}
    → a0 ≡ b0
    → a1 ≡ b1
    → a2 ≡ b2
    → a3 ≡ b3
    → a4 ≡ b4
    → a5 ≡ b5
    → a6 ≡ b6
    → a7 ≡ b7
    → a8 ≡ b8
    → a9 ≡ b9
    → a10 ≡ b10
    → a11 ≡ b11
    → a12 ≡ b12
    → a13 ≡ b13
    → fields a0 a1 a2 a3 a4 a5 a6 a7 a8 a9 a10 a11 a12 a13 ≡ fields b0 b1 b2 b3 b4 b5 b6 b7 b8 b9 b10 b11 b12 b13
same-fields p0 p1 p2 p3 p4 p5 p6 p7 p8 p9 p10 p11 p12 p13 = cc
