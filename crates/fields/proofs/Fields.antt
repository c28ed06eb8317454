-- What a field of seven bytes says, by what its parts are. Assumes nothing.
use mathlib.Core.Path.{◌≡◌}
use mathlib.Core.Bool.{true, false}
use mathlib.Core.List.{List}
use Prim.Native.Nat.{ℕ, ◌+◌, ◌*◌, ◌≤◌}
use native.Mathlib.Omega.{arith}
use lib.ListN.{length, take, get_or, length-take}
use borrow.Author.Tests.{eq-eqb, ne_eqb}
use Rattle.text.specs.Bytes.{point, negative}
use Rattle.fields.specs.Field.{plain, ahead, units, decimals, well_formed, hundredths, numbered, field_of}
use Rattle.fields.specs.Field.{digits_of}
use Rattle.std.specs.Prelude.{Some, None}
use Rattle.fields.proofs.Parts.{body-unpadded}
use Rattle.fields.proofs.Naturals.{made-digits, other-digits}

pub units-short : (f : List ℕ) → length (units f) ≤ 4
unfolding units ahead
units-short f = omega (arith, body-unpadded (take 4 f), length-take 4 f)

module _ (f : List ℕ) where
  pub no-point : (get_or f 4 0 ≡ point → ⊥) → field_of f ≡ None
  unfolding field_of well_formed
  no-point e = rw (ne_eqb (get_or f 4 0) point e)

  module _ (p : get_or f 4 0 ≡ point) where
    pub not_plain : plain (units f) ≡ false → field_of f ≡ None
    unfolding field_of well_formed
    not_plain e = rw (eq-eqb (get_or f 4 0) point p, e)

    module _ (q : plain (units f) ≡ true) where
      pub not-units : digits_of (units f) ≡ None → field_of f ≡ None
      unfolding field_of well_formed
      not-units e = rw (eq-eqb (get_or f 4 0) point p, q, other-digits (units f) e)

      module _ (a : ℕ) (u : digits_of (units f) ≡ Some a) where
        pub not-decimals : digits_of (decimals f) ≡ None → field_of f ≡ None
        unfolding field_of well_formed
        not-decimals e = rw (eq-eqb (get_or f 4 0) point p, q, (made-digits (units f) a u).0, other-digits (decimals f) e)

        pub number : (b : ℕ) → digits_of (decimals f) ≡ Some b → field_of f ≡ numbered (negative (ahead f)) (100 * a + b)
        unfolding field_of well_formed hundredths
        number b e =
            let m = made-digits (units f) a u in
            let n = made-digits (decimals f) b e in
            rw (eq-eqb (get_or f 4 0) point p, q, m.0, n.0, m.1, n.1)
