-- What is read of a field is written as that field: `written_read`, of every field of seven bytes that has a digit before the point. The idea: by
-- how many spaces stand in front. And whatever is read fits seven characters (`read_fits`). Assumes nothing.
use mathlib.Core.Path.{◌≡◌, refl, sym, ap, ◌∙◌}
use mathlib.Core.Bool.{Bool, true, false, cond, not, ◌&&◌, and-eq-true_iff}
use mathlib.Core.List.{List, [], ◌∷◌}
use Prim.Native.Nat.{ℕ, zero, suc, ◌+◌, ◌-◌, ◌*◌, ◌/◌, ◌%◌, ◌^◌, ◌≤◌, ◌<◌}
use native.Mathlib.Nat.{div-div-eq-div-mul}
use native.Mathlib.Omega.{arith}
use lib.Dec.{eqb}
use lib.ListN.{length, take, drop, get_or, length-take}
use borrow.Author.Tests.{eqb-true, eqb-false, le-leb}
use Rattle.std.specs.Prelude.{Option, Some, None}
use Rattle.text.specs.Bytes.{space, minus_sign, point, digit_zero, is_digit, all_digits, negative, body, natural}
use Rattle.text.proofs.Digits.{digit-range}
use Rattle.fields.specs.Columns.{width}
use Rattle.fields.specs.Field.{unpadded, plain, ahead, units, decimals, well_formed, hundredths, numbered, field_of}
use Rattle.fields.specs.declared.Number.{Number}
use Rattle.fields.specs.Written.{field_text, size_fits}
use Rattle.fields.proofs.Parts.{unpadded-shorter}
use Rattle.fields.proofs.Naturals.{bounded, natural-small}
use Rattle.fields.proofs.Fields.{units-short}
use Rattle.fields.proofs.Inverse.{with_point, written_one, written-two, written-three, written-four}

-- ---- digits off the end of a number
module _ (n w d g h : ℕ) (d-is : is_digit d ≡ true) (g-is : is_digit g ≡ true) (h-is : is_digit h ≡ true) (e : 100 * (10 * w + (d - digit_zero)) + (10 * (10 * 0 + (g - digit_zero)) + (h - digit_zero)) ≡ n) where
  tenths : n / 10 ≡ 10 * (10 * w + (d - digit_zero)) + (g - digit_zero)
  tenths = let a = digit-range g g-is in let b = digit-range h h-is in omega arith

  ones : n / 100 ≡ 10 * w + (d - digit_zero)
  ones = let a = digit-range g g-is in let b = digit-range h h-is in omega arith

  rest : n / 1000 ≡ w
  rest = let a = digit-range g g-is in let b = digit-range h h-is in let c = digit-range d d-is in omega arith

  with-point : with_point n ≡ d ∷ point ∷ g ∷ h ∷ []
  with-point = rw (by_ones, by-tenths, by_last) refl
    where
      by_ones : digit_zero + n / 100 % 10 ≡ d
      by_ones = let c = digit-range d d-is in omega (arith, ones)

      by-tenths : digit_zero + n / 10 % 10 ≡ g
      by-tenths = let c = digit-range g g-is in omega (arith, tenths)

      by_last : digit_zero + n % 10 ≡ h
      by_last = let a = digit-range h h-is in omega arith

-- the last digit of a quotient, and what is left without it
peel : (q w d : ℕ) → is_digit d ≡ true → q ≡ 10 * w + (d - digit_zero) → (digit_zero + q % 10 ≡ d) × (q / 10 ≡ w)
peel q w d i e = let r = digit-range d i in (omega arith, omega arith)

peeled : (n k w d : ℕ) → is_digit d ≡ true → n / k ≡ 10 * w + (d - digit_zero) → n / (k * 10) ≡ w
peeled n k w d i e = sym (div-div-eq-div-mul n k 10) ∙ (peel (n / k) w d i e).1

-- a digit in front that is no 0
no_zero : (x : ℕ) → is_digit x ≡ true → eqb x digit_zero ≡ false → 49 ≤ x
no_zero x i z = let r = digit-range x i in above x (eqb-false x digit_zero z) r.0
  where
    above : (x : ℕ) → (x ≡ digit_zero → ⊥) → digit_zero ≤ x → 49 ≤ x
    above x ne l = omega (arith, ne)

-- ---- fields by the digits before the point
module _ (minus : Bool) (n d g h : ℕ) (d-is : is_digit d ≡ true) (g-is : is_digit g ≡ true) (h-is : is_digit h ≡ true) where
  back_one : 100 * natural (d ∷ []) + natural (g ∷ h ∷ []) ≡ n → field_text minus n ≡ space ∷ space ∷ cond minus minus_sign space ∷ d ∷ point ∷ g ∷ h ∷ []
  unfolding natural
  back_one e = written_one minus n small ∙ ap (λ (l : List ℕ). space ∷ space ∷ cond minus minus_sign space ∷ l) (with-point n 0 d g h d-is g-is h-is e)
    where
      small : n < 1000
      small = let a = digit-range d d-is in let b = digit-range g g-is in let c = digit-range h h-is in omega arith

  module _ (c : ℕ) (c-is : is_digit c ≡ true) where
    back-two : eqb c digit_zero ≡ false → 100 * natural (c ∷ d ∷ []) + natural (g ∷ h ∷ []) ≡ n → field_text minus n ≡ space ∷ cond minus minus_sign space ∷ c ∷ d ∷ point ∷ g ∷ h ∷ []
    unfolding natural
    back-two z e =
        written-two minus n (large z e) (small e) ∙ rw (third e, with-point n (10 * 0 + (c - digit_zero)) d g h d-is g-is h-is e) refl
      where
        large : eqb c digit_zero ≡ false → 100 * (10 * (10 * 0 + (c - digit_zero)) + (d - digit_zero)) + (10 * (10 * 0 + (g - digit_zero)) + (h - digit_zero)) ≡ n → 1000 ≤ n
        large z e = let a = no_zero c c-is z in omega arith

        small : 100 * (10 * (10 * 0 + (c - digit_zero)) + (d - digit_zero)) + (10 * (10 * 0 + (g - digit_zero)) + (h - digit_zero)) ≡ n → n < 10000
        small e = let r = digit-range c c-is in let s = digit-range d d-is in let t = digit-range g g-is in let u = digit-range h h-is in omega arith

        third : 100 * (10 * (10 * 0 + (c - digit_zero)) + (d - digit_zero)) + (10 * (10 * 0 + (g - digit_zero)) + (h - digit_zero)) ≡ n → digit_zero + n / 1000 % 10 ≡ c
        third e = let q = rest n (10 * 0 + (c - digit_zero)) d g h d-is g-is h-is e in let r = digit-range c c-is in omega (arith, q)

    module _ (b : ℕ) (b-is : is_digit b ≡ true) where
      abbrev three : ℕ
      three = 10 * (10 * 0 + (b - digit_zero)) + (c - digit_zero)

      back-three : eqb b digit_zero ≡ false → 100 * natural (b ∷ c ∷ d ∷ []) + natural (g ∷ h ∷ []) ≡ n → field_text minus n ≡ cond minus minus_sign space ∷ b ∷ c ∷ d ∷ point ∷ g ∷ h ∷ []
      unfolding natural
      back-three z e =
          written-three minus n (large z e) (small e) ∙ rw (second e, third e, with-point n three d g h d-is g-is h-is e) refl
        where
          large : eqb b digit_zero ≡ false → 100 * (10 * three + (d - digit_zero)) + (10 * (10 * 0 + (g - digit_zero)) + (h - digit_zero)) ≡ n → 10000 ≤ n
          large z e = let a = no_zero b b-is z in omega arith

          small : 100 * (10 * three + (d - digit_zero)) + (10 * (10 * 0 + (g - digit_zero)) + (h - digit_zero)) ≡ n → n < 100000
          small e = let q = digit-range b b-is in let r = digit-range c c-is in let s = digit-range d d-is in let t = digit-range g g-is in let u = digit-range h h-is in omega arith

          third : 100 * (10 * three + (d - digit_zero)) + (10 * (10 * 0 + (g - digit_zero)) + (h - digit_zero)) ≡ n → digit_zero + n / 1000 % 10 ≡ c
          third e = let q = rest n three d g h d-is g-is h-is e in let r = digit-range c c-is in omega (arith, q)

          second : 100 * (10 * three + (d - digit_zero)) + (10 * (10 * 0 + (g - digit_zero)) + (h - digit_zero)) ≡ n → digit_zero + n / 10000 % 10 ≡ b
          second e = (peel (n / 10000) 0 b b-is (peeled n 1000 (10 * 0 + (b - digit_zero)) c c-is (rest n three d g h d-is g-is h-is e))).0

module _ (n a b c d g h : ℕ) (a-is : is_digit a ≡ true) (b-is : is_digit b ≡ true) (c-is : is_digit c ≡ true) (d-is : is_digit d ≡ true) (g-is : is_digit g ≡ true) (h-is : is_digit h ≡ true) where
  abbrev four : ℕ
  four = 10 * (10 * (10 * 0 + (a - digit_zero)) + (b - digit_zero)) + (c - digit_zero)

  abbrev Made : Type 0
  Made = 100 * (10 * four + (d - digit_zero)) + (10 * (10 * 0 + (g - digit_zero)) + (h - digit_zero)) ≡ n

  ten-thousands : Made → n / 10000 ≡ 10 * (10 * 0 + (a - digit_zero)) + (b - digit_zero)
  ten-thousands e = peeled n 1000 (10 * (10 * 0 + (a - digit_zero)) + (b - digit_zero)) c c-is (rest n four d g h d-is g-is h-is e)

  back-four : eqb a digit_zero ≡ false → 100 * natural (a ∷ b ∷ c ∷ d ∷ []) + natural (g ∷ h ∷ []) ≡ n → field_text false n ≡ a ∷ b ∷ c ∷ d ∷ point ∷ g ∷ h ∷ []
  unfolding natural
  back-four z e = written-four false n (large z e) ∙ rw (first e, second e, third e, with-point n four d g h d-is g-is h-is e) refl
    where
      large : eqb a digit_zero ≡ false → Made → 100000 ≤ n
      large z e = let x = no_zero a a-is z in omega arith

      third : Made → digit_zero + n / 1000 % 10 ≡ c
      third e = let q = rest n four d g h d-is g-is h-is e in let r = digit-range c c-is in omega (arith, q)

      second : Made → digit_zero + n / 10000 % 10 ≡ b
      second e = let q = ten-thousands e in let s = digit-range b b-is in omega (arith, q)

      first : Made → digit_zero + n / 100000 % 10 ≡ a
      first e = (peel (n / 100000) 0 a a-is (peeled n 10000 (10 * 0 + (a - digit_zero)) b b-is (ten-thousands e))).0

-- ---- what is known of a field that is read
abbrev minus_of : Option Number → Bool
minus_of (Some x) = x.minus
minus_of None = false

abbrev hundredths_of : Option Number → ℕ
hundredths_of (Some x) = x.hundredths
hundredths_of None = 0

read-facts : (f : List ℕ) (minus : Bool) (n : ℕ) (t : Bool) → well_formed f ≡ t → field_of f ≡ numbered minus n → (well_formed f ≡ true) × (negative (ahead f) ≡ minus) × (hundredths f ≡ n)
unfolding field_of
read-facts f minus n true e h = let k : numbered (negative (ahead f)) (hundredths f) ≡ numbered minus n = rw e at h in (e, ap minus_of k, ap hundredths_of k)
read-facts f minus n false e h = let z : ◌≡◌ {A = ℕ} 0 1 = cc (rw e at h) in absurd (omega arith)

and_left : (a b : Bool) → (a && b) ≡ true → a ≡ true
and_left a b h = ((and-eq-true_iff a b).0 h).0

and_right : (a b : Bool) → (a && b) ≡ true → b ≡ true
and_right a b h = ((and-eq-true_iff a b).0 h).1

-- the point, and the digits after it
pub record Pointed (us : List ℕ) (e g h : ℕ) : Type 0 where
  pub is_point : e ≡ point
  pub is_plain : plain us ≡ true
  pub are_digits : all_digits us ≡ true
  pub tenths_is : is_digit g ≡ true
  pub last_is : is_digit h ≡ true

pointed : (us : List ℕ) (e g h : ℕ) → (eqb e point && plain us && all_digits us && all_digits (g ∷ h ∷ [])) ≡ true → Pointed us e g h
unfolding all_digits
pointed us e g h w =
    let ab = eqb e point && plain us in
    let abc = ab && all_digits us in
    let l = and_left abc (is_digit g && (is_digit h && true)) w in
    let r = and_right abc (is_digit g && (is_digit h && true)) w in
    let m = and_left ab (all_digits us) l in
    record {
      is_point = eqb-true e point (and_left (eqb e point) (plain us) m);
      is_plain = and_right (eqb e point) (plain us) m;
      are_digits = and_right ab (all_digits us) l;
      tenths_is = and_left (is_digit g) (is_digit h && true) r;
      last_is = and_left (is_digit h) true (and_right (is_digit g) (is_digit h && true) r);
    }

-- ---- fields by the spaces in front, and the minus after them
module _ (minus : Bool) (n a b c d e g h : ℕ) where
  abbrev F : List ℕ
  F = a ∷ b ∷ c ∷ d ∷ e ∷ g ∷ h ∷ []

  -- what is told of such a field, and what is to be shown
  abbrev Told : Type 0
  Told = (well_formed F ≡ true) × (negative (ahead F) ≡ minus) × (hundredths F ≡ n) × (units F ≡ [] → ⊥)

  digits-one : (x : ℕ) → all_digits (x ∷ []) ≡ true → is_digit x ≡ true
  unfolding all_digits
  digits-one x w = and_left (is_digit x) true w

  digits_more : (x : ℕ) (xs : List ℕ) → all_digits (x ∷ xs) ≡ true → (is_digit x ≡ true) × (all_digits xs ≡ true)
  unfolding all_digits
  digits_more x xs w = (and_left (is_digit x) (all_digits xs) w, and_right (is_digit x) (all_digits xs) w)

  plain_more : (x y : ℕ) (xs : List ℕ) → plain (x ∷ y ∷ xs) ≡ true → eqb x digit_zero ≡ false
  unfolding plain
  plain_more x y xs w = not-false (eqb x digit_zero) w
    where
      not-false : (t : Bool) → not t ≡ true → t ≡ false
      not-false false w = refl
      not-false true w = let z : ◌≡◌ {A = ℕ} 0 1 = cc in absurd (omega arith)

  spaces-alone : eqb a space ≡ true → eqb b space ≡ true → eqb c space ≡ true → eqb d space ≡ true → Told → field_text minus n ≡ F
  unfolding well_formed hundredths units ahead unpadded body negative
  spaces-alone pa pb pc pd t = absurd (t.3 (simp (pa, pb, pc, pd)))

  minus-alone : eqb a space ≡ true → eqb b space ≡ true → eqb c space ≡ true → eqb d space ≡ false → eqb d minus_sign ≡ true → Told → field_text minus n ≡ F
  unfolding well_formed hundredths units ahead unpadded body negative
  minus-alone pa pb pc qd rd t = absurd (t.3 (simp (pa, pb, pc, qd, rd)))

  digit-one : eqb a space ≡ true → eqb b space ≡ true → eqb c space ≡ true → eqb d space ≡ false → eqb d minus_sign ≡ false → Told → field_text minus n ≡ F
  unfolding well_formed hundredths units ahead unpadded body negative
  digit-one pa pb pc qd rd t =
      let P : Pointed (d ∷ []) e g h = pointed (d ∷ []) e g h (simp (pa, pb, pc, qd, rd) at t.0) in
      let m : ◌≡◌ {A = Bool} false minus = simp (pa, pb, pc, qd, rd) at t.1 in
      let k : 100 * natural (d ∷ []) + natural (g ∷ h ∷ []) ≡ n = simp (pa, pb, pc, qd, rd) at t.2 in
      let d-is = digits-one d P.are_digits in
      rw (sym m, eqb-true a space pa, eqb-true b space pb, eqb-true c space pc, P.is_point) (back_one false n d g h d-is P.tenths_is P.last_is k)

  minus_one : eqb a space ≡ true → eqb b space ≡ true → eqb c space ≡ false → eqb c minus_sign ≡ true → Told → field_text minus n ≡ F
  unfolding well_formed hundredths units ahead unpadded body negative
  minus_one pa pb qc rc t =
      let P : Pointed (d ∷ []) e g h = pointed (d ∷ []) e g h (simp (pa, pb, qc, rc) at t.0) in
      let m : ◌≡◌ {A = Bool} true minus = simp (pa, pb, qc, rc) at t.1 in
      let k : 100 * natural (d ∷ []) + natural (g ∷ h ∷ []) ≡ n = simp (pa, pb, qc, rc) at t.2 in
      let d-is = digits-one d P.are_digits in
      rw (sym m, eqb-true a space pa, eqb-true b space pb, eqb-true c minus_sign rc, P.is_point) (back_one true n d g h d-is P.tenths_is P.last_is k)

  digits-two : eqb a space ≡ true → eqb b space ≡ true → eqb c space ≡ false → eqb c minus_sign ≡ false → Told → field_text minus n ≡ F
  unfolding well_formed hundredths units ahead unpadded body negative
  digits-two pa pb qc rc t =
      let P : Pointed (c ∷ d ∷ []) e g h = pointed (c ∷ d ∷ []) e g h (simp (pa, pb, qc, rc) at t.0) in
      let m : ◌≡◌ {A = Bool} false minus = simp (pa, pb, qc, rc) at t.1 in
      let k : 100 * natural (c ∷ d ∷ []) + natural (g ∷ h ∷ []) ≡ n = simp (pa, pb, qc, rc) at t.2 in
      let c-more = digits_more c (d ∷ []) P.are_digits in
      let c-is = c-more.0 in
      let d-is = digits-one d c-more.1 in
      rw (sym m, eqb-true a space pa, eqb-true b space pb, P.is_point) (back-two false n d g h d-is P.tenths_is P.last_is c c-is (plain_more c d ([]) P.is_plain) k)

  minus-two : eqb a space ≡ true → eqb b space ≡ false → eqb b minus_sign ≡ true → Told → field_text minus n ≡ F
  unfolding well_formed hundredths units ahead unpadded body negative
  minus-two pa qb rb t =
      let P : Pointed (c ∷ d ∷ []) e g h = pointed (c ∷ d ∷ []) e g h (simp (pa, qb, rb) at t.0) in
      let m : ◌≡◌ {A = Bool} true minus = simp (pa, qb, rb) at t.1 in
      let k : 100 * natural (c ∷ d ∷ []) + natural (g ∷ h ∷ []) ≡ n = simp (pa, qb, rb) at t.2 in
      let c-more = digits_more c (d ∷ []) P.are_digits in
      let c-is = c-more.0 in
      let d-is = digits-one d c-more.1 in
      rw (sym m, eqb-true a space pa, eqb-true b minus_sign rb, P.is_point) (back-two true n d g h d-is P.tenths_is P.last_is c c-is (plain_more c d ([]) P.is_plain) k)

  digits-three : eqb a space ≡ true → eqb b space ≡ false → eqb b minus_sign ≡ false → Told → field_text minus n ≡ F
  unfolding well_formed hundredths units ahead unpadded body negative
  digits-three pa qb rb t =
      let P : Pointed (b ∷ c ∷ d ∷ []) e g h = pointed (b ∷ c ∷ d ∷ []) e g h (simp (pa, qb, rb) at t.0) in
      let m : ◌≡◌ {A = Bool} false minus = simp (pa, qb, rb) at t.1 in
      let k : 100 * natural (b ∷ c ∷ d ∷ []) + natural (g ∷ h ∷ []) ≡ n = simp (pa, qb, rb) at t.2 in
      let b-more = digits_more b (c ∷ d ∷ []) P.are_digits in
      let b-is = b-more.0 in
      let c-more = digits_more c (d ∷ []) b-more.1 in
      let c-is = c-more.0 in
      let d-is = digits-one d c-more.1 in
      rw (sym m, eqb-true a space pa, P.is_point) (back-three false n d g h d-is P.tenths_is P.last_is c c-is b b-is (plain_more b c (d ∷ []) P.is_plain) k)

  minus-three : eqb a space ≡ false → eqb a minus_sign ≡ true → Told → field_text minus n ≡ F
  unfolding well_formed hundredths units ahead unpadded body negative
  minus-three qa ra t =
      let P : Pointed (b ∷ c ∷ d ∷ []) e g h = pointed (b ∷ c ∷ d ∷ []) e g h (simp (qa, ra) at t.0) in
      let m : ◌≡◌ {A = Bool} true minus = simp (qa, ra) at t.1 in
      let k : 100 * natural (b ∷ c ∷ d ∷ []) + natural (g ∷ h ∷ []) ≡ n = simp (qa, ra) at t.2 in
      let b-more = digits_more b (c ∷ d ∷ []) P.are_digits in
      let b-is = b-more.0 in
      let c-more = digits_more c (d ∷ []) b-more.1 in
      let c-is = c-more.0 in
      let d-is = digits-one d c-more.1 in
      rw (sym m, eqb-true a minus_sign ra, P.is_point) (back-three true n d g h d-is P.tenths_is P.last_is c c-is b b-is (plain_more b c (d ∷ []) P.is_plain) k)

  digits-four : eqb a space ≡ false → eqb a minus_sign ≡ false → Told → field_text minus n ≡ F
  unfolding well_formed hundredths units ahead unpadded body negative
  digits-four qa ra t =
      let P : Pointed (a ∷ b ∷ c ∷ d ∷ []) e g h = pointed (a ∷ b ∷ c ∷ d ∷ []) e g h (simp (qa, ra) at t.0) in
      let m : ◌≡◌ {A = Bool} false minus = simp (qa, ra) at t.1 in
      let k : 100 * natural (a ∷ b ∷ c ∷ d ∷ []) + natural (g ∷ h ∷ []) ≡ n = simp (qa, ra) at t.2 in
      let a-more = digits_more a (b ∷ c ∷ d ∷ []) P.are_digits in
      let a-is = a-more.0 in
      let b-more = digits_more b (c ∷ d ∷ []) a-more.1 in
      let b-is = b-more.0 in
      let c-more = digits_more c (d ∷ []) b-more.1 in
      let c-is = c-more.0 in
      let d-is = digits-one d c-more.1 in
      rw (sym m, P.is_point) (back-four n a b c d g h a-is b-is c-is d-is P.tenths_is P.last_is (plain_more a b (c ∷ d ∷ []) P.is_plain) k)

  by_first : (s r : Bool) → eqb a space ≡ s → eqb a minus_sign ≡ r → Told → field_text minus n ≡ F
  by_first true r p q = by-second (eqb b space) (eqb b minus_sign) refl refl
    where
      by-fourth : eqb b space ≡ true → eqb c space ≡ true → (s r : Bool) → eqb d space ≡ s → eqb d minus_sign ≡ r → Told → field_text minus n ≡ F
      by-fourth pb pc true r pd rd = spaces-alone p pb pc pd
      by-fourth pb pc false true pd rd = minus-alone p pb pc pd rd
      by-fourth pb pc false false pd rd = digit-one p pb pc pd rd

      by-third : eqb b space ≡ true → (s r : Bool) → eqb c space ≡ s → eqb c minus_sign ≡ r → Told → field_text minus n ≡ F
      by-third pb true r pc rc = by-fourth pb pc (eqb d space) (eqb d minus_sign) refl refl
      by-third pb false true pc rc = minus_one p pb pc rc
      by-third pb false false pc rc = digits-two p pb pc rc

      by-second : (s r : Bool) → eqb b space ≡ s → eqb b minus_sign ≡ r → Told → field_text minus n ≡ F
      by-second true r pb rb = by-third pb (eqb c space) (eqb c minus_sign) refl refl
      by-second false true pb rb = minus-two p pb rb
      by-second false false pb rb = digits-three p pb rb
  by_first false true p q = minus-three p q
  by_first false false p q = digits-four p q

-- ---- what is read is written
pub written_read : (f : List ℕ) (minus : Bool) (n : ℕ) → length f ≡ width → field_of f ≡ numbered minus n → (units f ≡ [] → ⊥) → field_text minus n ≡ f
written_read [] minus n l r u = absurd (omega arith)
written_read (a ∷ []) minus n l r u = absurd (omega arith)
written_read (a ∷ b ∷ []) minus n l r u = absurd (omega arith)
written_read (a ∷ b ∷ c ∷ []) minus n l r u = absurd (omega arith)
written_read (a ∷ b ∷ c ∷ d ∷ []) minus n l r u = absurd (omega arith)
written_read (a ∷ b ∷ c ∷ d ∷ e ∷ []) minus n l r u = absurd (omega arith)
written_read (a ∷ b ∷ c ∷ d ∷ e ∷ g ∷ []) minus n l r u = absurd (omega arith)
written_read (a ∷ b ∷ c ∷ d ∷ e ∷ g ∷ h ∷ []) minus n l r u =
    let t = read-facts (a ∷ b ∷ c ∷ d ∷ e ∷ g ∷ h ∷ []) minus n (well_formed (a ∷ b ∷ c ∷ d ∷ e ∷ g ∷ h ∷ [])) refl r in
    by_first minus n a b c d e g h (eqb a space) (eqb a minus_sign) refl refl (t.0, t.1, t.2, u)
written_read (a ∷ b ∷ c ∷ d ∷ e ∷ g ∷ h ∷ x ∷ xs) minus n l r u = absurd (omega arith)

-- ---- and fits
below-ten : (k n : ℕ) → n < 10 ^ k → (k ≤ 2 → n < 100) × (k ≤ 3 → n < 1000)
below-ten zero n h = (λ l. omega arith, λ l. omega arith)
below-ten (suc zero) n h = (λ l. omega arith, λ l. omega arith)
below-ten (suc (suc zero)) n h = (λ l. omega arith, λ l. omega arith)
below-ten (suc (suc (suc zero))) n h = (λ l. omega arith, λ l. omega arith)
below-ten (suc (suc (suc (suc k)))) n h = (λ l. absurd (omega arith), λ l. absurd (omega arith))

body_less : (s : List ℕ) → negative s ≡ true → length (body s) + 1 ≤ length s
unfolding negative body
body_less [] e = let z : ◌≡◌ {A = ℕ} 0 1 = cc in absurd (omega arith)
body_less (b ∷ bs) e = rw e (omega arith)

units-less : (f : List ℕ) → negative (ahead f) ≡ true → length (units f) ≤ 3
unfolding units ahead
units-less f e = omega (arith, body_less (unpadded (take 4 f)) e, unpadded-shorter (take 4 f), length-take 4 f)

digits_of : (f : List ℕ) → well_formed f ≡ true → (all_digits (units f) ≡ true) × (all_digits (decimals f) ≡ true)
unfolding well_formed
digits_of f w =
    let ab = eqb (get_or f 4 0) point && plain (units f) in
    (and_right ab (all_digits (units f)) (and_left (ab && all_digits (units f)) (all_digits (decimals f)) w), and_right (ab && all_digits (units f)) (all_digits (decimals f)) w)

fits_by : (f : List ℕ) (minus : Bool) → well_formed f ≡ true → negative (ahead f) ≡ minus → size_fits minus (hundredths f) ≡ true
unfolding hundredths
fits_by f true w m =
    let d = digits_of f w in
    let u = (below-ten (length (units f)) (natural (units f)) (bounded (units f) d.0)).1 (units-less f m) in
    let v = (below-ten (length (decimals f)) (natural (decimals f)) (bounded (decimals f) d.1)).0 (omega (arith, length-take 2 (drop 5 f))) in
    le-leb (100 * natural (units f) + natural (decimals f)) 99999 (omega (arith, u, v))
fits_by f false w m =
    let d = digits_of f w in
    let u = natural-small (units f) (units-short f) d.0 in
    let v = (below-ten (length (decimals f)) (natural (decimals f)) (bounded (decimals f) d.1)).0 (omega (arith, length-take 2 (drop 5 f))) in
    le-leb (100 * natural (units f) + natural (decimals f)) 999999 (omega (arith, u, v))

pub read_fits : (f : List ℕ) (minus : Bool) (n : ℕ) → field_of f ≡ numbered minus n → size_fits minus n ≡ true
read_fits f minus n r =
    let t = read-facts f minus n (well_formed f) refl r in
    rw (← t.2) (fits_by f minus t.0 t.1)
