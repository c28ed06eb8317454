-- The numbers of an abating month as naturals: what stands high and what lies low, with their weights, in the drought's sense; that the mixture of these is
-- `mixed`, and lies between the two. Assumes nothing.
use mathlib.Core.Path.{◌≡◌, refl, sym, ap, ap₂, subst, ◌∙◌}
use mathlib.Core.Bool.{Bool, true, false}
use Prim.Native.Nat.{ℕ, ◌+◌, ◌*◌, ◌≤◌, ◌<◌}
use native.Mathlib.Nat.{add_comm}
use native.Mathlib.Omega.{arith}
use lib.IntN.{ℤ, pos, negsuc, neg_ℤ, nat_abs, neg_ℤ-neg_ℤ, ◌+ℤ◌, ◌-ℤ◌, ◌*ℤ◌}
use lib.Signed.{◌≤ℤ◌, ◌<ℤ◌}
use Rattle.exact.specs.Nearest.{nearest}
use Rattle.exact.proofs.Z.{zs, zs-abs, is-Z, ≤ℤ-of-<}
use Rattle.exact.proofs.Nearest.{nearest-neg, nearest-mono, nearest-exact}
use Rattle.outline.specs.Numbers.{most_x, most_u}
use Rattle.ending.specs.Bounds.{most_v}
use Rattle.ending.specs.Ending.{turn, u_of, e_of}
use Rattle.ending.proofs.Rooms.{most_e, turn-size, u-size, e-size}
use Rattle.modified.specs.Modified.{mixed}
use Rattle.modified.specs.Leans.{lacking_of, Leans, Weighed, most_d}

-- ---- turned signs
pub turn-turn : (wet : Bool) (x : ℤ) → turn wet (turn wet x) ≡ x
unfolding turn
turn-turn false x = refl
turn-turn true x = neg_ℤ-neg_ℤ x

turn-nearest : (wet : Bool) (z : ℤ) (q : ℕ) → turn wet (nearest z q) ≡ nearest (turn wet z) q
unfolding turn
turn-nearest false z q = refl
turn-nearest true z q = sym (nearest-neg z q)

-- ---- a number from 0 on is a natural, and so is one up to 0 with its sign turned
natural : (x : ℤ) → pos 0 ≤ℤ x → x ≡ pos (nat_abs x)
natural (pos n) h = refl
natural (negsuc n) h = absurd h.le

low_of : (x : ℤ) (n : ℕ) → pos 0 -ℤ x ≡ pos n → x ≡ neg_ℤ (pos n)
low_of x n = rw (is-Z x) (simp zs (omega arith))

-- ---- the mixture of naturals: between -low and high
module _ (high low w d : ℕ) (some : 0 < w + d) where
  abbrev value : ℤ
  value = nearest (pos (w * high) -ℤ pos (d * low)) (w + d)

  pub value-most : value ≤ℤ pos high
  value-most = subst (λ (x : ℤ). value ≤ℤ x) (nearest-exact (pos high) (w + d) some) (nearest-mono (pos (w * high) -ℤ pos (d * low)) (pos (w + d) *ℤ pos high) (w + d) go)
    where
      go : (pos (w * high) -ℤ pos (d * low)) ≤ℤ (pos (w + d) *ℤ pos high)
      go = simp zs (omega arith)

  pub value-least : neg_ℤ (pos low) ≤ℤ value
  value-least = subst (λ (x : ℤ). x ≤ℤ value) (nearest-exact (neg_ℤ (pos low)) (w + d) some) (nearest-mono (pos (w + d) *ℤ neg_ℤ (pos low)) (pos (w * high) -ℤ pos (d * low)) (w + d) go)
    where
      go : (pos (w + d) *ℤ neg_ℤ (pos low)) ≤ℤ (pos (w * high) -ℤ pos (d * low))
      go = simp zs (omega arith)

  pub value-size : high ≤ most_x → low ≤ most_x → nat_abs value ≤ most_x
  value-size h g = size value value-least value-most
    where
      size : (x : ℤ) → neg_ℤ (pos low) ≤ℤ x → x ≤ℤ pos high → nat_abs x ≤ most_x
      size x = rw (is-Z x) (simp zs (omega arith))

-- ---- the numbers of an abating month
module _ (wet : Bool) (x3 z v a b : ℤ) (l : Leans wet x3 z v a b) where
  pub high : ℕ
  high = nat_abs (turn wet b)

  pub low : ℕ
  low = nat_abs (turn wet a)

  pub w : ℕ
  w = 1000 * nat_abs (turn wet v)

  pub d : ℕ
  d = nat_abs (lacking_of wet x3 z)

  pub high_is : turn wet b ≡ pos high
  unfolding high
  high_is = natural (turn wet b) l.b_sign

  pub low-is : pos 0 -ℤ turn wet a ≡ pos low
  unfolding low
  low-is = minus (turn wet a) l.a_sign
    where
      minus : (x : ℤ) → x ≤ℤ pos 0 → pos 0 -ℤ x ≡ pos (nat_abs x)
      minus x = rw (is-Z x) (simp zs-abs (omega arith))

  pub w-is : pos 1000 *ℤ turn wet v ≡ pos w
  unfolding w
  w-is = ap (λ (x : ℤ). pos 1000 *ℤ x) (natural (turn wet v) (≤ℤ-of-< (pos 0) (turn wet v) l.v_sign))

  pub d-is : lacking_of wet x3 z ≡ pos d
  unfolding d
  d-is = natural (lacking_of wet x3 z) (over (e_of (turn wet x3)) (pos 1000 *ℤ u_of (turn wet z)) l.lacks)
    where
      over : (e u : ℤ) → u <ℤ e → pos 0 ≤ℤ (e -ℤ u)
      over e u = rw (is-Z e, is-Z u) (simp zs (omega arith))

  pub weighed : Weighed high low w d
  unfolding high low w d
  weighed =
      let r = room (e_of (turn wet x3)) (u_of (turn wet z)) (e-size wet x3 l.x3_size) (u-size wet z l.z_size) l.lacks in
      record {
        high_fits = turn-size wet b most_x l.b_size;
        low_fits = turn-size wet a most_x l.a_size;
        some = omega (arith, r.0);
        d_fits = r.1;
        w_fits = omega (arith, turn-size wet v (2 * most_v) l.v_size);
      }
    where
      room : (e u : ℤ) → nat_abs e ≤ most_e → nat_abs u ≤ most_u → (pos 1000 *ℤ u) <ℤ e → (0 < nat_abs (e -ℤ pos 1000 *ℤ u)) × (nat_abs (e -ℤ pos 1000 *ℤ u) ≤ most_d)
      room e u = rw (is-Z e, is-Z u) (simp zs-abs (omega arith))

  abbrev pub valued : ℤ
  valued = nearest (pos (w * high) -ℤ pos (d * low)) (w + d)

  pub valued-size : nat_abs valued ≤ most_x
  valued-size = value-size high low w d weighed.some weighed.high_fits weighed.low_fits

  -- the fraction of the definition is that of the naturals, with the sign turned back
  fraction : (pos (d + w) -ℤ pos w) *ℤ a +ℤ pos w *ℤ b ≡ turn wet (pos (w * high) -ℤ pos (d * low))
  unfolding turn
  fraction = by wet a b low-is high_is
    where
      dry : (h l j k : ℕ) → (pos (k + j) -ℤ pos j) *ℤ neg_ℤ (pos l) +ℤ pos j *ℤ pos h ≡ pos (j * h) -ℤ pos (k * l)
      dry h l j k = simp zs (omega arith)

      wets : (h l j k : ℕ) → (pos (k + j) -ℤ pos j) *ℤ neg_ℤ (neg_ℤ (pos l)) +ℤ pos j *ℤ neg_ℤ (pos h) ≡ neg_ℤ (pos (j * h) -ℤ pos (k * l))
      wets h l j k = simp zs (omega arith)

      by : (t : Bool) (x y : ℤ) → pos 0 -ℤ turn t x ≡ pos low → turn t y ≡ pos high → (pos (d + w) -ℤ pos w) *ℤ x +ℤ pos w *ℤ y ≡ turn t (pos (w * high) -ℤ pos (d * low))
      by false x y e f = rw (low_of x low e, f) (dry high low w d)
      by true x y e f =
          let p : x ≡ neg_ℤ (neg_ℤ (pos low)) = sym (neg_ℤ-neg_ℤ x) ∙ ap neg_ℤ (low_of (neg_ℤ x) low e) in
          let q : y ≡ neg_ℤ (pos high) = sym (neg_ℤ-neg_ℤ y) ∙ ap neg_ℤ f in
          rw (p, q) (wets high low w d)

  pub mixed-is : turn wet valued ≡ mixed (turn wet v) (lacking_of wet x3 z +ℤ pos 1000 *ℤ turn wet v) a b
  unfolding mixed
  mixed-is = turn-nearest wet (pos (w * high) -ℤ pos (d * low)) (w + d) ∙ sym (rw (d-is, w-is) (ap₂ nearest fraction (add_comm d w)))

  -- it lies between the two, in the drought's sense
  pub between-both : let r = mixed (turn wet v) (lacking_of wet x3 z +ℤ pos 1000 *ℤ turn wet v) a b in (turn wet a ≤ℤ turn wet r) × (turn wet r ≤ℤ turn wet b)
  between-both = rw (value-is, high_is) (low_end, value-most high low w d weighed.some)
    where
      value-is : turn wet (mixed (turn wet v) (lacking_of wet x3 z +ℤ pos 1000 *ℤ turn wet v) a b) ≡ valued
      value-is = ap (turn wet) (sym mixed-is) ∙ turn-turn wet valued

      low_end : turn wet a ≤ℤ valued
      low_end = subst (λ (y : ℤ). y ≤ℤ valued) (sym (low_of (turn wet a) low low-is)) (value-least high low w d weighed.some)
