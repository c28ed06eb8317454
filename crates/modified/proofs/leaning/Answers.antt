-- `modified::leaning` meets its contract: what it hands on are the month's naturals, and their mixture is turned back. Assumes nothing.
use mathlib.Core.Path.{◌≡◌, ap, ◌∙◌}
use Prim.Native.Nat.{ℕ, ◌≤◌}
use native.Mathlib.Omega.{arith}
use lib.Dec.{T}
use lib.IntN.{ℤ, pos, nat_abs, ◌-ℤ◌, ◌*ℤ◌}
use lib.Signed.{non_neg}
use mir.Syntax.{w32, w64}
use mir.Val.{Fits, SFits, to_z, of_z}
use mir.Facts.{to_z-of_z}
use Rattle.outline.specs.Numbers.{most_x}
use Rattle.exact.proofs.Z.{fits-within}
use Rattle.ending.specs.Ending.{turn}
use Rattle.ending.proofs.Rooms.{rooms, turn-size}
use Rattle.modified.specs.Leans.{lacking_of, Weighed}
use Rattle.modified.proofs.Mixture as mixture
use Rattle.modified.proofs.leaning.Goals as goal

-- a natural as the machine has it, and read back
record Read (x : ℤ) (n : ℕ) : Type 0 where
  not-below : T (non_neg (to_z w64 (of_z w64 x)))
  it-fits : Fits w64 (nat_abs (to_z w64 (of_z w64 x)))
  is : nat_abs (to_z w64 (of_z w64 x)) ≡ n
  fits_signed : SFits w64 x

read : (x : ℤ) (n : ℕ) → x ≡ pos n → n ≤ 20000000000000000 → Read x n
read x n e h =
    let f : SFits w64 x = rw e (record { sfits = omega arith }) in
    let g : to_z w64 (of_z w64 x) ≡ pos n = to_z-of_z f ∙ e in
    record { not-below = rw g tt; it-fits = rw g (record { fits = omega arith }); is = rw g; fits_signed = f }

module _ (s : goal.Start) where
  abbrev high : ℕ
  high = mixture.high s.args.wet s.args.x3 s.args.z s.args.v s.args.a s.args.b s.requires

  abbrev low : ℕ
  low = mixture.low s.args.wet s.args.x3 s.args.z s.args.v s.args.a s.args.b s.requires

  abbrev w : ℕ
  w = mixture.w s.args.wet s.args.x3 s.args.z s.args.v s.args.a s.args.b s.requires

  abbrev d : ℕ
  d = mixture.d s.args.wet s.args.x3 s.args.z s.args.v s.args.a s.args.b s.requires

  abbrev valued : ℤ
  valued = mixture.valued s.args.wet s.args.x3 s.args.z s.args.v s.args.a s.args.b s.requires

  weighed : Weighed high low w d
  weighed = mixture.weighed s.args.wet s.args.x3 s.args.z s.args.v s.args.a s.args.b s.requires

-- ---- what stands high
pub overflow_cast-b : goal.overflow_cast-b
overflow_cast-b c = search rooms

pub turned-high-requires : goal.turned-high-requires
turned-high-requires c = let h = c.requires.b_size in search rooms

high_read : (c : goal.After-turned-high) → Read c.turned-high.result (high c.before)
high_read c =
    let e : c.turned-high.result ≡ turn c.args.wet c.args.b = c.turned-high.ensures ∙ (search rooms) in
    read c.turned-high.result (high c.before) (e ∙ mixture.high_is c.args.wet c.args.x3 c.args.z c.args.v c.args.a c.args.b c.requires) (omega (arith, (weighed c.before).high_fits))

pub overflow_cast-high : goal.overflow_cast-high
overflow_cast-high c = let r = high_read c in (r.not-below, r.it-fits)

-- ---- what lies low
pub overflow_cast-a : goal.overflow_cast-a
overflow_cast-a c = search rooms

pub turned-requires : goal.turned-requires
turned-requires c = let h = c.requires.a_size in search rooms

low_read : (c : goal.After-turned) → Read (pos 0 -ℤ to_z w64 (of_z w64 c.turned.result)) (low c.before.before)
low_read c =
    let f : SFits w64 c.turned.result = record { sfits = c.turned.type_inv } in
    let e : to_z w64 (of_z w64 c.turned.result) ≡ turn c.args.wet c.args.a = to_z-of_z f ∙ c.turned.ensures ∙ (search rooms) in
    read (pos 0 -ℤ to_z w64 (of_z w64 c.turned.result)) (low c.before.before) (ap (λ (x : ℤ). pos 0 -ℤ x) e ∙ mixture.low-is c.args.wet c.args.x3 c.args.z c.args.v c.args.a c.args.b c.requires) (omega (arith, (weighed c.before.before).low_fits))

pub overflow_sub-low : goal.overflow_sub-low
overflow_sub-low c = (low_read c).fits_signed

pub overflow_cast-low : goal.overflow_cast-low
overflow_cast-low c = let r = low_read c in (r.not-below, r.it-fits)

-- ---- their weights
pub turned-requires-2 : goal.turned-requires-2
turned-requires-2 c = search rooms

w-read : (c : goal.After-turned-2) → Read (pos 1000 *ℤ to_z w64 (of_z w64 c.turned-2.result)) (w c.before.before.before)
w-read c =
    let f : SFits w64 c.turned-2.result = record { sfits = c.turned-2.type_inv } in
    let e : to_z w64 (of_z w64 c.turned-2.result) ≡ turn c.args.wet c.args.v = to_z-of_z f ∙ c.turned-2.ensures ∙ (search rooms) in
    read (pos 1000 *ℤ to_z w64 (of_z w64 c.turned-2.result)) (w c.before.before.before) (ap (λ (x : ℤ). pos 1000 *ℤ x) e ∙ mixture.w-is c.args.wet c.args.x3 c.args.z c.args.v c.args.a c.args.b c.requires) (omega (arith, (weighed c.before.before.before).w_fits))

pub overflow_mul-w : goal.overflow_mul-w
overflow_mul-w c = (w-read c).fits_signed

pub overflow_cast-w : goal.overflow_cast-w
overflow_cast-w c = let r = w-read c in (r.not-below, r.it-fits)

pub lacking-d-requires : goal.lacking-d-requires
lacking-d-requires c = search rooms

d-read : (c : goal.After-lacking-d) → Read c.lacking-d.result (d c.before.before.before.before)
d-read c =
    let e : c.lacking-d.result ≡ lacking_of c.args.wet c.args.x3 c.args.z = c.lacking-d.ensures ∙ (search rooms) in
    read c.lacking-d.result (d c.before.before.before.before) (e ∙ mixture.d-is c.args.wet c.args.x3 c.args.z c.args.v c.args.a c.args.b c.requires) (omega (arith, (weighed c.before.before.before.before).d_fits))

pub overflow_cast-d : goal.overflow_cast-d
overflow_cast-d c = let r = d-read c in (r.not-below, r.it-fits)

-- ---- their mixture, turned back
bounds : (c : goal.After-lacking-d) → let s = c.before.before.before.before in Weighed (high s) (low s) (w s) (d s)
bounds c = weighed c.before.before.before.before

pub between-requires : goal.between-requires
between-requires c = rw ((high_read c.before.before.before).is, (low_read c.before.before).is, (w-read c.before).is, (d-read c).is) (bounds c)

value-is : (c : goal.After-between) → c.between.result ≡ valued c.before.before.before.before.before
value-is c = rw ((high_read c.before.before.before.before).is, (low_read c.before.before.before).is, (w-read c.before.before).is, (d-read c.before).is) at c.between.ensures

small : (c : goal.After-between) → nat_abs c.between.result ≤ most_x
small c = rw (value-is c) (mixture.valued-size c.args.wet c.args.x3 c.args.z c.args.v c.args.a c.args.b c.requires)

pub turned-requires-3 : goal.turned-requires-3
turned-requires-3 c = let h = small c in let f : SFits w64 c.between.result = record { sfits = c.between.type_inv } in simp to_z-of_z (omega arith)

turned-back : (c : goal.After-turned-3) → c.turned-3.result ≡ turn c.args.wet c.between.result
turned-back c =
    let f : SFits w64 c.between.result = record { sfits = c.between.type_inv } in
    rw (to_z-of_z f) at c.turned-3.ensures

fits : (c : goal.After-turned-3) → SFits w32 c.turned-3.result
fits c = fits-within w32 c.turned-3.result most_x (rw (turned-back c) (turn-size c.args.wet c.between.result most_x (small c.before))) (omega arith)

pub overflow_cast-result : goal.overflow_cast-result
overflow_cast-result c = let f : SFits w64 c.turned-3.result = record { sfits = c.turned-3.type_inv } in rw (to_z-of_z f) (fits c)

pub returns : goal.returns
returns c =
    let f : SFits w64 c.turned-3.result = record { sfits = c.turned-3.type_inv } in
    ap (λ (x : ℤ). to_z w32 (of_z w32 x)) (to_z-of_z f) ∙ to_z-of_z (fits c) ∙ turned-back c ∙ ap (turn c.args.wet) (value-is c.before)
    ∙ mixture.mixed-is c.args.wet c.args.x3 c.args.z c.args.v c.args.a c.args.b c.requires
