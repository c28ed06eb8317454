-- `rows::lay_out`: each piece is laid where the one before it ends, so the whole row is. Assumes nothing.
use Rattle.std.proofs.Common.{◌≡◌, List, [], ◌∷◌, ◌++◌, ℕ, ◌+◌, ◌≤◌, length, arith, w32}
use lib.IntN.{ℤ}
use mir.Val.{SFits, to_z, of_z}
use mir.Facts.{to_z-of_z}
use Rattle.exact.proofs.Held.{held}
use Rattle.text.specs.Bytes.{space, line_feed}
use Rattle.rows.specs.Text.{letter, numeral, integer, row_text}
use Rattle.rows.specs.Room.{laid}
use Rattle.rows.proofs.Laid.{Reached, reach-then}
use Rattle.rows.proofs.lay_out.Goals as goal

-- one whole number more, which the machine reads back as it is
reach-integer : {a : List ℕ} {x : ℤ} {k at e r : ℕ} {o p q : List ℕ} → at ≤ length o → SFits w32 x → Reached a k at o e p → r ≡ e + length (space ∷ integer (to_z w32 (of_z w32 x))) → q ≡ laid (space ∷ integer (to_z w32 (of_z w32 x))) e p → r ≤ e + 1 + 11 → length q ≡ length p → Reached (a ++ (space ∷ integer x)) (k + 12) at o r q
reach-integer {x = x} h f g v l u same = let z = to_z-of_z f in reach-then (space ∷ integer x) 12 h g (rw z at v, rw z at l) (omega (arith, u)) same

pub returns : goal.returns
unfolding row_text
returns c =
    let row = c.args.row in
    let room : c.args.at ≤ length c.args.out.now = omega (arith, c.requires) in
    let m = c.put-month_end in
    let a = c.put_spaced-x1_end in
    let b = c.put_spaced-x2_end in
    let d = c.put_spaced-x3_end in
    let p = c.put_spaced-percent_end in
    let i = c.put_spaced-index_end in
    let l = c.put_text in
    let fx1 : SFits w32 row.x1 = search held in
    let fx2 : SFits w32 row.x2 = search held in
    let fx3 : SFits w32 row.x3 = search held in
    let findex : SFits w32 row.index = search held in
    let month : Reached (numeral row.month) 10 c.args.at c.args.out.now m.result m.new.out = record { put = (m.ensures.value, m.ensures.out_after); within = m.ensures.upper_bound; kept = m.auto.out } in
    let x1 = reach-integer room fx1 month a.ensures.value a.ensures.out_after a.ensures.upper_bound a.auto.out in
    let x2 = reach-integer room fx2 x1 b.ensures.value b.ensures.out_after b.ensures.upper_bound b.auto.out in
    let x3 = reach-integer room fx3 x2 d.ensures.value d.ensures.out_after d.ensures.upper_bound d.auto.out in
    let percent = reach-then (space ∷ numeral row.percent) 11 room x3 (p.ensures.value, p.ensures.out_after) (omega (arith, p.ensures.upper_bound)) p.auto.out in
    let index = reach-integer room findex percent i.ensures.value i.ensures.out_after i.ensures.upper_bound i.auto.out in
    let e = reach-then (space ∷ letter row.mark ∷ line_feed ∷ []) 3 room index (rw (← c.letter_of.ensures) (l.ensures.value, l.ensures.out_after)) (omega (arith, l.ensures.value)) l.auto.out in
    record { value = e.put.0; upper_bound = e.within; out_after = e.put.1 }
