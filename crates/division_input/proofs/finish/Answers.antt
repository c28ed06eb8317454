-- `division_input::finish`: the last line is closed, and 15 told where none was taken. Assumes nothing.
use Rattle.std.proofs.Common.{◌≡◌, sym, ap, ◌∙◌}
use mathlib.Core.Path.{ap₂, subst}
use Rattle.division_session.specs.Session.{seen, Closed, closed, none_found}
use Rattle.division_session.proofs.Room.{HeldBy}
use Rattle.division_input.specs.Input.{input_ended}
use Rattle.division_input.proofs.Fed.{held-ended}
use Rattle.division_input.proofs.finish.Goals as goal

pub returns : goal.returns
unfolding input_ended
returns c =
    let s = c.args.session.now in
    let n = c.none_found.new.self in
    let l = c.none_found.ensures.line ∙ c.close_last.ensures.line in
    let e : closed (seen n) c.close_last.new.out ≡ input_ended (seen s) s.kept.line c.args.out.now =
    ap₂ closed (c.none_found.ensures.told ∙ ap (λ (x : Closed). none_found x.session) c.close_last.ensures.out_after) (ap (λ (x : Closed). x.out) c.close_last.ensures.out_after) in
    record { out_after = e; held = rw l (subst (HeldBy s.kept.line) (sym e) (held-ended (seen s) s.kept.line c.args.out.now c.requires)); line = l }
