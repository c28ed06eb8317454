-- `series::whole_series`: a refusal leaves both lists, and where there is none the lists fit and `look_forward` may be asked. Assumes nothing.
use mathlib.Core.Path.{◌≡◌, refl, sym, ◌∙◌}
use native.Mathlib.Omega.{arith}
use lib.ListN.{length}
use Rattle.std.proofs.lemmas.Grind.{common_steps}
use Rattle.outline.specs.Refused.{refusal_number, answer_number}
use Rattle.outline.proofs.Refused.{number-ne-zero}
use Rattle.series.proofs.SeriesLaws.{refused-is, filled_is, done-exactly}
use Rattle.series.proofs.whole_series.Goals as goal

pub returns-in_err-series_refusal : goal.returns-in_err-series_refusal
returns-in_err-series_refusal c =
    let e : answer_number c.from_residual.result ≡ refusal_number c.in_err-series_refusal.field-0.0 = grind (arith, common_steps) in
    refused-is c.args.z.now c.args.index.now c.args.mark.now _ (e ∙ c.in_err-series_refusal.ensures) (λ h. number-ne-zero _ (sym e ∙ h))

pub look_forward-requires : goal.look_forward-requires
look_forward-requires c =
    let f = (done-exactly c.args.z.now (length c.args.index.now) (length c.args.mark.now)).0 (sym c.in_ok-series_refusal.ensures) in
    record { z_len_bound = (f.0.within, f.0.index_long, f.0.mark_long); each_fits = f.1 }

pub returns : goal.returns
returns c =
    filled_is c.args.z.now c.args.index.now c.args.mark.now 0 _ _ c.in_ok-series_refusal.ensures refl c.look_forward.ensures.indexes c.look_forward.ensures.marks
