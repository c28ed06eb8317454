-- `water::month_of` meets its contract: the balance, the potentials and what was expected, each by its own. The potentials are in the range
-- that `expected_of` asks. Assumes nothing.
use mathlib.Core.Path.{◌≡◌}
use Prim.Native.Nat.{ℕ}
use Rattle.exact.proofs.Held.{held}
use Rattle.water.specs.Balance.{balance_of}
use Rattle.water.specs.Expected.{potentials_of, expected_of, joined, month_of}
use Rattle.water.specs.declared.Soil.{Soil}
use Rattle.water.specs.declared.Constants.{Constants}
use Rattle.water.specs.declared.Balance.{Balance}
use Rattle.water.specs.declared.Potentials.{Potentials}
use Rattle.water.specs.declared.Expected.{Expected}
use Rattle.water.proofs.WaterLaws.{potentials-fit}
use Rattle.water.proofs.month_of.Goals as goal

pub balance_of-b-requires : goal.balance_of-b-requires
balance_of-b-requires c = search held

pub potentials_of-q-requires : goal.potentials_of-q-requires
potentials_of-q-requires c = search held

pub expected_of-e-requires : goal.expected_of-e-requires
expected_of-e-requires c =
    rw c.potentials_of-q.ensures (record {
      constants_fit = c.requires.constants_fit;
      p_le_most_reading = c.requires.p_le_most_reading;
      pro_bound = potentials-fit c.args.s c.args.pe c.requires.soil_fits;
    })

-- the three together
whole : (s : Soil) (p pe : ℕ) (k : Constants) (b : Balance) (q : Potentials) (e : Expected) → b ≡ balance_of s p pe → q ≡ potentials_of s pe → e ≡ expected_of k p pe q → joined b q e ≡ month_of s p pe k
unfolding month_of
whole s p pe k b q e eb eq ee = rw (ee, eq, eb)

pub returns : goal.returns
returns c =
    let a = c.args in
    let w = whole a.s a.p a.pe a.k c.balance_of-b.result c.potentials_of-q.result c.expected_of-e.result c.balance_of-b.ensures c.potentials_of-q.ensures c.expected_of-e.ensures in
    search held
