-- `rows::put_natural`: the measure is the number itself, of which a tenth is less. Assumes nothing.
use Rattle.rows.proofs.+put_natural.Given as goal

abbrev pub decreases-put_natural : goal.decreases-put_natural
decreases-put_natural l = l.n
