-- The very lists that were lent stay those through any number of calls. Assumes nothing.
use mathlib.Core.Path.{refl, ◌∙◌}
use Rattle.refusals.specs.declared.Lists.{Lists}
use Rattle.refusals.specs.Lists.{SameLists}

pub same-lists : (l : Lists) → SameLists l l
same-lists l = record { x1 = refl; x2 = refl; x3 = refl; index = refl; mark = refl; records = refl; v = refl }

pub same-then : {a b c : Lists} → SameLists a b → SameLists b c → SameLists a c
same-then p q =
    record {
      x1 = q.x1 ∙ p.x1;
      x2 = q.x2 ∙ p.x2;
      x3 = q.x3 ∙ p.x3;
      index = q.index ∙ p.index;
      mark = q.mark ∙ p.mark;
      records = q.records ∙ p.records;
      v = q.v ∙ p.v;
    }
