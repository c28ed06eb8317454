-- `fields::all_spaces`: the chain asks of each byte what the definition asks. Assumes nothing.
use Rattle.std.proofs.Common.{rules, ◌∙◌, ℕ, nat_eq}
use Rattle.std.proofs.lemmas.Iterator.{YieldsList-from_slice}
use Rattle.std.proofs.lemmas.Iterator.Search.{all_from_yields_List}
use borrow.Author.Tests.{tests}
use Rattle.text.specs.Bytes.{space}
use Rattle.fields.proofs.Parts.{spaces-all}
use Rattle.fields.proofs.all_spaces.Goals as goal

pub returns : goal.returns
returns c =
    let s = c.args.rest.now in
    all_from_yields_List (λ (b : ℕ). nat_eq b space) _ _ _ c.all.ensures.ran (YieldsList-from_slice s c.iter.ensures.rest) (λ x b q k. search (rules, tests)) ∙ spaces-all s
