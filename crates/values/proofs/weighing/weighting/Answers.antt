-- `values::weighing::weighting` meets its contract.
use Rattle.values.proofs.Laws.{chosen_in}
use Rattle.values.proofs.weighing.weighting.Goals as goal

pub returns : goal.returns
returns c =
    let most-of = c.most_of in
    let weights-in = c.weights_in in
    let pre = c.requires in
    chosen_in pre.0 pre.1 weights-in.ensures most-of.ensures
