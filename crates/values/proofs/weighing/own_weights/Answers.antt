-- `values::weighing::own_weights` meets its contract.
use Rattle.values.proofs.Laws.{chosen-own}
use Rattle.values.proofs.weighing.own_weights.Goals as goal

pub returns : goal.returns
returns c =
    let counted = c.counted in
    let modules = c.modules in
    let rules = c.needs in
    let pre = c.requires in
    chosen-own (pre) rules.ensures (rw modules.ensures at counted.ensures)
