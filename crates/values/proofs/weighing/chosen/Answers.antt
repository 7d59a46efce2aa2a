-- `values::weighing::chosen` meets its contract.
use Rattle.values.proofs.Laws.{chosen_of}
use borrow.Author.Rules.{rules}
use Rattle.values.proofs.weighing.chosen.Goals as goal

pub own_weights-best-requires : goal.own_weights-best-requires
own_weights-best-requires c = c.requires

pub loop-q-init : goal.loop-q-init
loop-q-init c = c.own_weights-best.ensures

pub weighting-other-requires : goal.weighting-other-requires
weighting-other-requires c = (c.requires, c.loop-q-test.true)

pub heavier-best-requires : goal.heavier-best-requires
heavier-best-requires c = c.requires

pub loop-q-preserved : goal.loop-q-preserved
loop-q-preserved c = chosen_of c.heavier-best.ensures c.loop-q.invariant c.weighting-other.ensures

pub returns : goal.returns
returns c = c.loop-q.invariant
