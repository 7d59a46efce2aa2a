-- `values::lanes_of` meets its contract.
use native.Mathlib.Omega.{arith}
use Rattle.values.proofs.Laws.{laned}
use Rattle.values.proofs.lanes_of.Goals as goal

pub values_for-value-requires : goal.values_for-value-requires
values_for-value-requires c =
    let last_step = c.last_step-t in
    let pre = c.requires in
    ((pre, omega arith), last_step.ensures)

pub reach_of-reach-requires : goal.reach_of-reach-requires
reach_of-reach-requires c =
    let past = c in
    ((past.requires, omega arith), c.values_for-value.ensures)

pub returns : goal.returns
returns c =
    let reach_of = c.reach_of-reach in
    let past = c in
    let far = past in
    laned far.requires (omega arith) past.chosen-choice.ensures
    past.values_for-value.ensures reach_of.ensures c.joined.ensures
