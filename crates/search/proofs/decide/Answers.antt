-- `search::decide` meets its contract.
use native.Mathlib.Omega.{arith}
use Rattle.candidates.proofs.Children.{first_word}
use Rattle.search.proofs.Recalls.{remembered_less, remembered_until}
use Rattle.search.proofs.Whole.{enter, none_between, rounded_outcome}
use Rattle.search.proofs.decide.Goals as goal

pub rounded-goal-requires : goal.rounded-goal-requires
rounded-goal-requires c = c.requires.0

pub first_part-part-requires : goal.first_part-part-requires
first_part-part-requires c = c.requires.0

pub seek-requires : goal.seek-requires
seek-requires c =
    let pre = c.requires in
    let rounded = c.rounded-goal in
    let below = rounded.ensures.below in
    enter rounded.result pre.0 pre.1.0 (omega (arith, pre.1.1.0)) (remembered_less _ _ (omega arith) pre.1.1.1) c.first_part-part.ensures

pub shape_of-memory : goal.shape_of-memory
shape_of-memory c = c.seek.auto.memory

pub returns : goal.returns
returns c =
    let past = c in
    let rounded = c.rounded-goal in
    let jobs = past.args.jobs.now in
    let word = first_word jobs c.first_part-part.result past.requires.0 c.first_part-part.ensures in
    let seek = c.seek.ensures in
    let between = none_between jobs past.args.target rounded.result rounded.ensures in
    record { outcome = rounded_outcome rounded.ensures.below between (rw word at seek.outcome); remembered = remembered_until _ between seek.remembered; limit = seek.limit }
