-- `search::some_ends_by` meets its contract.
use mathlib.Core.Path.{refl}
use native.Mathlib.Omega.{arith}
use Rattle.search.proofs.Recalls.{remembered_less}
use Rattle.search.proofs.Whole.{goes_on, listed_ends_by, found_ends_by}
use Rattle.search.proofs.some_ends_by.Goals as goal

pub returns-then-listed-target : goal.returns-then-listed-target
returns-then-listed-target c =
    let pre = c.requires in
    listed_ends_by pre.fit pre.best_is c.if-listed-target.true

pub decide-found-requires : goal.decide-found-requires
decide-found-requires c =
    let pre = c.requires in
    let later = c.if-listed-target.false in
    (pre.fit, (pre.tabled, (omega (arith, later, pre.best_is.low), remembered_less _ _ (omega (arith, later)) pre.remembered)))

pub shape_of-memory : goal.shape_of-memory
shape_of-memory c = c.decide-found.auto.memory

pub returns : goal.returns
returns c = found_ends_by c.requires.fit c.decide-found.ensures.outcome (goes_on (c.decide-found.ensures.limit refl))
