-- `sums::rounded` meets its contract.
use mathlib.Core.Path.{◌≡◌}
use native.Mathlib.Omega.{arith}
use Rattle.tables.specs.Tables.{changeover_of}
use Rattle.sums.proofs.Rounding.{by_sums}
use Rattle.sums.proofs.rounded.Goals as goal

pub rounded_to_step-requires : goal.rounded_to_step-requires
rounded_to_step-requires c = c.requires

pub returns-then-changeover-ne0 : goal.returns-then-changeover-ne0
returns-then-changeover-ne0 c = c.rounded_to_step.ensures

pub all_here-requires : goal.all_here-requires
all_here-requires c = c.requires.few

pub rounded_to_sum-requires : goal.rounded_to_sum-requires
rounded_to_sum-requires c = c.requires

pub returns-then-all_here : goal.returns-then-all_here
returns-then-all_here c =
    let start = c in
    let a = start.args in
    let none : changeover_of a.jobs.now ≡ 0 = omega (arith, c.changeover.ensures, c.if-changeover-ne0.false) in
    by_sums a.jobs.now start.requires a.target _ none (c.all_here.ensures c.if-all_here.true) c.rounded_to_sum.ensures

pub rounded_to_step-requires-2 : goal.rounded_to_step-requires-2
rounded_to_step-requires-2 c = c.requires

pub returns : goal.returns
returns c = c.rounded_to_step-2.ensures
