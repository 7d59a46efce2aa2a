-- `job_table::table_of` meets its contract.
use mathlib.Core.Path.{◌≡◌}
use native.Mathlib.Omega.{arith}
use Rattle.job_table.proofs.Copies.{none_copied, copied_more, all_copied}
use Rattle.job_table.proofs.table_of.Goals as goal

pub loop-j-init : goal.loop-j-init
loop-j-init c = none_copied _

pub bounds-found-j : goal.bounds-found-j
bounds-found-j c = omega (arith, c.requires.1.0, c.requires.0)

pub overflow_add-table : goal.overflow_add-table
overflow_add-table c = omega (arith, c.requires.1.1 c.loop-j.j c.loop-j-test.true)

pub loop-j-preserved : goal.loop-j-preserved
loop-j-preserved c = copied_more c.loop-j.invariant (omega (arith, c.requires.1.0, c.loop-j-test.true))

pub returns : goal.returns
returns c =
    let e : c.loop-j.j ≡ c.args.found.count = omega (arith, c.loop-j.auto.j-end, c.loop-j-test.false) in
    all_copied (rw e at c.loop-j.invariant)
