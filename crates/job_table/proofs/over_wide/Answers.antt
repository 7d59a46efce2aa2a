-- `job_table::over_wide` meets its contract.
use mathlib.Core.Path.{◌≡◌, refl, sym}
use native.Mathlib.Omega.{arith}
use borrow.Author.Tests.{lt-ltb, le-ltb}
use Rattle.counting.specs.Counting.{any}
use Rattle.counting.proofs.Loops.{any_more, any_at}
use Rattle.schedule.specs.Plan.{over_wide}
use Rattle.tables.specs.Tables.{need_at, count_of, modules_of}
use Rattle.job_table.proofs.over_wide.Invariants.{wide}
use Rattle.job_table.proofs.over_wide.Goals as goal

pub loop-j-init : goal.loop-j-init
unfolding any
loop-j-init c = refl

pub returns-then-modules-need : goal.returns-then-modules-need
unfolding over_wide
returns-then-modules-need c =
    let t = c.args.jobs.now in
    let j = c.loop-j.j in
    sym (any_at (count_of t) (wide t) j (omega arith) (lt-ltb (modules_of t) (need_at t j) (omega arith)))

pub loop-j-preserved : goal.loop-j-preserved
loop-j-preserved c =
    let t = c.args.jobs.now in
    let j = c.loop-j.j in
    any_more (wide t) j c.loop-j.invariant (le-ltb (modules_of t) (need_at t j) (omega arith))

pub returns : goal.returns
unfolding over_wide
returns c =
    let e : c.loop-j.j ≡ count_of c.args.jobs.now = omega arith in
    sym (rw (← e) c.loop-j.invariant)
