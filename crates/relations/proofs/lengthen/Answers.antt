-- `relations::lengthen` meets its contract.
use Prim.Native.Nat.{ℕ, ◌<◌}
use native.Mathlib.Omega.{arith}
use lib.ListN.{length-replicate}
use Rattle.tables.specs.Tables.{count_of}
use Rattle.relations.proofs.Chaining.{lengthening-none, behind_short, lengthening-step, lengthening_all}
use Rattle.relations.proofs.lengthen.Goals as goal

pub loop-j-init : goal.loop-j-init
loop-j-init c =
    let pre = c.requires in
    lengthening-none _ pre.0 pre.1.0 pre.1.1 (length-replicate {A = ℕ} 20 0)

pub overflow_add-next : goal.overflow_add-next
overflow_add-next c =
    let read = c in
    let loop = read.loop-j in
    let at = read in
    let l : loop.j < count_of at.args.jobs.now = omega (arith, read.loop-j-test.true, at.count-n.ensures) in
    let short = behind_short loop.invariant in
    record { fits = omega (arith, at.requires.0.short loop.j l, read.minutes.ensures, c.longest_behind.ensures) }

pub loop-j-preserved : goal.loop-j-preserved
loop-j-preserved c =
    let read = c in
    let loop = read.loop-j in
    let count = read.count-n in
    rw (c.longest_behind.ensures, read.minutes.ensures)
    (lengthening-step loop.invariant (omega (arith, read.loop-j-test.true, count.ensures)))

pub returns : goal.returns
returns c = lengthening_all c.loop-j.invariant (omega (arith, c.loop-j-test.false, c.count-n.ensures))
