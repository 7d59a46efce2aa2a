-- `relations::longest_behind` meets its contract.
use Prim.Native.Nat.{zero-le}
use mathlib.Core.Path.{◌≡◌, refl}
use native.Mathlib.Omega.{arith}
use native.Mathlib.Numerals.{add-one}
use Rattle.counting.specs.Counting.{largest}
use Rattle.tables.specs.Tables.{count_of}
use Rattle.relations.proofs.longest_behind.Goals as goal

pub loop-i-init : goal.loop-i-init
unfolding largest
loop-i-init c = refl

pub loop-i-preserved : goal.loop-i-preserved
unfolding largest
loop-i-preserved c =
    let tested = c in
    rw (add-one, c.max-r.ensures, c.behind.ensures, c.earlier.ensures, tested.loop-i.invariant)

pub returns : goal.returns
returns c =
    let at = c in
    let e : c.loop-i.i ≡ count_of at.args.jobs.now = omega (arith, c.loop-i.auto.i-end, c.loop-i-test.false, at.count-n.ensures) in
    rw e at c.loop-i.invariant
