-- `heads::latest_end` meets its contract.
use Prim.Native.Nat.{◌<◌, zero-le}
use mathlib.Core.Path.{◌≡◌, refl}
use native.Mathlib.Omega.{arith}
use native.Mathlib.Numerals.{add-one}
use Rattle.counting.specs.Counting.{largest}
use Rattle.tables.specs.Tables.{count_of}
use Rattle.heads.proofs.latest_end.Goals as goal

pub loop-i-init : goal.loop-i-init
unfolding largest
loop-i-init c = refl

pub end_of-requires : goal.end_of-requires
end_of-requires c =
    let start = c in
    let l : c.loop-i.i < count_of start.args.jobs.now = omega (arith, c.loop-i-test.true, c.count-n.ensures) in
    (omega (arith, start.requires.0), start.requires.1.1 _ l)

pub loop-i-preserved : goal.loop-i-preserved
unfolding largest
loop-i-preserved c =
    rw (add-one, c.max-r.ensures, c.end_of.ensures, c.loop-i.invariant)

pub returns : goal.returns
returns c =
    let count = c.count-n in
    let e : c.loop-i.i ≡ count_of c.args.jobs.now = omega (arith, c.loop-i.auto.i-end, c.loop-i-test.false, count.ensures) in
    rw (e, c.earlier-earlier.ensures) at c.loop-i.invariant
