-- `values::valuing::values_of` meets its contract.
use native.Mathlib.Omega.{arith}
use Prim.Native.Nat.{◌<◌}
use lib.ListN.{length}
use Rattle.values.proofs.Laws.{valued-none, valued_more}
use borrow.Author.Rules.{rules}
use Rattle.values.proofs.valuing.values_of.Goals as goal

pub loop-k-init : goal.loop-k-init
loop-k-init c = ((c.count-count.ensures, search rules), (search rules, valued-none _ _))

pub bounds-shares-k : goal.bounds-shares-k
bounds-shares-k c = omega (arith, c.requires, c.loop-k.invariant.0, c.loop-k-test.true)

pub kept-requires : goal.kept-requires
kept-requires c = omega (arith, c.requires, c.loop-k.invariant.0, c.loop-k-test.true)

pub bounds-next-k : goal.bounds-next-k
bounds-next-k c =
    let loop-test = c.loop-k-test in
    let loop = c.loop-k in
    let pre = c.requires in
    omega (arith, pre, loop.invariant.0, loop-test.true)

pub loop-k-preserved : goal.loop-k-preserved
loop-k-preserved c =
    let kept = c.kept in
    let loop-test = c.loop-k-test in
    let pre = c.requires in
    let loop = c.loop-k in
    let inv = loop.invariant in
    let low : loop.k < length loop.next = omega (arith, inv.1.0, inv.0, loop-test.true, pre) in
    let short = rw kept.ensures at c.value_of.ensures.1 in
    ((inv.0.0, search rules), (search rules, valued_more inv.1.1 loop.k _ low c.value_of.ensures.0 short))

pub returns : goal.returns
returns c = c.loop-k.invariant.1.1
