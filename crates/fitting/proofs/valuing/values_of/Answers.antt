-- `fitting::valuing::values_of` meets its contract.
use native.Mathlib.Omega.{arith}
use Prim.Native.Nat.{◌<◌}
use lib.ListN.{length}
use Rattle.fitting.proofs.Prices.{valued-none, valued_more}
use borrow.Author.Rules.{rules}
use Rattle.fitting.proofs.valuing.values_of.Goals as goal

pub loop-k-init : goal.loop-k-init
loop-k-init c = ((c.count-count.ensures, search rules), (search rules, valued-none _ _ _))

pub has-left-requires : goal.has-left-requires
has-left-requires c = omega (arith, c.requires.few, c.loop-k.invariant.0, c.loop-k-test.true)

pub offset_bounds-slate-k : goal.offset_bounds-slate-k
offset_bounds-slate-k c =
    record { fits = omega (arith, c.requires.few, c.loop-k.invariant.0, c.loop-k-test.true) }

pub bounds-slate-k : goal.bounds-slate-k
bounds-slate-k c =
    omega (arith, c.requires.few, c.loop-k.invariant.0, c.loop-k-test.true)

pub kept-requires : goal.kept-requires
kept-requires c =
    omega (arith, c.requires.few, c.loop-k.invariant.0, c.loop-k-test.true)

pub bounds-next-k : goal.bounds-next-k
bounds-next-k c =
    omega (arith, c.requires.few, c.loop-k.invariant.0, c.loop-k-test.true)

pub loop-k-preserved : goal.loop-k-preserved
loop-k-preserved c =
    let loop = c.loop-k in
    let inv = loop.invariant in
    let low : loop.k < length loop.next = omega (arith, inv.1.0, inv.0, c.loop-k-test.true, c.requires.few) in
    let value = c.value_of.ensures in (
      (inv.0.0, search rules),
      (
        search rules,
        valued_more c.args.set inv.1.1 loop.k _ low value.0 (rw c.kept.ensures at value.1.0) (rw c.has-left.ensures at value.1.1),
      ),
    )

pub returns : goal.returns
returns c = c.loop-k.invariant.1.1
