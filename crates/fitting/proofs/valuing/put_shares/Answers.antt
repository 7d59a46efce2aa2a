-- `fitting::valuing::put_shares` meets its contract.
use native.Mathlib.Omega.{arith}
use mathlib.Core.Path.{refl}
use lib.ListN.{length-set}
use borrow.Author.Rules.{rules}
use Rattle.fitting.proofs.valuing.put_shares.Goals as goal

pub loop-k-init : goal.loop-k-init
loop-k-init c = ((c.count-count.ensures, search rules), refl)

pub kept-requires : goal.kept-requires
kept-requires c = omega (arith, c.requires.few, c.loop-k.invariant.0, c.loop-k-test.true)

pub overflow_add-slate : goal.overflow_add-slate
overflow_add-slate c =
    record { fits = omega (arith, c.requires.few, c.loop-k.invariant.0, c.loop-k-test.true) }

pub offset_bounds-slate-k : goal.offset_bounds-slate-k
offset_bounds-slate-k c =
    record { fits = omega (arith, c.requires.few, c.loop-k.invariant.0, c.loop-k-test.true) }

pub bounds-slate-k : goal.bounds-slate-k
bounds-slate-k c =
    omega (arith, c.requires.few, c.loop-k.invariant.0, c.loop-k-test.true)

pub loop-k-preserved : goal.loop-k-preserved
loop-k-preserved c =
    ((c.loop-k.invariant.0.0, search rules), simp length-set c.loop-k.invariant.1)

pub returns : goal.returns
returns c = c.loop-k.invariant.1
