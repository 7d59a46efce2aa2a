-- `values::weighing::needs` meets its contract.
use native.Mathlib.Omega.{arith}
use mathlib.Core.Path.{◌≡◌}
use Prim.Native.Nat.{ℕ, ◌<◌}
use lib.ListN.{length-replicate}
use Rattle.figures.specs.Figures.{most_jobs}
use Rattle.tables.specs.Tables.{count_of}
use Rattle.weights.proofs.Puts.{put-none, put_more}
use borrow.Author.Rules.{rules}
use Rattle.values.proofs.weighing.needs.Goals as goal

pub loop-k-init : goal.loop-k-init
loop-k-init c = ((c.count-count.ensures, search rules), put-none _ _ _)

pub need-requires : goal.need-requires
need-requires c = omega (arith, c.requires, c.loop-k.invariant.0, c.loop-k-test.true)

pub bounds-next-k : goal.bounds-next-k
bounds-next-k c = omega (arith, c.requires, c.loop-k.invariant.0, c.loop-k-test.true)

pub loop-k-preserved : goal.loop-k-preserved
loop-k-preserved c =
    let loop = c.loop-k in
    let size = length-replicate {A = ℕ} most_jobs 0 in
    let low : loop.k < most_jobs = omega (arith, c.requires, loop.invariant.0, c.loop-k-test.true) in
    ((loop.invariant.0.0, search rules), put_more loop.invariant.1 _ (λ i m e. omega arith) (omega arith) c.need.ensures)

pub returns : goal.returns
returns c =
    let loop = c.loop-k in
    let e : loop.k ≡ count_of c.args.jobs.now = omega (arith, loop.invariant.0, c.loop-k-test.false) in
    rw e at loop.invariant.1
