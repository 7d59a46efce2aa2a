-- `weights::most_of` meets its contract.
use native.Mathlib.Omega.{arith}
use mathlib.Core.Path.{◌≡◌, subst}
use Prim.Native.Nat.{ℕ}
use Rattle.tables.specs.Tables.{count_of}
use Rattle.tables.proofs.Laws.{zeros}
use Rattle.weights.specs.Weights.{widths, heaviest, MostOf}
use Rattle.weights.proofs.Knapsack.{job_light, knapsack-none, knapsack_more}
use borrow.Author.Rules.{rules}
use Rattle.weights.proofs.most_of.Goals as goal

pub loop-k-init : goal.loop-k-init
loop-k-init c = ((c.count-count.ensures, c.modules-modules.ensures), (search rules, knapsack-none _ _ _ heaviest widths))

pub weight_of-weight-requires : goal.weight_of-weight-requires
weight_of-weight-requires c =
    let loop = c.loop-k in
    let pre = c.requires in
    (pre.0, (omega (arith, loop.invariant.0.0, c.loop-k-test.true), pre.1))

pub need-requires : goal.need-requires
need-requires c =
    let loop-test = c.loop-k-test in
    let loop = c.loop-k in
    let pre = c.requires in
    omega (arith, pre.0.few, loop.invariant.0.0, loop-test.true)

pub with_job-table-requires : goal.with_job-table-requires
with_job-table-requires c =
    let weight-of = c.weight_of-weight in
    let loop-test = c.loop-k-test in
    let loop = c.loop-k in
    let args = c.args in
    let pre = c.requires in
    let inv = loop.invariant in
    let light = job_light pre.0 args.q pre.1 loop.k (omega (arith, inv.0.0, loop-test.true)) in (
      λ p. omega (arith, inv.1.1.small p, inv.0.0, pre.0.few, loop-test.true),
      (omega (arith, weight-of.ensures, light), omega (arith, inv.0.1, pre.0.most)),
    )

pub loop-k-preserved : goal.loop-k-preserved
loop-k-preserved c =
    let need = c.need in
    let weight-of = c.weight_of-weight in
    let loop-test = c.loop-k-test in
    let loop = c.loop-k in
    let args = c.args in
    let pre = c.requires in
    let inv = loop.invariant in
    let light = job_light pre.0 args.q pre.1 loop.k (omega (arith, inv.0.0, loop-test.true)) in
    let put = rw (weight-of.ensures, need.ensures, inv.0.1) at c.with_job-table.ensures in
    (inv.0, (search rules, knapsack_more inv.1.1 (λ p. omega (arith, zeros widths p)) put light))

pub returns : goal.returns
returns c =
    let loop = c.loop-k in
    let args = c.args in
    let e : loop.k ≡ count_of args.jobs.now = omega (arith, loop.invariant.0.0, loop.invariant.1.0, c.loop-k-test.false) in
    subst (λ (n : ℕ). MostOf args.jobs.now n args.q loop.table.at) e loop.invariant.1.1
