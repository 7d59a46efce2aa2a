-- `values::serving::reach_of` meets its contract.
use native.Mathlib.Omega.{arith}
use mathlib.Core.Path.{◌≡◌, ap, ◌∙◌, subst}
use Prim.Native.Nat.{ℕ, ◌/◌}
use Rattle.tables.specs.Tables.{count_of}
use Rattle.values.specs.Values.{Reached}
use Rattle.values.proofs.Laws.{reached-none, reached_more}
use borrow.Author.Rules.{rules}
use Rattle.values.proofs.serving.reach_of.Goals as goal

pub loop-k-init : goal.loop-k-init
loop-k-init c = (c.count-count.ensures, (search rules, reached-none _ _ _))

pub kept-kept-requires : goal.kept-kept-requires
kept-kept-requires c = omega (arith, c.requires.0.0.few, c.loop-k.invariant.0, c.loop-k-test.true)

pub bounds-value-k : goal.bounds-value-k
bounds-value-k c =
    let loop-test = c.loop-k-test in
    let loop = c.loop-k in
    let pre = c.requires in
    omega (arith, pre.0.0.few, loop.invariant.0, loop-test.true)

pub steps-lasts-requires : goal.steps-lasts-requires
steps-lasts-requires c = c.requires.0.1

pub with_value-reach-requires : goal.with_value-reach-requires
with_value-reach-requires c =
    let loop-test = c.loop-k-test in
    let loop = c.loop-k in
    let pre = c.requires in
    let inv = loop.invariant in
    let reached = inv.1.1 in
    (reached.size, (λ p. omega (arith, reached.table.small p, pre.0.0.few, inv.0, loop-test.true), pre.1.small loop.k))

pub loop-k-preserved : goal.loop-k-preserved
loop-k-preserved c =
    let steps = c.steps-lasts in
    let kept = c.kept-kept in
    let loop = c.loop-k in
    let past = c in
    let inv = loop.invariant in
    let lasts = steps.ensures ∙ ap (λ (m : ℕ). m / past.args.step) kept.ensures in (
      inv.0,
      (
        search rules,
        reached_more past.requires.0.1 past.requires.1 inv.1.1
            (rw lasts at c.with_value-reach.ensures),
      ),
    )

pub returns : goal.returns
returns c =
    let args = c.args in
    let loop = c.loop-k in
    let e : loop.k ≡ count_of args.jobs.now = omega (arith, loop.invariant.0, loop.invariant.1.0, c.loop-k-test.false) in
    subst (λ (n : ℕ). Reached args.jobs.now args.value.now n args.step loop.reach.at) e loop.invariant.1.1
