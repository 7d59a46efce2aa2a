-- `values::serving::serve` meets its contract.
use native.Mathlib.Omega.{arith}
use Rattle.values.proofs.Laws.{reached-none, reached_more}
use borrow.Author.Rules.{rules}
use Rattle.values.proofs.serving.serve.Goals as goal

pub loop-k-init : goal.loop-k-init
loop-k-init c = (c.count-count.ensures, (search rules, reached-none _ _ _))

pub kept-requires : goal.kept-requires
kept-requires c = omega (arith, c.requires.0.0.few, c.loop-k.invariant.0, c.loop-k-test.true)

pub steps-width-requires : goal.steps-width-requires
steps-width-requires c = c.requires.0.1

pub bounds-value-k : goal.bounds-value-k
bounds-value-k c =
    let loop-test = c.loop-k-test in
    let loop = c.loop-k in
    let past = c in
    omega (arith, past.requires.0.0.few, loop.invariant.0, loop-test.true)

pub overflow_shl-k : goal.overflow_shl-k
overflow_shl-k c =
    let loop-test = c.loop-k-test in
    let loop = c.loop-k in
    let past = c in
    omega (arith, past.requires.0.0.few, loop.invariant.0, loop-test.true)

pub with_set-sets-requires : goal.with_set-sets-requires
with_set-sets-requires c =
    let loop-test = c.loop-k-test in
    let loop = c.loop-k in
    let past = c in
    let inv = loop.invariant in (
      λ p. omega (arith, inv.1.1.table.small p, past.requires.0.0.few, inv.0, loop-test.true),
      past.requires.1.0.small loop.k,
    )

pub bounds-value-k-in-loop-k : goal.bounds-value-k-in-loop-k
bounds-value-k-in-loop-k c =
    let past = c in
    omega (
      arith,
      past.requires.0.0.few,
      past.loop-k.invariant.0,
      past.loop-k-test.true,
    )

pub with_value-reach-requires : goal.with_value-reach-requires
with_value-reach-requires c =
    let past = c in
    let inv = past.loop-k.invariant in
    let reached = inv.1.1 in (
      reached.size,
      (
        λ p. omega (
          arith,
          reached.table.small p,
          past.requires.0.0.few,
          inv.0,
          past.loop-k-test.true,
        ),
        past.requires.1.0.small
            past.loop-k.k,
      ),
    )

pub loop-k-preserved : goal.loop-k-preserved
loop-k-preserved c =
    let past = c in
    let inv = past.loop-k.invariant in
    let put = rw (past.steps-width.ensures, past.kept.ensures) at c.with_value-reach.ensures in (
      inv.0,
      (
        search rules,
        reached_more past.requires.0.1
            past.requires.1.0 inv.1.1 put,
      ),
    )
