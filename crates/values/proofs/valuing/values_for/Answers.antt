-- `values::valuing::values_for` meets its contract.
use native.Mathlib.Omega.{arith}
use Rattle.values.proofs.Laws.{valued-none, valued_of}
use borrow.Author.Rules.{rules}
use Rattle.values.proofs.valuing.values_for.Goals as goal

pub first_shares-shares-requires : goal.first_shares-shares-requires
first_shares-shares-requires c = c.requires.0.0.few

pub rounds_for-rounds-requires : goal.rounds_for-rounds-requires
rounds_for-rounds-requires c = omega (arith, c.requires.0.0.few, c.count-count.ensures)

pub loop-round-init : goal.loop-round-init
loop-round-init c = ((c.count-count.ensures, (search rules, c.rounds_for-rounds.ensures)), (search rules, valued-none _ _))

pub values_of-value-requires : goal.values_of-value-requires
values_of-value-requires c = c.requires.0.0.few

pub serve-served-requires : goal.serve-served-requires
serve-served-requires c =
    let past = c in
    (past.requires.0, (c.values_of-value.ensures, past.requires.1))

pub total-worth-requires : goal.total-worth-requires
total-worth-requires c =
    let past = c in
    omega (arith, past.requires.0.0.few, past.loop-round.invariant.0.0)

pub keep-best-requires : goal.keep-best-requires
keep-best-requires c =
    let past = c in
    (past.loop-round.invariant.1.0, c.total-worth.ensures)

pub shares_after-shares-requires : goal.shares_after-shares-requires
shares_after-shares-requires c =
    let past = c in
    omega (arith, past.loop-round.invariant.0.1, past.loop-round-test.true)

pub round_after-round-requires : goal.round_after-round-requires
round_after-round-requires c =
    let past = c in (
      past.loop-round-test.true,
      past.loop-round.invariant.0.1.1,
    )

pub loop-round-smaller : goal.loop-round-smaller
loop-round-smaller c = omega (arith, c.round_after-round.ensures.0, c.round_after-round.ensures.1)

pub loop-round-preserved : goal.loop-round-preserved
loop-round-preserved c =
    let keep = c.keep-best in
    let past = c in
    let inv = past.loop-round.invariant in (
      (inv.0.0, (c.round_after-round.ensures.1, inv.0.1.1)),
      (keep.ensures.0, valued_of keep.ensures.1 inv.1.1 past.values_of-value.ensures),
    )

pub returns : goal.returns
returns c = c.loop-round.invariant.1.1
