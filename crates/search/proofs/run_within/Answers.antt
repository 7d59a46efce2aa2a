-- `search::run_within` meets its contract.
use mathlib.Core.Path.{ap, ◌∙◌}
use Prim.Native.Nat.{ℕ}
use native.Mathlib.Omega.{arith}
use lib.ListN.{replicate}
use Rattle.search.proofs.Whole.{lowest_of}
use Rattle.search.proofs.run_within.Goals as goal

pub bounded-given_up-requires : goal.bounded-given_up-requires
bounded-given_up-requires c =
    let past = c in
    (past.requires.0, (c.least_order-least.ensures.tabled, c.least_order-least.ensures.lowest.is))

pub shape_of-memory-then-left-eq0 : goal.shape_of-memory-then-left-eq0
shape_of-memory-then-left-eq0 c =
    let past = c in
    c.clear.auto.memory ∙ c.bounded-given_up.auto.memory ∙ past.least_order-least.auto.memory

pub returns-then-left-eq0 : goal.returns-then-left-eq0
returns-then-left-eq0 c =
    let past = c in
    let size = c.bounded-given_up.auto.memory ∙ past.least_order-least.auto.memory in
    record { answer = c.bounded-given_up.ensures; unlimited = λ e. absurd (omega (arith, past.least_order-least.ensures.limit e, past.if-left-eq0.true)); cleared = c.clear.ensures ∙ ap (λ (k : ℕ). replicate k 0) size }

pub settled-answer-requires : goal.settled-answer-requires
settled-answer-requires c =
    let past = c in (
      lowest_of c.least_order-least.ensures.lowest (λ z. omega (arith, c.if-left-eq0.false, z)),
      (past.requires.0, c.least_order-least.ensures.tabled),
    )

pub shape_of-memory : goal.shape_of-memory
shape_of-memory c =
    let past = c in
    c.clear-2.auto.memory ∙ c.settled-answer.auto.memory ∙ past.least_order-least.auto.memory

pub returns : goal.returns
returns c =
    let past = c in
    let size = c.settled-answer.auto.memory ∙ past.least_order-least.auto.memory in
    let settled = c.settled-answer.ensures in
    record { answer = settled.answer; unlimited = λ e. settled.unlimited (past.least_order-least.ensures.limit e); cleared = c.clear-2.ensures ∙ ap (λ (k : ℕ). replicate k 0) size }
