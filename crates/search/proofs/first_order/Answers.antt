-- `search::first_order` meets its contract.
use mathlib.Core.Path.{refl, ◌∙◌}
use native.Mathlib.Omega.{arith}
use Rattle.search.proofs.Placings.{stands_first, stands_below, settled_next, stands_next, stands_all}
use Rattle.search.proofs.first_order.Goals as goal

pub first_part-part-requires : goal.first_part-part-requires
first_part-part-requires c = c.requires.1.0

pub loop-k-init : goal.loop-k-init
loop-k-init c =
    let p = c.requires in
    (c.count-count.ensures, (stands_first p.1.0 p.1.1.0 c.first_part-part.ensures p.0 p.1.1.1, (refl, λ e. e)))

pub settle_place-best-requires : goal.settle_place-best-requires
settle_place-best-requires c =
    let loop = c.loop-k in
    let h = loop.invariant.1.0 in
    (h.going, (h.placing, stands_below h (omega (arith, loop.invariant.0, c.loop-k-test.true))))

pub shape_of-memory-then-left-eq0 : goal.shape_of-memory-then-left-eq0
shape_of-memory-then-left-eq0 c =
    let past = c in
    c.settle_place-best.auto.memory ∙ past.loop-k.invariant.1.1.0

pub returns-then-left-eq0 : goal.returns-then-left-eq0
returns-then-left-eq0 c =
    let past = c in
    let settle = c.settle_place-best.ensures in
    record { lowest = settle.lowest; tied = λ s. absurd (s (omega (arith, c.if-left-eq0.true))); limit = λ e. settle.limit (past.loop-k.invariant.1.1.1 e) }

pub bounds-best-k : goal.bounds-best-k
bounds-best-k c =
    let past = c in
    let loop = past.loop-k in
    omega (arith, loop.invariant.0, past.loop-k-test.true, loop.invariant.1.0.going.known.fit.few)

pub go_on-requires : goal.go_on-requires
go_on-requires c =
    let past = c in
    let loop = past.loop-k in
    let h = loop.invariant.1.0 in
    (h.going.known, rw c.from.ensures (settled_next h (omega (arith, loop.invariant.0, past.loop-k-test.true)) (c.settle_place-best.ensures.placed (λ e. omega (arith, c.if-left-eq0.false, e)))))

pub loop-k-preserved : goal.loop-k-preserved
loop-k-preserved c =
    let past = c in
    let loop = past.loop-k in
    let settle = c.settle_place-best in
    let go = c.go_on.ensures in
    let next = stands_next loop.invariant.1.0 (omega (arith, loop.invariant.0, past.loop-k-test.true)) _ (settle.ensures.placed (λ e. omega (arith, c.if-left-eq0.false, e))) settle.ensures.remembered c.from.ensures in
    (loop.invariant.0, (next go.0 go.1.0 go.1.1, (settle.auto.memory ∙ loop.invariant.1.1.0, λ e. settle.ensures.limit (loop.invariant.1.1.1 e))))

pub shape_of-memory : goal.shape_of-memory
shape_of-memory c = c.loop-k.invariant.1.1.0

pub returns : goal.returns
returns c =
    let inv = c.loop-k.invariant in
    record { lowest = inv.1.0.placing.lowest; tied = λ s. stands_all inv.1.0 (omega (arith, inv.0, c.loop-k-test.false)); limit = inv.1.1.1 }
