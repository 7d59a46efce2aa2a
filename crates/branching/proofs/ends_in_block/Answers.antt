-- `branching::ends_in_block` meets its contract.
use mathlib.Core.Path.{◌≡◌, refl, sym, ◌∙◌, subst}
use mathlib.Core.Logic.{inl, inr, ⊎_elim}
use mathlib.Core.Bool.{false}
use Prim.Native.Nat.{ℕ, zero-le}
use native.Mathlib.Omega.{arith}
use borrow.Author.Tests.{leb-true}
use Rattle.counting.proofs.Tests.{clash}
use Rattle.branching.proofs.Blocks.{placed-job, Growing, growing-none, growing-step, growing_all}
use Rattle.branching.proofs.ends_in_block.Goals as goal

pub loop-m-init : goal.loop-m-init
loop-m-init c = (refl, (zero-le, growing-none _ _ _ _ _))

pub has-waited-requires : goal.has-waited-requires
has-waited-requires c =
    let tested = c in
    let low = placed-job tested.requires tested.loop-m.invariant.0 tested.loop-m-test.true refl in
    omega arith

pub offset_bounds-settled-a : goal.offset_bounds-settled-a
offset_bounds-settled-a c =
    let tested = c in
    let low = placed-job tested.requires tested.loop-m.invariant.0 tested.loop-m-test.true refl in
    record { fits = omega arith }

pub bounds-settled-a : goal.bounds-settled-a
bounds-settled-a c =
    let tested = c in
    placed-job tested.requires tested.loop-m.invariant.0 tested.loop-m-test.true refl

pub has-j_settled-requires : goal.has-j_settled-requires
has-j_settled-requires c = omega (arith, c.requires.job)

pub minutes-requires : goal.minutes-requires
minutes-requires c =
    let tested = c in
    placed-job tested.requires tested.loop-m.invariant.0 tested.loop-m-test.true refl

pub overflow_add-end : goal.overflow_add-end
overflow_add-end c =
    let tested = c in
    let loop = tested.loop-m in
    let short = tested.requires.short loop.m (omega (arith, loop.invariant.0, tested.loop-m-test.true)) in
    omega (arith, tested.changeover-rest.ensures)

pub loop-m-preserved : goal.loop-m-preserved
loop-m-preserved c =
    let tested = c in
    let a = tested.args in
    let loop = tested.loop-m in
    let waited = c.has-waited in
    let settled = c.has-j_settled in
    let more = c.block_with-found in (
      loop.invariant.0,
      (
        omega (arith, tested.loop-m-test.true),
        rw c.max-latest.ensures
            (growing-step a.jobs.now a.part.now a.settled.now a.behind a.j loop.found loop.latest loop.m
            _ _ tested.changeover-rest.result more.result refl refl tested.changeover-rest.ensures loop.invariant.1.1 (λ e.
            let s = more.ensures e in (
              sym waited.ensures ∙ s.0,
              ⊎_elim inl (λ q. inr (sym settled.ensures ∙ q.0, rw c.minutes.ensures at q.1)) s.1,
            ))),
      ),
    )

pub returns-then-not-found : goal.returns-then-not-found
returns-then-not-found c = λ e. clash false e refl

pub returns : goal.returns
returns c = λ e.
    let a = c.args in
    let p = a.part.now in
    let loop = c.loop-m in
    let same : loop.m ≡ p.placed = omega (arith, loop.invariant.0, loop.invariant.1.0, c.loop-m-test.false) in
    let grown = subst (λ (m : ℕ). Growing a.jobs.now p a.settled.now a.behind a.j loop.found loop.latest m) same
    loop.invariant.1.1 in
    growing_all a.jobs.now p a.settled.now a.behind a.j loop.found loop.latest a.start grown
    (c.if-not-found.false) (leb-true _ _ e)
