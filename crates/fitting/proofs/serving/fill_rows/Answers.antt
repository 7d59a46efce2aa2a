-- `fitting::serving::fill_rows` meets its contract.
use native.Mathlib.Omega.{arith}
use native.Mathlib.Nat.{mul-add}
use mathlib.Core.Path.{◌≡◌, ap, ◌∙◌, subst}
use Prim.Native.Nat.{ℕ, ◌*◌}
use lib.ListN.{get_or}
use Rattle.fitting.specs.Fitting.{row_at, RowOf}
use Rattle.fitting.proofs.Tables.{row-none, row_more, room_more}
use borrow.Author.Rules.{rules}
use Rattle.fitting.proofs.serving.fill_rows.Goals as goal

pub clear_cells-requires : goal.clear_cells-requires
clear_cells-requires c =
    let pre = c.requires in
    (omega (arith, mul-add c.args.frame.cols c.args.count 1, pre.0.1.1), pre.0.0.1)

pub loop-i-init : goal.loop-i-init
loop-i-init c =
    let pre = c.requires in
    let put = c.clear_cells.ensures in
    ((search rules, (search rules, put.size ∙ pre.0.0.1)), row-none pre.0.1.0 (λ x l. put.each x l))

pub offset_bounds-order-i : goal.offset_bounds-order-i
offset_bounds-order-i c =
    record { fits = omega (arith, c.requires.1.0.few, c.loop-i.invariant.0, c.loop-i-test.true) }

pub bounds-order-i : goal.bounds-order-i
bounds-order-i c =
    omega (arith, c.requires.1.0.few, c.loop-i.invariant.0, c.loop-i-test.true)

pub kept-requires : goal.kept-requires
kept-requires c =
    omega (arith, c.requires.0.0.0.few, c.requires.1.0.each c.loop-i.i c.loop-i-test.true)

pub offset_bounds-release-j : goal.offset_bounds-release-j
offset_bounds-release-j c =
    record { fits = omega (arith, c.requires.0.0.0.few, c.requires.1.0.each c.loop-i.i c.loop-i-test.true) }

pub bounds-release-j : goal.bounds-release-j
bounds-release-j c =
    omega (arith, c.requires.0.0.0.few, c.requires.1.0.each c.loop-i.i c.loop-i-test.true)

pub offset_bounds-value-j : goal.offset_bounds-value-j
offset_bounds-value-j c =
    record { fits = omega (arith, c.requires.0.0.0.few, c.requires.1.0.each c.loop-i.i c.loop-i-test.true) }

pub bounds-value-j : goal.bounds-value-j
bounds-value-j c =
    omega (arith, c.requires.0.0.0.few, c.requires.1.0.each c.loop-i.i c.loop-i-test.true)

pub add_job-requires : goal.add_job-requires
add_job-requires c =
    let past = c in
    let pre = past.requires in
    let args = past.args in
    let inv = c.loop-i.invariant in
    let i = c.loop-i.i in
    let j = get_or args.order.now i 0 in
    let taken = c.loop-i-test.true in
    let room = room_more args.frame.cols i args.count taken pre.0.1.1 in (
      (pre.0.1.0, (pre.1.1.0 j (pre.1.0.each i taken), omega (arith, inv.0.1.0, room))),
      (inv.0.1.1, (pre.1.1.1.small j, λ x l. omega (arith, inv.1.small x l, pre.1.0.few, taken))),
    )

pub overflow_add-from : goal.overflow_add-from
overflow_add-from c =
    let past = c in
    record { fits = omega (arith, c.loop-i.invariant.0.1.0, room_more past.args.frame.cols c.loop-i.i past.args.count c.loop-i-test.true past.requires.0.1.1) }

pub loop-i-preserved : goal.loop-i-preserved
loop-i-preserved c =
    let past = c in
    let pre = past.requires in
    let args = past.args in
    let inv = c.loop-i.invariant in
    let i = c.loop-i.i in
    let j = get_or args.order.now i 0 in
    let taken = c.loop-i-test.true in
    let put = rw c.kept.ensures at c.add_job.ensures in (
      (search rules, (omega (arith, inv.0.1.0, mul-add args.frame.cols i 1), put.size ∙ inv.0.1.1)),
      row_more pre.0.1.0 inv.1 (pre.1.0.each i taken) (λ k l. pre.1.0.falls k i (omega arith) taken) (pre.1.1.1.small j)
          (pre.1.1.1.short j) (λ x l. put.each x l),
    )

pub returns : goal.returns
returns c =
    let loop = c.loop-i in
    let args = c.args in
    let e : loop.i ≡ args.count = omega (arith, loop.invariant.0.0, c.loop-i-test.false) in
    let room = c.requires.0.1.1 in
    record {
      rows = (
        omega (arith, loop.invariant.0.1.0, ap (λ (n : ℕ). args.frame.cols * n) e, mul-add args.frame.cols args.count 1, room),
        subst (λ (n : ℕ). RowOf args.jobs.now args.frame (λ k. get_or args.release.now k 0) (λ k. get_or args.value.now k 0)
            args.order.now n (row_at loop.slate loop.from)) e loop.invariant.1,
      );
      size = omega (arith, loop.invariant.0.1.1, c.requires.0.0.1);
    }
