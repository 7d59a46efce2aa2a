-- `runner::step_kept` meets its contract.
use mathlib.Core.Path.{◌≡◌, sym}
use Prim.Native.Nat.{◌≤◌}
use native.Mathlib.Omega.{arith}
use lib.ListN.{length}
use lib.Seq.{length-take-le}
use Rattle.runner.specs.Runner.{longest_card}
use Rattle.runner.proofs.Steps.{card-inside, sized, powers, past, refused, made}
use borrow.Author.Rules.{rules}
use Rattle.runner.proofs.step_kept.Goals as goal

pub slice_bounds-card-end : goal.slice_bounds-card-end
slice_bounds-card-end c =
    let inside : c.args.runner.card_len ≤ length c.args.runner.card =
    let places : length c.args.runner.card ≡ longest_card = search rules in
    omega (arith, card-inside c.args.desk c.args.runner c.args.jobs.now c.requires) in
    inside

pub slice_bounds-last_minute-end : goal.slice_bounds-last_minute-end
slice_bounds-last_minute-end c =
    let inside : c.args.runner.card_len ≤ length c.args.runner.card =
    let places : length c.args.runner.card ≡ longest_card = search rules in
    omega (arith, card-inside c.args.desk c.args.runner c.args.jobs.now c.requires) in
    sym (length-take-le _ c.args.runner.card inside)

pub last_minute-last-requires : goal.last_minute-last-requires
last_minute-last-requires c =
    let a = c.args in
    sized a.desk a.runner a.jobs.now c.requires

pub returns-then-last-runner : goal.returns-then-last-runner
returns-then-last-runner c =
    let a = c.args in
    rw c.number.ensures (past a.desk a.runner a.jobs.now c.requires c.last_minute-last.result c.last_minute-last.ensures c.if-last-runner.true)

pub slice_bounds-card-end-2 : goal.slice_bounds-card-end-2
slice_bounds-card-end-2 c =
    let inside : c.args.runner.card_len ≤ length c.args.runner.card =
    let places : length c.args.runner.card ≡ longest_card = search rules in
    omega (arith, card-inside c.args.desk c.args.runner c.args.jobs.now c.requires) in
    inside

pub slice_bounds-book_minute-end : goal.slice_bounds-book_minute-end
slice_bounds-book_minute-end c =
    let inside : c.args.runner.card_len ≤ length c.args.runner.card =
    let places : length c.args.runner.card ≡ longest_card = search rules in
    omega (arith, card-inside c.args.desk c.args.runner c.args.jobs.now c.requires) in
    sym (length-take-le _ c.args.runner.card inside)

pub book_minute-booked-requires : goal.book_minute-booked-requires
book_minute-booked-requires c =
    let a = c.args in
    (sized a.desk a.runner a.jobs.now c.requires, powers a.desk a.runner a.jobs.now c.requires)

pub returns-then-refusal-ne0 : goal.returns-then-refusal-ne0
returns-then-refusal-ne0 c =
    let a = c.args in
    refused a.desk a.runner a.jobs.now c.requires c.last_minute-last.result c.last_minute-last.ensures c.if-last-runner.false
    c.book_minute-booked.result c.book_minute-booked.ensures c.if-refusal-ne0.true

pub returns : goal.returns
returns c =
    let a = c.args in
    made a.desk a.runner a.jobs.now c.requires c.last_minute-last.result c.last_minute-last.ensures c.if-last-runner.false
    c.book_minute-booked.result c.book_minute-booked.ensures c.if-refusal-ne0.false c.next_minute.result c.next_minute.ensures
