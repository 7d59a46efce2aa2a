-- `fitting::valuing::worth_of` meets its contract.
use native.Mathlib.Omega.{arith}
use native.Mathlib.Nat.{mul-le-mul}
use mathlib.Core.Path.{◌≡◌, ap, ◌∙◌}
use Prim.Native.Nat.{ℕ, ◌*◌, ◌≤◌}
use lib.ListN.{get_or}
use Rattle.counting.specs.Counting.{sum}
use Rattle.counting.proofs.Loops.{sum_more}
use Rattle.figures.specs.Figures.{most_modules}
use Rattle.tables.specs.Tables.{need_at, count_of}
use borrow.Author.Rules.{rules}
use Rattle.fitting.proofs.valuing.worth_of.Goals as goal

pub loop-k-init : goal.loop-k-init
unfolding sum
loop-k-init c = ((c.count-count.ensures, search rules), (search rules, search rules))

pub need-requires : goal.need-requires
need-requires c = omega (arith, c.requires.0.few, c.loop-k.invariant.0, c.loop-k-test.true)

pub bounds-value-k : goal.bounds-value-k
bounds-value-k c =
    omega (arith, c.requires.0.few, c.loop-k.invariant.0, c.loop-k-test.true)

pub overflow_add-total : goal.overflow_add-total
overflow_add-total c =
    let pre = c.requires in
    let inv = c.loop-k.invariant in
    let k = c.loop-k.k in
    let low : c.need.result ≤ most_modules = omega (arith, pre.0.most, pre.0.narrow k (omega (arith, inv.0, c.loop-k-test.true)), c.need.ensures) in
    let small = mul-le-mul low (pre.1 k) in
    record { fits = omega (arith, c.times-total.ensures, small, inv.1.1, inv.0, pre.0.few) }

pub loop-k-preserved : goal.loop-k-preserved
loop-k-preserved c =
    let pre = c.requires in
    let inv = c.loop-k.invariant in
    let k = c.loop-k.k in
    let args = c.args in
    let low : c.need.result ≤ most_modules = omega (arith, pre.0.most, pre.0.narrow k (omega (arith, inv.0, c.loop-k-test.true)), c.need.ensures) in
    let small = mul-le-mul low (pre.1 k) in
    let is = c.times-total.ensures ∙ ap (λ (n : ℕ). n * get_or args.value.now k 0) c.need.ensures in (
      (inv.0.0, search rules),
      (rw is (sum_more (λ i. need_at args.jobs.now i * get_or args.value.now i 0) k c.loop-k.total inv.1.0), omega (arith, c.times-total.ensures, small, inv.1.1)),
    )

pub returns : goal.returns
returns c =
    let loop = c.loop-k in
    let e : loop.k ≡ count_of c.args.jobs.now = omega (arith, loop.invariant.0, c.loop-k-test.false) in
    rw e at loop.invariant.1.0
