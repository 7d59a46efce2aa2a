-- `weights::weight_of` meets its contract.
use native.Mathlib.Omega.{arith}
use mathlib.Core.Path.{◌≡◌}
use mathlib.Core.Bool.{true, false}
use Prim.Native.Nat.{◌+◌, ◌*◌, ◌%◌}
use lib.Dec.{eqb}
use borrow.Author.Tests.{eq-eqb, ne_eqb}
use Rattle.weights.specs.Weights.{weight_in}
use Rattle.weights.proofs.Knapsack.{job_figures_lem}
use Rattle.weights.proofs.weight_of.Goals as goal

pub need-requires : goal.need-requires
need-requires c = omega (arith, c.requires.0.few, c.requires.1.0)

pub overflow_mul-a : goal.overflow_mul-a
overflow_mul-a c =
    let pre = c.requires in
    let args = c.args in
    let f = job_figures_lem pre.0 args.q pre.1.1 args.k pre.1.0 c.modules-m.ensures c.need.ensures in
    record { fits = omega (arith, f.product) }

pub overflow_mul-result : goal.overflow_mul-result
overflow_mul-result c =
    let need = c.need in
    let modules = c.modules-m in
    let pre = c.requires in
    let args = c.args in
    let f = job_figures_lem pre.0 args.q pre.1.1 args.k pre.1.0 modules.ensures need.ensures in
    record { fits = omega (arith, f.less) }

pub overflow_cast-result : goal.overflow_cast-result
overflow_cast-result c =
    let need = c.need in
    let modules = c.modules-m in
    let pre = c.requires in
    let args = c.args in
    let f = job_figures_lem pre.0 args.q pre.1.1 args.k pre.1.0 modules.ensures need.ensures in
    record { fits = omega (arith, f.less) }

pub returns-then-a-m-eq0 : goal.returns-then-a-m-eq0
unfolding weight_in
returns-then-a-m-eq0 c =
    let need = c.need in
    let modules = c.modules-m in
    let args = c.args in
    let e : eqb ((args.q + 2) * need.result % modules.result) 0 ≡ true = eq-eqb _ 0 c.if-a-m-eq0.true in
    rw (← modules.ensures, ← need.ensures, e)

pub overflow_mul-result-2 : goal.overflow_mul-result-2
overflow_mul-result-2 c =
    let need = c.need in
    let modules = c.modules-m in
    let pre = c.requires in
    let args = c.args in
    let f = job_figures_lem pre.0 args.q pre.1.1 args.k pre.1.0 modules.ensures need.ensures in
    record { fits = omega (arith, f.more) }

pub overflow_cast-result-2 : goal.overflow_cast-result-2
overflow_cast-result-2 c =
    let need = c.need in
    let modules = c.modules-m in
    let pre = c.requires in
    let args = c.args in
    let f = job_figures_lem pre.0 args.q pre.1.1 args.k pre.1.0 modules.ensures need.ensures in
    record { fits = omega (arith, f.more) }

pub returns : goal.returns
unfolding weight_in
returns c =
    let need = c.need in
    let modules = c.modules-m in
    let args = c.args in
    let e : eqb ((args.q + 2) * need.result % modules.result) 0 ≡ false = ne_eqb _ 0 c.if-a-m-eq0.false in
    rw (← modules.ensures, ← need.ensures, e)
