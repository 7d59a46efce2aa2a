-- `fitting::frame_of` meets its contract.
use native.Mathlib.Omega.{arith}
use native.Mathlib.Nat.{le_trans, mul-le-mul_right, div-mul-le_self, div-le_self}
use mathlib.Core.Path.{refl}
use Prim.Native.Nat.{◌+◌, ◌-◌, ◌/◌, ◌≤◌}
use Rattle.fitting.specs.Fitting.{cells}
use Rattle.fitting.proofs.Answers.{many_columns, few-steps, short-step}
use Rattle.fitting.proofs.frame_of.Goals as goal

pub overflow_sub-most : goal.overflow_sub-most
overflow_sub-most c = omega (arith, many_columns c.args.count c.requires.0)

pub overflow_cast-most : goal.overflow_cast-most
overflow_cast-most c = record { fits = omega (arith, div-le_self cells (c.args.count + 1)) }

pub overflow_cast-step : goal.overflow_cast-step
overflow_cast-step c = record { fits = omega (arith, c.min.ensures, div-le_self cells (c.args.count + 1)) }

pub overflow_add-step : goal.overflow_add-step
overflow_add-step c =
    let a = c.args in
    let columns = many_columns a.count c.requires.0 in
    let short = short-step (a.close - a.least) (c.min.result + 1) (omega arith) (λ l. omega (arith, columns, c.min.ensures)) in
    record { fits = omega (arith, short, c.ranges.close) }

pub returns : goal.returns
returns c =
    let a = c.args in
    let columns = many_columns a.count c.requires.0 in
    let few : c.min.result + 1 ≤ cells / (a.count + 1) = omega (arith, columns, c.min.ensures) in (
      (
        record {
          some = omega arith;
          inside = few-steps (a.close - a.least) (c.min.result + 1) (omega arith);
          before = c.requires.1;
        },
        le_trans (mul-le-mul_right (a.count + 1) few) (div-mul-le_self cells (a.count + 1)),
      ),
      (refl, refl),
    )
