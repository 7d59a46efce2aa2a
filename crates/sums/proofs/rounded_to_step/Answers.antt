-- `sums::rounded_to_step` meets its contract.
use native.Mathlib.Omega.{arith}
use native.Mathlib.Nat.{pos_of_ne-zero, div-mul-le_self}
use Rattle.sums.proofs.Rounding.{by-steps}
use Rattle.sums.proofs.rounded_to_step.Goals as goal

pub step_of-step-requires : goal.step_of-step-requires
step_of-step-requires c = c.requires.few

pub returns-then-step-eq0 : goal.returns-then-step-eq0
returns-then-step-eq0 c = record { below = omega arith; none_between = λ o d l. l }

pub overflow_mul-result : goal.overflow_mul-result
overflow_mul-result c = record { fits = omega (arith, div-mul-le_self c.args.target c.step_of-step.result, c.ranges) }

pub returns : goal.returns
returns c =
    let a = c.args in
    by-steps a.jobs.now c.requires a.target c.step_of-step.result (pos_of_ne-zero c.if-step-eq0.false) c.step_of-step.ensures
