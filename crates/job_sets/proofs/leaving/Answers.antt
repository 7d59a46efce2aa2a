-- `job_sets::leaving` meets its contract.
use native.Mathlib.Omega.{arith}
use lib.Bits.{and_le_l}
use Rattle.job_sets.proofs.Remaining.{leaves}
use Rattle.job_sets.proofs.leaving.Goals as goal

pub overflow_sub-result : goal.overflow_sub-result
overflow_sub-result c = omega (arith, and_le_l c.without-rest.result c.args.others)

pub returns : goal.returns
returns c =
    let a = c.args in
    rw c.without-rest.ensures (leaves a.left a.j a.others)
