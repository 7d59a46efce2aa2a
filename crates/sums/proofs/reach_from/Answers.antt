-- `sums::reach_from` meets its contract.
use Prim.Native.Nat.{◌-◌}
use native.Mathlib.Omega.{arith}
use Rattle.choices.proofs.Longest.{longest-le}
use Rattle.sums.proofs.reach_from.Goals as goal

pub returns-then-close-t : goal.returns-then-close-t
returns-then-close-t c =
    let a = c.args in
    omega (arith, longest-le a.at.now a.count (a.close - a.t), c.if-close-t.true)
