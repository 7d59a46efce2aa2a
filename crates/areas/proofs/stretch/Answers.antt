-- `areas::stretch` meets its contract.
use mathlib.Core.Path.{◌≡◌}
use Prim.Native.Nat.{◌-◌}
use native.Mathlib.Omega.{arith}
use Rattle.areas.proofs.stretch.Goals as goal

pub returns-then-until-l : goal.returns-then-until-l
returns-then-until-l c =
    let args = c.args in
    let z : args.until - args.l ≡ 0 = omega (arith, c.if-until-l.true) in
    rw z (omega arith)
