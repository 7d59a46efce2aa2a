-- `areas::late_minutes` meets its contract.
use native.Mathlib.Omega.{arith}
use Rattle.areas.proofs.late_minutes.Goals as goal

pub returns-then-a-first : goal.returns-then-a-first
returns-then-a-first c = omega (arith, c.if-a-first.true)

pub returns-then-kept-before : goal.returns-then-kept-before
returns-then-kept-before c = omega (arith, c.if-kept-before.true, c.if-a-first.false)

pub returns : goal.returns
returns c = omega (arith, c.if-kept-before.false, c.if-a-first.false)
