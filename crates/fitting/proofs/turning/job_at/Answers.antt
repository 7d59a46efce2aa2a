-- `fitting::turning::job_at` meets its contract.
use native.Mathlib.Omega.{arith}
use Rattle.fitting.proofs.turning.job_at.Goals as goal

pub offset_bounds-order-i : goal.offset_bounds-order-i
offset_bounds-order-i c = record { fits = omega (arith, c.requires.0.few, c.requires.1) }

pub bounds-order-i : goal.bounds-order-i
bounds-order-i c = omega (arith, c.requires.0.few, c.requires.1)

pub returns : goal.returns
returns c = c.requires.0.each _ c.requires.1
