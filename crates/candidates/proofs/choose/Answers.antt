-- `candidates::choose` meets its contract.
use mathlib.Core.Path.{refl}
use mathlib.Core.Logic.{inl, inr}
use native.Mathlib.Omega.{arith}
use Rattle.candidates.proofs.choose.Goals as goal

pub returns-then-rank-c : goal.returns-then-rank-c
returns-then-rank-c c = inr (refl, (refl, omega arith))

pub returns : goal.returns
returns c = inl (refl, (refl, omega arith))
