-- `values::weighing::heavier` meets its contract.
use mathlib.Core.Path.{refl}
use mathlib.Core.Logic.{inl, inr}
use Rattle.values.proofs.weighing.heavier.Goals as goal

pub returns-then-worth-worth_other : goal.returns-then-worth-worth_other
returns-then-worth-worth_other c = inr (refl, refl)

pub returns : goal.returns
returns c = inl (refl, refl)
