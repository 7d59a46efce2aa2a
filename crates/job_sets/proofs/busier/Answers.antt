-- `job_sets::busier` meets its contract.
use mathlib.Core.Path.{refl}
use mathlib.Core.Logic.{inl, inr}
use Rattle.job_sets.proofs.busier.Goals as goal

pub returns-then-a-b : goal.returns-then-a-b
returns-then-a-b c = inr refl

pub returns : goal.returns
returns c = inl refl
