-- `fitting::valuing::value_of` meets its contract.
use native.Mathlib.Omega.{arith}
use Rattle.counting.proofs.Tests.{clash}
use Rattle.fitting.proofs.valuing.value_of.Goals as goal

pub returns : goal.returns
returns c =
    (omega (arith, c.min.ensures), (λ l. absurd (omega (arith, l, c.if-kept-step.false)), λ e. clash c.args.left (c.if-not-left.false) e))
