-- `branching::starts_behind` meets its contract.
use mathlib.Core.Path.{refl, sym, ◌∙◌}
use mathlib.Core.Bool.{false}
use Rattle.counting.proofs.Tests.{clash}
use Rattle.branching.proofs.starts_behind.Goals as goal

pub returns-then-end-rest : goal.returns-then-end-rest
returns-then-end-rest c = λ e. clash false e refl

pub returns-then-has : goal.returns-then-has
returns-then-has c = λ e. clash false e refl

pub returns : goal.returns
returns c = λ e.
    let placed = sym c.has.ensures ∙ c.if-has.false in
    (c.if-end-rest.false, (placed, sym c.has-2.ensures ∙ e))
