-- `pairs::joined` meets its contract.
use mathlib.Core.Path.{refl, ◌∙◌}
use Rattle.pairs.proofs.joined.Goals as goal

pub returns-then-passed : goal.returns-then-passed
returns-then-passed c = c.with.ensures ∙ rw c.if-passed.true refl
