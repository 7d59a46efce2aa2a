-- `relations::with_later` meets its contract.
use mathlib.Core.Path.{refl, sym, ◌∙◌}
use Rattle.relations.proofs.with_later.Goals as goal

pub returns-then-has : goal.returns-then-has
returns-then-has c = c.with.ensures ∙ rw (sym c.has.ensures ∙ c.if-has.true) refl

pub returns : goal.returns
returns c = rw (sym c.has.ensures ∙ c.if-has.false) refl
