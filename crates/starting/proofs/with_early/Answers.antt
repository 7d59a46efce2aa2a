-- `starting::with_early` meets its contract.
use mathlib.Core.Path.{refl, ◌∙◌}
use borrow.Author.Tests.{lt-ltb, le-ltb}
use Rattle.starting.proofs.with_early.Goals as goal

pub returns-then-start-end : goal.returns-then-start-end
returns-then-start-end c = c.with.ensures ∙ rw (lt-ltb _ _ c.if-start-end.true) refl

pub returns : goal.returns
returns c = rw (le-ltb _ _ c.if-start-end.false) refl
