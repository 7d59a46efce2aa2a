-- `branching::settled_now` meets its contract.
use mathlib.Core.Path.{refl}
use borrow.Author.Tests.{eq-eqb, ne_eqb}
use Rattle.branching.proofs.settled_now.Goals as goal

pub returns-then-start-last : goal.returns-then-start-last
returns-then-start-last c = rw (ne_eqb _ _ c.if-start-last.true) refl

pub returns : goal.returns
returns c = rw (eq-eqb _ _ c.if-start-last.false) refl
