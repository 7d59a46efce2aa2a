-- `branching::block_with` meets its contract.
use mathlib.Core.Path.{refl}
use mathlib.Core.Logic.{inl, inr}
use mathlib.Core.Bool.{false}
use borrow.Author.Tests.{leb-true}
use Rattle.counting.proofs.Tests.{clash}
use Rattle.branching.proofs.block_with.Goals as goal

pub returns-then-waited : goal.returns-then-waited
returns-then-waited c = λ e. clash false e refl

pub returns-then-found : goal.returns-then-found
returns-then-found c = λ e. (c.if-waited.false, inl c.if-found.true)

pub returns-then-not-settled : goal.returns-then-not-settled
returns-then-not-settled c = λ e. clash false e refl

pub returns : goal.returns
returns c = λ e. (c.if-waited.false, inr (c.if-not-settled.false, leb-true _ _ e))
