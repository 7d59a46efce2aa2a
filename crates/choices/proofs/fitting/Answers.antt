-- `choices::fitting` meets its contract.
use borrow.Author.Tests.{le-leb, lt-leb}
use Rattle.choices.proofs.fitting.Goals as goal

pub returns-then-s-x : goal.returns-then-s-x
returns-then-s-x c =
    let args = c.args in
    rw (le-leb args.s args.x c.if-s-x.true)

pub returns-else-s-x : goal.returns-else-s-x
returns-else-s-x c =
    let args = c.args in
    rw (lt-leb args.s args.x c.if-s-x.false)
