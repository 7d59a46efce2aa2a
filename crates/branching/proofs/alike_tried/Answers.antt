-- `branching::alike_tried` meets its contract.
use borrow.Author.Tests.{eqb-false, not-true}
use Rattle.bits.proofs.Walks.{common_member}
use Rattle.branching.proofs.alike_tried.Goals as goal

pub returns : goal.returns
returns c = λ e.
    let start = c in
    let found = common_member 32 start.args.tried _ start.ranges.tried.fits (eqb-false _ 0 (not-true _ e)) in
    found
