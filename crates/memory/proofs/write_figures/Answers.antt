-- `memory::write_figures` meets its contract.
use mathlib.Core.Path.{refl}
use borrow.Author.Rules.{rules}
use Rattle.memory.proofs.Storing.{storing_first, storing-step, storing_all}
use Rattle.memory.proofs.write_figures.Goals as goal

pub loop-i-init : goal.loop-i-init
loop-i-init c =
    let wrote = c in
    let start = wrote in
    storing_first start.args.figures.now start.requires.1 start.requires.0 refl wrote.write.ensures (search rules)

pub loop-i-preserved : goal.loop-i-preserved
loop-i-preserved c =
    let wrote = c in
    let tested = wrote in
    storing-step tested.loop-i.invariant tested.loop-i-test.true refl wrote.write-in-loop-i.ensures (search rules)

pub returns : goal.returns
returns c = storing_all c.loop-i.invariant c.loop-i-test.false
