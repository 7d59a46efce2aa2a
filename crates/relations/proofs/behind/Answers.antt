-- `relations::behind` meets its contract.
use mathlib.Core.Path.{◌≡◌, sym, ◌∙◌}
use mathlib.Core.Bool.{true, false}
use Rattle.bits.specs.Bits.{bit}
use Rattle.relations.proofs.behind.Goals as goal

pub returns-then-has : goal.returns-then-has
returns-then-has c =
    let args = c.args in
    let has = c.has in
    let e : bit args.set args.j ≡ true = sym has.ensures ∙ c.if-has.true in rw e

pub returns : goal.returns
returns c =
    let args = c.args in
    let has = c.has in
    let e : bit args.set args.j ≡ false = sym has.ensures ∙ c.if-has.false in rw e
