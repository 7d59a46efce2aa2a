-- `candidates::start_or_none` meets its contract.
use mathlib.Core.Path.{sym, ◌∙◌}
use native.Mathlib.Omega.{arith}
use Rattle.candidates.proofs.Starting.{placed-none}
use Rattle.candidates.proofs.start_or_none.Goals as goal

pub has-requires : goal.has-requires
has-requires c = omega (arith, c.requires.1, c.requires.0.fit.few)

pub next_start-requires : goal.next_start-requires
next_start-requires c =
    let pre = c.requires in
    (pre.0, (pre.1, (sym c.has.ensures ∙ c.if-has.true)))

pub returns : goal.returns
returns c =
    let pre = c.requires in
    placed-none pre.0 pre.1 ((sym c.has.ensures ∙ c.if-has.false))
