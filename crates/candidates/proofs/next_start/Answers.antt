-- `candidates::next_start` meets its contract.
use mathlib.Core.Path.{sym, ◌∙◌}
use native.Mathlib.Omega.{arith}
use Rattle.candidates.proofs.Starting.{start_here, start_none}
use Rattle.candidates.proofs.next_start.Goals as goal

pub may_follow-requires : goal.may_follow-requires
may_follow-requires c = (omega (arith, c.requires.1.0, c.requires.0.fit.few), c.requires.1.1)

pub start_of-requires : goal.start_of-requires
start_of-requires c =
    let pre = c.requires in
    let known = pre.0 in
    let few = known.fit.few in
    (known.is.figures.profile, (known.fit.narrow _ pre.1.0, (few, omega (arith, pre.1.0))))

pub returns-then-may_follow : goal.returns-then-may_follow
returns-then-may_follow c =
    let pre = c.requires in
    start_here pre.0 pre.1.0 (sym c.may_follow.ensures ∙ c.if-may_follow.true) c.start_of.ensures

pub returns : goal.returns
returns c =
    let pre = c.requires in
    start_none pre.0 pre.1.0 (sym c.may_follow.ensures ∙ c.if-may_follow.false)
