-- `branching::passed_over` meets its contract.
use mathlib.Core.Path.{sym, ◌∙◌}
use mathlib.Core.Logic.{inl, inr}
use Rattle.branching.proofs.passed_over.Goals as goal

pub returns-then-alike_tried : goal.returns-then-alike_tried
returns-then-alike_tried c = λ e. inl (c.alike_tried.ensures c.if-alike_tried.true)

pub returns-then-has : goal.returns-then-has
returns-then-has c = λ e.
    inr (inl (c.if-start-part.true, sym c.has.ensures ∙ c.if-has.true))

pub swapped-requires : goal.swapped-requires
swapped-requires c =
    let pre = c.requires in
    (pre.few, pre.job)

pub returns-then-swapped : goal.returns-then-swapped
returns-then-swapped c = λ e.
    inr (inr (inl (c.swapped.ensures c.if-swapped.true)))

pub returns : goal.returns
returns c = λ e. inr (inr (inr (c.blocked.ensures e)))
