-- `bounds::too_few` meets its contract.
use mathlib.Core.Logic.{inl, inr}
use Rattle.bounds.proofs.too_few.Goals as goal

pub overlapping-requires : goal.overlapping-requires
overlapping-requires c = (c.requires.0.0, c.ended_by-ended.ensures.profile)

pub returns-then-overlapping : goal.returns-then-overlapping
returns-then-overlapping c = λ _. inl (c.overlapping.ensures c.if-overlapping.true)

pub outweighed-requires : goal.outweighed-requires
outweighed-requires c =
    let pre = c.requires in
    ((pre.0.0, pre.0.1.0), c.ended_by-ended.ensures.profile)

pub returns-then-outweighed : goal.returns-then-outweighed
returns-then-outweighed c = λ _. inr (inl (c.outweighed.ensures c.if-outweighed.true))

pub overfull-requires : goal.overfull-requires
overfull-requires c =
    let pre = c.requires in
    ((pre.0.0, pre.0.1.1), c.ended_by-ended.ensures.profile)

pub returns-then-overfull : goal.returns-then-overfull
returns-then-overfull c = λ _. inr (inr (inl (c.overfull.ensures c.if-overfull.true)))

pub unserved-requires : goal.unserved-requires
unserved-requires c =
    let fit = c.requires.0.0 in
    let ended = c.ended_by-ended.ensures in
    (fit, record { profile = ended.profile; live = ended.live })

pub returns : goal.returns
returns c = λ e. inr (inr (inr (c.unserved.ensures e)))
