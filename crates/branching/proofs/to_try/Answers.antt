-- `branching::to_try` meets its contract.
use mathlib.Core.Logic.{inl}
use Prim.Native.Nat.{◌<◌}
use native.Mathlib.Omega.{arith}
use Rattle.tables.specs.Tables.{count_of}
use Rattle.branching.proofs.Trying.{try_alone, try_early}
use Rattle.branching.proofs.to_try.Goals as goal

pub returns-then-least-eq-NO_MINUTE : goal.returns-then-least-eq-NO_MINUTE
returns-then-least-eq-NO_MINUTE c = λ j l b. inl b

pub first_alone-i-requires : goal.first_alone-i-requires
first_alone-i-requires c = omega (arith, c.count-count.ensures, c.requires.few)

pub with-requires : goal.with-requires
with-requires c = omega (arith, c.if-i-count.true, c.count-count.ensures, c.requires.few)

pub returns-then-i-count : goal.returns-then-i-count
returns-then-i-count c =
    let start = c in
    let a = start.args in
    let count = c.count-count in
    let i = c.first_alone-i in
    let found = i.ensures c.if-i-count.true in
    let inside : i.result < count_of a.jobs.now = omega (arith, c.if-i-count.true, count.ensures) in
    rw c.with.ensures (try_alone a.jobs.now a.prepared.now.related a.at.now a.least a.set start.requires
    i.result inside found.0 (omega (arith, c.if-least-eq-NO_MINUTE.false, start.ranges.least.fits)) found.1)

pub first_end-requires : goal.first_end-requires
first_end-requires c = c.requires.few

pub early-requires : goal.early-requires
early-requires c = omega (arith, c.count-count.ensures, c.requires.few)

pub returns : goal.returns
returns c =
    let start = c in
    let a = start.args in
    let count = c.count-count in
    let end = c.first_end in
    let all = c.early.ensures in
    try_early a.jobs.now a.prepared.now.related a.at.now a.least a.set start.requires end.result c.early.result
    end.ensures (rw count.ensures at all)
