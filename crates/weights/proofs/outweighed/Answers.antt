-- `weights::outweighed` meets its contract.
use native.Mathlib.Omega.{arith}
use mathlib.Core.Path.{refl}
use mathlib.Core.Bool.{false}
use Rattle.counting.proofs.Tests.{clash}
use Rattle.weights.proofs.Walks.{outweighs}
use Rattle.weights.proofs.outweighed.Goals as goal

pub returns-then-close-least : goal.returns-then-close-least
returns-then-close-least c = λ e. clash false e refl

pub room_for-room-requires : goal.room_for-room-requires
room_for-room-requires c = ((c.requires.0.1.most_small, c.requires.1), (c.requires.0.0.most, c.if-close-least.false))

pub set_worth-weight-requires : goal.set_worth-weight-requires
set_worth-weight-requires c = (c.requires.0.0.few, c.requires.0.1.worth_small)

pub returns-then-room-q : goal.returns-then-room-q
returns-then-room-q c =
    let loop-test = c.loop-q-test in
    let loop = c.loop-q in
    let set-worth = c.set_worth-weight in
    let room_for = c.room_for-room in
    let pre = c.requires in
    let q = loop.q in
    let low = loop-test.true in
    λ e. outweighs (pre.0.1.each q low) (omega (arith, c.if-room-q.true, room_for.ensures q low, set-worth.ensures q low))

pub returns : goal.returns
returns c = λ e. clash false e refl
