-- `lanes::overfull` meets its contract.
use native.Mathlib.Omega.{arith}
use mathlib.Core.Path.{refl, ap, ◌∙◌}
use mathlib.Core.Bool.{false}
use Prim.Native.Nat.{ℕ, ◌/◌}
use borrow.Author.Tests.{ltb-true}
use Rattle.counting.proofs.Tests.{clash}
use Rattle.lanes.specs.Lanes.{ReachesTo}
use Rattle.lanes.proofs.Laws.{serving, overfull_by}
use Rattle.lanes.proofs.overfull.Goals as goal

pub returns-then-close-least : goal.returns-then-close-least
returns-then-close-least c = λ e. clash false e refl

pub steps-requires : goal.steps-requires
steps-requires c = omega (arith, c.requires.0.1.step-some, c.step_of.ensures)

pub returns-then-steps-ge-STEPS : goal.returns-then-steps-ge-STEPS
returns-then-steps-ge-STEPS c = λ e. clash false e refl

pub served_on-requires : goal.served_on-requires
served_on-requires c =
    let steps = c.steps in
    let step_of_lem = c.step_of in
    let if1 = c.if-close-least in
    let args = c.args in
    let pre = c.requires in
    let place = steps.ensures ∙ ap (λ (s : ℕ). args.close / s) step_of_lem.ensures in
    let inside : ReachesTo args.prepared.now.lanes args.close =
    (pre.0.1.step-some, omega (arith, place, c.if-steps-ge-STEPS.false)) in
    (inside, serving pre.0.1 args.close inside _ pre.1 pre.0.0.most if1.false)

pub set_worth-requires : goal.set_worth-requires
set_worth-requires c =
    let pre = c.requires in
    (pre.0.0.few, pre.0.1.worth_small)

pub returns : goal.returns
returns c =
    let if2 = c.if-steps-ge-STEPS in
    let steps = c.steps in
    let step_of_lem = c.step_of in
    let args = c.args in
    let pre = c.requires in
    let place = steps.ensures ∙ ap (λ (s : ℕ). args.close / s) step_of_lem.ensures in
    let served-on = c.served_on in
    let set-worth = c.set_worth in
    λ e. overfull_by pre.0.1 args.close (pre.0.1.step-some, omega (arith, place, if2.false))
    (omega (arith, ltb-true served-on.result set-worth.result e, served-on.ensures, set-worth.ensures))
