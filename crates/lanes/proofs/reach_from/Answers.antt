-- `lanes::reach_from` meets its contract.
use native.Mathlib.Omega.{arith}
use mathlib.Core.Path.{ap, ◌∙◌}
use Prim.Native.Nat.{ℕ, ◌-◌, ◌/◌}
use Rattle.values.specs.Values.{reach_at, step_of}
use Rattle.lanes.proofs.Laws.{place_inside}
use Rattle.lanes.proofs.reach_from.Goals as goal

pub steps-requires : goal.steps-requires
steps-requires c = omega (arith, c.requires.0.0, c.step_of.ensures)

pub bounds-prepared-steps : goal.bounds-prepared-steps
bounds-prepared-steps c =
    let step_of_lem = c.step_of in
    let pre = c.requires in
    let args = c.args in
    let place = c.steps.ensures ∙ ap (λ (s : ℕ). (args.close - args.t) / s) step_of_lem.ensures in
    let inside = place_inside args.close args.t (step_of args.prepared.now.lanes) pre.0.0 pre.0.1 in
    omega (arith, place, inside)

pub returns : goal.returns
returns c =
    let args = c.args in
    let place = c.steps.ensures ∙ ap (λ (s : ℕ). (args.close - args.t) / s) c.step_of.ensures in
    ap (reach_at args.prepared.now.lanes) place
