-- `fitting::serving::reach_from` meets its contract.
use native.Mathlib.Omega.{arith}
use mathlib.Core.Path.{◌≡◌, ap, ◌∙◌}
use Prim.Native.Nat.{ℕ, ◌+◌, ◌-◌, ◌/◌, min}
use lib.ListN.{get_or}
use Rattle.fitting.proofs.Tables.{column}
use Rattle.fitting.proofs.serving.reach_from.Goals as goal

pub overflow_add-base : goal.overflow_add-base
overflow_add-base c =
    record { fits = omega (arith, c.steps-column.ensures, c.requires.0.1, column c.requires.0.0 (c.args.frame.close - c.args.t) (omega (arith, c.requires.1))) }

pub offset_bounds-slate-base : goal.offset_bounds-slate-base
offset_bounds-slate-base c =
    record { fits = omega (arith, c.steps-column.ensures, c.requires.0.1, column c.requires.0.0 (c.args.frame.close - c.args.t) (omega (arith, c.requires.1))) }

pub bounds-slate-base : goal.bounds-slate-base
bounds-slate-base c =
    omega (arith, c.steps-column.ensures, c.requires.0.1, column c.requires.0.0 (c.args.frame.close - c.args.t) (omega (arith, c.requires.1)))

pub returns : goal.returns
returns c =
    let args = c.args in
    let frame = args.frame in
    let e : frame.close - args.t ≡ min (frame.close - args.t) (frame.close - frame.least) = omega (arith, c.requires.1) in
    c.wide.ensures ∙ ap (λ (n : ℕ). get_or args.slate.now (args.base + n) 0) (c.steps-column.ensures ∙ ap (λ (m : ℕ). m / frame.step) e)
