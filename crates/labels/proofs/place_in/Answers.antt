-- `labels::place_in` meets its contract.
use mathlib.Core.Path.{sym, ap₂, ◌∙◌}
use Prim.Native.Nat.{ℕ}
use native.Mathlib.Omega.{arith}
use borrow.Author.Tests.{ne_eqb}
use Rattle.sheet.specs.Label.{place_in}
use Rattle.sheet.proofs.Labels.{job-placed, place-answered}
use Rattle.labels.proofs.place_in.Goals as goal

pub returns-then-refusal-ne0 : goal.returns-then-refusal-ne0
unfolding place_in
returns-then-refusal-ne0 c = let k = c.place_refusal-refusal in rw (← k.ensures, ne_eqb k.result 0 c.if-refusal-ne0.true)

pub label_start-requires : goal.label_start-requires
label_start-requires c =
    let a = c.args in
    let below = job-placed a.found a.job (sym c.place_refusal-refusal.ensures ∙ c.if-refusal-ne0.false) in
    omega arith

pub offset_bounds-jobs-job : goal.offset_bounds-jobs-job
offset_bounds-jobs-job c =
    let a = c.args in
    let below = job-placed a.found a.job (sym c.place_refusal-refusal.ensures ∙ c.if-refusal-ne0.false) in
    omega arith

pub bounds-jobs-job : goal.bounds-jobs-job
bounds-jobs-job c =
    let a = c.args in
    let below = job-placed a.found a.job (sym c.place_refusal-refusal.ensures ∙ c.if-refusal-ne0.false) in
    omega arith

pub returns : goal.returns
returns c =
    let a = c.args in
    ap₂ (λ (o k : ℕ). record { refusal = 0; offset = o; length = k }) c.label_start.ensures.0 c.label_length.ensures.0
    ∙ place-answered a.found a.job (sym c.place_refusal-refusal.ensures ∙ c.if-refusal-ne0.false)
