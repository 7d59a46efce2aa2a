-- `labels::label_in` meets its contract: the part at the label's place is the label.
use mathlib.Core.Path.{◌≡◌, ap, ◌∙◌}
use mathlib.Core.List.{List}
use Prim.Native.Nat.{ℕ, ◌+◌, ◌-◌}
use native.Mathlib.Omega.{arith}
use lib.ListN.{take, drop}
use Rattle.sheet.specs.declared.Reading.{Reading}
use Rattle.sheet.specs.declared.LabelPlace.{LabelPlace}
use Rattle.sheet.specs.Read.{reading}
use Rattle.sheet.specs.Label.{label_place, place_in}
use Rattle.sheet.proofs.Labels.{place_at, place_shown, place_in-reading}
use Rattle.labels.proofs.label_in.Goals as goal

-- what the reading of the sheet says of the place
placed : (s : List ℕ) (r : Reading) (job : ℕ) (p : LabelPlace) → r ≡ reading s → p ≡ place_in r job → p ≡ label_place s job
placed s r job p er ep = ep ∙ ap (λ (x : Reading). place_in x job) er ∙ place_in-reading s job

pub overflow_add-to : goal.overflow_add-to
overflow_add-to c =
    let a = c.args in
    let p = c.place_in-place in
    let h = place_shown a.sheet.now a.job p.result (placed a.sheet.now a.found a.job p.result c.requires p.ensures) in
    omega arith

pub slice_bounds-result-end : goal.slice_bounds-result-end
slice_bounds-result-end c =
    let a = c.args in
    let p = c.place_in-place in
    (place_shown a.sheet.now a.job p.result (placed a.sheet.now a.found a.job p.result c.requires p.ensures)).within

pub returns : goal.returns
returns c =
    let a = c.args in
    let s = a.sheet in
    let p = c.place_in-place in
    let is = placed s.now a.found a.job p.result c.requires p.ensures in
    let from = p.result.offset in
    let long : from + p.result.length - from ≡ p.result.length = omega arith in (
      ap (λ (x : ℕ). take x (drop from s.now)) long ∙ (place_shown s.now a.job p.result is).part,
      ap (λ (x : ℕ). (s.ref_ptr.0, x + s.ref_ptr.1)) (place_at s.now a.job p.result is),
    )
