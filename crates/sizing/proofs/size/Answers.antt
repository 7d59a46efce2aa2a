-- `sizing::size` meets its contract.
use mathlib.Core.Path.{◌≡◌, refl, ap₂, ◌∙◌}
use Prim.Native.Nat.{ℕ}
use Rattle.checking.specs.Refusals.{number_of}
use Rattle.checking.proofs.Numbers.{number-some}
use Rattle.planable.proofs.Planable.{jobs_read}
use Rattle.sizing.specs.declared.Sized.{Sized}
use Rattle.sizing.proofs.Calls.{turned_away, no-count, can_size, answered}
use Rattle.sizing.proofs.size.Goals as goal

-- a refused call answers the number of its refusal, and 0
turned : (r : Sized) (k : ℕ) → (r.refusal ≡ k) × (r.modules ≡ 0) → r ≡ record { refusal = k; modules = 0 }
turned r k e = ap₂ (λ (a b : ℕ). record { refusal = a; modules = b }) e.0 e.1

pub returns-in-Err : goal.returns-in-Err
returns-in-Err c =
    let a = c.args in
    let e = c.in-Err.refusal in
    let answer = turned_away a.sheet.now a.by a.card.now a.work.now e c.in-Err.ensures in
    record { answer = turned c.refused.result (number_of e) c.refused.ensures ∙ answer.0; card = answer.1.0; work = answer.1.1 }

pub check_count-requires : goal.check_count-requires
check_count-requires c = jobs_read c.args.sheet.now c.in-Ok.jobs c.in-Ok.ensures

pub returns-in-Err-check_count : goal.returns-in-Err-check_count
returns-in-Err-check_count c =
    let a = c.args in
    let e = c.in-Err-check_count.refusal in
    let r = c.refused-in-Err-check_count in
    let answer = no-count a.sheet.now a.by a.card.now a.work.now c.in-Ok.jobs c.in-Ok.ensures (number_of e) c.in-Err-check_count.ensures
    (number-some e) in
    record { answer = turned r.result (number_of e) r.ensures ∙ answer.0; card = answer.1.0; work = answer.1.1 }

-- ---- no check fails
pub write_least-requires : goal.write_least-requires
write_least-requires c =
    let a = c.args in
    can_size a.sheet.now a.by a.card.now a.work.now c.in-Ok.jobs c.in-Ok.ensures 0 c.in_default.ensures refl

pub returns : goal.returns
returns c =
    let a = c.args in
    let w = c.write_least in
    let answer = answered a.sheet.now a.by a.card.now a.work.now c.in-Ok.jobs c.in-Ok.ensures 0 c.in_default.ensures refl
    w.result _ _ w.ensures.count w.ensures.card w.ensures.work in
    record { answer = answer.0; card = answer.1.0; work = answer.1.1 }
