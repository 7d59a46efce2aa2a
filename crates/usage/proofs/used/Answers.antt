-- `usage::used` meets its contract.
use mathlib.Core.Path.{◌≡◌, sym, ap, ap₂, ◌∙◌}
use Prim.Native.Nat.{ℕ, ◌*◌}
use Rattle.tables.specs.Tables.{count_of, modules_of}
use Rattle.occupancy.specs.Occupancy.{share_of}
use Rattle.usage.proofs.Answers.{turned_away, no_jobs_lem, can_search, fits, can_share, answered}
use Rattle.usage.proofs.used.Goals as goal

pub returns-in-Err : goal.returns-in-Err
returns-in-Err c =
    let a = c.args in
    let answer = turned_away a.sheet.now a.work.now c.in-Err.refusal c.in-Err.ensures in
    record { answer = c.refused.ensures ∙ answer.0; work = answer.1 }

pub returns-then-count-eq0 : goal.returns-then-count-eq0
returns-then-count-eq0 c =
    let a = c.args in
    let answer = no_jobs_lem a.sheet.now a.work.now c.in-Ok.jobs c.in-Ok.ensures (sym c.count.ensures ∙ c.if-count-eq0.true) in
    record { answer = c.refused-then-count-eq0.ensures ∙ answer.0; work = answer.1 }

pub earliest-end-requires : goal.earliest-end-requires
earliest-end-requires c =
    let a = c.args in
    can_search a.sheet.now a.work.now c.in-Ok.jobs c.in-Ok.ensures

pub work_of-occupied-requires : goal.work_of-occupied-requires
work_of-occupied-requires c =
    let a = c.args in
    fits a.sheet.now a.work.now c.in-Ok.jobs c.in-Ok.ensures

pub share-requires : goal.share-requires
share-requires c =
    let some-jobs : count_of c.in-Ok.jobs ≡ 0 → ⊥ = λ z. c.if-count-eq0.false (c.count.ensures ∙ z) in
    let product : c.times.result ≡ modules_of c.in-Ok.jobs * c.earliest-end.result = c.times.ensures ∙ ap (λ (n : ℕ). n * c.earliest-end.result) c.modules.ensures in
    let x = c.earliest-end in
    let a = c.args in
    can_share a.sheet.now a.work.now c.in-Ok.jobs c.in-Ok.ensures some-jobs
    x.result x.ensures.answer _ _ c.work_of-occupied.ensures product

pub returns : goal.returns
returns c =
    let some-jobs : count_of c.in-Ok.jobs ≡ 0 → ⊥ = λ z. c.if-count-eq0.false (c.count.ensures ∙ z) in
    let product : c.times.result ≡ modules_of c.in-Ok.jobs * c.earliest-end.result = c.times.ensures ∙ ap (λ (n : ℕ). n * c.earliest-end.result) c.modules.ensures in
    let x = c.earliest-end in
    let a = c.args in
    let answer = answered a.sheet.now a.work.now c.in-Ok.jobs c.in-Ok.ensures some-jobs
    x.result x.ensures.answer _ _ (c.share.ensures ∙ ap₂ share_of c.work_of-occupied.ensures product) x.ensures.cleared in
    record { answer = answer.0; work = answer.1 }
