-- `search::run` meets its contract.
use mathlib.Core.Path.{refl, ap, ◌∙◌}
use Prim.Native.Nat.{ℕ, suc}
use lib.ListN.{length, replicate}
use Rattle.tables.specs.Tables.{sheet_of}
use Rattle.search.proofs.Recalls.{remembered-none}
use Rattle.search.proofs.Whole.{goes_on, lowest_of}
use Rattle.search.proofs.run.Goals as goal

pub first_order-found-requires : goal.first_order-found-requires
first_order-found-requires c =
    let past = c in
    let least = past.least_order-least in
    let pre = past.requires in
    let none = remembered-none (sheet_of past.args.jobs.now) _ (length least.new.memory) (suc least.result.end) c.clear.ensures in
    (lowest_of least.ensures.lowest (goes_on (least.ensures.limit refl)), (pre.0, (least.ensures.tabled, none)))

pub shape_of-memory : goal.shape_of-memory
shape_of-memory c =
    let past = c in
    let far = past in
    c.clear-2.auto.memory ∙ c.first_order-found.auto.memory ∙ past.clear.auto.memory ∙ far.least_order-least.auto.memory

pub returns : goal.returns
returns c =
    let past = c in
    let far = past in
    let size = c.first_order-found.auto.memory ∙ past.clear.auto.memory ∙ far.least_order-least.auto.memory in
    let goes = goes_on (c.first_order-found.ensures.limit (far.least_order-least.ensures.limit refl)) in
    record { answer = c.first_order-found.ensures.tied goes; cleared = c.clear-2.ensures ∙ ap (λ (k : ℕ). replicate k 0) size }
