-- `search::earliest` meets its contract.
use mathlib.Core.Path.{refl, ap, ◌∙◌}
use Prim.Native.Nat.{ℕ}
use lib.ListN.{replicate}
use Rattle.search.proofs.Whole.{goes_on, lowest_of, earliest_end_lem}
use Rattle.search.proofs.earliest.Goals as goal

pub shape_of-memory : goal.shape_of-memory
shape_of-memory c = c.clear.auto.memory ∙ c.least_order-least.auto.memory

pub returns : goal.returns
returns c =
    let past = c in
    record { answer = earliest_end_lem past.requires.0 (lowest_of c.least_order-least.ensures.lowest (goes_on (c.least_order-least.ensures.limit refl))); cleared = c.clear.ensures ∙ ap (λ (k : ℕ). replicate k 0) c.least_order-least.auto.memory }
