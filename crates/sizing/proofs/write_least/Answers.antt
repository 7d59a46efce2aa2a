-- `sizing::write_least` meets its contract.
use mathlib.Core.Path.{ap, ◌∙◌}
use Prim.Native.Nat.{ℕ}
use lib.ListN.{replicate}
use Rattle.sizing.proofs.Calls.{can_write, written}
use Rattle.sizing.proofs.write_least.Goals as goal

pub write_best-requires : goal.write_best-requires
write_best-requires c =
    let a = c.args in
    can_write a.jobs.now c.requires.0 a.by c.requires.1.0 c.least_count-modules.result c.least_count-modules.ensures
    c.for_cabinet-table.result c.for_cabinet-table.ensures _ c.requires.1.1

pub returns : goal.returns
returns c =
    let a = c.args in
    record {
      count = c.least_count-modules.ensures;
      card = c.write_best.ensures.card
          ∙ written a.jobs.now c.requires.0 a.by c.requires.1.0 c.least_count-modules.result c.least_count-modules.ensures
          c.for_cabinet-table.result c.for_cabinet-table.ensures a.card.now;
      work = c.write_best.ensures.work ∙ ap (λ (n : ℕ). replicate n 0) c.least_count-modules.auto.memory;
    }
