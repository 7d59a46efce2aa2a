-- `planner::write_best` meets its contract.
use mathlib.Core.Path.{sym, ap, ◌∙◌}
use mathlib.Core.List.{List, ◌++◌}
use Prim.Native.Nat.{ℕ}
use lib.ListN.{take, drop}
use Rattle.tables.specs.Tables.{sheet_of, count_of}
use Rattle.card.specs.Card.{card_size}
use Rattle.planner.proofs.Cards.{best-card}
use Rattle.planner.proofs.write_best.Goals as goal

pub write_plan-requires : goal.write_plan-requires
write_plan-requires c =
    let pre = c.requires in
    let answer = c.run-best.ensures.answer in
    ((pre.0, answer.best.order), (answer.end, pre.1.1))

pub returns : goal.returns
returns c =
    let a = c.args in
    let t = a.jobs.now in
    let card = best-card (sheet_of t) (take (count_of t) c.run-best.result.order) c.run-best.ensures.answer.best in
    record { card = c.write_plan.ensures ∙ ap (λ (l : List ℕ). l ++ drop (card_size (count_of t)) a.card.now) (sym card); work = c.run-best.ensures.cleared }
