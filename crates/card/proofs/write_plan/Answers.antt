-- `card::write_plan` meets its contract.
use mathlib.Core.Path.{ap, ◌∙◌}
use mathlib.Core.List.{List, ◌++◌}
use Prim.Native.Nat.{ℕ}
use lib.ListN.{take, drop}
use Rattle.tables.specs.Tables.{sheet_of, count_of}
use Rattle.card.specs.Card.{card_size, card_bytes}
use Rattle.card.specs.Rows.{slot_row}
use Rattle.card.proofs.Replays.{card_is}
use Rattle.card.proofs.write_plan.Goals as goal

pub returns : goal.returns
returns c =
    let a = c.args in
    let pre = c.requires in
    let replay = c.replay-slots in
    let n = count_of a.jobs.now in
    let S = sheet_of a.jobs.now in
    let o = take n a.order.now in
    let s = replay.result in
    rw c.count.ensures at c.write_card.ensures
    ∙ ap (λ (l : List ℕ). l ++ drop (card_size n) a.card.now)
    (ap (λ (e : ℕ). card_bytes n (slot_row s) o e) pre.1.0 ∙ card_is S o s replay.ensures)
