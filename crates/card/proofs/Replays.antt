-- The card that is written from the slots of an order's list plan is the list plan's.
use mathlib.Core.Path.{◌≡◌, ap}
use mathlib.Core.List.{List, ◌++◌}
use Prim.Native.Nat.{ℕ, ◌<◌}
use Rattle.counting.proofs.Joins.{joined_same}
use Rattle.schedule.specs.Plan.{Sheet}
use Rattle.schedule.specs.TieRule.{end_of}
use Rattle.replay.specs.declared.Slots.{Slots}
use Rattle.replay.specs.Slots.{Replayed}
use Rattle.card.specs.Card.{trailer_bytes, card_bytes, row_of, card_of}
use Rattle.card.specs.Rows.{slot_row}

pub card_is : (S : Sheet) (o : List ℕ) (s : Slots) → Replayed S o s → card_bytes S.jobs (slot_row s) o (end_of S o) ≡ card_of S o
unfolding card_bytes
card_is S o s h =
    ap (λ (x : List ℕ). x ++ (o ++ trailer_bytes S.jobs (end_of S o))) (joined_same S.jobs (slot_row s) (row_of S o) one)
  where
    one : (j : ℕ) → j < S.jobs → slot_row s j ≡ row_of S o j
    one j l = rw (h.start j l, h.end j l, h.modules j l)
