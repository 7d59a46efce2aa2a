-- `entries::entry_ahead` meets its contract.
use Prim.Native.Nat.{ℕ, ◌+◌, ◌-◌, ◌*◌, ◌≤◌, ◌<◌, max}
use mathlib.Core.Path.{◌≡◌}
use lib.ListN.{get_or}
use Rattle.words.specs.Words.{u16_at}
use Rattle.entries.proofs.entry_ahead.Given as goal

-- where none is late so far, the last start is not, nor is any end so far
abbrev pub invariant-loop-i : goal.invariant-loop-i
invariant-loop-i l = (l.late ≤ l.i + 1) × (l.late ≡ 0 → (u16_at l.group l.at ≤ l.l) × ((k : ℕ) → k < l.i → u16_at l.group (l.at + 2 + 2 * k) ≤ max (get_or l.part.ends k 0) l.rested))
