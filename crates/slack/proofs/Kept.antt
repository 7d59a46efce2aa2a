-- A difference of two minutes is read back from 32 bits as it is.
use mathlib.Core.Path.{◌≡◌}
use Prim.Native.Nat.{ℕ, ◌<◌}
use native.Mathlib.Nat.{le_trans}
use lib.Dec.{lit≤}
use lib.IntN.{ℤ, pos, ◌-ℤ◌}
use mir.Syntax.{w32}
use mir.Val.{of_z, to_z}
use mir.ValLaws.{to_z-of_z}
use Rattle.card.proofs.Differences.{difference_small}

pub kept : (z : ℤ) (a b : ℕ) → a < 65536 → b < 65536 → z ≡ (pos a -ℤ pos b) → to_z w32 (of_z w32 z) ≡ (pos a -ℤ pos b)
kept z a b l m e = rw e (to_z-of_z w32 (pos a -ℤ pos b) (record { sfits = le_trans (difference_small a b 65536 l m) (lit≤ tt) }))
