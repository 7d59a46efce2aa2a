-- `memory::group_at` meets its contract.
use Prim.Native.Nat.{ℕ, ◌+◌, ◌*◌, ◌/◌, ◌≤◌}
use mathlib.Core.Path.{refl}
use native.Mathlib.Omega.{arith}
use native.Mathlib.Nat.{mod-lt}
use Rattle.memory.specs.Entries.{group_of}
use Rattle.memory.proofs.group_at.Goals as goal

group-inside : (len u : ℕ) → 736 ≤ len → group_of len u * 736 + 736 ≤ len
unfolding group_of
group-inside len u h = omega (arith, mod-lt u {m = len / 736} (omega arith))

pub overflow_mul-result : goal.overflow_mul-result
unfolding group_of
overflow_mul-result c = let s = group-inside c.args.len c.args.unplaced c.requires in record { fits = omega (arith, s) }

pub returns : goal.returns
unfolding group_of
returns c = (refl, group-inside c.args.len c.args.unplaced c.requires)
