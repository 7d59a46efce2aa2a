-- `fitting::valuing::longest_of` meets its contract.
use mathlib.Core.Path.{◌≡◌}
use Prim.Native.Nat.{◌-◌, ◌≤◌, ◌<◌}
use Rattle.tables.specs.Tables.{count_of}
use Rattle.fitting.proofs.valuing.longest_of.Given as goal

abbrev pub invariant-loop-k : goal.invariant-loop-k
invariant-loop-k l = ((l.count ≡ count_of l.jobs) × (l.k ≤ l.count)) × (0 < l.longest)
