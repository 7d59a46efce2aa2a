-- `fitting::valuing::put_shares` meets its contract.
use mathlib.Core.Path.{◌≡◌}
use Prim.Native.Nat.{◌-◌, ◌≤◌}
use lib.ListN.{length}
use Rattle.tables.specs.Tables.{count_of}
use Rattle.fitting.proofs.valuing.put_shares.Given as goal

abbrev pub invariant-loop-k : goal.invariant-loop-k
invariant-loop-k l = ((l.count ≡ count_of l.jobs) × (l.k ≤ l.count)) × (length l.slate ≡ length l.initial.slate)
