-- `sums::served_behind` meets its contract.
use mathlib.Core.Path.{◌≡◌}
use Prim.Native.Nat.{◌-◌}
use Rattle.sums.proofs.Serving.{Serving}
use Rattle.sums.proofs.served_behind.Given as goal

abbrev pub invariant-loop-i : goal.invariant-loop-i
invariant-loop-i l =
    (l.placed ≡ l.part.placed) × Serving l.at l.count l.part l.gone l.close l.total l.i
