-- `fitting::serving::fill_rows` meets its contract.
use mathlib.Core.Path.{◌≡◌}
use Prim.Native.Nat.{◌*◌, ◌-◌, ◌≤◌}
use lib.ListN.{length, get_or}
use Rattle.fitting.specs.Fitting.{slate_size, row_at, RowOf}
use Rattle.fitting.proofs.serving.fill_rows.Given as goal

abbrev pub invariant-loop-i : goal.invariant-loop-i
invariant-loop-i l =
    ((l.i ≤ l.count) × ((l.from ≡ l.frame.cols * l.i) × (length l.slate ≡ slate_size)))
    × RowOf l.jobs l.frame (λ k. get_or l.release k 0) (λ k. get_or l.value k 0) l.order l.i (row_at l.slate l.from)
