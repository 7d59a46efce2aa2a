-- `minutes::last_minute` meets its contract.
use mathlib.Core.Path.{◌≡◌}
use Prim.Native.Nat.{◌+◌}
use Rattle.counting.specs.Counting.{largest}
use Rattle.tables.specs.Tables.{sheet_of}
use Rattle.card.specs.Decoding.{plan_on}
use Rattle.assurance.specs.Following.{end, minute}
use Rattle.minutes.proofs.last_minute.Given as goal

abbrev pub invariant-loop-j : goal.invariant-loop-j
invariant-loop-j l = l.last ≡ largest l.j (λ i. minute (sheet_of l.jobs) (plan_on l.card) (end i) + 1)
