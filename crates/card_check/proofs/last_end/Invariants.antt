-- `card_check::last_end` meets its contract.
use mathlib.Core.Path.{◌≡◌}
use Rattle.counting.specs.Counting.{largest}
use Rattle.schedule.specs.Plan.{finish}
use Rattle.tables.specs.Tables.{sheet_of}
use Rattle.card.specs.Decoding.{plan_on}
use Rattle.card_check.proofs.last_end.Given as goal

abbrev pub invariant-loop-j : goal.invariant-loop-j
invariant-loop-j l = l.last ≡ largest l.j (finish (sheet_of l.jobs) (plan_on l.card))
