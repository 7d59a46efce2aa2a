-- `card_check::rises` meets its contract: each place that was passed names a job that starts no earlier than the one before.
use mathlib.Core.Bool.{true}
use mathlib.Core.Path.{◌≡◌}
use Rattle.counting.specs.Counting.{every}
use Rattle.tables.specs.Tables.{sheet_of}
use Rattle.card_check.specs.Test.{start_before, rises}
use Rattle.card_check.proofs.rises.Given as goal

abbrev pub invariant-loop-k : goal.invariant-loop-k
invariant-loop-k l = (every l.k (rises (sheet_of l.jobs) l.card) ≡ true) × (l.last ≡ start_before (sheet_of l.jobs) l.card l.k)
