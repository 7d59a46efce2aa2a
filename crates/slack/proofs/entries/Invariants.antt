-- `slack::entries` meets its contract.
use mathlib.Core.Path.{◌≡◌}
use mathlib.Core.List.{List}
use Prim.Native.Nat.{ℕ}
use lib.ListN.{get_or}
use Rattle.slack.specs.declared.JobSlack.{JobSlack}
use Rattle.slack.specs.Slack.{slack_places}
use Rattle.slack.specs.Parts.{entry_from}
use Rattle.slack.proofs.entries.Given as goal

-- the entry of job j
abbrev pub entry_at : List ℕ → List ℕ → List ℕ → ℕ → JobSlack
entry_at latest starts implied j = entry_from (get_or latest j 0) (get_or starts j 0) (get_or implied j 0)

abbrev pub invariant-loop-j : goal.invariant-loop-j
invariant-loop-j l = l.answer ≡ record { refusal = 0; jobs = slack_places l.j (entry_at l.latest l.starts l.implied); count = l.count }
