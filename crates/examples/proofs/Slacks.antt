-- F-10 at examples: the entries of slack, computed from the definitions.
use mathlib.Core.Path.{◌≡◌, refl}
use mathlib.Core.List.{List, [], ◌∷◌, ◌++◌}
use Prim.Native.Nat.{ℕ, ◌-◌}
use lib.IntN.{ℤ, pos, negsuc}
use lib.ListN.{length, replicate}
use Rattle.counting.specs.Counting.{sum, largest, every, any, joined}
use Rattle.checking.specs.Checking.{first_failing}
use Rattle.schedule.specs.Plan.{over_wide}
use Rattle.schedule.specs.ListPlan.{ready, first_minute, start_of, place_all}
use Rattle.schedule.specs.TieRule.{orders_after, earliest_of}
use Rattle.bits.specs.Bits.{bit, set_of}
use Rattle.words.specs.Words.{number_at}
use Rattle.sheet_format.specs.Format.{record_at, record_bytes, trailer_bytes, sheet_bytes, places}
use Rattle.sheet_format.specs.Checks.{outside, faulty, wrong_label}
use Rattle.sheet.specs.Read.{reading}
use Rattle.planable.specs.Planable.{no_order, planable_refusal}
use Rattle.marks.specs.Following.{follows_within}
use Rattle.marks.specs.Implied.{implied, implied_marks}
use Rattle.latest.specs.Latest.{least_of, latest_within}
use Rattle.slack.specs.declared.JobSlack.{JobSlack}
use Rattle.slack.specs.declared.Slacks.{Slacks}
use Rattle.slack.specs.Slack.{no_slack, slack_places, no_slacks, slacks}
use Rattle.examples.specs.Table.{sheet_with, entry}

-- latest start, slack, and the marks that others imply
abbrev waits : ℤ → ℤ → ℕ → JobSlack
waits latest slack implied = record { latest_start = latest; slack = slack; implied = implied }

-- the entries of some jobs, and places past the last 0
abbrev entries : List JobSlack → Slacks
entries l = record { refusal = 0; jobs = l ++ replicate (20 - length l) no_slack; count = length l }

-- E1, whose departures are 30, 25 and 30: job 1 starts at 10, 5 minutes too late
pub e1-slacks : slacks (sheet_with (entry 1 10 0 30 ∷ entry 2 20 0 25 ∷ entry 1 10 0 30 ∷ []) 2)
    ≡ entries (waits (pos 20) (pos 20) 0 ∷ waits (pos 5) (negsuc 4) 0 ∷ waits (pos 20) (pos 20) 0 ∷ [])
unfolding sum largest every any joined over_wide ready first_minute start_of place_all orders_after earliest_of
    bit set_of number_at record_at record_bytes trailer_bytes sheet_bytes places outside faulty wrong_label reading no_order planable_refusal
    first_failing follows_within implied implied_marks least_of latest_within slack_places slacks
e1-slacks = refl

-- a chain of three, the last of which waits for both before it: its wait for the first is implied, and its departure holds up all three
pub chain-slacks : slacks (sheet_with (entry 1 10 0 100 ∷ entry 1 20 1 100 ∷ entry 1 30 3 70 ∷ []) 2)
    ≡ entries (waits (pos 10) (pos 10) 0 ∷ waits (pos 20) (pos 10) 0 ∷ waits (pos 40) (pos 10) 1 ∷ [])
unfolding sum largest every any joined over_wide ready first_minute start_of place_all orders_after earliest_of
    bit set_of number_at record_at record_bytes trailer_bytes sheet_bytes places outside faulty wrong_label reading no_order planable_refusal
    first_failing follows_within implied implied_marks least_of latest_within slack_places slacks
chain-slacks = refl

-- a latest start may be below 0
pub missed-slacks : slacks (sheet_with (entry 1 10 0 30 ∷ entry 1 20 1 5 ∷ []) 1)
    ≡ entries (waits (negsuc 24) (negsuc 24) 0 ∷ waits (negsuc 14) (negsuc 24) 0 ∷ [])
unfolding sum largest every any joined over_wide ready first_minute start_of place_all orders_after earliest_of
    bit set_of number_at record_at record_bytes trailer_bytes sheet_bytes places outside faulty wrong_label reading no_order planable_refusal
    first_failing follows_within implied implied_marks least_of latest_within slack_places slacks
missed-slacks = refl

-- E2: no jobs
pub e2-slacks : slacks (sheet_with [] 1) ≡ entries []
unfolding sum largest every any joined over_wide ready first_minute start_of place_all orders_after earliest_of
    bit set_of number_at record_at record_bytes trailer_bytes sheet_bytes places outside faulty wrong_label reading no_order planable_refusal
    first_failing follows_within implied implied_marks least_of latest_within slack_places slacks
e2-slacks = refl

-- E4: 9
pub e4-slacks : slacks (sheet_with (entry 1 1 2 0 ∷ entry 1 1 1 0 ∷ []) 1) ≡ no_slacks 9
unfolding sum largest every any joined over_wide ready first_minute start_of place_all orders_after earliest_of
    bit set_of number_at record_at record_bytes trailer_bytes sheet_bytes places outside faulty wrong_label reading no_order planable_refusal
    first_failing follows_within implied implied_marks least_of latest_within slack_places slacks
e4-slacks = refl
