-- `search::go_on` meets its contract.
use Rattle.schedule.proofs.Starts.{ready_says}
use Rattle.candidates.proofs.Children.{starts_short, child_placeable, child_known, child_word}
use Rattle.search.proofs.go_on.Goals as goal

pub start_or_none-start-requires : goal.start_or_none-start-requires
start_or_none-start-requires c = (c.requires.0, (ready_says _ _ _ c.requires.1).job)

pub place-requires : goal.place-requires
place-requires c =
    let pre = c.requires in
    let job = (ready_says _ _ _ pre.1).job in
    let start = c.start_or_none-start.ensures in
    child_placeable pre.0 job start (starts_short pre.0 pre.1 start)

pub returns : goal.returns
returns c =
    let pre = c.requires in
    let known = pre.0 in
    let job = (ready_says _ _ _ pre.1).job in
    let start = c.start_or_none-start.ensures in
    let low = starts_short known pre.1 start in
    let placed = c.place.ensures in
    (child_known known job start low placed, (child_word known job start low placed, placed.placed))
