-- `memory::remember` meets its contract.
use lib.ListN.{length}
use Rattle.memory.specs.Entries.{group_of}
use Rattle.memory.proofs.Slots.{adds_none, adds-at}
use Rattle.memory.proofs.remember.Goals as goal

pub returns-then-len-lt-GROUP : goal.returns-then-len-lt-GROUP
returns-then-len-lt-GROUP c =
    let a = c.args in
    let p = a.part.now in
    adds_none a.memory.now a.jobs p.ends p.unplaced p.last

pub returns : goal.returns
returns c =
    let store = c.store in
    let group = c in
    let group_at = group.group_at-from in
    let a = group.args in
    let p = a.part.now in
    let g = group_of (length a.memory.now) group.args.part.now.unplaced in
    adds-at a.memory.now a.jobs p.ends p.unplaced p.last store.new.group group_at.result g
    group_at.ensures.0 group_at.ensures.1 c.memory-1.given.0 store.ensures
