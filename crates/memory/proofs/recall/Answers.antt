-- `memory::recall` meets its contract.
use Prim.Native.Nat.{ℕ, ◌-◌}
use mathlib.Core.Path.{subst}
use native.Mathlib.Omega.{arith}
use lib.Bits.{and_le_l, and_le_r}
use lib.Count.{count_trailing_zeros, trailing_le}
use lib.ListN.{length}
use borrow.Author.Rules.{rules}
use Rattle.memory.specs.Entries.{group_of, Hit}
use Rattle.entries.proofs.Laws.{no}
use Rattle.memory.proofs.Slots.{lowest-inside, hit-at}
use Rattle.memory.proofs.recall.Goals as goal

pub returns-then-len-lt-GROUP : goal.returns-then-len-lt-GROUP
returns-then-len-lt-GROUP c = no

pub loop-ways-init : goal.loop-ways-init
loop-ways-init c = c.ways_with-ways.ensures

pub overflow_cast-way : goal.overflow_cast-way
overflow_cast-way c = omega (arith, trailing_le 32 c.loop-ways.ways)

pub entry_ahead-requires : goal.entry_ahead-requires
entry_ahead-requires c =
    let loop = c.loop-ways in
    (search rules, lowest-inside loop.ways c.loop-ways-test.true loop.invariant, search rules)

pub returns-then-entry_ahead : goal.returns-then-entry_ahead
returns-then-entry_ahead c =
    let entry-ahead = c.entry_ahead in
    let tested = c in
    let loop = tested.loop-ways in
    let in_group = lowest-inside loop.ways tested.loop-ways-test.true loop.invariant in
    let rested = tested in
    let group = rested in
    let group_at = group.group_at-from in
    let a = group.args in
    let m = a.memory.now in
    λ e.
    hit-at m a.jobs a.part.now.ends group.args.part.now.unplaced a.l a.rest group_at.result (group_of (length m) group.args.part.now.unplaced)
    (count_trailing_zeros 32 loop.ways) group_at.ensures.0 group_at.ensures.1 in_group (rw rested.rested_by-rested.ensures at (entry-ahead.ensures c.if-entry_ahead.true))

pub loop-ways-smaller : goal.loop-ways-smaller
loop-ways-smaller c =
    let loop = c.loop-ways in
    omega (arith, and_le_r loop.ways (loop.ways - 1), c.loop-ways-test.true)

pub loop-ways-preserved : goal.loop-ways-preserved
loop-ways-preserved c =
    let loop = c.loop-ways in
    omega (arith, and_le_l loop.ways (loop.ways - 1), loop.invariant)

pub returns : goal.returns
returns c = no
