-- `replay::replay` meets its contract.
use mathlib.Core.Path.{◌≡◌, subst}
use Prim.Native.Nat.{ℕ}
use native.Mathlib.Omega.{arith}
use lib.ListN.{take}
use Rattle.schedule.specs.ListPlan.{part_of}
use Rattle.tables.specs.Tables.{sheet_of, count_of}
use Rattle.placement.proofs.Parts.{first_is}
use Rattle.replay.proofs.PlacedSlots.{no_slots, SlotsOf, no_slots_lem}
use Rattle.replay.proofs.Replays.{Turn, next-job, next_low, next_short, next_placeable, next_part, next_slots, ends_fit}
use Rattle.replay.proofs.Replays.{all_replayed}
use Rattle.replay.proofs.replay.Goals as goal

pub loop-k-init : goal.loop-k-init
unfolding no_slots
loop-k-init c =
    let t = c.args.jobs.now in
    (c.count-count.ensures, first_is t c.requires.0 _ c.first_part-part.ensures, no_slots_lem t)

pub start_of-start-requires : goal.start_of-start-requires
start_of-start-requires c =
    let turn : Turn c.args.jobs.now c.args.order.now c.loop-k.k c.from-j.result = record {
      fit = c.requires.0;
      whole = c.requires.1;
      inside = omega (arith, c.loop-k-test.true, c.loop-k.invariant.0);
      here = c.from-j.ensures;
    } in
    let loop = c.loop-k in
    let fit = c.requires.0 in
    let now = turn in
    (loop.invariant.1.figures.profile, (fit.narrow _ (next-job now), (fit.few, next_low now)))

pub with_job-slots-requires : goal.with_job-slots-requires
with_job-slots-requires c =
    let turn : Turn c.args.jobs.now c.args.order.now c.loop-k.k c.from-j.result = record {
      fit = c.requires.0;
      whole = c.requires.1;
      inside = omega (arith, c.loop-k-test.true, c.loop-k.invariant.0);
      here = c.from-j.ensures;
    } in
    let inv = c.loop-k.invariant in
    let now = turn in
    let short = next_short now inv.1 c.start_of-start.ensures in
    let fit = c.requires.0 in
    ((fit, ends_fit _ fit inv.1.follows inv.2), (next_low now, omega arith))

pub place-requires : goal.place-requires
place-requires c =
    let turn : Turn c.args.jobs.now c.args.order.now c.loop-k.k c.from-j.result = record {
      fit = c.requires.0;
      whole = c.requires.1;
      inside = omega (arith, c.loop-k-test.true, c.loop-k.invariant.0);
      here = c.from-j.ensures;
    } in
    let inv = c.loop-k.invariant in
    let now = turn in
    next_placeable now inv.1 c.start_of-start.ensures

pub loop-k-preserved : goal.loop-k-preserved
loop-k-preserved c =
    let turn : Turn c.args.jobs.now c.args.order.now c.loop-k.k c.from-j.result = record {
      fit = c.requires.0;
      whole = c.requires.1;
      inside = omega (arith, c.loop-k-test.true, c.loop-k.invariant.0);
      here = c.from-j.ensures;
    } in
    let inv = c.loop-k.invariant in
    let start = c.start_of-start.ensures in
    let now = turn in (
      inv.0,
      next_part now inv.1 start c.place.ensures,
      next_slots now inv.1 start inv.2 c.with_job-slots.ensures,
    )

pub returns : goal.returns
returns c =
    let loop = c.loop-k in
    let a = c.args in
    let S = sheet_of a.jobs.now in
    let e : loop.k ≡ count_of a.jobs.now = omega (arith, loop.invariant.0, c.loop-k-test.false) in
    all_replayed S (take (count_of a.jobs.now) a.order.now) loop.slots c.requires.1
    (subst (λ (k : ℕ). SlotsOf S (part_of S (take k a.order.now)) loop.slots) e loop.invariant.2)
