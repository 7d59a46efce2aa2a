-- `releases::raised` meets its contract.
use native.Mathlib.Omega.{arith}
use Rattle.tables.specs.Tables.{count_of}
use Rattle.releases.proofs.Laws.{before_below, before_is}
use Rattle.releases.proofs.raised.Goals as goal

pub ended-least-requires : goal.ended-least-requires
ended-least-requires c =
    let count = c in
    let args = count.args in
    let is = rw (c.earlier.ensures, count.count-count.ensures) at c.below-before.ensures in
    rw is (λ i b. omega (arith, before_below args.jobs.now args.set args.k (count_of args.jobs.now) i b, count.requires.0.few))

pub returns : goal.returns
returns c =
    let ended = c in
    let below = ended in
    let count = below in
    let args = count.args in
    let is = rw (below.earlier.ensures, count.count-count.ensures) at below.below-before.ensures in
    let least = rw is at ended.ended-least.ensures in (
      omega (arith, c.max.ensures),
      λ x own others. omega (
        arith,
        c.max.ensures,
        own,
        least x (λ i b.
            let what = before_is args.jobs.now args.set args.k (count_of args.jobs.now) i b in
            others i (before_below args.jobs.now args.set args.k (count_of args.jobs.now) i b) what.0 what.1),
      ),
    )
