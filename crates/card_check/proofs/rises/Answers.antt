-- `card_check::rises` meets its contract: each place that was passed names a job that starts no earlier than the one before.
use mathlib.Core.Path.{refl, sym}
use Prim.Native.Nat.{◌≤◌, ◌<◌}
use native.Mathlib.Omega.{arith}
use native.Mathlib.Numerals.{add-one}
use borrow.Author.Tests.{le-ltb, lt-ltb, lt-leb, le-leb}
use Rattle.counting.specs.Counting.{every}
use Rattle.counting.proofs.Loops.{every_more, every-not}
use Rattle.tables.specs.Tables.{sheet_of, count_of}
use Rattle.card_check.specs.CardFor.{job_at}
use Rattle.card_check.specs.Test.{start_on, start_before, rises}
use Rattle.card_check.proofs.rises.Goals as goal

pub loop-k-init : goal.loop-k-init
unfolding every
loop-k-init c = (refl, refl)

pub returns-then-n-job : goal.returns-then-n-job
returns-then-n-job c =
    let a = c.args in
    let S = sheet_of a.jobs.now in
    let named = rw c.count-n.ensures at c.job_at-job.ensures in
    let outside : count_of a.jobs.now ≤ job_at S a.card.now c.loop-k.k = omega (arith, named, c.count-n.ensures, c.if-n-job.true) in
    sym (every-not _ (rises S a.card.now) c.loop-k.k (omega arith) (rw (le-ltb _ _ outside) refl))

pub returns-then-begins-last : goal.returns-then-begins-last
returns-then-begins-last c =
    let a = c.args in
    let S = sheet_of a.jobs.now in
    let named = rw c.count-n.ensures at c.job_at-job.ensures in
    let begins = rw named at c.start-begins.ensures.0 in
    let inside : job_at S a.card.now c.loop-k.k < count_of a.jobs.now = omega (arith, named, c.count-n.ensures, c.if-n-job.false) in
    let falls : start_on a.card.now (job_at S a.card.now c.loop-k.k) < start_before S a.card.now c.loop-k.k =
    omega (arith, begins, c.loop-k.invariant.1, c.if-begins-last.true) in
    sym (every-not _ (rises S a.card.now) c.loop-k.k (omega arith) (rw (lt-ltb _ _ inside, lt-leb _ _ falls) refl))

pub loop-k-preserved : goal.loop-k-preserved
loop-k-preserved c =
    let a = c.args in
    let S = sheet_of a.jobs.now in
    let named = rw c.count-n.ensures at c.job_at-job.ensures in
    let begins = rw named at c.start-begins.ensures.0 in
    let inside : job_at S a.card.now c.loop-k.k < count_of a.jobs.now = omega (arith, named, c.count-n.ensures, c.if-n-job.false) in
    let steady : start_before S a.card.now c.loop-k.k ≤ start_on a.card.now (job_at S a.card.now c.loop-k.k) =
    omega (arith, begins, c.loop-k.invariant.1, c.if-begins-last.false) in (
      every_more (rises S a.card.now) c.loop-k.k c.loop-k.invariant.0 (rw (lt-ltb _ _ inside, le-leb _ _ steady) refl),
      rw (add-one) begins,
    )
