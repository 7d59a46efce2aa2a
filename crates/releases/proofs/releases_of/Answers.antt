-- `releases::releases_of` meets its contract.
use mathlib.Core.Path.{◌∙◌}
use Prim.Native.Nat.{ℕ}
use native.Mathlib.Omega.{arith}
use lib.ListN.{length-replicate, length-set}
use Rattle.releases.proofs.Laws.{firsts, raised_more}
use Rattle.releases.proofs.releases_of.Goals as goal

pub loop-k-init : goal.loop-k-init
loop-k-init c =
    let put = c.firsts_of-first.ensures in
    let pre = c.requires in
    (put.size ∙ length-replicate {A = ℕ} 20 0, firsts pre.0 put pre.1)

pub raised-r-requires : goal.raised-r-requires
raised-r-requires c =
    let count = c in
    (count.requires.0, omega (arith, c.loop-k-test.true, count.count-count.ensures))

pub offset_bounds-next-k : goal.offset_bounds-next-k
offset_bounds-next-k c =
    let test = c in
    let count = test in
    record { fits = omega (arith, test.loop-k-test.true, count.count-count.ensures, count.requires.0.few) }

pub bounds-next-k : goal.bounds-next-k
bounds-next-k c =
    let test = c in
    let count = test in
    omega (arith, test.loop-k-test.true, count.count-count.ensures, count.requires.0.few)

pub loop-k-preserved : goal.loop-k-preserved
loop-k-preserved c =
    let test = c in
    let inv = test.loop-k.invariant in
    let count = test in
    let raised = c.raised-r.ensures in (
      length-set test.loop-k.next test.loop-k.k c.raised-r.result ∙ inv.0,
      raised_more inv.1 _ _ (omega (arith, test.loop-k-test.true, count.count-count.ensures))
          (omega (arith, inv.0, test.loop-k-test.true, count.count-count.ensures, count.requires.0.few)) raised.0 raised.1,
    )

pub returns : goal.returns
returns c = c.loop-k.invariant.1
