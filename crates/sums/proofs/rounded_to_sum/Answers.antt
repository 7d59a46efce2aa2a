-- `sums::rounded_to_sum` meets its contract.
use native.Mathlib.Omega.{arith}
use Rattle.sums.proofs.Halves.{rounded_pair}
use Rattle.sums.proofs.rounded_to_sum.Goals as goal

pub returns : goal.returns
returns c =
    let past = c in
    let a = past.args in
    let pre = past.requires in
    let low = past.subset_sums-lows in
    let high = c.subset_sums-highs in
    let if1 = c.if-lows-eq0 in
    let if2 = c.if-highs-eq0 in
    rw c.longest_pair.ensures (rounded_pair low.ensures high.ensures a.target pre.few
    (omega (arith, if1.false)) (omega (arith, if2.false)))
