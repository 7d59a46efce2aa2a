-- `preparing::widened` meets its contract.
use Rattle.std.proofs.Common.{◌<◌, ◌≢◌, ◌∙◌, length, arith, get_or-set_other, get_or-set_same, below_more}
use Rattle.std.proofs.Math.ListN.{length-set}
use Rattle.std.proofs.lemmas.List.{ext_get_or}
use Rattle.preparing.proofs.widened.Goals as goal

pub loop-i-preserved : goal.loop-i-preserved
loop-i-preserved g c =
    let loop = c.loop-i in (
      length-set _ _ _ ∙ loop.invariant.0,
      below_more _ _
          (λ k h. let ne : k ≢ loop.i = omega arith in rw get_or-set_other (loop.invariant.1 k h))
          (let lt : loop.i < length loop.wide = omega arith in rw get_or-set_same),
    )

pub returns : goal.returns
returns g c = ext_get_or 0 c.loop-i.wide c.args.list.now c.loop-i.invariant.0 (λ k h. c.loop-i.invariant.1 k (omega arith))
