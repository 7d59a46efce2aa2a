-- `fitting::gap` meets its contract.
use native.Mathlib.Omega.{arith}
use mathlib.Core.Path.{ap, ◌∙◌}
use Prim.Native.Nat.{ℕ}
use Rattle.bits.specs.Bits.{bit}
use Rattle.fitting.proofs.Answers.{serving_by, overfull_by}
use Rattle.fitting.proofs.gap.Goals as goal

pub values_of-value-requires : goal.values_of-value-requires
values_of-value-requires c = c.requires.0.fit

pub fill_rows-base-requires : goal.fill_rows-base-requires
fill_rows-base-requires c =
    let start = c in
    let pre = start.requires.0 in
    (((pre.fit, start.requires.1), (pre.framed, pre.room)), (pre.ordered, (pre.released, c.values_of-value.ensures.0)))

pub served-served-requires : goal.served-served-requires
served-served-requires c =
    let past = c in
    let pre = past.requires.0 in
    let fill = c.fill_rows-base.ensures.rows in
    ((pre.framed, fill.0), serving_by pre.framed fill.1 pre.ordered.few pre.profile pre.fit.most)

pub worth_of-requires : goal.worth_of-requires
worth_of-requires c =
    let past = c in
    (past.requires.0.fit, past.values_of-value.ensures.0.small)

pub returns : goal.returns
returns c =
    let past = c in
    let start = past in
    let pre = start.requires.0 in
    let part = start.args.part.now in
    let fill = c.fill_rows-base.ensures.rows in
    let beside = past.values_of-value.ensures.1 in
    record {
      over = (λ e. overfull_by pre.framed fill.1 part pre.all pre.released beside
          (omega (arith, c.gap_of.ensures e, c.served-served.ensures.0, c.worth_of.ensures)));
      size = c.fill_rows-base.ensures.size;
    }
