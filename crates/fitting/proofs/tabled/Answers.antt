-- `fitting::tabled` meets its contract.
use native.Mathlib.Omega.{arith}
use Rattle.fitting.proofs.Answers.{tabling, overfull_alike}
use Rattle.fitting.proofs.tabled.Goals as goal

pub shown-requires : goal.shown-requires
shown-requires c =
    let past = c in
    let start = past in
    let pre = start.requires in
    let frame = c.frame_of-frame.ensures in
    let ordered = rw (past.count.ensures) at past.ordered-left.ensures in
    let releases = past.releases_of-release.ensures in (
      tabling _ start.args.at.now pre.0.0.0 releases frame.1.0 frame.0.0 frame.0.1 ordered.0 ordered.1 pre.1.0
          pre.1.1,
      pre.0.0.1,
    )

pub returns : goal.returns
returns c =
    let past = c in
    let far = past in
    let pre = far.requires in
    let frame = c.frame_of-frame.ensures in
    let shown = c.shown.ensures in
    let over = rw (frame.1.0, frame.1.1) at shown.over in
    record { over = (λ e. overfull_alike (λ k l. far.releases_of-release.ensures.each k (omega (arith, pre.0.0.0.few))) (over e)); size = shown.size }
