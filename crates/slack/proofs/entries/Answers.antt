-- `slack::entries` meets its contract.
use mathlib.Core.Path.{◌≡◌, ap, ◌∙◌}
use mathlib.Core.List.{List}
use Prim.Native.Nat.{ℕ, ◌<◌}
use native.Mathlib.Omega.{arith}
use lib.ListN.{set}
use Rattle.figures.specs.Figures.{most_jobs}
use Rattle.slack.specs.declared.JobSlack.{JobSlack}
use Rattle.slack.specs.declared.Slacks.{Slacks}
use Rattle.slack.specs.Slack.{slack_places}
use Rattle.slack.proofs.Places.{places-none, places_more}
use Rattle.slack.proofs.entries.Invariants.{entry_at}
use Rattle.slack.proofs.entries.Goals as goal

pub loop-j-init : goal.loop-j-init
loop-j-init c =
    let a = c.args in
    let none = c.no_slacks-answer.ensures in ap (λ (r : Slacks). record { refusal = r.refusal; jobs = r.jobs; count = a.count }) none
    ∙ ap (λ (xs : List JobSlack). record { refusal = 0; jobs = xs; count = a.count })
    (places-none (entry_at a.latest.now a.starts.now a.implied.now))

pub entry-requires : goal.entry-requires
entry-requires c =
    c.requires.1 c.loop-j.j c.loop-j-test.true

pub loop-j-preserved : goal.loop-j-preserved
loop-j-preserved c =
    let loop = c.loop-j in
    let a = c.args in
    let at = entry_at a.latest.now a.starts.now a.implied.now in
    let low : loop.j < most_jobs = omega (arith, c.requires.0, c.loop-j-test.true) in (λ i. record { refusal = (loop.invariant i).refusal; jobs = set (loop.invariant i).jobs loop.j (c.entry.ensures i); count = (loop.invariant i).count })
    ∙ ap (λ (xs : List JobSlack). record { refusal = 0; jobs = xs; count = a.count }) (places_more at loop.j low)

pub returns : goal.returns
returns c =
    let loop = c.loop-j in
    let a = c.args in
    let e : loop.j ≡ a.count = omega (arith, c.loop-j-test.false) in
    loop.invariant
    ∙ ap (λ (n : ℕ). record { refusal = 0; jobs = slack_places n (entry_at a.latest.now a.starts.now a.implied.now); count = a.count }) e
