-- `sheet_list::gather` meets its contract: the first i records stand in their places.
use Rattle.std.proofs.Common.{ℕ, ◌≡◌, ap, ◌∙◌, arith, List}
use lib.ListN.{set}
use Rattle.counting.specs.Counting.{joined}
use Rattle.sheet_format.specs.declared.Job.{Job}
use Rattle.sheet_format.specs.Format.{jobs_in, places, no_jobs}
use Rattle.sheet_format.proofs.Lists.{place_more}
use Rattle.sheet_list.proofs.gather.Goals as goal

pub loop-i-init : goal.loop-i-init
unfolding places joined no_jobs
loop-i-init c = c.no_jobs-list.ensures

pub loop-i-preserved : goal.loop-i-preserved
loop-i-preserved c =
    let i = c.loop-i.i in
    let jobs = jobs_in c.args.jobs.now in
    ap (λ (l : List Job). set l i (jobs i)) c.loop-i.invariant ∙ place_more i jobs (omega (arith, c.at_most-count.ensures))

pub returns : goal.returns
returns c =
    let e : c.loop-i.i ≡ c.at_most-count.result = omega arith in
    c.loop-i.invariant ∙ ap (λ (n : ℕ). places n (jobs_in c.args.jobs.now)) (e ∙ c.at_most-count.ensures)
