-- `records::no_jobs` meets its contract.
use mathlib.Core.Path.{◌≡◌, ap}
use Prim.Native.Nat.{ℕ}
use lib.ListN.{replicate}
use Rattle.sheet_format.specs.declared.Job.{Job}
use Rattle.sheet_format.specs.Figures.{most_jobs}
use Rattle.sheet_format.specs.Format.{no_job, no_jobs}
use Rattle.records.proofs.no_jobs.Goals as goal

-- a job whose every figure is 0
empty : (a b c d e f : ℕ) → (a ≡ 0) × ((b ≡ 0) × ((c ≡ 0) × ((d ≡ 0) × ((e ≡ 0) × (f ≡ 0)))))
    → record { label_len = a; modules = b; minutes = c; earlier = d; departure = e; arrival = f } ≡ no_job
empty a b c d e f z = cc

pub returns : goal.returns
unfolding no_jobs
returns c =
    let j = c.default.result in
    ap (λ (j : Job). replicate most_jobs j) (empty j.label_len j.modules j.minutes j.earlier j.departure j.arrival c.default.ensures)
