-- `sheet::refused` meets its contract.
use mathlib.Core.Path.{ap}
use mathlib.Core.List.{List}
use Rattle.sheet_format.specs.declared.Job.{Job}
use Rattle.sheet.proofs.refused.Goals as goal

pub returns : goal.returns
returns c =
    let k = c.args.refusal in
    ap (λ (js : List Job). record { refusal = k; jobs = js; count = 0; modules = 0; changeover = 0 }) c.no_jobs-jobs.ensures
