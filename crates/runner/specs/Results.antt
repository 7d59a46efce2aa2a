-- What the test of a runner gives, and what is known where a step goes on.
use Rattle.std.specs.Prelude.{◌≡◌, true, false, List, ℕ, Option, None, Some, Result, Ok, Err}
use Rattle.tables.specs.declared.Jobs.{Jobs}
use Rattle.sheet.specs.Read.{reading}
use Rattle.job_table.specs.Table.{TableOf}
use Rattle.desk.specs.declared.Desk.{Desk}
use Rattle.desk.specs.Checks.{not_of_desk}
use Rattle.runner.specs.declared.Runner.{Runner}
use Rattle.runner.specs.declared.Started.{Started}
use Rattle.runner.specs.Runner.{kept_sheet, kept_ok, no_runner}
use Rattle.checking.specs.declared.Refusal.{Refusal}
use Rattle.checking.specs.Refusals.{number_of}

-- the table of the sheet that the runner keeps, where what it keeps would start on some desk
abbrev pub KeptOf : Runner → Option Jobs → Type 0
KeptOf r None = kept_ok r ≡ false
KeptOf r (Some t) = (kept_ok r ≡ true) × TableOf (reading (kept_sheet r)) t

-- the started runner, or the refusal's number and the runner of zeros
abbrev pub started_by : Result Runner Refusal → Started
started_by (Ok r) = record { refusal = 0; runner = r }
started_by (Err e) = record { refusal = number_of e; runner = no_runner }

-- the desk and the controller pass 14, what the runner keeps passes its test, and t is the table of its sheet
pub record Stepping (d : Desk) (r : Runner) (t : Jobs) : Type 0 where
  pub desk : not_of_desk d r.controller ≡ false
  pub kept : kept_ok r ≡ true
  pub table : TableOf (reading (kept_sheet r)) t
