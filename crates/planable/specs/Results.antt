-- What the planning calls begin with.
use Rattle.std.specs.Prelude.{◌≡◌, List, ℕ, Result, IfOk}
use Rattle.checking.specs.Refusals.{refusal_number}
use Rattle.checking.specs.declared.Refusal.{Refusal}
use Rattle.sheet.specs.Read.{read_refusal, reading}
use Rattle.tables.specs.declared.Jobs.{Jobs}
use Rattle.job_table.specs.Table.{TableOf}
use Rattle.planable.specs.Planable.{planable_refusal}

-- r is the first refusal of 1 to 7 and 19 of the bytes s, or else the sheet's job table
pub record ReadOf (s : List ℕ) (r : Result Jobs Refusal) : Type 0 where
  pub refusal : refusal_number r ≡ read_refusal s
  pub table : IfOk r (λ t. TableOf (reading s) t)

-- r is the first refusal of 1 to 9 and 19 of the bytes s, or else the sheet's job table
pub record CheckedOf (s : List ℕ) (r : Result Jobs Refusal) : Type 0 where
  pub refusal : refusal_number r ≡ planable_refusal s
  pub table : IfOk r (λ t. TableOf (reading s) t)
