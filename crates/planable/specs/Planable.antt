-- The checks that the planning calls share: C-1 to C-9 and C-19.
use Rattle.std.specs.Prelude.{Bool, true, false, cond, List, [], ◌∷◌, ◌++◌, ℕ, eqb, length, replicate}
use Rattle.std.proofs.Math.Option.{none, some}
use Rattle.bits.specs.Bits.{bit}
use Rattle.schedule.specs.Plan.{Sheet, over_wide}
use Rattle.schedule.specs.TieRule.{best_order}
use Rattle.sheet_format.specs.Format.{jobs_in}
use Rattle.checking.specs.Checking.{Check, first_failing}
use Rattle.sheet.specs.declared.Reading.{Reading}
use Rattle.sheet.specs.Read.{read_checks, reading}

-- what the theory of plans reads of a job sheet: nothing of labels and departures
abbrev pub sheet_on : Reading → Sheet
sheet_on r = record {
  jobs = r.count;
  modules = r.modules;
  need = λ j. (jobs_in r.jobs j).modules;
  minutes = λ j. (jobs_in r.jobs j).minutes;
  before = λ i j. bit (jobs_in r.jobs j).earlier i;
  arrival = λ j. (jobs_in r.jobs j).arrival;
  rest = r.changeover;
}

-- the sheet that the bytes read as
abbrev pub sheet_in : List ℕ → Sheet
sheet_in s = sheet_on (reading s)

-- 9: "Some job would have to end before itself, directly or through others": `circular_when` says that it is where no order is left.
unfoldable pub no_order : Sheet → Bool
no_order S = elim (best_order S) [ none ↦ true | some o ↦ false ]

-- 8 and 9
abbrev pub order_checks : Sheet → List Check
order_checks S = (8, over_wide S) ∷ (9, no_order S) ∷ []

unfoldable pub order_refusal : Sheet → ℕ
order_refusal S = first_failing (order_checks S)

-- 1 to 9, with 19 behind 3
abbrev pub planable_checks : List ℕ → List Check
planable_checks s = read_checks s ++ order_checks (sheet_in s)

unfoldable pub planable_refusal : List ℕ → ℕ
planable_refusal s = first_failing (planable_checks s)

-- Working memory behind a call with this refusal. "An answered call leaves that memory all zero"; refused: as before.
unfoldable pub work_after : ℕ → List ℕ → List ℕ
work_after refusal work = cond (eqb refusal 0) (replicate (length work) 0) work
