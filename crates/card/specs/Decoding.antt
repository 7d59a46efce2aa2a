-- How a plan is read back from a card.
use Rattle.std.specs.Prelude.{◌≡◌, List, ℕ, ◌+◌, ◌*◌, ◌<◌, get_or}
use Rattle.words.specs.Words.{number_at}
use Rattle.bits.specs.Bits.{bit, set_of}
use Rattle.schedule.specs.Plan.{Sheet, Plan, finish}
use Rattle.schedule.specs.ListPlan.{list_plan}
use Rattle.schedule.specs.TieRule.{end_of}
use Rattle.card.specs.Card.{row_size, row_end, row_modules, trailer_end, trailer_count, order_at, trailer_at}

-- the plan that the rows show: "start (2 bytes), … module set (8, bit m for module m)"
abbrev pub plan_on : List ℕ → Plan
plan_on s = record {
  start = λ j. number_at s (row_size * j) 2;
  uses = λ j m. bit (number_at s (row_size * j + row_modules) 8) m;
}

-- the bytes s begin with a card from which the list plan of the order o can be read back
pub record Decodes (S : Sheet) (o s : List ℕ) : Type 0 where
  pub start : (j : ℕ) → j < S.jobs → number_at s (row_size * j) 2 ≡ (list_plan S o).start j
  pub end : (j : ℕ) → j < S.jobs → number_at s (row_size * j + row_end) 2 ≡ finish S (list_plan S o) j
  pub modules : (j : ℕ) → j < S.jobs → number_at s (row_size * j + row_modules) 8 ≡ set_of S.modules ((list_plan S o).uses j)
  pub order : (k : ℕ) → k < S.jobs → get_or s (order_at S.jobs + k) 0 ≡ get_or o k 0
  pub offset : number_at s (trailer_at S.jobs) 4 ≡ order_at S.jobs
  pub last : number_at s (trailer_at S.jobs + trailer_end) 2 ≡ end_of S o
  pub count : number_at s (trailer_at S.jobs + trailer_count) 2 ≡ S.jobs
