-- F-11: what a card for a sheet must be, in the request's words, "since cards come from older cabinets".
use Rattle.std.specs.Prelude.{◌≡◌, List, ℕ, suc, ◌+◌, ◌*◌, ◌≤◌, ◌<◌, eqb, length, get_or}
use Rattle.counting.specs.Counting.{count}
use Rattle.words.specs.Words.{number_at}
use Rattle.schedule.specs.Plan.{Sheet, Valid, finish, plan_end}
use Rattle.card.specs.Card.{row_size, row_end, trailer_end, trailer_count, order_at, trailer_at, card_size}
use Rattle.card.specs.Decoding.{plan_on}

-- the k-th job that the order names
abbrev pub job_at : Sheet → List ℕ → ℕ → ℕ
job_at S card k = get_or card (order_at S.jobs + k) 0

pub record CardFor (S : Sheet) (card : List ℕ) : Type 0 where
  -- "exactly 13n + 8 bytes"
  pub size : length card ≡ card_size S.jobs
  -- "rows that form a valid plan of this sheet": each row's end is its start plus the job's minutes, and the plan is valid
  pub ends : (j : ℕ) → j < S.jobs → number_at card (row_size * j + row_end) 2 ≡ finish S (plan_on card) j
  pub valid : Valid S (plan_on card)
  -- "an order that names each job once with starts never falling"
  pub once : (j : ℕ) → j < S.jobs → count S.jobs (λ k. eqb (job_at S card k) j) ≡ 1
  pub rising : (k : ℕ) → suc k < S.jobs → (plan_on card).start (job_at S card k) ≤ (plan_on card).start (job_at S card (suc k))
  -- "a trailer with offset 12n, the largest end and n"
  pub offset : number_at card (trailer_at S.jobs) 4 ≡ order_at S.jobs
  pub last : number_at card (trailer_at S.jobs + trailer_end) 2 ≡ plan_end S (plan_on card)
  pub count : number_at card (trailer_at S.jobs + trailer_count) 2 ≡ S.jobs
