-- The test of a card: true exactly where the card is one for the sheet (`card_fits_when`).
use Rattle.std.specs.Prelude.{Bool, not, ◌&&◌, ◌||◌, List, ◌≡◌, ℕ, zero, suc, ◌+◌, ◌*◌, ◌^◌, ltb, leb, eqb, length}
use Rattle.std.specs.Int.Bits.{bit_and}
use Rattle.std.specs.Int.Count.{ones}
use Rattle.counting.specs.Counting.{every, count}
use Rattle.words.specs.Words.{number_at}
use Rattle.schedule.specs.Plan.{Sheet, finish, plan_end}
use Rattle.tables.specs.declared.Jobs.{Jobs}
use Rattle.tables.specs.Tables.{count_of, Fit}
use Rattle.card.specs.Card.{row_size, row_end, row_modules, trailer_end, trailer_count, order_at, trailer_at, card_size}
use Rattle.card.specs.Decoding.{plan_on}
use Rattle.card_check.specs.CardFor.{job_at}

-- job j's start, end and module set
abbrev pub start_on : List ℕ → ℕ → ℕ
start_on card j = number_at card (row_size * j) 2

abbrev pub end_on : List ℕ → ℕ → ℕ
end_on card j = number_at card (row_size * j + row_end) 2

abbrev pub modules_on : List ℕ → ℕ → ℕ
modules_on card j = number_at card (row_size * j + row_modules) 8

-- job j starts when job i has ended and its modules have rested
abbrev pub clears : Sheet → List ℕ → ℕ → ℕ → Bool
clears S card i j = leb (finish S (plan_on card) i + S.rest) (start_on card j)

-- jobs i and j have no module in common, or one clears the other
abbrev pub apart : Sheet → List ℕ → ℕ → ℕ → Bool
apart S card i j =
    eqb i j || (eqb (bit_and (modules_on card i) (modules_on card j)) 0 || (clears S card i j || clears S card j i))

-- job j starts no earlier than the end of job i, if that is one of its earlier jobs
abbrev pub follows : Sheet → List ℕ → ℕ → ℕ → Bool
follows S card i j = not (S.before i j) || leb (finish S (plan_on card) i) (start_on card j)

abbrev pub pair_fits : Sheet → List ℕ → ℕ → ℕ → Bool
pair_fits S card j i = apart S card i j && follows S card i j

-- job j's row alone
unfoldable pub figures_fit : Sheet → List ℕ → ℕ → Bool
figures_fit S card j =
    eqb (end_on card j) (finish S (plan_on card) j)
    && (leb (S.arrival j) (start_on card j)
    && (ltb (modules_on card j) (2 ^ S.modules) && eqb (ones (modules_on card j)) (S.need j)))

abbrev pub row_fits : Sheet → List ℕ → ℕ → Bool
row_fits S card j = figures_fit S card j && every S.jobs (pair_fits S card j)

-- the order names job j once
abbrev pub named_once : Sheet → List ℕ → ℕ → Bool
named_once S card j = eqb (count S.jobs (λ k. eqb (job_at S card k) j)) 1

-- the start of the job before place k of the order, 0 before the first
abbrev pub start_before : Sheet → List ℕ → ℕ → ℕ
start_before S card zero = 0
start_before S card (suc k) = start_on card (job_at S card k)

-- place k names a job that starts no earlier than the one before
abbrev pub rises : Sheet → List ℕ → ℕ → Bool
rises S card k = ltb (job_at S card k) S.jobs && leb (start_before S card k) (start_on card (job_at S card k))

unfoldable pub order_fits : Sheet → List ℕ → Bool
order_fits S card = every S.jobs (named_once S card) && every S.jobs (rises S card)

unfoldable pub trailer_fits : Sheet → List ℕ → Bool
trailer_fits S card =
    eqb (number_at card (trailer_at S.jobs) 4) (order_at S.jobs)
    && (eqb (number_at card (trailer_at S.jobs + trailer_end) 2) (plan_end S (plan_on card))
    && eqb (number_at card (trailer_at S.jobs + trailer_count) 2) S.jobs)

unfoldable pub card_fits : Sheet → List ℕ → Bool
card_fits S card =
    eqb (length card) (card_size S.jobs) && (every S.jobs (row_fits S card) && (order_fits S card && trailer_fits S card))

-- the table of a sheet, and bytes as long as its card
pub record Sized (t : Jobs) (card : List ℕ) : Type 0 where
  pub fit : Fit t
  pub size : length card ≡ card_size (count_of t)
