-- What the code keeps: latest starts counted from a minute so long before minute 0 that none falls below it.
use Rattle.std.specs.Prelude.{◌≡◌, Bool, cond, List, ℕ, zero, suc, ◌+◌, ◌-◌, ◌*◌, ◌≤◌, ◌<◌, min, pos, ◌-ℤ◌, get_or}
use Rattle.figures.specs.Figures.{most_jobs, most_minutes}
use Rattle.sheet_format.specs.Figures.{last_departure}
use Rattle.bits.specs.Bits.{bit}
use Rattle.tables.specs.declared.Jobs.{Jobs}
use Rattle.tables.specs.Tables.{minutes_at, earlier_at, count_of, sheet_of}
use Rattle.latest.specs.Latest.{latest_start_of}

-- minute 0 in this count: a chain of all jobs and one more takes no longer
abbrev pub minute_zero : ℕ
minute_zero = (most_jobs + 1) * most_minutes

-- the departure of job j in a list
abbrev pub departure_at : List ℕ → ℕ → ℕ
departure_at departures j = get_or departures j 0

-- the latest start of job j by its own departure
abbrev pub own_start : Jobs → List ℕ → ℕ → ℕ
own_start t departures j = minute_zero + departure_at departures j - minutes_at t j

-- the least of x and the values, below n, of the numbers that pass the test
unfoldable pub least_from : ℕ → (ℕ → Bool) → (ℕ → ℕ) → ℕ → ℕ
least_from zero p f x = x
least_from (suc n) p f x = cond (p n) (min (least_from n p f x) (f n)) (least_from n p f x)

-- the latest start of job j by its own departure, and by the starts of the jobs below n that wait for it
abbrev pub start_by : Jobs → List ℕ → List ℕ → ℕ → ℕ → ℕ
start_by t departures starts n j =
    least_from n (λ i. bit (earlier_at t i) j) (λ i. get_or starts i 0 - minutes_at t j) (own_start t departures j)

-- the departures of the jobs fit into the count
abbrev pub Departing : Jobs → List ℕ → Type 0
Departing t departures = (j : ℕ) → j < count_of t → departure_at departures j ≤ last_departure

-- no job's start is so early that its minutes could not be taken from it
abbrev pub Ample : Jobs → List ℕ → Type 0
Ample t starts = (j : ℕ) → j < count_of t → most_minutes ≤ get_or starts j 0

-- the starts of one more round
abbrev pub NextStarts : Jobs → List ℕ → List ℕ → ℕ → List ℕ → Type 0
NextStarts t departures starts n r = (j : ℕ) → j < n → get_or r j 0 ≡ start_by t departures starts (count_of t) j

-- the starts by the jobs' own departures
abbrev pub OwnStarts : Jobs → List ℕ → ℕ → List ℕ → Type 0
OwnStarts t departures n r = (j : ℕ) → j < n → get_or r j 0 ≡ own_start t departures j

-- the latest starts
abbrev pub LatestStarts : Jobs → List ℕ → List ℕ → Type 0
LatestStarts t departures r =
    (j : ℕ) → j < count_of t → (pos (get_or r j 0) -ℤ pos minute_zero) ≡ latest_start_of (sheet_of t) (departure_at departures) j
