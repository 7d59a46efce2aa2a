-- Validity of a plan as a computed test: `test_valid` and `valid_test` (proofs/ValidTest.antt) say that it is `Valid`.
use Rattle.std.specs.Prelude.{Bool, not, ◌&&◌, ◌||◌, ℕ, ◌+◌, ltb, leb, eqb}
use Rattle.counting.specs.Counting.{every, count}
use Rattle.schedule.specs.Plan.{Sheet, Plan, finish}

-- ---- one test a rule; module numbers below B are looked at

module _ (B : ℕ) (S : Sheet) (P : Plan) where
  abbrev pub inside : ℕ → Bool
  inside j = every B (λ m. not (P.uses j m) || ltb m S.modules)

  abbrev pub enough : ℕ → Bool
  enough j = eqb (count S.modules (P.uses j)) (S.need j)

  abbrev pub apart : ℕ → ℕ → Bool
  apart i j = leb (finish S P i + S.rest) (P.start j) || leb (finish S P j + S.rest) (P.start i)

  -- i and j are two jobs, and module m is in both sets
  abbrev pub shared : ℕ → ℕ → ℕ → Bool
  shared i j m = not (eqb i j) && P.uses i m && P.uses j m

  abbrev pub all_apart : ℕ → Bool
  all_apart i = every S.jobs (λ j. every B (λ m. not (shared i j m) || apart i j))

  abbrev pub after : ℕ → Bool
  after i = every S.jobs (λ j. not (S.before i j) || leb (finish S P i) (P.start j))

  abbrev pub arrived : ℕ → Bool
  arrived j = leb (S.arrival j) (P.start j)

  -- what is tested of one job
  abbrev pub all_of : ℕ → Bool
  all_of j = inside j && (enough j && (all_apart j && (after j && arrived j)))

-- the plan is valid
unfoldable pub is_valid : ℕ → Sheet → Plan → Bool
is_valid B S P = every S.jobs (all_of B S P)
