-- The marks that other marks imply.
use Rattle.std.specs.Prelude.{◌≡◌, ◌↔◌, Bool, true, false, not, ◌&&◌, List, ℕ, ◌<◌, eqb, get_or}
use Rattle.counting.specs.Counting.{any}
use Rattle.bits.specs.Bits.{set_of}
use Rattle.schedule.specs.Plan.{Sheet, MustPrecede, Circular}
use Rattle.marks.specs.Following.{follows}

-- "every earlier-job mark that another chain of marks already implies": i is an earlier job of j, and of some job that j follows
unfoldable pub implied : Sheet → ℕ → ℕ → Bool
implied S i j = S.before i j && any S.jobs (λ a. S.before i a && follows S a j)

-- "the listed marks as a set of the record's kind": those of job j
unfoldable pub implied_marks : Sheet → ℕ → ℕ
implied_marks S j = set_of S.jobs (λ i. implied S i j)

-- the list has, for each of the first n jobs, the set of its marks that others imply
abbrev pub ImpliedTo : Sheet → ℕ → List ℕ → Type 0
ImpliedTo S n of = (j : ℕ) → j < n → get_or of j 0 ≡ implied_marks S j

-- ---- what is proved of them

-- a mark is listed exactly where it is one, and a chain of two or more marks leads from its earlier job to its later one
abbrev pub ImpliedWhen : Type 0
ImpliedWhen = (S : Sheet) → ¬ Circular S → (i j : ℕ) → i < S.jobs → j < S.jobs
    → (implied S i j ≡ true) ↔ ((S.before i j ≡ true) × ((a : ℕ) × MustPrecede S i a × MustPrecede S a j))

-- the sheet without the marks that f lists
abbrev pub unmarked : Sheet → (ℕ → ℕ → Bool) → Sheet
unmarked S f = record {
  jobs = S.jobs;
  modules = S.modules;
  need = S.need;
  minutes = S.minutes;
  before = λ i j. S.before i j && not (f i j);
  arrival = S.arrival;
  rest = S.rest;
}

-- the mark from i to j alone
abbrev pub the_mark : ℕ → ℕ → ℕ → ℕ → Bool
the_mark i j a b = eqb a i && eqb b j

-- "Removing all marks listed leaves the same followers for every job,"
abbrev pub SameFollowers : Type 0
SameFollowers = (S : Sheet) → ¬ Circular S → (i j : ℕ) → MustPrecede (unmarked S (implied S)) i j ↔ MustPrecede S i j

-- "and no further mark could go": without a mark that is left, its later job would no longer follow its earlier one
abbrev pub NoFurther : Type 0
NoFurther = (S : Sheet) → ¬ Circular S → (i j : ℕ) → i < S.jobs → j < S.jobs → S.before i j ≡ true → implied S i j ≡ false
    → ¬ MustPrecede (unmarked (unmarked S (implied S)) (the_mark i j)) i j

-- the list is the only one: any marks whose removal leaves the same followers are among those listed
abbrev pub ListedAlone : Type 0
ListedAlone = (S : Sheet) → ¬ Circular S → (f : ℕ → ℕ → Bool)
    → ((i j : ℕ) → MustPrecede S i j → MustPrecede (unmarked S f) i j)
    → (i j : ℕ) → i < S.jobs → j < S.jobs → S.before i j ≡ true → f i j ≡ true → implied S i j ≡ true
