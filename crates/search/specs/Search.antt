-- What the search's figures stand for, and what it keeps true from call to call.
use Rattle.tables.specs.declared.Jobs.{Jobs}
use Rattle.tables.specs.declared.Prepared.{Prepared}
use Rattle.std.specs.Prelude.{◌≡◌, true, false, not, List, [], ◌∷◌, ◌++◌, ℕ, suc, ◌≤◌, ◌<◌, length, get_or, take, replicate}
use Rattle.counting.specs.Counting.{only}
use Rattle.bits.specs.Bits.{bit}
use Rattle.schedule.specs.Plan.{Sheet, finish}
use Rattle.schedule.specs.ListPlan.{Order, no_jobs, ready, Follows, start_of, part_of}
use Rattle.schedule.specs.TieRule as tie
use Rattle.schedule.specs.TieRule.{end_of}
use Rattle.schedule.specs.Beginnings.{Begins, Before, CannotBeat}
use Rattle.figures.specs.Figures.{most_jobs, no_minute}
use Rattle.tables.specs.Tables.{sheet_of, count_of, Fit}
use Rattle.tables.specs.declared.Part.{Part}
use Rattle.tables.specs.Part.{word_of}
use Rattle.candidates.specs.Candidates.{Known, theory_part, JobStart}
use Rattle.listing.specs.declared.Found.{Found}
use Rattle.listing.specs.Listing.{OrderOf}
use Rattle.preparing.specs.Preparing.{Tabled}
use Rattle.fitting.specs.Fitting.{slate_size}
use Rattle.search.specs.declared.Within.{Within}
use Rattle.memory.specs.Entries.{Entry, entries, entry_at, last_at, end_at}

-- ---- working memory

-- the entry is that of the part-plan of v
pub record StandsFor (S : Sheet) (e : Entry) (v : List ℕ) : Type 0 where
  pub follows : Follows S no_jobs v
  pub set : (i : ℕ) → i < S.jobs → bit e.set i ≡ not ((part_of S v).placed i)
  pub last : last_at e.figures ≡ (part_of S v).last
  pub ends : (i : ℕ) → i < S.jobs → end_at e.figures i ≡ only ((part_of S v).placed i) (finish S (part_of S v).plan i)

-- each entry with a set is that of a part-plan which cannot beat e
unfoldable pub Remembered : Sheet → List ℕ → ℕ → Type 0
Remembered S m e = (k : ℕ) → k < entries m → 0 < (entry_at m k).set
    → (v : List ℕ) × StandsFor S (entry_at m k) v × CannotBeat S e v

-- ---- the limit

-- How many part-plans may still be visited: 0 where the search has given up, no_limit where it never does.
abbrev pub no_limit : ℕ
no_limit = 18446744073709551615

-- where there was no limit, there is none
abbrev pub Unlimited : ℕ → ℕ → Type 0
Unlimited before after = before ≡ no_limit → after ≡ no_limit

-- ---- orders that end by a target

-- no order that begins with v ends by the target
abbrev pub Fails : Sheet → ℕ → List ℕ → Type 0
Fails S target v = CannotBeat S (suc target) v

-- an order that begins with v and ends by the target
pub record Reaches (S : Sheet) (target : ℕ) (v : List ℕ) (r : Found) : Type 0 where
  pub order : Order S (take S.jobs r.order)
  pub begins : Begins v (take S.jobs r.order)
  pub end : end_of S (take S.jobs r.order) ≡ r.end
  pub within : r.end ≤ target

-- such an order, or none; where the search gave up, perhaps one
pub record Outcome (S : Sheet) (target : ℕ) (v : List ℕ) (r : Found) (left : ℕ) : Type 0 where
  pub size : length r.order ≡ most_jobs
  pub hit : r.hit ≡ true → Reaches S target v r
  pub miss : r.hit ≡ false → ¬ (left ≡ 0) → Fails S target v

abbrev pub none_found : Found
none_found = record { hit = false; end = no_minute; order = replicate most_jobs 0 }

-- ---- what the search keeps true from call to call

-- job x was settled behind u, where i was chosen
pub record SettledAt (S : Sheet) (target : ℕ) (u : List ℕ) (i x : ℕ) : Type 0 where
  pub may_come : ready S (part_of S u).placed x ≡ true
  pub soon : start_of S (part_of S u) x ≤ start_of S (part_of S u) i
  pub fails : Fails S target (u ++ (x ∷ []))

-- job x was settled behind u, where i was chosen, which starts at the last start
abbrev pub SameStart : Sheet → ℕ → List ℕ → ℕ → Type 0
SameStart S target v x = (u : List ℕ) × (i : ℕ) × (q : List ℕ) × (v ≡ u ++ (i ∷ q))
    × (((part_of S v).plan.start i ≡ (part_of S v).last) × SettledAt S target u i x)

-- by each job of v, those that were settled when it was chosen; `same` has those of the jobs that start at the last start
pub record SettledSo (S : Sheet) (target : ℕ) (v settled : List ℕ) (same : ℕ) : Type 0 where
  pub size : length settled ≡ most_jobs
  pub each : (u : List ℕ) (i : ℕ) (q : List ℕ) (x : ℕ) → v ≡ u ++ (i ∷ q) → x < S.jobs → bit (get_or settled i 0) x ≡ true
      → SettledAt S target u i x
  pub same_start : (x : ℕ) → x < S.jobs → bit same x ≡ true → SameStart S target v x

-- an order that ends by the target is looked for from the part-plan p on
pub record Going (t : Jobs) (prepared : Prepared) (p : Part) (target : ℕ) (memory : List ℕ) : Type 0 where
  pub low : target < no_minute
  pub known : Known t p
  pub tabled : Tabled t prepared
  pub remembered : Remembered (sheet_of t) memory (suc target)

-- the same, where jobs were settled
pub record Searching (t : Jobs) (prepared : Prepared) (p : Part) (target : ℕ) (memory settled slate : List ℕ) (same : ℕ) : Type 0 where
  pub going : Going t prepared p target memory
  pub slated : length slate ≡ slate_size
  pub settled_so : SettledSo (sheet_of t) target (word_of p) settled same

-- each job of this set may come next, starts no later than `start`, and leads to no order that ends by the target
abbrev pub TriedSo : Jobs → Part → ℕ → ℕ → ℕ → Type 0
TriedSo t p target tried start = (x : ℕ) → x < count_of t → bit tried x ≡ true
    → (ready (sheet_of t) (theory_part t p).placed x ≡ true)
    × ((start_of (sheet_of t) (theory_part t p) x ≤ start) × Fails (sheet_of t) target (word_of p ++ (x ∷ [])))

-- job `job`, which starts at `start`, is the next to be tried, and these jobs were tried before
pub record Choosing (t : Jobs) (p : Part) (target tried job start : ℕ) : Type 0 where
  pub inside : job < count_of t
  pub starts : JobStart t p job start
  pub may_come : start < no_minute
  pub before : TriedSo t p target tried start

-- ---- the whole search

-- the same order, where none ends earlier
abbrev pub kept_as : Found → Found
kept_as best = record { hit = false; end = best.end; order = best.order }

-- the tables, an order, and what is remembered of orders that end earlier
pub record Lowering (t : Jobs) (prepared : Prepared) (best : Found) (memory : List ℕ) : Type 0 where
  pub fit : Fit t
  pub tabled : Tabled t prepared
  pub best_is : OrderOf (sheet_of t) best
  pub remembered : Remembered (sheet_of t) memory best.end

-- an order that ends earlier, or the same end, before which no order ends unless the search gave up
pub record Lowered (S : Sheet) (best r : Found) (left : ℕ) : Type 0 where
  pub is : OrderOf S r
  pub hit : r.hit ≡ true → r.end < best.end
  pub miss : r.hit ≡ false → (r.end ≡ best.end) × (¬ (left ≡ 0) → (o : List ℕ) → Order S o → r.end ≤ end_of S o)

-- an order, and no order ends earlier
pub record Lowest (S : Sheet) (r : Found) : Type 0 where
  pub is : OrderOf S r
  pub least : (o : List ℕ) → Order S o → r.end ≤ end_of S o

-- the same, unless the search gave up
pub record LowestIf (S : Sheet) (r : Found) (left : ℕ) : Type 0 where
  pub is : OrderOf S r
  pub least : ¬ (left ≡ 0) → (o : List ℕ) → Order S o → r.end ≤ end_of S o

-- an order that ends first and begins with the jobs w, before which nothing ends as early
pub record Placing (S : Sheet) (w : List ℕ) (r : Found) : Type 0 where
  pub lowest : Lowest S r
  pub begins : Begins w (take S.jobs r.order)
  pub before : (o : List ℕ) → Order S o → Before w o → r.end < end_of S o

-- the tie rule's order and its end
pub record TieRuled (S : Sheet) (r : Found) : Type 0 where
  pub best : tie.Best S (take S.jobs r.order)
  pub end : r.end ≡ end_of S (take S.jobs r.order)

-- ---- within a limit

-- no order ends before e
abbrev pub NoneBefore : Sheet → ℕ → Type 0
NoneBefore S e = (o : List ℕ) → Order S o → e ≤ end_of S o

-- an order with its end and a minute before which none ends; where it is said to be exact, the tie rule's
pub record WithinLimit (S : Sheet) (r : Within) : Type 0 where
  pub size : length r.order ≡ most_jobs
  pub order : Order S (take S.jobs r.order)
  pub end : end_of S (take S.jobs r.order) ≡ r.end
  pub bound : NoneBefore S r.bound
  pub exact : r.exact ≡ true → tie.Best S (take S.jobs r.order)
