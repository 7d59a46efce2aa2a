-- List plans: what a choice or a given order leads to, and what a move keeps.
use mathlib.Core.Path.{◌≡◌, sym, ap, ◌∙◌, subst}
use mathlib.Core.Logic.{◌⊎◌, inl, inr}
use mathlib.Core.Bool.{true, false, not}
use mathlib.Core.List.{List}
use Prim.Native.Nat.{ℕ, ◌+◌, ◌%◌, ◌≤◌, ◌<◌}
use native.Mathlib.Omega.{arith}
use lib.Count.{ones}
use lib.ListN.{length, get_or, take, set, replicate, length-set, length-replicate}
use lib.Seq.{get_or-set_same, get_or-set_other, get_or-take, length-take-le, ext_get_or}
use borrow.Author.Tests.{not-true}
use Rattle.figures.specs.Figures.{last_end}
use Rattle.counting.specs.Counting.{only, largest}
use Rattle.counting.proofs.Tests.{true-or-false, less-or-not}
use Rattle.counting.proofs.Ranges.{largest-le, largest_same, find}
use Rattle.counting.proofs.Counts.{count_none, count-not}
use Rattle.schedule.specs.Plan.{Sheet, Circular, finish}
use Rattle.schedule.specs.ListPlan.{Order, PartPlan, ready}
use Rattle.schedule.specs.TieRule.{end_of}
use Rattle.schedule.proofs.Starts.{ready_says}
use Rattle.schedule.proofs.Existence.{stuck_circular}
use Rattle.schedule.proofs.Prefixes.{part_count}
use Rattle.tables.specs.declared.Jobs.{Jobs}
use Rattle.tables.specs.Tables.{sheet_of, count_of, Fit}
use Rattle.tables.specs.declared.Part.{Part}
use Rattle.tables.specs.Part.{word_of}
use Rattle.placement.specs.Part.{FirstPart, Placeable, Placed}
use Rattle.placement.proofs.Parts.{left-count, start_short, end_short, all_placed}
use Rattle.candidates.specs.declared.Choice.{Choice}
use Rattle.candidates.specs.Candidates.{Known, theory_part, JobStart, JobStarts, ChoiceOf}
use Rattle.candidates.proofs.Children.{first_known, word_at, word_within, start_low, child_placeable, child_known}
use Rattle.listing.specs.declared.Found.{Found}
use Rattle.listing.specs.Listing.{BytesOf, Finished, OrderOf, NextJob, OneMore, Tried, Improved}

-- ---- an order in bytes

pub bytes-none : (order : List ℕ) → BytesOf order 0 (replicate 20 0)
bytes-none order = record { size = length-replicate {A = ℕ} 20 0; each = λ k l. absurd (omega arith) }

pub bytes_more : {order r : List ℕ} {n : ℕ} → BytesOf order n r → n < 20 → BytesOf order (n + 1) (set r n (get_or order n 0 % 256))
bytes_more {order} {r} {n} h few = record { size = length-set r n v ∙ h.size; each = λ k l. go k l (less-or-not k n) }
  where
    v : ℕ
    v = get_or order n 0 % 256

    go : (k : ℕ) → k < n + 1 → (k < n) ⊎ (n ≤ k) → get_or (set r n v) k 0 ≡ get_or order k 0 % 256
    go k l (inl m) = get_or-set_other r n k v 0 (λ e. absurd (omega arith)) ∙ h.each k m
    go k l (inr m) = let e : k ≡ n = omega arith in rw e (get_or-set_same r n v 0 (omega (arith, h.size)))

-- bytes of more numbers are bytes of fewer
pub bytes_fewer : {order r : List ℕ} {n m : ℕ} → BytesOf order n r → m ≤ n → BytesOf order m r
bytes_fewer h few = record { size = h.size; each = λ k l. h.each k (omega arith) }

module _ {t : Jobs} {part : Part} (known : Known t part) where
  abbrev S : Sheet
  S = sheet_of t

  abbrev jobs : ℕ
  jobs = count_of t

  abbrev w : List ℕ
  w = word_of part

  abbrev P : PartPlan
  P = theory_part t part

  size : length w + ones part.unplaced ≡ jobs
  size = left-count t known.fit part w known.is

  -- ---- every job is placed

  module _ (all : part.placed ≡ jobs) where
    z : ones part.unplaced ≡ 0
    z = omega (arith, known.is.figures.sizes)

    pub whole : Order S w
    whole = record { all = omega (arith, size); follows = known.is.follows }

    placed : (i : ℕ) → i < jobs → P.placed i ≡ true
    placed = all_placed t known.fit part w known.is z

    pub end_is : largest jobs (λ i. get_or part.ends i 0) ≡ end_of S w
    end_is = largest_same jobs _ _ (λ i l. known.is.figures.ends i l ∙ ap (λ b. only b (finish S P.plan i)) (placed i l))

    pub word_is : (r : List ℕ) → BytesOf part.order jobs r → take jobs r ≡ w
    word_is r h =
        let long = length-take-le jobs r (omega (arith, h.size, known.fit.few)) in
        ext_get_or 0 (take jobs r) w (omega (arith, size)) (λ k l. same k (omega arith))
      where
        same : (k : ℕ) → k < jobs → get_or (take jobs r) k 0 ≡ get_or w k 0
        same k l =
            let in_word : k < part.placed = omega (arith, known.is.figures.sizes) in
            let small = word_within known k in_word in
            get_or-take jobs r k 0 l ∙ omega (arith, h.each k l, word_at known k in_word, known.fit.few)

    short : largest jobs (λ i. get_or part.ends i 0) ≤ last_end
    short = largest-le jobs (λ i. get_or part.ends i 0) last_end (λ i l.
        let q = known.is.figures.ends i l in
        let r : get_or part.ends i 0 ≡ finish S P.plan i = rw (placed i l) at q in
        omega (arith, end_short t known.fit part w known.is i l (placed i l)))

    -- the order of a part-plan that has placed every job
    pub finished_order : {target : ℕ} {r : Found} → Finished part jobs target r → OrderOf S r
    finished_order {r = r} h =
        let bytes = bytes_fewer h.order known.fit.few in
        record {
          size = h.order.size;
          order = subst (Order S) (sym (word_is r.order bytes)) whole;
          end = ap (end_of S) (word_is r.order bytes) ∙ sym end_is ∙ sym h.end;
          low = omega (arith, short, h.end);
        }

  -- ---- no job may come next, and some is left

  list_stuck : (at : List ℕ) (least : ℕ) (c : Choice) → JobStarts t part at least
      → ChoiceOf at part.unplaced jobs c → c.start ≡ 65535 → 0 < ones part.unplaced → Circular S
  list_stuck at least c starts h e pos = go (find jobs (λ i. not (P.placed i)))
    where
      stuck : (j : ℕ) → j < jobs → ready S P.placed j ≡ false
      stuck j l = one (true-or-false (ready S P.placed j))
        where
          one : (ready S P.placed j ≡ true) ⊎ (ready S P.placed j ≡ false) → ready S P.placed j ≡ false
          one (inr r) = r
          one (inl r) =
              let short = start_short t known.fit part w known.is j r in
              let b = known.is.figures.set j l ∙ ap not (ready_says S P.placed j r).new in
              absurd (omega (arith, h.first j l b, (starts.each j l).here r))

      go : ((i : ℕ) × (i < jobs) × (not (P.placed i) ≡ true)) ⊎ ((i : ℕ) → i < jobs → not (P.placed i) ≡ false) → Circular S
      go (inl (i, l, q)) = stuck_circular S P.placed stuck i l (not-true (P.placed i) q)
      go (inr full) =
          let none = count_none jobs (λ i. not (P.placed i)) full in
          absurd (omega (arith, size, count-not jobs P.placed, part_count S w known.is.follows))

  -- ---- a job that may come next

  -- the choice, where no job must end before itself
  pub chosen_next : {at : List ℕ} {least : ℕ} {c : Choice} → ¬ Circular S → part.placed < jobs → JobStarts t part at least
      → ChoiceOf at part.unplaced jobs c → NextJob t part c.job c.start
  chosen_next {at} {least} {c} free some starts h =
      let is = h.some low in
      record {
        job = is.0;
        start = subst (λ (s : ℕ). JobStart t part c.job s) is.1.1 (starts.each c.job is.0);
        low = low;
      }
    where
      low : c.start < 65535
      low = go (less-or-not c.start 65535)
        where
          go : (c.start < 65535) ⊎ (65535 ≤ c.start) → c.start < 65535
          go (inl l) = l
          go (inr l) =
              let e : c.start ≡ 65535 = omega (arith, h.low) in
              let left : 0 < ones part.unplaced = omega (arith, known.is.figures.sizes) in
              absurd (free (list_stuck at least c starts h e left))

  -- a job with a start
  pub started_next : {j s : ℕ} → j < jobs → JobStart t part j s → ¬ (s ≡ 65535)
      → NextJob t part j s
  started_next l start some = record { job = l; start = start; low = start_low known start some }

  module _ {j s : ℕ} (next : NextJob t part j s) where
    pub next_placeable : Placeable t part j s
    next_placeable = child_placeable known next.job next.start next.low

    module _ {child : Part} (placed : Placed t part j s child) where
      pub next_more : OneMore t part child
      next_more = record { known = child_known known next.job next.start next.low placed; placed = placed.placed }

-- ---- job after job

-- a part-plan of k jobs
pub record Upto (t : Jobs) (count k : ℕ) (p : Part) : Type 0 where
  pub inside : k ≤ count
  pub count_is : count ≡ count_of t
  pub known : Known t p
  pub placed : p.placed ≡ k

pub upto-none : {t : Jobs} {count : ℕ} {p : Part} → Fit t → count ≡ count_of t → FirstPart t p → Upto t count 0 p
upto-none {t} {count} {p} fit e h = record { inside = omega arith; count_is = e; known = first_known t p fit h; placed = h.placed }

pub upto_more : {t : Jobs} {count k : ℕ} {p r : Part} → Upto t count k p → k < count → OneMore t p r → Upto t count (k + 1) r
upto_more u l h = record { inside = omega arith; count_is = u.count_is; known = h.known; placed = omega (arith, h.placed, u.placed) }

pub upto_all : {t : Jobs} {count k target : ℕ} {p : Part} {r : Found} → Upto t count k p → count ≤ k → Finished p count target r
    → OrderOf (sheet_of t) r
upto_all {t} {count} {k} {target} {p} {r} u l h =
    finished_order u.known (omega (arith, u.placed, u.inside, u.count_is))
    (subst (λ (n : ℕ). Finished p n target r) u.count_is h)

-- ---- what a move keeps

-- the same order
pub improved-none : {S : Sheet} {best : Found} → OrderOf S best → Improved S best best
improved-none h = record { is = h; no_later = omega arith }

-- an order that is tried, where it ends no later
pub improved_by : {S : Sheet} {best tried r : Found} → OrderOf S best → Tried S tried
    → ((r ≡ tried) × (tried.end ≤ best.end)) ⊎ (r ≡ best) → Improved S best r
improved_by {S} {best} {tried} h t (inl (e, l)) = subst (λ (x : Found). Improved S best x) (sym e)
    (record { is = t (λ z. absurd (omega (arith, h.low))); no_later = l })
improved_by {S} {best} h t (inr e) = subst (λ (x : Found). Improved S best x) (sym e) (improved-none h)

-- one move more
pub improved_more : {S : Sheet} {listed best r : Found} → Improved S listed best → Improved S best r → Improved S listed r
improved_more h k = record { is = k.is; no_later = omega (arith, h.no_later, k.no_later) }
