-- The entries of a job table: what the lists of the parts give is the definition's, and that of the sheet.
use mathlib.Core.Path.{◌≡◌, sym, ap, ◌∙◌}
use mathlib.Core.List.{List, []}
use Prim.Native.Nat.{ℕ, ◌+◌, ◌<◌}
use native.Mathlib.Omega.{arith}
use lib.IntN.{pos, ◌-ℤ◌}
use lib.ListN.{get_or, take}
use Rattle.schedule.specs.Plan.{Sheet, Plan}
use Rattle.schedule.specs.ListPlan.{Order, list_plan}
use Rattle.schedule.proofs.Same.{SameJobs, plan_same}
use Rattle.tables.specs.declared.Jobs.{Jobs}
use Rattle.tables.specs.Tables.{sheet_of, count_of, Fit}
use Rattle.listing.specs.declared.Found.{Found}
use Rattle.search.specs.Search.{TieRuled}
use Rattle.replay.specs.declared.Slots.{Slots}
use Rattle.replay.specs.Slots.{Replayed}
use Rattle.card.proofs.Decoding.{end_short}
use Rattle.marks.specs.Implied.{ImpliedTo}
use Rattle.marks.proofs.Same.{implied_same}
use Rattle.latest.specs.Latest.{latest_start_of}
use Rattle.latest.specs.Counted.{minute_zero, departure_at, LatestStarts}
use Rattle.latest.proofs.Signed.{less_more}
use Rattle.latest.proofs.Same.{latest_same}
use Rattle.slack.specs.declared.JobSlack.{JobSlack}
use Rattle.slack.specs.Slack.{slack_of, slack_places, slacks_in}
use Rattle.slack.specs.Parts.{PlannedStarts, entry_from, slacks_from, SlacksOf}
use Rattle.slack.proofs.Places.{places_same}

-- the starts of the best order's replay are the planned ones
pub starts_are : (t : Jobs) → Fit t → (r : Found) → TieRuled (sheet_of t) r → (s : Slots) → Replayed (sheet_of t) (take (count_of t) r.order) s
    → PlannedStarts (sheet_of t) s.start
starts_are t fit r ruled s h =
    let o = take (count_of t) r.order in
    record {
      order = o;
      best = ruled.best;
      start = h.start;
      low = λ j l. omega (arith, h.start j l, end_short t fit o ruled.best.order [] j l);
    }

-- ---- of a table

module _ (t : Jobs) (departures latest starts implied : List ℕ) (l : LatestStarts t departures latest) (p : PlannedStarts (sheet_of t) starts)
    (m : ImpliedTo (sheet_of t) (count_of t) implied) where
  abbrev S : Sheet
  S = sheet_of t

  abbrev P : Plan
  P = list_plan S p.order

  abbrev entry_at : ℕ → JobSlack
  entry_at j = entry_from (get_or latest j 0) (get_or starts j 0) (get_or implied j 0)

  slack_is : (j : ℕ) → j < count_of t
      → (pos (get_or latest j 0) -ℤ pos (minute_zero + get_or starts j 0)) ≡ (latest_start_of S (departure_at departures) j -ℤ pos (P.start j))
  slack_is j k =
      sym (less_more (get_or latest j 0) minute_zero (get_or starts j 0))
      ∙ (λ i. l j k i -ℤ pos (p.start j k i))

  entry_is : (j : ℕ) → j < count_of t → entry_at j ≡ slack_of S (departure_at departures) P j
  entry_is j k = λ i. record { latest_start = l j k i; slack = slack_is j k i; implied = m j k i }

  pub slacks_are : SlacksOf t departures (slacks_from latest starts implied (count_of t))
  slacks_are = (
    p.order,
    p.best,
    ap (λ (xs : List JobSlack). record { refusal = 0; jobs = xs; count = count_of t })
        (places_same (count_of t) entry_at (slack_of S (departure_at departures) P) entry_is),
  )

-- ---- of another sheet that says the same

module _ {S T : Sheet} (h : SameJobs S T) (d e : ℕ → ℕ) (same : (j : ℕ) → j < S.jobs → d j ≡ e j) (o : List ℕ) (w : Order S o) where
  entry_same : (j : ℕ) → j < S.jobs → slack_of S d (list_plan S o) j ≡ slack_of T e (list_plan T o) j
  entry_same j l = λ i. record {
    latest_start = latest_same h d e same j l i;
    slack = latest_same h d e same j l i -ℤ pos ((plan_same h o w i).start j);
    implied = implied_same h j l i;
  }

  pub slacks_same : slacks_in S d (list_plan S o) ≡ slacks_in T e (list_plan T o)
  slacks_same =
      ap (λ (xs : List JobSlack). record { refusal = 0; jobs = xs; count = S.jobs })
      (places_same S.jobs (slack_of S d (list_plan S o)) (slack_of T e (list_plan T o)) entry_same)
      ∙ ap (λ (n : ℕ). record { refusal = 0; jobs = slack_places n (slack_of T e (list_plan T o)); count = n }) h.jobs
