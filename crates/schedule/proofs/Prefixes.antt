-- An order taken apart into its first jobs and the rest.
use mathlib.Core.Path.{◌≡◌, refl, ap, subst}
use mathlib.Core.Bool.{true}
use mathlib.Core.List.{List, [], ◌∷◌, ◌++◌, append_assoc}
use Prim.Native.Nat.{ℕ, ◌+◌}
use native.Mathlib.Omega.{arith}
use lib.ListN.{length, length-append}
use Rattle.counting.specs.Counting.{count}
use Rattle.counting.proofs.Counts.{count_insert, count_none}
use Rattle.schedule.specs.Plan.{Sheet, plan_end}
use Rattle.schedule.specs.ListPlan.{Order, PartPlan, no_jobs, ready, Follows, start_of, place, empty_part, place_all, part_of}
use Rattle.schedule.specs.TieRule.{end_of}
use Rattle.schedule.specs.PartPlans.{Completes}
use Rattle.schedule.proofs.Starts.{ready_says}
use Rattle.schedule.proofs.Along.{place_all-append}

module _ (S : Sheet) where
  -- ---- the first jobs and the rest

  pub follows_split : (P : PartPlan) (w o : List ℕ) → Follows S P.placed (w ++ o)
      → Follows S P.placed w × Follows S (place_all S P w).placed o
  unfolding place_all
  follows_split P [] o f = (tt, f)
  follows_split P (j ∷ w) o f =
      let r = follows_split (place S P j (start_of S P j)) w o f.1 in
      ((f.0, r.0), r.1)

  pub follows_join : (P : PartPlan) (w o : List ℕ) → Follows S P.placed w → Follows S (place_all S P w).placed o
      → Follows S P.placed (w ++ o)
  unfolding place_all
  follows_join P [] o f g = g
  follows_join P (j ∷ w) o f g = (f.0, follows_join (place S P j (start_of S P j)) w o f.1 g)

  placed-count : (P : PartPlan) (w : List ℕ) → Follows S P.placed w
      → count S.jobs (place_all S P w).placed ≡ count S.jobs P.placed + length w
  unfolding place_all
  placed-count P [] f = omega arith
  placed-count P (j ∷ w) f =
      let r = ready_says S P.placed j f.0 in
      omega (arith, placed-count (place S P j (start_of S P j)) w f.1, count_insert S.jobs P.placed j r.job r.new)

  -- as many jobs are placed as were named
  pub part_count : (w : List ℕ) → Follows S no_jobs w → count S.jobs (part_of S w).placed ≡ length w
  part_count w f = omega (arith, placed-count empty_part w f, count_none S.jobs no_jobs (λ i l. refl))

  -- ---- an order that begins with w

  pub order_split : (w p : List ℕ) → Order S (w ++ p) → Follows S no_jobs w × Completes S (part_of S w) p
  order_split w p h =
      let f = follows_split empty_part w p h.follows in
      (f.0, (f.1, omega (arith, part_count w f.0, h.all, length-append w p)))

  pub order_join : (w p : List ℕ) → Follows S no_jobs w → Completes S (part_of S w) p → Order S (w ++ p)
  order_join w p f c = record {
    all = omega (arith, part_count w f, c.1, length-append w p);
    follows = follows_join empty_part w p f c.0;
  }

  pub end_split : (w p : List ℕ) → end_of S (w ++ p) ≡ plan_end S (place_all S (part_of S w) p).plan
  end_split w p = ap (λ (P : PartPlan). plan_end S P.plan) (place_all-append S empty_part w p)

  -- the job behind w can follow the jobs of w
  pub next-ready : (w : List ℕ) (j : ℕ) (p : List ℕ) → Order S ((w ++ (j ∷ [])) ++ p) → ready S (part_of S w).placed j ≡ true
  next-ready w j p h =
      let g : Order S (w ++ (j ∷ p)) = subst (λ (o : List ℕ). Order S o) (append_assoc w (j ∷ []) p) h in
      (order_split w (j ∷ p) g).1.0.0

  -- ---- one job more

  -- the part-plan of w and then j
  pub part_more : (w : List ℕ) (j : ℕ) → part_of S (w ++ (j ∷ [])) ≡ place S (part_of S w) j (start_of S (part_of S w) j)
  unfolding place_all
  part_more w j = place_all-append S empty_part w (j ∷ [])

  pub follows_more : (w : List ℕ) (j : ℕ) → Follows S no_jobs w → ready S (part_of S w).placed j ≡ true → Follows S no_jobs (w ++ (j ∷ []))
  follows_more w j f r = follows_join empty_part w (j ∷ []) f (r, tt)
