-- How late a list plan can end: the last arrival, and then every job with its rest one after another.
use mathlib.Core.Path.{◌≡◌, refl}
use mathlib.Core.Bool.{Bool, true, false}
use mathlib.Core.List.{List, [], ◌∷◌}
use Prim.Native.Nat.{ℕ, ◌+◌, ◌≤◌, ◌<◌, zero-le}
use native.Mathlib.Omega.{arith}
use lib.Dec.{eqb}
use borrow.Author.Tests.{eqb-true}
use Rattle.counting.specs.Counting.{only, sum}
use Rattle.counting.proofs.Tests.{clash, only-le, only_within}
use Rattle.counting.proofs.Sums.{sum-le, sum_insert}
use Rattle.counting.proofs.Ranges.{largest-le}
use Rattle.schedule.specs.Plan.{Sheet, finish, Narrow}
use Rattle.schedule.specs.ListPlan.{PartPlan, no_jobs, placing, Follows, all_free_from, start_of, place, empty_part, place_all, part_of}
use Rattle.schedule.proofs.Starts.{Ready, ready_says, start-le, all-free}

module _ (S : Sheet) (w : Narrow S) (a : ℕ) (arr : (j : ℕ) → j < S.jobs → S.arrival j ≤ a) where
  -- minute a, and then the jobs of d one after another
  limit : (ℕ → Bool) → ℕ
  limit d = a + sum S.jobs (λ i. only (d i) (S.minutes i + S.rest))

  record Within (P : PartPlan) : Type 0 where
    last : P.last ≤ limit P.placed
    ends : (i : ℕ) → i < S.jobs → P.placed i ≡ true → finish S P.plan i + S.rest ≤ limit P.placed

  place_within : (P : PartPlan) (j : ℕ) → Within P → Ready S P.placed j → Within (place S P j (start_of S P j))
  unfolding limit
  place_within P j h r =
      let u = limit P.placed in
      let clear : all_free_from S P ≤ u = largest-le S.jobs _ _ (λ i l. only_within (P.placed i) _ _ (h.ends i l)) in
      let s = start-le S P j u (record {
        later = h.last;
        arrived = omega (arith, arr j r.job);
        after = λ i l b. omega (arith, h.ends i l (r.after i l b));
        room = omega (arith, all-free S P u clear, w j r.job);
      }) in
      let more = sum_insert S.jobs P.placed (λ i. S.minutes i + S.rest) j r.job r.new in
      record { last = omega arith; ends = λ i l. two s more i l (eqb i j) refl }
    where
      two : start_of S P j ≤ limit P.placed
          → sum S.jobs (λ i. only (placing P.placed j i) (S.minutes i + S.rest))
          ≡ sum S.jobs (λ i. only (P.placed i) (S.minutes i + S.rest)) + (S.minutes j + S.rest)
          → (i : ℕ) → i < S.jobs → (b : Bool) → eqb i j ≡ b → (place S P j (start_of S P j)).placed i ≡ true
          → finish S (place S P j (start_of S P j)).plan i + S.rest ≤ limit (placing P.placed j)
      two s more i l true e p = rw (e, eqb-true i j e) (omega arith)
      two s more i l false e p = let q : P.placed i ≡ true = rw e at p in rw e (omega (arith, h.ends i l q))

  place_all_within : (P : PartPlan) (o : List ℕ) → Within P → Follows S P.placed o → Within (place_all S P o)
  unfolding place_all
  place_all_within P [] h f = h
  place_all_within P (j ∷ o) h f =
      place_all_within (place S P j (start_of S P j)) o (place_within P j h (ready_says S P.placed j f.0)) f.1

  -- every placed job has ended and its modules have rested by then
  pub ends_within : (o : List ℕ) → Follows S no_jobs o → (i : ℕ) → i < S.jobs → (part_of S o).placed i ≡ true
      → finish S (part_of S o).plan i + S.rest ≤ a + sum S.jobs (λ i. S.minutes i + S.rest)
  unfolding limit
  ends_within o f i l e =
      let h = place_all_within empty_part o (record { last = zero-le; ends = λ i l e. clash false e refl }) f in
      let most = sum-le S.jobs (λ i. only ((part_of S o).placed i) (S.minutes i + S.rest)) (λ i. S.minutes i + S.rest)
      (λ i l. only-le ((part_of S o).placed i) _) in
      omega (arith, h.ends i l e)
