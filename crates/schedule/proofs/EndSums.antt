-- Without arrivals and rests each job of a list plan starts at minute 0 or as another job ends: so a plan ends at a sum of minutes.
use mathlib.Core.Path.{◌≡◌, refl, sym, ap, ◌∙◌, subst}
use mathlib.Core.Logic.{◌⊎◌, inl, inr, ◌≢◌}
use mathlib.Core.Bool.{Bool, true, false, ◌&&◌, ◌||◌, or-true}
use mathlib.Core.List.{List, [], ◌∷◌}
use Prim.Native.Nat.{ℕ, ◌+◌, ◌-◌, ◌<◌}
use native.Mathlib.Omega.{arith}
use native.Mathlib.Nat.{le_trans}
use lib.Dec.{eqb}
use borrow.Author.Tests.{eqb-true, eqb-false, ltb-true, lt-ltb, not-true}
use Rattle.counting.specs.Counting.{only, sum}
use Rattle.counting.proofs.Tests.{true-or-false, clash, same_or_not, and_left, and_right, and_both, not_of_false}
use Rattle.counting.proofs.Sums.{sum-zero, sum_insert}
use Rattle.counting.proofs.Ranges.{Some, None, find, any_none, none_any, largest-some}
use Rattle.counting.proofs.Counts.{count_mono}
use Rattle.schedule.specs.Plan.{Sheet, finish, Narrow}
use Rattle.schedule.specs.ListPlan.{Order, PartPlan, no_jobs, placing, Follows, occupies, free, start_of, place}
use Rattle.schedule.specs.ListPlan.{empty_part, place_all, part_of}
use Rattle.schedule.specs.TieRule.{end_of}
use Rattle.schedule.proofs.Starts.{Ready, ready_says, start-le, start_may}
use Rattle.schedule.proofs.Sound.{completes_all, order_completes}

-- t is the minutes of some of these jobs together
abbrev SumOf : Sheet → (ℕ → Bool) → ℕ → Type 0
SumOf S d t = (X : ℕ → Bool) × ((k : ℕ) → X k ≡ true → d k ≡ true) × (t ≡ sum S.jobs (λ k. only (X k) (S.minutes k)))

module _ (S : Sheet) (n : Narrow S) (arrival : (j : ℕ) → j < S.jobs → S.arrival j ≡ 0) (rest : S.rest ≡ 0) where
  record Summed (P : PartPlan) : Type 0 where
    last : SumOf S P.placed P.last
    ends : (i : ℕ) → i < S.jobs → P.placed i ≡ true → SumOf S P.placed (finish S P.plan i)

  no_minutes : (d : ℕ → Bool) → SumOf S d 0
  no_minutes d = (λ k. false, (λ k e. clash false e refl), sym (sum-zero S.jobs))

  module _ (P : PartPlan) (h : Summed P) (j : ℕ) (r : Ready S P.placed j) where
    abbrev t : ℕ
    t = start_of S P j

    abbrev ends_then : ℕ → Bool
    ends_then k = P.placed k && eqb t (finish S P.plan k)

    -- where no placed job ends at its start, the same modules are free a minute before
    free_before : None S.jobs ends_then → 0 < t → (m : ℕ) → free S P t m ≡ true → free S P (t - 1) m ≡ true
    free_before none pos m e = not_of_false _ (none_any S.jobs _ (λ k l. go k l (true-or-false (occupies S P (t - 1) k && P.plan.uses k m))))
      where
        go : (k : ℕ) → k < S.jobs → ((occupies S P (t - 1) k && P.plan.uses k m) ≡ true)
            ⊎ ((occupies S P (t - 1) k && P.plan.uses k m) ≡ false) → (occupies S P (t - 1) k && P.plan.uses k m) ≡ false
        go k l (inr b) = b
        go k l (inl b) =
            let o = and_left (occupies S P (t - 1) k) _ b in
            let p = and_left (P.placed k) _ o in
            let u = ltb-true (t - 1) (finish S P.plan k + S.rest) (and_right (P.placed k) _ o) in
            let d : t ≢ finish S P.plan k = eqb-false t (finish S P.plan k) (rw p at (none k l)) in
            clash (occupies S P t k && P.plan.uses k m)
            (and_both _ _ (and_both (P.placed k) _ p (lt-ltb t (finish S P.plan k + S.rest) (omega (arith, rest))))
            (and_right (occupies S P (t - 1) k) _ b))
            (any_none S.jobs _ (not-true _ e) k l)

    start-sum : SumOf S P.placed t
    start-sum = go (same_or_not t P.last) (same_or_not t 0) (find S.jobs ends_then)
      where
        go : (t ≡ P.last) ⊎ (t ≢ P.last) → (t ≡ 0) ⊎ (t ≢ 0) → Some S.jobs ends_then ⊎ None S.jobs ends_then → SumOf S P.placed t
        go (inl e) z s = subst (SumOf S P.placed) (sym e) h.last
        go (inr d) (inl e) s = subst (SumOf S P.placed) (sym e) (no_minutes P.placed)
        go (inr d) (inr z) (inl (k, l, b)) =
            subst (SumOf S P.placed) (sym (eqb-true t (finish S P.plan k) (and_right (P.placed k) _ b)))
            (h.ends k l (and_left (P.placed k) _ b))
        go (inr d) (inr z) (inr none) =
            let may = start_may S P j (n j r.job) in
            let earlier = start-le S P j (t - 1) (record {
              later = omega (arith, may.later);
              arrived = omega (arith, arrival j r.job);
              after = λ i l b.
                  let e : t ≢ finish S P.plan i = eqb-false t (finish S P.plan i) (rw (r.after i l b) at (none i l)) in
                  omega (arith, may.after i l b);
              room = le_trans may.room (count_mono S.modules _ _ (λ m l. free_before none (omega arith) m));
            }) in
            absurd (omega arith)

    -- the same of more jobs
    more : {u : ℕ} → SumOf S P.placed u → SumOf S (placing P.placed j) u
    more (X, w, e) = (X, (λ k x. rw (w k x) (or-true (eqb k j))), e)

    -- the minutes of job j as well
    and_its : {u : ℕ} → SumOf S P.placed u → SumOf S (placing P.placed j) (u + S.minutes j)
    and_its (X, w, e) = (
      λ k. eqb k j || X k,
      (λ k. within k (eqb k j)),
      ap (λ u. u + S.minutes j) e ∙ sym (sum_insert S.jobs X S.minutes j r.job (new (true-or-false (X j)))),
    )
      where
        within : (k : ℕ) (b : Bool) → (b || X k) ≡ true → (b || P.placed k) ≡ true
        within k true x = refl
        within k false x = w k x

        new : (X j ≡ true) ⊎ (X j ≡ false) → X j ≡ false
        new (inr x) = x
        new (inl x) = clash (P.placed j) (w j x) r.new

    place_summed : Summed (place S P j t)
    place_summed = record { last = more start-sum; ends = λ i l. ends i l (eqb i j) refl }
      where
        ends : (i : ℕ) → i < S.jobs → (b : Bool) → eqb i j ≡ b → (place S P j t).placed i ≡ true
            → SumOf S (placing P.placed j) (finish S (place S P j t).plan i)
        ends i l true e p = rw (e, eqb-true i j e) (and_its start-sum)
        ends i l false e p = let q : P.placed i ≡ true = rw e at p in rw e (more (h.ends i l q))

  place_all_summed : (P : PartPlan) (o : List ℕ) → Summed P → Follows S P.placed o → Summed (place_all S P o)
  unfolding place_all
  place_all_summed P [] h f = h
  place_all_summed P (j ∷ o) h f =
      place_all_summed (place S P j (start_of S P j)) o (place_summed P h j (ready_says S P.placed j f.0)) f.1

  -- The end of an order's list plan is the minutes of some of the jobs together.
  pub end-sum : (o : List ℕ) → Order S o → (X : ℕ → Bool) × (end_of S o ≡ sum S.jobs (λ k. only (X k) (S.minutes k)))
  end-sum o d = go (largest-some S.jobs (finish S (part_of S o).plan))
    where
      all : Summed (part_of S o)
      all = place_all_summed empty_part o (record { last = no_minutes no_jobs; ends = λ i l e. clash false e refl }) d.follows

      go : (end_of S o ≡ 0) ⊎ ((i : ℕ) × (i < S.jobs) × (end_of S o ≡ finish S (part_of S o).plan i))
          → (X : ℕ → Bool) × (end_of S o ≡ sum S.jobs (λ k. only (X k) (S.minutes k)))
      go (inl e) = (λ k. false, e ∙ sym (sum-zero S.jobs))
      go (inr (i, l, e)) = let s = all.ends i l (completes_all S empty_part o (order_completes S o d) i l) in (s.0, e ∙ s.2)
