-- Where a number divides the rest, every arrival and every job's minutes, each job of a list plan starts at a multiple of it: so a plan ends
-- at one.
use mathlib.Core.Path.{◌≡◌, refl, sym, subst}
use mathlib.Core.Logic.{◌⊎◌, inl, inr}
use mathlib.Core.Bool.{Bool, true, false, ◌&&◌}
use mathlib.Core.List.{List, [], ◌∷◌}
use Prim.Native.Nat.{ℕ, ◌+◌, ◌*◌, ◌/◌, ◌≤◌, ◌<◌, ◌∣◌}
use native.Mathlib.Omega.{arith}
use native.Mathlib.Nat.{le_trans, dvd-zero, dvd-add, dvd-mul_left, div-mul_cancel, div-mul-le_self, le-div_iff_mul-le, mul-le-mul_right}
use lib.Dec.{eqb}
use borrow.Author.Tests.{eqb-true, ltb-true, lt-ltb, not-true}
use Rattle.counting.proofs.Tests.{true-or-false, clash, less-or-not, and_left, and_right, and_both, not_of_false}
use Rattle.counting.proofs.Ranges.{any_none, none_any, largest-some}
use Rattle.counting.proofs.Counts.{count_mono}
use Rattle.schedule.specs.Plan.{Sheet, finish, Narrow}
use Rattle.schedule.specs.ListPlan.{Order, PartPlan, Follows, occupies, free, start_of, place, empty_part, place_all, part_of}
use Rattle.schedule.specs.TieRule.{end_of}
use Rattle.schedule.proofs.Starts.{Ready, ready_says, start-le, start_may}
use Rattle.schedule.proofs.Sound.{completes_all, order_completes}

-- a multiple of g that is not above t is not above the last multiple up to t
pub multiple_below : (g x t : ℕ) → 0 < g → g ∣ x → x ≤ t → x ≤ t / g * g
multiple_below g x t some d l =
    let e = div-mul_cancel g d in
    let q : x / g ≤ t / g = (le-div_iff_mul-le some).1 (omega arith) in
    omega (arith, e, mul-le-mul_right g q)

module _ (S : Sheet) (n : Narrow S) (g : ℕ) (some : 0 < g) (rest : g ∣ S.rest) (arrival : (j : ℕ) → j < S.jobs → g ∣ S.arrival j)
    (minutes : (j : ℕ) → j < S.jobs → g ∣ S.minutes j) where
  record Divided (P : PartPlan) : Type 0 where
    last : g ∣ P.last
    ends : (i : ℕ) → i < S.jobs → P.placed i ≡ true → g ∣ finish S P.plan i

  module _ (P : PartPlan) (h : Divided P) (j : ℕ) (r : Ready S P.placed j) where
    abbrev t : ℕ
    t = start_of S P j

    -- the last multiple up to the start
    abbrev t₀ : ℕ
    t₀ = t / g * g

    below : (x : ℕ) → g ∣ x → x ≤ t → x ≤ t₀
    below x = multiple_below g x t some

    -- modules come free at multiples: those that are free at the start are free then
    free_then : (m : ℕ) → free S P t m ≡ true → free S P t₀ m ≡ true
    free_then m e = not_of_false _ (none_any S.jobs _ (λ k l. go k l (true-or-false (occupies S P t₀ k && P.plan.uses k m))))
      where
        go : (k : ℕ) → k < S.jobs → ((occupies S P t₀ k && P.plan.uses k m) ≡ true) ⊎ ((occupies S P t₀ k && P.plan.uses k m) ≡ false)
            → (occupies S P t₀ k && P.plan.uses k m) ≡ false
        go k l (inr b) = b
        go k l (inl b) =
            let o = and_left (occupies S P t₀ k) _ b in
            let p = and_left (P.placed k) _ o in
            let until = finish S P.plan k + S.rest in
            let u = ltb-true t₀ until (and_right (P.placed k) _ o) in
            still p u (less-or-not t until) (and_right (occupies S P t₀ k) _ b)
          where
            still : P.placed k ≡ true → t₀ < finish S P.plan k + S.rest
                → (t < finish S P.plan k + S.rest) ⊎ (finish S P.plan k + S.rest ≤ t) → P.plan.uses k m ≡ true
                → (occupies S P t₀ k && P.plan.uses k m) ≡ false
            still p u (inl v) w =
                clash (occupies S P t k && P.plan.uses k m)
                (and_both _ _ (and_both (P.placed k) _ p (lt-ltb t (finish S P.plan k + S.rest) v)) w)
                (any_none S.jobs _ (not-true _ e) k l)
            still p u (inr v) w =
                absurd (omega (arith, u, below (finish S P.plan k + S.rest) (dvd-add g (h.ends k l p) rest) v))

    start_multiple : g ∣ t
    start_multiple =
        let may = start_may S P j (n j r.job) in
        let sooner = start-le S P j t₀ (record {
          later = below P.last h.last may.later;
          arrived = below (S.arrival j) (arrival j r.job) may.arrived;
          after = λ i l b. below (finish S P.plan i) (h.ends i l (r.after i l b)) (may.after i l b);
          room = le_trans may.room (count_mono S.modules _ _ (λ m l. free_then m));
        }) in
        let same : t₀ ≡ t = omega (arith, div-mul-le_self t g) in
        subst (λ (x : ℕ). g ∣ x) same (dvd-mul_left g (t / g))

    place_divided : Divided (place S P j t)
    place_divided = record { last = start_multiple; ends = λ i l. ends i l (eqb i j) refl }
      where
        ends : (i : ℕ) → i < S.jobs → (b : Bool) → eqb i j ≡ b → (place S P j t).placed i ≡ true
            → g ∣ finish S (place S P j t).plan i
        ends i l true e p = rw (e, eqb-true i j e) (dvd-add g start_multiple (minutes j r.job))
        ends i l false e p = let q : P.placed i ≡ true = rw e at p in rw e (h.ends i l q)

  place_all_divided : (P : PartPlan) (o : List ℕ) → Divided P → Follows S P.placed o → Divided (place_all S P o)
  unfolding place_all
  place_all_divided P [] h f = h
  place_all_divided P (j ∷ o) h f =
      place_all_divided (place S P j (start_of S P j)) o (place_divided P h j (ready_says S P.placed j f.0)) f.1

  -- The end of an order's list plan is a multiple.
  pub end_multiple : (o : List ℕ) → Order S o → g ∣ end_of S o
  end_multiple o d = go (largest-some S.jobs (finish S (part_of S o).plan))
    where
      all : Divided (part_of S o)
      all = place_all_divided empty_part o (record { last = dvd-zero g; ends = λ i l e. clash false e refl }) d.follows

      go : (end_of S o ≡ 0) ⊎ ((i : ℕ) × (i < S.jobs) × (end_of S o ≡ finish S (part_of S o).plan i)) → g ∣ end_of S o
      go (inl e) = subst (λ (x : ℕ). g ∣ x) (sym e) (dvd-zero g)
      go (inr (i, l, e)) = subst (λ (x : ℕ). g ∣ x) (sym e) (all.ends i l (completes_all S empty_part o (order_completes S o d) i l))
