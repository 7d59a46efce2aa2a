-- F-6: with every figure times s a desk can be exactly when the old one can, and each check of a call passes exactly where it did.
use mathlib.Core.Path.{◌≡◌, refl, sym, ap, ◌∙◌}
use mathlib.Core.Bool.{not}
use mathlib.Core.List.{List}
use Prim.Native.Nat.{ℕ, ◌+◌, ◌-◌, ◌*◌, ◌≤◌, max}
use native.Mathlib.Nat.{add-mul, le-mul_of_pos_right, le_trans}
use lib.Dec.{ltb, eqb}
use lib.ListN.{length, get_or, length-map}
use borrow.Author.Tests.{le-leb}
use Rattle.counting.specs.Counting.{only, sum, every}
use Rattle.counting.proofs.Tests.{same_test, only-mul}
use Rattle.counting.proofs.Sums.{sum_same, sum-mul}
use Rattle.counting.proofs.Ranges.{any_same, every-at, every_intro}
use Rattle.checking.specs.Checking.{first_failing}
use Rattle.desk.specs.declared.Desk.{Desk}
use Rattle.desk.specs.Desk.{most_power, most_controllers, holding, assured_share, ceiling_of, reserved, reserved_for_others}
use Rattle.desk.specs.Desk.{with_figures}
use Rattle.desk.specs.Checks.{in_range, ceiling_bound, place_ok_at, desk_ok, not_of_desk}
use Rattle.desk.specs.Checks.{wrong_lengths, wrong_pair, some_pair_wrong, wrong_figures, shares_in_all, shares_exceed}
use Rattle.desk.specs.Checks.{wrong_count, some_holds_more, raised_in_all, raised_exceed}
use Rattle.desk.specs.Calls.{open_refusal, claim_refusal, hand_back_refusal, look_refusal, looked, room}
use Rattle.desk.specs.Calls.{change_refusal}
use Rattle.desk.specs.Scaling.{times, scaled}
use Rattle.desk.proofs.Times.{ltb-times, leb-times, leb_one-times, max-times, min-times, sub-times, zero-times}
use Rattle.desk.proofs.Times.{at-times, padded-times}

module _ (s : ℕ) (one : 1 ≤ s) where
  -- ---- the desk

  module _ (d : Desk) where
    pub reserved-times : (i : ℕ) → reserved (scaled s d) i ≡ reserved d i * s
    reserved-times i = rw (at-times s d.held i, at-times s d.assured i) (max-times s (holding d i) (assured_share d i))

    pub reserves-times : sum d.count (reserved (scaled s d)) ≡ sum d.count (reserved d) * s
    reserves-times = sum_same d.count _ _ (λ i l. reserved-times i) ∙ sum-mul d.count (reserved d) s

    pub others-times : (c : ℕ) → reserved_for_others (scaled s d) c ≡ reserved_for_others d c * s
    others-times c =
        sum_same d.count _ _
        (λ i l. ap (only (not (eqb i c))) (reserved-times i) ∙ sym (only-mul (not (eqb i c)) (reserved d i) s))
        ∙ sum-mul d.count (λ i. only (not (eqb i c)) (reserved d i)) s

    place-times : (i : ℕ) → place_ok_at (scaled s d) i ≡ place_ok_at d i
    place-times i =
        rw (
          at-times s d.held i,
          at-times s d.assured i,
          at-times s d.ceiling i,
          ← only-mul (ltb i d.count) d.limit s,
          leb-times s one (assured_share d i) (ceiling_of d i),
          leb-times s one (holding d i) (ceiling_of d i),
          leb-times s one (ceiling_of d i) (ceiling_bound d.limit d.count i),
        ) refl

    places-times : every most_controllers (place_ok_at (scaled s d)) ≡ every most_controllers (place_ok_at d)
    places-times =
        same_test _ _
        (λ e. every_intro most_controllers (place_ok_at d)
        (λ i l. sym (place-times i) ∙ every-at most_controllers (place_ok_at (scaled s d)) e i l))
        (λ e. every_intro most_controllers (place_ok_at (scaled s d))
        (λ i l. place-times i ∙ every-at most_controllers (place_ok_at d) e i l))

    range-times : d.limit * s ≤ most_power → in_range 1 most_power (d.limit * s) ≡ in_range 1 most_power d.limit
    range-times b =
        let a : d.limit ≤ most_power = le_trans (le-mul_of_pos_right d.limit one) b in
        rw (leb_one-times s one d.limit, le-leb (d.limit * s) most_power b, le-leb d.limit most_power a) refl

    -- of every desk whose limit stays in bounds: it can be exactly when the old one can
    pub scaled_ok : d.limit * s ≤ most_power → desk_ok (scaled s d) ≡ desk_ok d
    unfolding desk_ok
    scaled_ok b =
        rw (
          length-map d.held (λ (x : ℕ). x * s),
          length-map d.assured (λ (x : ℕ). x * s),
          length-map d.ceiling (λ (x : ℕ). x * s),
          range-times b,
          places-times,
          reserves-times,
          leb-times s one (sum d.count (reserved d)) d.limit,
        ) refl

    -- ---- one call

    module _ (b : d.limit * s ≤ most_power) where
      of-desk-times : (c : ℕ) → not_of_desk (scaled s d) c ≡ not_of_desk d c
      unfolding not_of_desk
      of-desk-times c = rw (scaled_ok b) refl

      pub claim-times : (c k : ℕ) → claim_refusal (scaled s d) c (k * s) ≡ claim_refusal d c k
      unfolding claim_refusal first_failing
      claim-times c k =
          rw (
            of-desk-times c,
            zero-times s one k,
            at-times s d.ceiling c,
            at-times s d.held c,
            others-times c,
            ← add-mul (holding d c) k s,
            ← add-mul (holding d c + k) (reserved_for_others d c) s,
            ltb-times s one (ceiling_of d c) (holding d c + k),
            ltb-times s one d.limit (holding d c + k + reserved_for_others d c),
          ) refl

      pub hand_back-times : (c k : ℕ) → hand_back_refusal (scaled s d) c (k * s) ≡ hand_back_refusal d c k
      unfolding hand_back_refusal first_failing
      hand_back-times c k = rw (of-desk-times c, zero-times s one k, at-times s d.held c, ltb-times s one (holding d c) k) refl

      pub look-times : (c : ℕ) → look_refusal (scaled s d) c ≡ look_refusal d c
      unfolding look_refusal first_failing
      look-times c = rw (of-desk-times c) refl

      pub shown-times : (c : ℕ) → (looked (scaled s d) c).power ≡ (looked d c).power * s
      unfolding looked
      shown-times c =
          rw (
            look-times c,
            at-times s d.ceiling c,
            at-times s d.held c,
            others-times c,
            sub-times s (ceiling_of d c) (holding d c),
            ← add-mul (holding d c) (reserved_for_others d c) s,
            sub-times s d.limit (holding d c + reserved_for_others d c),
            min-times s (ceiling_of d c - holding d c) (d.limit - (holding d c + reserved_for_others d c)),
          ) (sym (only-mul (eqb (look_refusal d c) 0) (room d c) s))

  -- ---- the figures of an opening or a change

  module _ (limit : ℕ) (a t : List ℕ) (m : limit * s ≤ most_power) where
    lengths-times : wrong_lengths (times s a) (times s t) ≡ wrong_lengths a t
    unfolding wrong_lengths
    lengths-times = rw (length-map a (λ (x : ℕ). x * s), length-map t (λ (x : ℕ). x * s)) refl

    pairs-times : some_pair_wrong (limit * s) (times s a) (times s t) ≡ some_pair_wrong limit a t
    pairs-times =
        rw (length-map a (λ (x : ℕ). x * s))
        (any_same (length a) (λ i. wrong_pair (limit * s) (get_or (times s a) i 0) (get_or (times s t) i 0))
        (λ i. wrong_pair limit (get_or a i 0) (get_or t i 0))
        (λ i l. rw (at-times s a i, at-times s t i, ltb-times s one (get_or t i 0) (get_or a i 0), ltb-times s one limit (get_or t i 0)) refl))

    figures-times : wrong_figures (limit * s) (times s a) (times s t) ≡ wrong_figures limit a t
    unfolding wrong_figures
    figures-times =
        let n : limit ≤ most_power = le_trans (le-mul_of_pos_right limit one) m in
        rw (leb_one-times s one limit, le-leb (limit * s) most_power m, le-leb limit most_power n, pairs-times) refl

    shares-times : shares_exceed (limit * s) (times s a) ≡ shares_exceed limit a
    unfolding shares_exceed
    shares-times =
        let e : shares_in_all (times s a) ≡ shares_in_all a * s =
        rw (length-map a (λ (x : ℕ). x * s))
        (sum_same (length a) _ _ (λ i l. at-times s a i) ∙ sum-mul (length a) (λ i. get_or a i 0) s) in
        rw (e, ltb-times s one limit (shares_in_all a)) refl

    pub open-times : open_refusal (limit * s) (times s a) (times s t) ≡ open_refusal limit a t
    unfolding open_refusal first_failing
    open-times = rw (lengths-times, figures-times, shares-times) refl

  -- ---- one change

  module _ (d : Desk) (b : d.limit * s ≤ most_power) (limit : ℕ) (a t : List ℕ) (m : limit * s ≤ most_power) where
    holds-times : some_holds_more (scaled s d) (times s t) ≡ some_holds_more d t
    unfolding some_holds_more
    holds-times =
        any_same d.count (λ i. ltb (get_or (times s t) i 0) (holding (scaled s d) i)) (λ i. ltb (get_or t i 0) (holding d i))
        (λ i l. rw (at-times s t i, at-times s d.held i, ltb-times s one (get_or t i 0) (holding d i)) refl)

    raised-times : raised_exceed (scaled s d) (limit * s) (times s a) ≡ raised_exceed d limit a
    unfolding raised_exceed
    raised-times =
        let e : raised_in_all (scaled s d) (times s a) ≡ raised_in_all d a * s =
        sum_same d.count _ _ (λ i l. rw (at-times s d.held i, at-times s a i) (max-times s (holding d i) (get_or a i 0)))
        ∙ sum-mul d.count (λ i. max (holding d i) (get_or a i 0)) s in
        rw (e, ltb-times s one limit (raised_in_all d a)) refl

    pub change-times : change_refusal (scaled s d) (limit * s) (times s a) (times s t) ≡ change_refusal d limit a t
    unfolding change_refusal first_failing wrong_count
    change-times =
        rw (
          scaled_ok d b,
          lengths-times limit a t m,
          length-map a (λ (x : ℕ). x * s),
          figures-times limit a t m,
          shares-times limit a t m,
          holds-times,
          raised-times,
        ) refl

    pub figures-scaled : with_figures (scaled s d) (limit * s) (times s a) (times s t) ≡ scaled s (with_figures d limit a t)
    figures-scaled i = record {
      count = d.count;
      limit = limit * s;
      held = times s d.held;
      assured = padded-times s a i;
      ceiling = padded-times s t i;
    }
