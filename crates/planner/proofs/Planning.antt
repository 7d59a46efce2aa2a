-- What planning promises: the first refusal of 1 to 10; 8 or 9 exactly where there is no valid plan; and a card whose plan is
-- valid and ends no later than any valid plan, the one that the tie rule names.
use mathlib.Core.Path.{◌≡◌, refl, sym, ap, subst, ◌∙◌}
use mathlib.Core.Logic.{◌⊎◌, inl, inr, ⊎_elim, ◌↔◌}
use mathlib.Core.Bool.{Bool, true, false}
use mathlib.Core.List.{List, [], ◌∷◌, ◌++◌}
use mathlib.Core.Option.{Option, none, some}
use Prim.Native.Nat.{ℕ, ◌≤◌, ◌<◌}
use native.Mathlib.Omega.{arith}
use lib.Dec.{ltb}
use lib.ListN.{length, drop}
use Rattle.figures.specs.Figures.{last_end}
use Rattle.counting.proofs.Tests.{true-or-false, clash}
use Rattle.schedule.specs.Plan.{Sheet, Plan, Valid, finish, plan_end, over_wide}
use Rattle.schedule.specs.ListPlan.{Order, list_plan}
use Rattle.schedule.specs.TieRule.{Best, best_order, end_of}
use Rattle.schedule.proofs.Orders.{best_order_lem}
use Rattle.schedule.proofs.Existence.{narrow_says, has_plan}
use Rattle.schedule.proofs.Theorems.{best_earliest}
use Rattle.tables.specs.declared.Jobs.{Jobs}
use Rattle.tables.specs.Tables.{sheet_of}
use Rattle.card.specs.Card.{card_size, card_of}
use Rattle.card.specs.Decoding.{plan_on, Decodes}
use Rattle.card.proofs.Decoding.{end_short, card_decodes}
use Rattle.card.proofs.OnCard.{card_valid, card_end}
use Rattle.checking.specs.Checking.{first_failing, FirstFails}
use Rattle.checking.proofs.Order.{all_passed, both_passed, none_failing, first-behind, refused_exactly}
use Rattle.sheet.specs.Read.{read_checks, read_refusal, reading}
use Rattle.job_table.specs.Table.{TableOf}
use Rattle.job_table.proofs.Copies.{has-table}
use Rattle.planable.specs.Planable.{sheet_in, no_order, planable_checks, planable_refusal}
use Rattle.schedule.proofs.Same.{same_back, order_same, finish_same}
use Rattle.planable.proofs.Circles.{circular_when, ordered_when}
use Rattle.planable.proofs.Tables.{few_read, lasting_read}
use Rattle.planable.proofs.Planable.{Passes, passes, Ready, ready-table}
use Rattle.planner.specs.Planning.{room_checks, plan_checks, plan_refusal, best_card, card_after}
use Rattle.planner.specs.Planned.{Answered}
use Rattle.planner.proofs.Cards.{card_same, decodes_same, best-card, best_size}

-- ---- the checks

-- Planning gives k exactly when check k fails and no earlier one of 1 to 10 does.
pub plan-refused : (s : List ℕ) (room k : ℕ) → 0 < k → (plan_refusal s room ≡ k) ↔ FirstFails (plan_checks s room) k
unfolding plan_refusal
plan-refused s room k h = refused_exactly (plan_checks s room) k h

-- ---- what is known of an answered call

-- 1 to 9 pass
pub front_passes : (s : List ℕ) (room : ℕ) → plan_refusal s room ≡ 0 → planable_refusal s ≡ 0
unfolding plan_refusal planable_refusal
front_passes s room e =
    none_failing (planable_checks s) (both_passed (planable_checks s) (room_checks (sheet_in s) room) (all_passed (plan_checks s room) refl e)).0

-- ---- no valid plan

-- the number of the last three checks is 8 or 9 exactly where one of the first two fails
wide-or_circular : (t c f : Bool) → let k = first_failing ((8, t) ∷ (9, c) ∷ (10, f) ∷ []) in
    ((k ≡ 8) ⊎ (k ≡ 9)) ↔ ((t ≡ true) ⊎ (c ≡ true))
unfolding first_failing
wide-or_circular true c f = (λ h. inl refl, λ h. inl refl)
wide-or_circular false true f = (λ h. inr refl, λ h. inr refl)
wide-or_circular false false true = (
  ⊎_elim (λ e. absurd (omega arith)) (λ e. absurd (omega arith)),
  ⊎_elim (λ e. absurd (clash false e refl)) (λ e. absurd (clash false e refl)),
)
wide-or_circular false false false = (
  ⊎_elim (λ e. absurd (omega arith)) (λ e. absurd (omega arith)),
  ⊎_elim (λ e. absurd (clash false e refl)) (λ e. absurd (clash false e refl)),
)

-- "planning refuses the sheet as over-wide or circular exactly when it has no valid plan", of every sheet that reads.
pub no_plan_exactly : (s : List ℕ) (room : ℕ) → read_refusal s ≡ 0
    → ((plan_refusal s room ≡ 8) ⊎ (plan_refusal s room ≡ 9)) ↔ (¬ ((P : Plan) × Valid (sheet_in s) P))
unfolding plan_refusal
no_plan_exactly s room e = (
  λ h. there (either.0 (⊎_elim (λ x. inl (sym behind ∙ x)) (λ x. inr (sym behind ∙ x)) h)),
  λ h. ⊎_elim (λ x. inl (behind ∙ x)) (λ x. inr (behind ∙ x)) (either.1 (back h (true-or-false (over_wide S)) (true-or-false (no_order S)))),
)
  where
    S : Sheet
    S = sheet_in s

    late : ℕ
    late = first_failing ((8, over_wide S) ∷ (9, no_order S) ∷ room_checks S room)

    behind : plan_refusal s room ≡ late
    behind = first-behind (read_checks s) _ (all_passed (read_checks s) refl e)

    either : ((late ≡ 8) ⊎ (late ≡ 9)) ↔ ((over_wide S ≡ true) ⊎ (no_order S ≡ true))
    either = wide-or_circular (over_wide S) (no_order S) (ltb room (card_size S.jobs))

    there : (over_wide S ≡ true) ⊎ (no_order S ≡ true) → ¬ ((P : Plan) × Valid S P)
    there (inl t) q = clash (over_wide S) t ((has_plan S (lasting_read s e)).0 q).0
    there (inr c) q = ((has_plan S (lasting_read s e)).0 q).1 ((circular_when S).0 c)

    back : ¬ ((P : Plan) × Valid S P) → (over_wide S ≡ true) ⊎ (over_wide S ≡ false) → (no_order S ≡ true) ⊎ (no_order S ≡ false)
        → (over_wide S ≡ true) ⊎ (no_order S ≡ true)
    back h (inl t) c = inl t
    back h (inr t) (inl c) = inr c
    back h (inr t) (inr c) = absurd (h ((has_plan S (lasting_read s e)).1 (t, (ordered_when S).0 c)))

-- ---- the card

module _ (s card : List ℕ) (e : plan_refusal s (length card) ≡ 0) where
  abbrev S : Sheet
  S = sheet_in s

  front : planable_refusal s ≡ 0
  front = front_passes s (length card) e

  abbrev p : Passes s
  p = passes s front

  pub found : (o : List ℕ) × (best_order S ≡ some o)
  unfolding no_order
  found = go (best_order S) refl
    where
      go : (b : Option (List ℕ)) → best_order S ≡ b → (o : List ℕ) × (best_order S ≡ some o)
      go none f = clash true refl (rw (f, no_order) at p.ordered)
      go (some o) f = (o, f)

  abbrev o : List ℕ
  o = found.0

  best : Best S o
  best = best_order_lem S o found.1

  pub plan-written : card_after s card ≡ best_card S ++ drop (card_size S.jobs) card
  unfolding card_after
  plan-written = rw e (ap (λ (k : ℕ). best_card S ++ drop k card) (best_size S ((ordered_when S).0 p.ordered)))

  card_is : card_after s card ≡ card_of S o ++ drop (card_size S.jobs) card
  card_is = plan-written ∙ ap (λ (c : List ℕ). c ++ drop (card_size S.jobs) card) (best-card S o best)

  -- ---- by a table of the sheet

  abbrev table : (t : Jobs) × TableOf (reading s) t
  table = has-table (reading s) (few_read s p.reads)

  abbrev t : Jobs
  t = table.0

  abbrev ready : Ready s t
  ready = ready-table s t front table.1

  order : Order (sheet_of t) o
  order = order_same (same_back ready.same) o best.order

  pub decodes : Decodes S o (card_after s card)
  decodes =
      subst (λ (c : List ℕ). Decodes S o c)
      (ap (λ (c : List ℕ). c ++ drop (card_size S.jobs) card) (card_same ready.same o order) ∙ sym card_is)
      (decodes_same ready.same o order _ (card_decodes t ready.fit o order (drop (card_size S.jobs) card)))

  pub ends_short : (j : ℕ) → j < S.jobs → finish S (list_plan S o) j ≤ last_end
  ends_short j l =
      let k : j < (sheet_of t).jobs = omega (arith, ready.same.jobs) in
      omega (arith, finish_same ready.same o order j k, end_short t ready.fit o order [] j k)

  last : plan_end S (plan_on (card_after s card)) ≡ end_of S o
  last = card_end S (narrow_says S p.narrow) o best.order (card_after s card) decodes ∙ decodes.last

  pub plan-answered : (order : List ℕ) × Answered s card order
  plan-answered = (
    o,
    record {
      best = best;
      written = card_is;
      valid = card_valid S (narrow_says S p.narrow) o best.order (card_after s card) decodes;
      end = card_end S (narrow_says S p.narrow) o best.order (card_after s card) decodes;
      earliest = λ Q v. subst (λ (x : ℕ). x ≤ plan_end S Q) (sym last) (best_earliest S (lasting_read s p.reads) o best Q v);
    },
  )

  -- the list plan of that order can be read back from the card
  pub plan_decodes : Decodes S plan-answered.0 (card_after s card)
  unfolding plan-answered
  plan_decodes = decodes
