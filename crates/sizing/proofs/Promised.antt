-- What is promised of the least module count and its card.
use mathlib.Core.Path.{◌≡◌, refl, sym, ap, ap₂, subst, ◌∙◌}
use mathlib.Core.Logic.{◌⊎◌, inl, inr, ◌↔◌}
use mathlib.Core.Bool.{true, false, not, cond}
use mathlib.Core.List.{List, ◌∷◌}
use Prim.Native.Nat.{ℕ, ◌≤◌, ◌<◌}
use native.Mathlib.Omega.{arith}
use lib.Dec.{eqb, ltb}
use lib.ListN.{length}
use borrow.Author.Tests.{not-true}
use Rattle.figures.specs.Figures.{most_modules}
use Rattle.counting.proofs.Tests.{true-or-false, clash, less-or-not}
use Rattle.schedule.specs.Plan.{Sheet, Plan, Valid, plan_end, Lasting, Circular, over_wide}
use Rattle.schedule.specs.Ends.{EndsBy}
use Rattle.schedule.specs.Cabinets.{with_modules, ends_by}
use Rattle.schedule.proofs.Larger.{ends_by_when, wide_ends_by-none, marks_with}
use Rattle.card.specs.Card.{card_size}
use Rattle.card.specs.Decoding.{plan_on}
use Rattle.checking.specs.Checking.{first_failing}
use Rattle.checking.proofs.Order.{Passed, all_passed, none_failing, together_passed}
use Rattle.sheet.specs.Read.{read_checks, read_refusal}
use Rattle.sheet.specs.Write.{over}
use Rattle.planable.specs.Planable.{sheet_in, no_order, order_checks, planable_checks}
use Rattle.planable.proofs.Circles.{ordered_when, none_same}
use Rattle.planable.proofs.Tables.{lasting_read}
use Rattle.planner.specs.Planning.{room_checks, plan_checks, plan_refusal, best_card, card_after}
use Rattle.planner.proofs.Planning.{plan-answered}
use Rattle.cabinets.specs.Counts.{least_count}
use Rattle.cabinets.proofs.Counts.{least-some, least_serves, least_below, smaller-not, largest_decides}
use Rattle.sizing.specs.declared.Sized.{Sized}
use Rattle.sizing.specs.Sizing.{count_refusal, size_refusal, size_answer, size_card_after}
use Rattle.sizing.specs.Promised.{with_n, SizedFor, SizeAnswered, NoCountExactly, SizeCardIsPlanned, SizeIgnoresN}
use Rattle.sizing.proofs.Refusals.{behind-reading, Enough, enough, size_reads, number_no-count, number_no-room, number-none}
use Rattle.sizing.proofs.OtherN.{still_reads, in-cabinet}

-- no plan ends by t where the test fails
later : (S : Sheet) (t : ℕ) → Lasting S → ends_by S t ≡ false → (P : Plan) → Valid S P → t < plan_end S P
later S t w e P v = go (less-or-not t (plan_end S P))
  where
    go : (t < plan_end S P) ⊎ (plan_end S P ≤ t) → t < plan_end S P
    go (inl l) = l
    go (inr l) = clash (ends_by S t) ((ends_by_when S w t).1 (P, v, l)) e

-- the plan on the card is valid, and no valid plan ends earlier
abbrev FirstToEnd : Sheet → List ℕ → Type 0
FirstToEnd T c = Valid T (plan_on c) × ((Q : Plan) → Valid T Q → plan_end T (plan_on c) ≤ plan_end T Q)

-- ---- an answered call

module _ (s : List ℕ) (t : ℕ) (card : List ℕ) (e : size_refusal s t (length card) ≡ 0) where
  abbrev S : Sheet
  S = sheet_in s

  abbrev k : ℕ
  k = least_count S t

  well : read_refusal s ≡ 0
  well = size_reads s t (length card) e

  passed : Enough S t (length card)
  passed = enough S t (length card) (sym (behind-reading s t (length card) well) ∙ e)

  lasts : Lasting S
  lasts = lasting_read s well

  serves : ends_by (with_modules S k) t ≡ true
  serves = least_serves S t lasts passed.count

  narrow : over_wide (with_modules S k) ≡ false
  narrow = go (true-or-false (over_wide (with_modules S k)))
    where
      go : (over_wide (with_modules S k) ≡ true) ⊎ (over_wide (with_modules S k) ≡ false) → over_wide (with_modules S k) ≡ false
      go (inl w) = clash (ends_by (with_modules S k) t) serves (wide_ends_by-none (with_modules S k) t w)
      go (inr n) = n

  count_is : (size_answer s t (length card)).modules ≡ k
  unfolding size_answer
  count_is = rw e refl

  some : 1 ≤ k
  some = least-some S t

  -- the sheet in the cabinet of the count
  there : sheet_in (with_n s k) ≡ with_modules S k
  there = in-cabinet s well k some passed.count

  planned : plan_refusal (with_n s k) (length card) ≡ 0
  unfolding plan_refusal
  planned =
      let reads = all_passed (read_checks (with_n s k)) refl (still_reads s well k some passed.count) in
      let ordered : no_order (with_modules S k) ≡ false = none_same (marks_with S k) ∙ passed.ordered in
      none_failing (plan_checks (with_n s k) (length card))
      (together_passed (planable_checks (with_n s k)) (room_checks (sheet_in (with_n s k)) (length card))
      (together_passed (read_checks (with_n s k)) (order_checks (sheet_in (with_n s k))) reads
      (subst (λ (T : Sheet). Passed (order_checks T)) (sym there) (narrow, (ordered, tt))))
      (subst (λ (T : Sheet). Passed (room_checks T (length card))) (sym there) (passed.room, tt)))

  same-card : card_after (with_n s k) card ≡ size_card_after s t card
  unfolding card_after size_card_after
  same-card = rw (planned, e) (ap (λ (T : Sheet). over (best_card T) card) there)

  sized : SizedFor s t card k
  sized = record {
    some = some;
    most = passed.count;
    valid = on-card.0;
    early = omega (arith, on-card.1 ends.0 ends.1, ends.2);
    least = λ i l m P v. later (with_modules S i) t lasts (least_below S t i l m) P v;
  }
    where
      ends : EndsBy (with_modules S k) t
      ends = (ends_by_when (with_modules S k) lasts t).0 serves

      on-card : FirstToEnd (with_modules S k) (size_card_after s t card)
      on-card =
          let a = (plan-answered (with_n s k) card planned).1 in
          subst (λ (T : Sheet). FirstToEnd T (size_card_after s t card)) there
          (subst (FirstToEnd (sheet_in (with_n s k))) same-card (a.valid, a.earliest))

-- ---- the promises

pub size-answered : SizeAnswered
size-answered s t card e = subst (SizedFor s t card) (sym (count_is s t card e)) (sized s t card e)

pub size-card_is_planned : SizeCardIsPlanned
size-card_is_planned s t card e =
    subst (λ (k : ℕ). (plan_refusal (with_n s k) (length card) ≡ 0) × (card_after (with_n s k) card ≡ size_card_after s t card))
    (sym (count_is s t card e)) (planned s t card e, same-card s t card e)

module _ (s : List ℕ) (t room : ℕ) (e : read_refusal s ≡ 0) (o : no_order (sheet_in s) ≡ false) where
  abbrev R : Sheet
  R = sheet_in s

  number : size_refusal s t room ≡ count_refusal R t room
  number = behind-reading s t room e

  free : ¬ Circular R
  free = (ordered_when R).0 o

  -- 20 exactly where its test fails
  no-count : (size_refusal s t room ≡ 20) ↔ (ltb most_modules (least_count R t) ≡ true)
  no-count = (λ z. go z (true-or-false (ltb most_modules (least_count R t))), λ y. number ∙ number_no-count R t room free y)
    where
      fits : ltb most_modules (least_count R t) ≡ false → size_refusal s t room ≡ 20
          → (ltb room (card_size R.jobs) ≡ true) ⊎ (ltb room (card_size R.jobs) ≡ false) → ⊥
      fits n z (inl l) = omega (arith, z, number, number_no-room R t room free n l)
      fits n z (inr l) = omega (arith, z, number, number-none R t room free n l)

      go : size_refusal s t room ≡ 20 → (ltb most_modules (least_count R t) ≡ true) ⊎ (ltb most_modules (least_count R t) ≡ false)
          → ltb most_modules (least_count R t) ≡ true
      go z (inl y) = y
      go z (inr n) = absurd (fits n z (true-or-false (ltb room (card_size R.jobs))))

pub no-count_exactly : NoCountExactly
no-count_exactly s t room e o = (there', back)
  where
    lasts' : Lasting (sheet_in s)
    lasts' = lasting_read s e

    decides : ltb most_modules (least_count (sheet_in s) t) ≡ not (ends_by (with_modules (sheet_in s) most_modules) t)
    decides = largest_decides (sheet_in s) t lasts'

    there' : size_refusal s t room ≡ 20 → (k : ℕ) → 1 ≤ k → k ≤ most_modules → (P : Plan) → Valid (with_modules (sheet_in s) k) P
        → t < plan_end (with_modules (sheet_in s) k) P
    there' z k l m P v =
        let none = not-true (ends_by (with_modules (sheet_in s) most_modules) t) (sym decides ∙ (no-count s t room e o).0 z) in
        later (with_modules (sheet_in s) k) t lasts' (smaller-not (sheet_in s) t lasts' most_modules k none m) P v

    back : ((k : ℕ) → 1 ≤ k → k ≤ most_modules → (P : Plan) → Valid (with_modules (sheet_in s) k) P → t < plan_end (with_modules (sheet_in s) k) P)
        → size_refusal s t room ≡ 20
    back h = (no-count s t room e o).1 (decides ∙ ap not (go (true-or-false (ends_by (with_modules (sheet_in s) most_modules) t))))
      where
        go : (ends_by (with_modules (sheet_in s) most_modules) t ≡ true) ⊎ (ends_by (with_modules (sheet_in s) most_modules) t ≡ false)
            → ends_by (with_modules (sheet_in s) most_modules) t ≡ false
        go (inl y) =
            let p = (ends_by_when (with_modules (sheet_in s) most_modules) lasts' t).0 y in
            absurd (omega (arith, h most_modules (omega arith) (omega arith) p.0 p.1, p.2))
        go (inr n) = n

pub size_ignores-N : SizeIgnoresN
unfolding size_answer size_card_after count_refusal least_count
size_ignores-N s t i card e l m = (
  ap₂ (λ (x : ℕ) (T : Sheet). cond {A = Sized} (eqb x 0) (record { refusal = 0; modules = least_count T t }) (record { refusal = x; modules = 0 }))
      same_number there',
  ap₂ (λ (x : ℕ) (T : Sheet). cond (eqb x 0) (over (best_card (with_modules T (least_count T t))) card) card) same_number there',
)
  where
    S : Sheet
    S = sheet_in s

    there' : sheet_in (with_n s i) ≡ with_modules S i
    there' = in-cabinet s e i l m

    -- the marks alone decide 9, and the counts are the same
    same_number : size_refusal (with_n s i) t (length card) ≡ size_refusal s t (length card)
    same_number =
        behind-reading (with_n s i) t (length card) (still_reads s e i l m)
        ∙ ap (λ (T : Sheet). count_refusal T t (length card)) there'
        ∙ (λ j. first_failing ((9, none_same (marks_with S i) j) ∷ (20, ltb most_modules (least_count S t)) ∷ room_checks S (length card)))
        ∙ sym (behind-reading s t (length card) e)
