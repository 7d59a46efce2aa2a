-- Every card that planning writes is one for its sheet.
use mathlib.Core.Path.{◌≡◌, refl, sym, ap, ap₂, subst, ◌∙◌}
use mathlib.Core.Bool.{Bool}
use mathlib.Core.List.{List, [], ◌∷◌, ◌++◌, append-nil}
use Prim.Native.Nat.{ℕ, zero, suc, ◌+◌, ◌≤◌, ◌<◌}
use native.Mathlib.Omega.{arith}
use native.Mathlib.Nat.{le_refl}
use lib.Dec.{eqb}
use lib.ListN.{length, get_or, take, drop, replicate, length-replicate}
use lib.Seq.{take-append_seam, drop-length}
use borrow.Author.Tests.{le-ltb}
use Rattle.counting.specs.Counting.{only, sum, count}
use Rattle.counting.proofs.Sums.{sum_first}
use Rattle.counting.proofs.Counts.{count_same}
use Rattle.counting.proofs.Tests.{eqb_turned}
use Rattle.schedule.specs.Plan.{Sheet}
use Rattle.schedule.specs.TieRule.{Best}
use Rattle.schedule.specs.ListPlan.{Order, Follows, no_jobs, placing, list_plan, times}
use Rattle.schedule.proofs.Along.{Rising, list_plan_rising, order_once}
use Rattle.schedule.proofs.Orders.{best_order_lem}
use Rattle.schedule.proofs.Starts.{ready_says}
use Rattle.schedule.proofs.Existence.{narrow_says}
use Rattle.checking.specs.Checking.{first_failing}
use Rattle.checking.proofs.Order.{all_passed, first-behind}
use Rattle.planable.specs.Planable.{sheet_in, planable_checks, planable_refusal}
use Rattle.planable.proofs.Planable.{passes}
use Rattle.card.specs.Card.{card_size}
use Rattle.card.specs.Decoding.{plan_on, Decodes}
use Rattle.card.proofs.Decoding.{card-length}
use Rattle.card_check.specs.CardFor.{job_at, CardFor}
use Rattle.planner.specs.Planning.{room_checks, plan_refusal, best_card, card_after}
use Rattle.planner.proofs.Cards.{best-card}
use Rattle.planner.proofs.Planning.{front_passes, found, plan-written, decodes, plan-answered}

-- ---- orders by their places

times-at : (j : ℕ) (o : List ℕ) → count (length o) (λ k. eqb (get_or o k 0) j) ≡ times j o
unfolding sum
times-at j [] = refl
times-at j (i ∷ o) =
    sum_first (length o) (λ k. only (eqb (get_or (i ∷ o) k 0) j) 1)
    ∙ ap₂ (λ (a b : ℕ). a + b) (ap (λ (b : Bool). only b 1) (eqb_turned i j)) (times-at j o)

rising-at : (s : ℕ → ℕ) (t : ℕ) (o : List ℕ) → Rising s t o → (k : ℕ) → suc k < length o → s (get_or o k 0) ≤ s (get_or o (suc k) 0)
rising-at s t [] r k l = absurd (omega arith)
rising-at s t (j ∷ []) r k l = absurd (omega arith)
rising-at s t (j ∷ i ∷ o) r zero l = r.1.0
rising-at s t (j ∷ i ∷ o) r (suc k) l = rising-at s (s j) (i ∷ o) r.1 k (omega arith)

job-at : (S : Sheet) (d : ℕ → Bool) (o : List ℕ) → Follows S d o → (k : ℕ) → k < length o → get_or o k 0 < S.jobs
job-at S d [] f k l = absurd (omega arith)
job-at S d (j ∷ o) f zero l = (ready_says S d j f.0).job
job-at S d (j ∷ o) f (suc k) l = job-at S (placing d j) o f.1 k (omega arith)

-- ---- a lent card that is as long as the sheet's card

module _ (s card : List ℕ) (e : plan_refusal s (length card) ≡ 0) (exact : length card ≡ card_size (sheet_in s).jobs) where
  abbrev S : Sheet
  S = sheet_in s

  abbrev o : List ℕ
  o = (found s card e).0

  abbrev after : List ℕ
  after = card_after s card

  abbrev D : Decodes S o after
  D = decodes s card e

  best : Best S o
  best = best_order_lem S o (found s card e).1

  order : Order S o
  order = best.order

  -- the card, and nothing behind it
  written : after ≡ best_card S
  written =
      plan-written s card e
      ∙ ap (λ (l : List ℕ). best_card S ++ l) (ap (λ (k : ℕ). drop k card) (sym exact) ∙ drop-length card)
      ∙ append-nil (best_card S)

  size : length after ≡ card_size S.jobs
  size = ap length (written ∙ best-card S o best) ∙ card-length S o order

  starts : (j : ℕ) → j < S.jobs → (plan_on after).start j ≡ (list_plan S o).start j
  starts j l = D.start j l

  once : (j : ℕ) → j < S.jobs → count S.jobs (λ k. eqb (job_at S after k) j) ≡ 1
  once j l =
      count_same S.jobs _ (λ k. eqb (get_or o k 0) j) (λ k m. ap (λ (i : ℕ). eqb i j) (D.order k m))
      ∙ ap (λ (n : ℕ). count n (λ k. eqb (get_or o k 0) j)) (sym order.all)
      ∙ times-at j o
      ∙ order_once S o order j l

  start-at : (k : ℕ) → k < S.jobs → (plan_on after).start (job_at S after k) ≡ (list_plan S o).start (get_or o k 0)
  start-at k l =
      ap (λ (i : ℕ). (plan_on after).start i) (D.order k l)
      ∙ starts (get_or o k 0) (job-at S no_jobs o order.follows k (omega (arith, order.all)))

  rising : (k : ℕ) → suc k < S.jobs → (plan_on after).start (job_at S after k) ≤ (plan_on after).start (job_at S after (suc k))
  rising k l =
      let narrow = narrow_says S (passes s (front_passes s (length card) e)).narrow in
      let r = rising-at (list_plan S o).start 0 o (list_plan_rising S narrow o order) k (omega (arith, order.all)) in
      omega (arith, r, start-at k (omega arith), start-at (suc k) l)

  pub exact-card : CardFor S after
  exact-card = record {
    size = size;
    ends = λ j l. D.end j l ∙ ap (λ (t : ℕ). t + S.minutes j) (sym (starts j l));
    valid = (plan-answered s card e).1.valid;
    once = once;
    rising = rising;
    offset = D.offset;
    last = sym (plan-answered s card e).1.end;
    count = D.count;
  }

-- ---- any lent card

-- what is answered into a longer card is answered into one of the card's own length
own-length : (s : List ℕ) (room : ℕ) → plan_refusal s room ≡ 0 → plan_refusal s (card_size (sheet_in s).jobs) ≡ 0
unfolding plan_refusal planable_refusal first_failing
own-length s room e =
    let n = card_size (sheet_in s).jobs in
    first-behind (planable_checks s) (room_checks (sheet_in s) n) (all_passed (planable_checks s) refl (front_passes s room e))
    ∙ rw (le-ltb n n (le_refl n)) refl

-- Every card that planning writes passes the test of the sheet's cards, whatever stands behind it in the lent bytes.
pub planned-card_fits : (s card : List ℕ) → plan_refusal s (length card) ≡ 0
    → CardFor (sheet_in s) (take (card_size (sheet_in s).jobs) (card_after s card))
planned-card_fits s card e =
    let n = card_size (sheet_in s).jobs in
    let own : List ℕ = replicate n 0 in
    let long : length own ≡ n = length-replicate n 0 in
    let f : plan_refusal s (length own) ≡ 0 = ap (plan_refusal s) long ∙ own-length s (length card) e in
    let best = best_card (sheet_in s) in
    let size : length best ≡ n = ap length (sym (written s own f long)) ∙ size s own f long in
    let front : take n (card_after s card) ≡ best =
    ap (take n) (plan-written s card e) ∙ ap (λ (k : ℕ). take k (best ++ drop n card)) (sym size) ∙ take-append_seam best (drop n card) in
    subst (CardFor (sheet_in s)) (written s own f long ∙ sym front) (exact-card s own f long)
