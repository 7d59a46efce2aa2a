-- A card for a sheet is one for every sheet that says the same of its jobs.
use mathlib.Core.Path.{◌≡◌, ap, subst, ◌∙◌}
use mathlib.Core.List.{List}
use Prim.Native.Nat.{ℕ, suc, ◌+◌, ◌≤◌, ◌<◌}
use native.Mathlib.Omega.{arith}
use lib.Dec.{eqb}
use lib.ListN.{get_or}
use Rattle.counting.specs.Counting.{count}
use Rattle.counting.proofs.Tests.{same_test}
use Rattle.schedule.specs.Plan.{Sheet, plan_end}
use Rattle.schedule.proofs.Same.{SameJobs, same_back, valid_same, end_of_same}
use Rattle.words.specs.Words.{number_at}
use Rattle.card.specs.Card.{trailer_end, trailer_count, order_at, trailer_at, card_size}
use Rattle.card.specs.Decoding.{plan_on}
use Rattle.card_check.specs.CardFor.{CardFor}
use Rattle.card_check.specs.Test.{card_fits}
use Rattle.card_check.proofs.Exact.{card_fits_when}

card_for_same : {S T : Sheet} → SameJobs S T → (card : List ℕ) → CardFor S card → CardFor T card
card_for_same {S} {T} h card f = record {
  size = f.size ∙ ap card_size n;
  ends = λ j l. let k : j < S.jobs = omega (arith, n) in f.ends j k ∙ ap (λ (m : ℕ). (plan_on card).start j + m) (h.minutes j k);
  valid = valid_same h (plan_on card) f.valid;
  once = λ j l.
      subst (λ (m : ℕ). count m (λ k. eqb (get_or card (order_at m + k) 0) j) ≡ 1) n (f.once j (omega (arith, n)));
  rising = subst (λ (m : ℕ). (k : ℕ) → suc k < m
      → (plan_on card).start (get_or card (order_at m + k) 0) ≤ (plan_on card).start (get_or card (order_at m + suc k) 0)) n f.rising;
  offset = subst (λ (m : ℕ). number_at card (trailer_at m) 4 ≡ order_at m) n f.offset;
  last = subst (λ (m : ℕ). number_at card (trailer_at m + trailer_end) 2 ≡ plan_end S (plan_on card)) n f.last ∙ end_of_same h (plan_on card);
  count = subst (λ (m : ℕ). number_at card (trailer_at m + trailer_count) 2 ≡ m) n f.count;
}
  where
    n : S.jobs ≡ T.jobs
    n = h.jobs

pub card_fits_same : {S T : Sheet} → SameJobs S T → (card : List ℕ) → card_fits S card ≡ card_fits T card
card_fits_same {S} {T} h card =
    same_test (card_fits S card) (card_fits T card)
    (λ e. (card_fits_when T card).1 (card_for_same h card ((card_fits_when S card).0 e)))
    (λ e. (card_fits_when S card).1 (card_for_same (same_back h) card ((card_fits_when T card).0 e)))
