-- The cards of two sheets that say the same of every job, and the card of the tie rule's order.
use mathlib.Core.Path.{◌≡◌, refl, sym, ap, ap₂, ◌∙◌}
use mathlib.Core.List.{List, ◌++◌}
use Prim.Native.Nat.{ℕ, ◌+◌, ◌<◌}
use native.Mathlib.Omega.{arith}
use lib.ListN.{length, get_or}
use Rattle.counting.proofs.Joins.{joined_same}
use Rattle.bits.specs.Bits.{set_of}
use Rattle.schedule.specs.Plan.{Sheet, Plan, Circular}
use Rattle.schedule.specs.ListPlan.{Order, list_plan}
use Rattle.schedule.specs.TieRule.{Best, end_of}
use Rattle.schedule.proofs.Orders.{best_is}
use Rattle.schedule.proofs.Theorems.{best_exists}
use Rattle.card.specs.Card.{card_size, trailer_end, trailer_count, order_at, trailer_at, row_bytes, row_of, trailer_bytes, card_bytes, card_of}
use Rattle.words.specs.Words.{number_at}
use Rattle.card.specs.Decoding.{Decodes}
use Rattle.card.proofs.Decoding.{card-length}
use Rattle.schedule.proofs.Same.{SameJobs, plan_same, finish_same, end_same, best_same}
use Rattle.planner.specs.Planning.{best_card}

module _ {S T : Sheet} (h : SameJobs S T) (o : List ℕ) (w : Order S o) where
  set_same : (j : ℕ) → set_of S.modules ((list_plan S o).uses j) ≡ set_of T.modules ((list_plan T o).uses j)
  set_same j = ap₂ (λ (n : ℕ) (P : Plan). set_of n (P.uses j)) h.modules (plan_same h o w)

  row_same : (j : ℕ) → j < S.jobs → row_of S o j ≡ row_of T o j
  row_same j l = λ i. row_bytes ((plan_same h o w i).start j) (finish_same h o w j l i) (set_same j i)

  pub card_same : card_of S o ≡ card_of T o
  unfolding card_bytes
  card_same =
      ap₂ (λ (rows : List ℕ) (e : ℕ). rows ++ (o ++ trailer_bytes S.jobs e)) (joined_same S.jobs (row_of S o) (row_of T o) row_same)
      (end_same h o w)
      ∙ ap (λ (n : ℕ). card_bytes n (row_of T o) o (end_of T o)) h.jobs

  -- what can be read back from a card is said of both
  pub decodes_same : (c : List ℕ) → Decodes S o c → Decodes T o c
  decodes_same c d =
      let low : (j : ℕ) → j < T.jobs → j < S.jobs = λ j l. omega (arith, h.jobs) in
      record {
        start = λ j l. d.start j (low j l) ∙ ap (λ (P : Plan). P.start j) (plan_same h o w);
        end = λ j l. d.end j (low j l) ∙ finish_same h o w j (low j l);
        modules = λ j l. d.modules j (low j l) ∙ set_same j;
        order = λ k l. ap (λ (n : ℕ). get_or c (order_at n + k) 0) (sym h.jobs) ∙ d.order k (low k l);
        offset = ap (λ (n : ℕ). number_at c (trailer_at n) 4) (sym h.jobs) ∙ d.offset ∙ ap order_at h.jobs;
        last = ap (λ (n : ℕ). number_at c (trailer_at n + trailer_end) 2) (sym h.jobs) ∙ d.last ∙ end_same h o w;
        count = ap (λ (n : ℕ). number_at c (trailer_at n + trailer_count) 2) (sym h.jobs) ∙ d.count ∙ h.jobs;
      }

-- the card of the tie rule's order is the best
pub best-card : (S : Sheet) (o : List ℕ) → Best S o → best_card S ≡ card_of S o
unfolding best_card
best-card S o b = rw (best_is S o b, best_card) refl

pub best_size : (S : Sheet) → ¬ Circular S → length (best_card S) ≡ card_size S.jobs
best_size S c = let f = best_exists S c in ap length (best-card S f.0 f.2) ∙ card-length S f.0 f.2.order

pub best-card_same : {S T : Sheet} → SameJobs S T → ¬ Circular S → best_card S ≡ best_card T
best-card_same {S} {T} h c =
    let f = best_exists S c in
    best-card S f.0 f.2 ∙ card_same h f.0 f.2.order ∙ sym (best-card T f.0 (best_same h f.0 f.2))
