-- The plan on a card is the list plan of its order: it is valid, and it ends when the card says.
use mathlib.Core.Path.{◌≡◌, sym, ap, ◌∙◌}
use mathlib.Core.Logic.{◌⊎◌, inl, inr}
use mathlib.Core.Bool.{true, false}
use mathlib.Core.List.{List}
use Prim.Native.Nat.{ℕ, ◌+◌, ◌≤◌, ◌<◌}
use native.Mathlib.Omega.{arith}
use Rattle.counting.proofs.Tests.{true-or-false, less-or-not}
use Rattle.counting.proofs.Ranges.{largest_same}
use Rattle.counting.proofs.Counts.{count_same}
use Rattle.bits.specs.Bits.{bit, set_of}
use Rattle.bits.proofs.Sets.{bit-set_of, bit-set_of_above}
use Rattle.schedule.specs.Plan.{Sheet, Plan, Valid, finish, plan_end, Narrow}
use Rattle.schedule.specs.ListPlan.{Order, list_plan}
use Rattle.schedule.proofs.Sound.{list_plan_valid}
use Rattle.card.specs.Card.{trailer_end, trailer_at}
use Rattle.words.specs.Words.{number_at}
use Rattle.card.specs.Decoding.{plan_on, Decodes}

-- ---- two plans that say the same of the sheet's jobs

module _ (S : Sheet) (P Q : Plan) (starts : (j : ℕ) → j < S.jobs → Q.start j ≡ P.start j) where
  same_end : plan_end S Q ≡ plan_end S P
  same_end = largest_same S.jobs (finish S Q) (finish S P) (λ j l. ap (λ (t : ℕ). t + S.minutes j) (starts j l))

  same_valid : ((j m : ℕ) → j < S.jobs → Q.uses j m ≡ P.uses j m) → Valid S P → Valid S Q
  same_valid uses v = record {
    inside = λ j m l u. v.inside j m l (sym (uses j m l) ∙ u);
    enough = λ j l. count_same S.modules (Q.uses j) (P.uses j) (λ m k. uses j m l) ∙ v.enough j l;
    apart = λ i j m k l d u u'.
        rw (starts i k, starts j l) (v.apart i j m k l d (sym (uses i m k) ∙ u) (sym (uses j m l) ∙ u'));
    after = λ i j k l b. rw (starts i k, starts j l) (v.after i j k l b);
    arrived = λ j l. rw (starts j l) (v.arrived j l);
  }

-- ---- the plan on the card

module _ (S : Sheet) (w : Narrow S) (o : List ℕ) (h : Order S o) (s : List ℕ) (d : Decodes S o s) where
  -- bit m is set where module m is in the job's set, and nowhere else
  pub card_uses : (j m : ℕ) → j < S.jobs → (plan_on s).uses j m ≡ (list_plan S o).uses j m
  card_uses j m l = ap (λ (x : ℕ). bit x m) (d.modules j l) ∙ go (less-or-not m S.modules) (true-or-false ((list_plan S o).uses j m))
    where
      go : (m < S.modules) ⊎ (S.modules ≤ m) → ((list_plan S o).uses j m ≡ true) ⊎ ((list_plan S o).uses j m ≡ false)
          → ◌≡◌ (bit (set_of S.modules ((list_plan S o).uses j)) m) ((list_plan S o).uses j m)
      go (inl k) t = bit-set_of S.modules ((list_plan S o).uses j) m k
      go (inr k) (inl t) = absurd (omega (arith, (list_plan_valid S w o h).inside j m l t))
      go (inr k) (inr t) = bit-set_of_above S.modules ((list_plan S o).uses j) m k ∙ sym t

  -- The plan on the card is valid.
  pub card_valid : Valid S (plan_on s)
  card_valid = same_valid S (list_plan S o) (plan_on s) d.start card_uses (list_plan_valid S w o h)

  -- The largest end on the card is the end in its trailer.
  pub card_end : plan_end S (plan_on s) ≡ number_at s (trailer_at S.jobs + trailer_end) 2
  card_end = same_end S (list_plan S o) (plan_on s) d.start ∙ sym d.last
