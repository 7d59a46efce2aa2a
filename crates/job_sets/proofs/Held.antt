-- The closed sets are exactly those that some part-plan has placed.
use mathlib.Core.Path.{◌≡◌, refl, sym, ap, ◌∙◌}
use mathlib.Core.Logic.{◌⊎◌, inl, inr}
use mathlib.Core.Bool.{Bool, true, false, ◌&&◌, ◌||◌, and-false}
use mathlib.Core.List.{List, [], ◌∷◌}
use Prim.Native.Nat.{ℕ, ◌<◌}
use lib.Dec.{eqb}
use borrow.Author.Tests.{eqb-true}
use Rattle.counting.proofs.Tests.{and_both, or_either, or_second}
use Rattle.schedule.specs.Plan.{Sheet}
use Rattle.schedule.specs.ListPlan.{PartPlan, no_jobs, placing, Follows, empty_part, place, start_of, place_all, part_of}
use Rattle.schedule.proofs.Starts.{Ready, ready_says, ready_when}
use Rattle.schedule.proofs.Sound.{completes_all, order_completes}
use Rattle.schedule.proofs.Existence.{has_order}
use Rattle.job_sets.specs.Sets.{closed, HeldWhen}
use Rattle.job_sets.proofs.Closed.{closed_says, says-closed}

-- ---- a closed set is held

module _ (S : Sheet) (d : ℕ → Bool) (e : closed S d ≡ true) where
  -- Q has placed those of P's jobs that are in d
  abbrev Partly : PartPlan → PartPlan → Type 0
  Partly P Q = (i : ℕ) → Q.placed i ≡ (P.placed i && d i)

  -- those of the list that are in d can follow Q, and with them Q has those of P's and the list's jobs that are in d
  record Kept (P Q : PartPlan) (o : List ℕ) : Type 0 where
    word : List ℕ
    follow : Follows S Q.placed word
    placed : Partly (place_all S P o) (place_all S Q word)

  kept : (o : List ℕ) (P Q : PartPlan) → Partly P Q → Follows S P.placed o → Kept P Q o
  unfolding place_all
  kept [] P Q h f = record { word = []; follow = tt; placed = h }
  kept (j ∷ o) P Q h f = go (d j) refl (λ R. kept o (place S P j (start_of S P j)) R)
    where
      r : Ready S P.placed j
      r = ready_says S P.placed j f.0

      Next : PartPlan
      Next = place S P j (start_of S P j)

      go : (b : Bool) → d j ≡ b → ((R : PartPlan) → Partly Next R → Follows S (placing P.placed j) o → Kept Next R o) → Kept P Q (j ∷ o)
      go true x more =
          let k = more (place S Q j (start_of S Q j)) (λ i. with_j i (eqb i j) refl) f.1 in
          record { word = j ∷ k.word; follow = (ready_when S Q.placed j can, k.follow); placed = k.placed }
        where
          can : Ready S Q.placed j
          can = record {
            job = r.job;
            new = h j ∙ rw r.new refl;
            after = λ i l b. h i ∙ and_both (P.placed i) (d i) (r.after i l b) (closed_says S d e i j l r.job b x);
          }

          with_j : (i : ℕ) (b : Bool) → eqb i j ≡ b → (b || Q.placed i) ≡ ((b || P.placed i) && d i)
          with_j i true y = sym (ap d (eqb-true i j y) ∙ x)
          with_j i false y = h i
      go false x more =
          let k = more Q (λ i. without_j i (eqb i j) refl) f.1 in
          record { word = k.word; follow = k.follow; placed = k.placed }
        where
          without_j : (i : ℕ) (b : Bool) → eqb i j ≡ b → Q.placed i ≡ ((b || P.placed i) && d i)
          without_j i true y =
              let out = ap d (eqb-true i j y) ∙ x in
              h i ∙ ap (λ b. P.placed i && b) out ∙ and-false (P.placed i) ∙ sym out
          without_j i false y = h i

-- ---- what is held is closed

module _ (S : Sheet) where
  -- with each placed job, all its earlier jobs
  abbrev Closing : (ℕ → Bool) → Type 0
  Closing p = (i j : ℕ) → i < S.jobs → j < S.jobs → S.before i j ≡ true → p j ≡ true → p i ≡ true

  closes : (w : List ℕ) (P : PartPlan) → Closing P.placed → Follows S P.placed w → Closing (place_all S P w).placed
  unfolding place_all
  closes [] P h f = h
  closes (k ∷ w) P h f = closes w (place S P k (start_of S P k)) next f.1
    where
      r : Ready S P.placed k
      r = ready_says S P.placed k f.0

      next : Closing (placing P.placed k)
      next i j l m b x = or_second (eqb i k) (P.placed i) (go (or_either (eqb j k) (P.placed j) x))
        where
          go : (eqb j k ≡ true) ⊎ (P.placed j ≡ true) → P.placed i ≡ true
          go (inl y) = r.after i l (ap (S.before i) (sym (eqb-true j k y)) ∙ b)
          go (inr y) = h i j l m b y

pub held_when : HeldWhen
held_when S c d = (there, back)
  where
    there : closed S d ≡ true → (w : List ℕ) × Follows S no_jobs w × ((i : ℕ) → i < S.jobs → (part_of S w).placed i ≡ d i)
    there e =
        let t = (has_order S).1 c in
        let k = kept S d e t.0 empty_part empty_part (λ i. refl) t.1.follows in
        let all = completes_all S empty_part t.0 (order_completes S t.0 t.1) in
        (k.word, k.follow, λ i l. k.placed i ∙ ap (λ b. b && d i) (all i l))

    back : (w : List ℕ) × Follows S no_jobs w × ((i : ℕ) → i < S.jobs → (part_of S w).placed i ≡ d i) → closed S d ≡ true
    back (w, f, h) = says-closed S d (λ i j l m b x.
        sym (h i l) ∙ closes S w empty_part (λ i j l m b x. x) f i j l m b (h j m ∙ x))
