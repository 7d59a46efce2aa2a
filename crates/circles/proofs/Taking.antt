-- Jobs are taken out one after another: a job that may go, a circle where there is none, an order where none is left.
use mathlib.Core.Path.{◌≡◌, refl, sym, ap, ◌∙◌}
use mathlib.Core.Logic.{◌⊎◌, inl, inr}
use mathlib.Core.Bool.{Bool, true, false, not, ◌&&◌, ◌||◌}
use mathlib.Core.List.{List, [], ◌∷◌, ◌++◌}
use Prim.Native.Nat.{ℕ, ◌-◌, ◌<◌, ◌^◌}
use native.Mathlib.Omega.{arith}
use lib.Dec.{eqb}
use lib.Bits.{bit_and, and_comm}
use lib.Pow.{pow_pos}
use borrow.Author.Tests.{not-true, not-false}
use Rattle.counting.proofs.Tests.{true-or-false, clash}
use Rattle.counting.proofs.Ranges.{Some, None, find}
use Rattle.counting.proofs.Counts.{count_none, count-not}
use Rattle.bits.specs.Bits.{bit, without_bit, set_of}
use Rattle.bits.proofs.Digits.{bit-none}
use Rattle.bits.proofs.Members.{bit_without, without-le}
use Rattle.bits.proofs.Sets.{bits_same, and-empty, empty-and, all_bits}
use Rattle.bits.proofs.Walks.{Walk, walk_first, walk_none, walk_next, walk_gone}
use Rattle.schedule.specs.Plan.{Sheet, Circular}
use Rattle.schedule.specs.ListPlan.{PartPlan, no_jobs, ready, Follows, place_all, part_of}
use Rattle.schedule.proofs.Starts.{Ready, ready_says, ready_when}
use Rattle.schedule.proofs.Existence.{stuck_circular, order-not_circular}
use Rattle.schedule.proofs.Prefixes.{part_count, part_more, follows_more}
use Rattle.tables.specs.declared.Jobs.{Jobs}
use Rattle.tables.specs.Tables.{sheet_of, earlier_at, count_of}
use Rattle.circles.specs.Circles.{MayGo}

-- ---- a job that may go

-- those that are not still to come may not
pub record Seeking (t : Jobs) (left todo : ℕ) : Type 0 where
  pub walk : Walk left (count_of t) todo
  pub none : (j : ℕ) → bit todo j ≡ false → ¬ MayGo t left j

module _ {t : Jobs} {left : ℕ} where
  pub seeking-none : Seeking t left (set_of (count_of t) (bit left))
  seeking-none = record {
    walk = walk_first (count_of t) left;
    none = λ j b m. clash (bit left j) m.member (walk_none (count_of t) left j m.job b);
  }

  pub seeking-step : {todo : ℕ} (j : ℕ) → ¬ (bit_and (earlier_at t j) left ≡ 0) → Seeking t left todo → Seeking t left (without_bit todo j)
  seeking-step {todo} j n h = record { walk = walk_next j h.walk; none = λ k b m. go k m (walk_gone todo j k b) }
    where
      go : (k : ℕ) → MayGo t left k → (k ≡ j) ⊎ (bit todo k ≡ false) → ⊥
      go k m (inl e) = n (rw e at m.after)
      go k m (inr b) = h.none k b m

  pub seeking_all : {todo : ℕ} → Seeking t left todo → todo ≡ 0 → (j : ℕ) → ¬ MayGo t left j
  seeking_all h e j = h.none j (rw e (bit-none j))

-- ---- the jobs taken out

-- each of them follows its earlier jobs, in the order of some word
pub record Taken (t : Jobs) (left : ℕ) : Type 0 where
  pub word : List ℕ
  pub follows : Follows (sheet_of t) no_jobs word
  pub low : left < 2 ^ count_of t
  pub each : (i : ℕ) → i < count_of t → bit left i ≡ not ((part_of (sheet_of t) word).placed i)

pub taken_none : (t : Jobs) → Taken t (2 ^ count_of t - 1)
unfolding place_all
taken_none t = record {
  word = [];
  follows = tt;
  low = omega (arith, pow_pos (count_of t));
  each = λ i l. all_bits (count_of t) i l;
}

module _ {t : Jobs} {left : ℕ} (h : Taken t left) where
  abbrev S : Sheet
  S = sheet_of t

  abbrev placed : ℕ → Bool
  placed = (part_of S h.word).placed

  may-ready : {j : ℕ} → MayGo t left j → ready S placed j ≡ true
  may-ready {j} m = ready_when S placed j (record {
    job = m.job;
    new = not-true (placed j) (sym (h.each j m.job) ∙ m.member);
    after = λ i l b. not-false (placed i) (sym (h.each i l) ∙ and-empty (earlier_at t j) left m.after i b);
  })

  ready_may : {j : ℕ} → ready S placed j ≡ true → MayGo t left j
  ready_may {j} e = record {
    job = R.job;
    member = h.each j R.job ∙ ap not R.new;
    after = and_comm (earlier_at t j) left
        ∙ empty-and (count_of t) left (earlier_at t j) h.low (λ i l u. go i l u (true-or-false (bit (earlier_at t j) i)));
  }
    where
      R : Ready S placed j
      R = ready_says S placed j e

      go : (i : ℕ) → i < count_of t → bit left i ≡ true → (bit (earlier_at t j) i ≡ true) ⊎ (bit (earlier_at t j) i ≡ false)
          → bit (earlier_at t j) i ≡ false
      go i l u (inr b) = b
      go i l u (inl b) = clash (not (placed i)) (sym (h.each i l) ∙ u) (ap not (R.after i l b))

  -- one job more
  pub taken_step : {j : ℕ} → MayGo t left j → Taken t (without_bit left j)
  taken_step {j} m = record {
    word = h.word ++ (j ∷ []);
    follows = follows_more S h.word j h.follows (may-ready m);
    low = omega (arith, without-le left j, h.low);
    each = λ i l.
        bit_without left j i ∙ ap (λ b. b && not (eqb i j)) (h.each i l) ∙ neither (eqb i j) (placed i)
        ∙ ap (λ (P : PartPlan). not (P.placed i)) (sym (part_more S h.word j));
  }
    where
      neither : (a b : Bool) → (not b && not a) ≡ not (a || b)
      neither true true = refl
      neither true false = refl
      neither false true = refl
      neither false false = refl

  -- none may go, and some is left
  pub taken_stuck : ((j : ℕ) → ¬ MayGo t left j) → ¬ (left ≡ 0) → Circular S
  taken_stuck none some = go (find (count_of t) (bit left))
    where
      stuck : (j : ℕ) → j < count_of t → ready S placed j ≡ false
      stuck j l = one (true-or-false (ready S placed j))
        where
          one : (ready S placed j ≡ true) ⊎ (ready S placed j ≡ false) → ready S placed j ≡ false
          one (inr e) = e
          one (inl e) = absurd (none j (ready_may e))

      go : Some (count_of t) (bit left) ⊎ None (count_of t) (bit left) → Circular S
      go (inl (i, l, b)) = stuck_circular S placed stuck i l (not-true (placed i) (sym (h.each i l) ∙ b))
      go (inr empty) = absurd (some (bits_same (count_of t) left 0 h.low (pow_pos (count_of t)) (λ i l. empty i l ∙ sym (bit-none i))))

  -- none is left
  pub taken_all : left ≡ 0 → ¬ Circular S
  taken_all e = order-not_circular S h.word (record {
    all = omega (
      arith,
      part_count S h.word h.follows,
      count-not (count_of t) placed,
      count_none (count_of t) (λ i. not (placed i)) (λ i l.
          sym (h.each i l) ∙ rw e (bit-none i)),
    );
    follows = h.follows;
  })
