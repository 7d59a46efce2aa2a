-- The sets of the jobs that follow a job, step by step.
use mathlib.Core.Path.{◌≡◌, refl, ap, ◌∙◌}
use mathlib.Core.Logic.{◌⊎◌, inl, inr}
use mathlib.Core.Bool.{Bool, true, false, cond, ◌&&◌, ◌||◌, and-true, and-false}
use mathlib.Core.List.{List}
use Prim.Native.Nat.{ℕ, ◌+◌, ◌<◌}
use native.Mathlib.Omega.{arith}
use native.Mathlib.Nat.{not-suc-le-zero}
use native.Mathlib.Numerals.{add-one}
use lib.Bits.{bit_or, bit_and}
use lib.ListN.{length, get_or, set, length-set}
use lib.Seq.{get_or-set_same, get_or-set_other}
use Rattle.counting.specs.Counting.{any}
use Rattle.counting.proofs.Tests.{or-false, same_or_not}
use Rattle.counting.proofs.Ranges.{any_same}
use Rattle.bits.specs.Bits.{bit, set_of}
use Rattle.bits.proofs.Digits.{bit-none, bit-or, bit-and}
use Rattle.bits.proofs.Sets.{bit-set_of, set_of_same}
use Rattle.tables.specs.declared.Jobs.{Jobs}
use Rattle.tables.specs.Tables.{sheet_of, earlier_at, count_of}
use Rattle.marks.specs.Following.{follows_within, follows}
use Rattle.marks.specs.Marks.{Reached, Further, FollowedBy, FollowedTo, LaterTo, Marked}
use Rattle.marks.specs.Implied.{implied, implied_marks}

-- ---- a step further

module _ (t : Jobs) (from : ℕ) where
  pub reached-none : Reached t from 0 0
  unfolding any
  reached-none i = bit-none i

  pub reached_more : (a all : ℕ) → Reached t from a all → Reached t from (a + 1) (cond (bit from a) (bit_or all (earlier_at t a)) all)
  unfolding any
  reached_more a all h i = rw (add-one a) (go (bit from a) refl)
    where
      A : Bool
      A = any a (λ x. bit (earlier_at t x) i && bit from x)

      go : (b : Bool) → bit from a ≡ b → bit (cond b (bit_or all (earlier_at t a)) all) i ≡ (A || (bit (earlier_at t a) i && bit from a))
      go true e = rw (e, and-true (bit (earlier_at t a) i)) (bit-or all (earlier_at t a) i ∙ ap (λ b. b || bit (earlier_at t a) i) (h i))
      go false e = rw (e, and-false (bit (earlier_at t a) i)) (h i ∙ or-false A)

  pub further_is : (j r : ℕ) → Reached t from (count_of t) r → Further t j from (bit_or (earlier_at t j) r)
  further_is j r h i = bit-or (earlier_at t j) r i ∙ ap (λ b. bit (earlier_at t j) i || b) (h i)

-- ---- as many steps as there are jobs

-- the jobs that job j follows by at most k + 1 marks
abbrev pub Within : Jobs → ℕ → ℕ → ℕ → Type 0
Within t j k r = (i : ℕ) → bit r i ≡ follows_within (sheet_of t) k i j

module _ (t : Jobs) (j : ℕ) where
  pub within_none : Within t j 0 (earlier_at t j)
  unfolding follows_within
  within_none i = refl

  pub within_more : (k from r : ℕ) → Within t j k from → Further t j from r → Within t j (k + 1) r
  unfolding follows_within
  within_more k from r h f i = rw (add-one k) (f i ∙ ap (λ b. bit (earlier_at t j) i || b)
      (any_same (count_of t) (λ a. bit (earlier_at t a) i && bit from a) (λ a. bit (earlier_at t a) i && follows_within (sheet_of t) k a j)
      (λ a l. ap (λ b. bit (earlier_at t a) i && b) (h a))))

-- ---- a set for each job

-- a list of 20 places in which each of the first n has its property
pub record Filled (P : ℕ → ℕ → Type 0) (n : ℕ) (xs : List ℕ) : Type 0 where
  pub size : length xs ≡ 20
  pub each : (j : ℕ) → j < n → P j (get_or xs j 0)

pub filled_none : (P : ℕ → ℕ → Type 0) (xs : List ℕ) → length xs ≡ 20 → Filled P 0 xs
filled_none P xs e = record { size = e; each = λ j l. absurd (not-suc-le-zero l) }

pub filled_more : {P : ℕ → ℕ → Type 0} {n : ℕ} {xs : List ℕ} (x : ℕ) → Filled P n xs → n < 20 → P n x → Filled P (n + 1) (set xs n x)
filled_more {P} {n} {xs} x h l f = record { size = length-set xs n x ∙ h.size; each = λ j m. go j m (same_or_not j n) }
  where
    go : (j : ℕ) → j < n + 1 → (j ≡ n) ⊎ (¬ (j ≡ n)) → P j (get_or (set xs n x) j 0)
    go j m (inl z) = rw (z, get_or-set_same xs n x 0 (omega (arith, h.size))) f
    go j m (inr z) = rw (get_or-set_other xs n j x 0 z) (h.each j (omega arith))

-- ---- the marks that others imply

pub implied_is : (t : Jobs) (j before reached : ℕ) → FollowedBy t j before → Reached t before (count_of t) reached
    → set_of (count_of t) (bit (bit_and (earlier_at t j) reached)) ≡ implied_marks (sheet_of t) j
unfolding implied_marks implied
implied_is t j before reached f h =
    set_of_same (count_of t) (bit (bit_and (earlier_at t j) reached)) (λ i. implied (sheet_of t) i j) one
  where
    one : (i : ℕ) → i < count_of t → bit (bit_and (earlier_at t j) reached) i ≡ implied (sheet_of t) i j
    one i l = bit-and (earlier_at t j) reached i ∙ ap (λ b. bit (earlier_at t j) i && b) (h i
        ∙ any_same (count_of t) (λ a. bit (earlier_at t a) i && bit before a) (λ a. bit (earlier_at t a) i && follows (sheet_of t) a j)
        (λ a m. ap (λ b. bit (earlier_at t a) i && b) (f a)))

-- ---- both ways

pub marked : (t : Jobs) (before behind : List ℕ) → FollowedTo t (count_of t) before → LaterTo before (count_of t) (count_of t) behind
    → Marked (sheet_of t) before behind
marked t before behind f g = record {
  earlier = λ i j a b. f j b i;
  later = λ i j a b. ap (λ (x : ℕ). bit x j) (g i a) ∙ bit-set_of (count_of t) (λ k. bit (get_or before k 0) i) j b ∙ f j b i;
}
