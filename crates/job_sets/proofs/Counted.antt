-- The number of closed sets among the jobs that are left, from the numbers of the two parts.
use mathlib.Core.Path.{◌≡◌, sym, ap, ◌∙◌}
use mathlib.Core.Logic.{◌⊎◌, inl, inr}
use mathlib.Core.Bool.{Bool, true, false, not, ◌&&◌, ◌||◌}
use mathlib.Core.List.{List}
use Prim.Native.Nat.{ℕ, zero, suc, ◌+◌, ◌-◌, ◌^◌, ◌≤◌, ◌<◌}
use native.Mathlib.Omega.{arith}
use lib.Dec.{eqb}
use lib.Count.{ones}
use lib.ListN.{get_or}
use lib.Pow.{pow_pos, pow_mono, pow-add}
use borrow.Author.Tests.{eqb-true, eq-eqb}
use Rattle.counting.specs.Counting.{every}
use Rattle.counting.proofs.Tests.{same_test, less-or-not, and_left, implied, implication, clash, true-or-false}
use Rattle.counting.proofs.Ranges.{every-at, every_intro}
use Rattle.counting.proofs.Sums.{sum_single}
use Rattle.counting.proofs.Counts.{count_same}
use Rattle.counting.proofs.Subsets.{minus}
use Rattle.bits.specs.Bits.{bit}
use Rattle.bits.proofs.Digits.{bit-none, bit_above}
use Rattle.bits.proofs.Sets.{bits_same, all_bits}
use Rattle.bits.proofs.Ones.{ones_none, ones-le}
use Rattle.schedule.specs.Plan.{Sheet, Circular}
use Rattle.marks.specs.Following.{follows}
use Rattle.marks.specs.Marks.{Marked}
use Rattle.marks.proofs.Levels.{chains}
use Rattle.job_sets.specs.Sets.{closed_sets, closed_in, sets_in}
use Rattle.job_sets.specs.Results.{Leaving, SetsAmong}
use Rattle.job_sets.proofs.Choosing.{member_low}
use Rattle.job_sets.proofs.Splits.{up, down, sets_split}
use Rattle.job_sets.proofs.Closed.{sets_are}
use Rattle.job_sets.proofs.Remaining.{fewer_left}

-- ---- no job is left: the empty set alone

none_left : (n : ℕ) (R : ℕ → ℕ → Bool) → sets_in n R (bit 0) ≡ 1
unfolding sets_in
none_left n R =
    count_same (2 ^ n) (λ x. closed_in n R (bit 0) (bit x)) (λ x. eqb x 0) (λ x l. same_test _ _ (there x l) (back x))
    ∙ sum_single (2 ^ n) (λ x. 1) 0 (pow_pos n)
  where
    there : (x : ℕ) → x < 2 ^ n → closed_in n R (bit 0) (bit x) ≡ true → eqb x 0 ≡ true
    there x l e = eq-eqb x 0 (bits_same n x 0 l (pow_pos n) (λ k m. out k m (true-or-false (bit x k)) ∙ sym (bit-none k)))
      where
        out : (k : ℕ) → k < n → (bit x k ≡ true) ⊎ (bit x k ≡ false) → bit x k ≡ false
        out k m (inr f) = f
        out k m (inl f) =
            clash (bit 0 k) (and_left (bit 0 k) _ (implied (bit x k) _
            (every-at n (λ k. not (bit x k) || (bit 0 k && every n (λ i. not (R i k && bit 0 i) || bit x i))) e k m) f)) (bit-none k)

    back : (x : ℕ) → eqb x 0 ≡ true → closed_in n R (bit 0) (bit x) ≡ true
    back x e = every_intro n _ (λ k m. implication (bit x k) _ (λ f. clash (bit x k) f (ap (λ (y : ℕ). bit y k) (eqb-true x 0 e) ∙ bit-none k)))

pub among_none : (before behind : List ℕ) → SetsAmong 0 before behind 1
among_none before behind = record {
  most = let z = ap (λ (k : ℕ). 2 ^ k) ones_none in omega arith;
  count = λ S c m l. sym (none_left S.jobs (follows S));
}

-- ---- a job is left

-- two powers below the next
double : (a b c : ℕ) → a < c → b < c → 2 ^ a + 2 ^ b ≤ 2 ^ c
double a b zero l m = absurd (omega arith)
double a b (suc c) l m =
    let x : 2 ^ a ≤ 2 ^ c = pow_mono (omega arith) in
    let y : 2 ^ b ≤ 2 ^ c = pow_mono (omega arith) in
    omega (arith, pow-add 2 c 1)

-- no more sets than fit a u32
pub among_fits : {left : ℕ} {before behind : List ℕ} {r : ℕ} → left < 2 ^ 20 → SetsAmong left before behind r → r ≤ 1048576
among_fits {left} l h =
    let m : 2 ^ ones left ≤ 2 ^ 20 = pow_mono (ones-le 20 left l) in
    omega (arith, h.most)

module _ (left j lower higher : ℕ) (before behind : List ℕ) (l : left < 2 ^ 20) (e : bit left j ≡ true)
    (f : Leaving left j (get_or behind j 0) lower) (g : Leaving left j (get_or before j 0) higher) where
  -- of a sheet with these marks
  module _ (S : Sheet) (c : ¬ Circular S) (m : Marked S before behind) (k : left < 2 ^ S.jobs) where
    low : j < S.jobs
    low = member_low S.jobs left j k e

    -- what is left without j and others, as a test
    agree : (R : ℕ → Bool) (others r : ℕ) → Leaving left j others r → ((i : ℕ) → i < S.jobs → bit others i ≡ R i)
        → minus (bit left) (λ i. eqb i j || R i) ≡ bit r
    agree R others r h same = λ t i. at i (less-or-not i S.jobs) t
      where
        at : (i : ℕ) → (i < S.jobs) ⊎ (S.jobs ≤ i) → (bit left i && not (eqb i j || R i)) ≡ bit r i
        at i (inl z) = ap (λ b. bit left i && not (eqb i j || b)) (sym (same i z)) ∙ sym (h.each i)
        at i (inr z) = let out = bit_above S.jobs left i k z in rw out (sym (rw out at (h.each i)))

    lower_is : minus (bit left) (up S.jobs (follows S) (chains S c) j) ≡ bit lower
    lower_is = agree (λ i. follows S j i) (get_or behind j 0) lower f (λ i z. m.later j i low z)

    higher_is : minus (bit left) (down S.jobs (follows S) (chains S c) j) ≡ bit higher
    higher_is = agree (λ i. follows S i j) (get_or before j 0) higher g (λ i z. m.earlier i j z low)

    in_two : sets_in S.jobs (follows S) (bit left) ≡ sets_in S.jobs (follows S) (bit lower) + sets_in S.jobs (follows S) (bit higher)
    in_two =
        let s = sets_split S.jobs (follows S) (chains S c) (bit left) j low e in
        let u = ap (sets_in S.jobs (follows S)) lower_is in
        let v = ap (sets_in S.jobs (follows S)) higher_is in
        omega arith

  pub among_more : (a b : ℕ) → SetsAmong lower before behind a → SetsAmong higher before behind b → SetsAmong left before behind (a + b)
  among_more a b p q = record {
    most =
        let two = double (ones lower) (ones higher) (ones left) (fewer_left e l f) (fewer_left e l g) in
        omega (arith, p.most, q.most);
    count = λ S c m k.
        let x = p.count S c m (omega (arith, f.within)) in
        let y = q.count S c m (omega (arith, g.within)) in
        omega (arith, in_two S c m k);
  }

-- ---- all jobs are left

pub among_all : (S : Sheet) → ¬ Circular S → (before behind : List ℕ) → Marked S before behind → (r : ℕ)
    → SetsAmong (2 ^ S.jobs - 1) before behind r → r ≡ closed_sets S
among_all S c before behind m r h =
    h.count S c m (omega (arith, pow_pos S.jobs)) ∙ sym (sets_are S c (bit (2 ^ S.jobs - 1)) (λ i l. all_bits S.jobs i l))
