-- Jobs without marks, and a chain.
use mathlib.Core.Path.{◌≡◌, refl, sym, ap, ◌∙◌}
use mathlib.Core.Logic.{◌⊎◌, inl, inr}
use mathlib.Core.Bool.{Bool, true, not, ◌||◌, and-true, and-false}
use Prim.Native.Nat.{ℕ, zero, suc, ◌^◌, ◌<◌}
use native.Mathlib.Omega.{arith}
use lib.Dec.{eqb}
use borrow.Author.Tests.{eqb-true, eq-eqb}
use Rattle.counting.specs.Counting.{only, every}
use Rattle.counting.proofs.Tests.{same_test, clash, last-or_below, or_first, implied, implication}
use Rattle.counting.proofs.Ranges.{every-at, every_intro}
use Rattle.counting.proofs.Sums.{sum_const}
use Rattle.counting.proofs.Counts.{count_same}
use Rattle.counting.proofs.Subsets.{adding, below, subsets, subsets_same, subsets-none}
use Rattle.bits.specs.Bits.{bit}
use Rattle.bits.proofs.Numbers.{count_subsets}
use Rattle.schedule.specs.Plan.{Sheet}
use Rattle.job_sets.specs.Sets.{closed, closed_sets, ChainSets, FreeSets}
use Rattle.job_sets.proofs.Closed.{closed_says, says-closed}

-- ---- jobs without marks

pub free_sets : FreeSets
unfolding closed_sets
free_sets S free =
    let a = count_same (2 ^ S.jobs) (λ x. closed S (bit x)) (λ x. true)
    (λ x l. says-closed S (bit x) (λ i j m n e y. clash (S.before i j) e (free i j m n))) in
    omega (arith, sum_const (2 ^ S.jobs) 1)

-- ---- a chain

-- d has, with each number below n, all below it
abbrev initial : ℕ → (ℕ → Bool) → Bool
initial n d = every n (λ j. not (d j) || every j d)

every_below : (n : ℕ) (d : ℕ → Bool) → every n (adding d n) ≡ every n d
every_below n d =
    same_test _ _ (λ e. every_intro n d (λ i l. sym (below n d i l) ∙ every-at n (adding d n) e i l))
    (λ e. every_intro n (adding d n) (λ i l. below n d i l ∙ every-at n d e i l))

-- one set has all numbers below n
whole : (n : ℕ) → subsets n (λ d. only (every n d) 1) ≡ 1
unfolding subsets every
whole zero = refl
whole (suc n) =
    let a = subsets-none n (λ d. only (every (suc n) d) 1) (λ d w. rw (w n (omega arith), and-false (every n d)) refl) in
    let b = subsets_same n (λ d. only (every (suc n) (adding d n)) 1) (λ d. only (every n d) 1)
    (λ d w. rw (eq-eqb n n refl, and-true (every n (adding d n)), every_below n d) refl) in
    omega (arith, whole n)

beginnings : (n : ℕ) → subsets n (λ d. only (initial n d) 1) ≡ suc n
unfolding subsets every
beginnings zero = refl
beginnings (suc n) =
    let a = subsets_same n (λ d. only (initial (suc n) d) 1) (λ d. only (initial n d) 1)
    (λ d w. rw (w n (omega arith), and-true (initial n d)) refl) in
    let b = subsets_same n (λ d. only (initial (suc n) (adding d n)) 1) (λ d. only (every n d) 1) (λ d w. ap (λ p. only p 1) (last d)) in
    omega (arith, beginnings n, whole n)
  where
    last : (d : ℕ → Bool) → initial (suc n) (adding d n) ≡ every n d
    last d = same_test _ _ there back
      where
        there : initial (suc n) (adding d n) ≡ true → every n d ≡ true
        there e =
            let own = or_first (eqb n n) (d n) (eq-eqb n n refl) in
            sym (every_below n d) ∙ implied (adding d n n) (every n (adding d n))
            (every-at (suc n) (λ j. not (adding d n j) || every j (adding d n)) e n (omega arith)) own

        back : every n d ≡ true → initial (suc n) (adding d n) ≡ true
        back e = every_intro (suc n) (λ j. not (adding d n j) || every j (adding d n)) (λ j l. implication (adding d n j) _ (λ x.
            every_intro j (adding d n) (λ i m. below n d i (omega arith) ∙ every-at n d e i (omega arith))))

module _ (S : Sheet) (chain : (i j : ℕ) → i < S.jobs → j < S.jobs → S.before i j ≡ eqb (suc i) j) where
  -- a closed set has all below each of its jobs
  down : (d : ℕ → Bool) → closed S d ≡ true → (j : ℕ) → j < S.jobs → d j ≡ true → (i : ℕ) → i < j → d i ≡ true
  down d e zero l x i m = absurd (omega arith)
  down d e (suc j) l x i m = go (last-or_below j i m) (down d e j (omega arith) next)
    where
      next : d j ≡ true
      next = closed_says S d e j (suc j) (omega arith) l (chain j (suc j) (omega arith) l ∙ eq-eqb (suc j) (suc j) refl) x

      go : (i ≡ j) ⊎ (i < j) → ((i : ℕ) → i < j → d i ≡ true) → d i ≡ true
      go (inl z) more = ap d z ∙ next
      go (inr z) more = more i z

  closed_begins : (d : ℕ → Bool) → closed S d ≡ initial S.jobs d
  closed_begins d = same_test _ _ there back
    where
      there : closed S d ≡ true → initial S.jobs d ≡ true
      there e = every_intro S.jobs (λ j. not (d j) || every j d) (λ j l. implication (d j) _ (λ x. every_intro j d (down d e j l x)))

      back : initial S.jobs d ≡ true → closed S d ≡ true
      back e = says-closed S d (λ i j l m b x.
          let z = eqb-true (suc i) j (sym (chain i j l m) ∙ b) in
          every-at j d (implied (d j) (every j d) (every-at S.jobs (λ j. not (d j) || every j d) e j m) x) i (omega arith))

  chain_has : closed_sets S ≡ suc S.jobs
  unfolding closed_sets
  chain_has =
      count_same (2 ^ S.jobs) (λ x. closed S (bit x)) (λ x. initial S.jobs (bit x)) (λ x l. closed_begins (bit x))
      ∙ count_subsets S.jobs (initial S.jobs) ∙ beginnings S.jobs

pub chain_sets : ChainSets
chain_sets S chain = chain_has S chain
