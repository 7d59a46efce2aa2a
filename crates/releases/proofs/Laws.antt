-- A release is raised to where a job must have ended, and stays a minute before which its job cannot start.
use mathlib.Core.Path.{◌≡◌, sym, ap, ◌∙◌}
use mathlib.Core.Logic.{◌⊎◌, inl, inr}
use mathlib.Core.Bool.{true, false, cond}
use mathlib.Core.List.{List}
use Prim.Native.Nat.{ℕ, ◌+◌, ◌≤◌, ◌<◌, max, zero-le}
use native.Mathlib.Omega.{arith}
use native.Mathlib.Nat.{le_refl}
use lib.Dec.{eqb}
use lib.Bits.{bit_and}
use lib.ListN.{length, get_or, set}
use lib.Seq.{get_or-set_same, get_or-set_other}
use Rattle.counting.proofs.Tests.{same_or_not, and_left, and_right, true-or-false}
use Rattle.figures.specs.Figures.{most_jobs, no_minute}
use Rattle.bits.specs.Bits.{bit, without_bit, set_of}
use Rattle.bits.proofs.Digits.{bit-and}
use Rattle.bits.proofs.Members.{bit_without}
use Rattle.bits.proofs.Walks.{walk_first}
use Rattle.tables.specs.declared.Jobs.{Jobs}
use Rattle.tables.specs.Tables.{minutes_at, earlier_at, count_of, Fit}
use Rattle.weights.specs.Weights.{Put}
use Rattle.releases.specs.Releases.{first_at, Starting, Releases}

-- ---- the last end of a set

-- no later than any minute by which all members of the set have ended; some of them are still to come
pub record Ending (t : Jobs) (release : List ℕ) (set latest todo : ℕ) : Type 0 where
  pub inside : (i : ℕ) → bit todo i ≡ true → bit set i ≡ true
  pub by : (x : ℕ) → ((i : ℕ) → bit set i ≡ true → get_or release i 0 + minutes_at t i ≤ x) → latest ≤ x

pub ending-none : (t : Jobs) (release : List ℕ) (set : ℕ) → Ending t release set 0 set
ending-none t release set = record { inside = λ i b. b; by = λ x h. zero-le }

pub ending_more : {t : Jobs} {release : List ℕ} {set latest todo : ℕ} → Ending t release set latest todo → (i e : ℕ) → bit todo i ≡ true
    → e ≤ get_or release i 0 + minutes_at t i → Ending t release set (max latest e) (without_bit todo i)
ending_more {todo = todo} h i e b l = record {
  inside = λ k m. h.inside k (and_left (bit todo k) _ (sym (bit_without todo i k) ∙ m));
  by = λ x m. omega (arith, h.by x m, m i (h.inside i b), l);
}

-- ---- one release

-- the jobs of a set that must have ended before job k, below n
abbrev pub before : Jobs → ℕ → ℕ → ℕ → ℕ
before t set k n = set_of n (bit (bit_and (earlier_at t k) set))

pub before_below : (t : Jobs) (set k n i : ℕ) → bit (before t set k n) i ≡ true → i < n
before_below t set k n i b = (walk_first n (bit_and (earlier_at t k) set)).below i b

pub before_is : (t : Jobs) (set k n i : ℕ) → bit (before t set k n) i ≡ true
    → (bit set i ≡ true) × (bit (earlier_at t k) i ≡ true)
before_is t set k n i b =
    let both = sym (bit-and (earlier_at t k) set i) ∙ (walk_first n (bit_and (earlier_at t k) set)).inside i b in
    (and_right (bit (earlier_at t k) i) _ both, and_left (bit (earlier_at t k) i) _ both)

-- ---- all releases

pub firsts : {t : Jobs} {at release : List ℕ} {set l : ℕ} {old : List ℕ} → Fit t → Put (λ k. k) old release most_jobs (first_at at l)
    → ((k : ℕ) → k < count_of t → l ≤ get_or at k 0) → Releases t at set l release
unfolding first_at
firsts {t} {at} {release} {set} {l} fit put starts = record {
  low = λ k m. omega (arith, put.each k (omega (arith, fit.few)), low k m (true-or-false (eqb (get_or at k 0) no_minute)));
  each = λ start h k m b. omega (arith, put.each k (omega (arith, fit.few)), h.from k m b);
}
  where
    low : (k : ℕ) → k < count_of t → (eqb (get_or at k 0) no_minute ≡ true) ⊎ (eqb (get_or at k 0) no_minute ≡ false)
        → l ≤ cond (eqb (get_or at k 0) no_minute) l (get_or at k 0)
    low k m (inl e) = rw e (le_refl l)
    low k m (inr e) = rw e (starts k m)

pub raised_more : {t : Jobs} {at release : List ℕ} {s l : ℕ} → Releases t at s l release → (k r : ℕ) → k < count_of t → k < length release
    → get_or release k 0 ≤ r
    → ((x : ℕ) → get_or release k 0 ≤ x → ((i : ℕ) → i < count_of t → bit s i ≡ true → bit (earlier_at t k) i ≡ true
    → get_or release i 0 + minutes_at t i ≤ x) → r ≤ x)
    → Releases t at s l (set release k r)
raised_more {t} {at} {release} {s} {l} h k r m n up by = record {
  low = λ i o. low i o (same_or_not i k);
  each = λ start g i o b. each start g i o b (same_or_not i k);
}
  where
    here : get_or (set release k r) k 0 ≡ r
    here = get_or-set_same release k r 0 n

    low : (i : ℕ) → i < count_of t → (i ≡ k) ⊎ (¬ (i ≡ k)) → l ≤ get_or (set release k r) i 0
    low i o (inl e) = rw e (omega (arith, here, up, h.low k m))
    low i o (inr d) = omega (arith, get_or-set_other release k i r 0 d, h.low i o)

    each : (start : ℕ → ℕ) → Starting t at s l start → (i : ℕ) → i < count_of t → bit s i ≡ true → (i ≡ k) ⊎ (¬ (i ≡ k))
        → get_or (set release k r) i 0 ≤ start i
    each start g i o b (inl e) =
        let own : bit s k ≡ true = sym (ap (bit s) e) ∙ b in
        rw e (omega (
          arith,
          here,
          by (start k) (h.each start g k m own) (λ j q c w. omega (arith, h.each start g j q c, g.waits j k q m c own w)),
        ))
    each start g i o b (inr d) = omega (arith, get_or-set_other release k i r 0 d, h.each start g i o b)
