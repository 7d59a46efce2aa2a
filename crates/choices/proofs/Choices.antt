-- The sums of all choices of jobs, one job more at a time.
use mathlib.Core.Path.{◌≡◌, refl, sym, ap, ◌∙◌}
use mathlib.Core.Logic.{◌⊎◌, inl, inr}
use mathlib.Core.Bool.{Bool, true, false, not}
use mathlib.Core.List.{List}
use Prim.Native.Nat.{ℕ, zero, suc, ◌+◌, ◌-◌, ◌*◌, ◌≤◌, ◌<◌, zero-le}
use native.Mathlib.Omega.{arith}
use native.Mathlib.Nat.{not-suc-le-zero, add-zero}
use native.Mathlib.Numerals.{add-one}
use lib.ListN.{length, get_or, set, length-set}
use lib.Seq.{get_or-set_same, get_or-set_other}
use Rattle.counting.specs.Counting.{only, sum}
use borrow.Author.Tests.{ne_eqb}
use Rattle.counting.proofs.Tests.{true-or-false, less-or-not, same_or_not, clash, and_left, and_both}
use Rattle.figures.specs.Figures.{most_jobs}
use Rattle.bits.specs.Bits.{bit, without_bit, set_of}
use Rattle.bits.proofs.Digits.{bit-none}
use Rattle.bits.proofs.Members.{bit_without_same, bit_without}
use Rattle.bits.proofs.Sets.{bit-set_of}
use Rattle.bits.proofs.Walks.{Walk, walk_first, walk_next}
use Rattle.tables.specs.declared.Jobs.{Jobs}
use Rattle.tables.specs.Tables.{kept_at, most_kept}
use Rattle.choices.specs.Choices.{together, Within, SumsOf, Room, Doubled}

-- ---- writing the new sums

-- the first i of the new sums are written
pub record Doubling (sums₀ : List ℕ) (count minutes : ℕ) (sums : List ℕ) (i : ℕ) : Type 0 where
  pub room : Room sums₀ count minutes
  pub inside : i ≤ count
  pub size : length sums ≡ length sums₀
  pub kept : (k : ℕ) → k < count → get_or sums k 0 ≡ get_or sums₀ k 0
  pub more : (k : ℕ) → k < i → get_or sums (count + k) 0 ≡ get_or sums₀ k 0 + minutes

pub doubling-none : {sums : List ℕ} {count minutes : ℕ} → Room sums count minutes → Doubling sums count minutes sums 0
doubling-none r = record {
  room = r;
  inside = zero-le;
  size = refl;
  kept = λ k l. refl;
  more = λ k l. absurd (not-suc-le-zero l);
}

module _ {sums₀ sums : List ℕ} {count minutes i : ℕ} (d : Doubling sums₀ count minutes sums i) where
  pub doubling_fits : i < count → get_or sums i 0 + minutes < 65536
  doubling_fits l = omega (arith, d.kept i l, d.room.fits i l)

  pub doubling-step : i < count → Doubling sums₀ count minutes (set sums (count + i) (get_or sums i 0 + minutes)) (i + 1)
  doubling-step l = record {
    room = d.room;
    inside = omega arith;
    size = length-set sums (count + i) x ∙ d.size;
    kept = λ k m. get_or-set_other sums (count + i) k x 0 (λ e. omega arith) ∙ d.kept k m;
    more = λ k m. go k m (same_or_not k i);
  }
    where
      x : ℕ
      x = get_or sums i 0 + minutes

      go : (k : ℕ) → k < i + 1 → (k ≡ i) ⊎ (¬ (k ≡ i)) → get_or (set sums (count + i) x) (count + k) 0 ≡ get_or sums₀ k 0 + minutes
      go k m (inl e) =
          rw e (get_or-set_same sums (count + i) x 0 (omega (arith, d.size, d.room.few)) ∙ ap (λ (y : ℕ). y + minutes) (d.kept i l))
      go k m (inr e) = get_or-set_other sums (count + i) (count + k) x 0 (λ q. e (omega arith)) ∙ d.more k (omega arith)

  pub doubling_all : count ≤ i → Doubled sums₀ sums count minutes
  doubling_all l = record { kept = d.kept; more = λ k m. d.more k (omega arith) }

-- ---- one job more

together_more : (t : Jobs) (j : ℕ) (X : ℕ → Bool)
    → together t (j + 1) X ≡ together t j X + only (X j) (kept_at t j)
unfolding sum
together_more t j X = rw add-one

-- of no jobs there is the sum 0
pub sums_start : (t : Jobs) (chosen : ℕ) (sums : List ℕ) → 0 < length sums → SumsOf t chosen 0 (set sums 0 0) 1
unfolding sum
sums_start t chosen sums e = record {
  few = omega (arith, length-set sums 0 0);
  short = λ i l. let z : i ≡ 0 = omega arith in rw z (omega (arith, first));
  each = λ _ X w. (0, omega arith, first);
}
  where
    first : get_or (set sums 0 0) 0 0 ≡ 0
    first = get_or-set_same sums 0 0 0 (omega (arith, e))

module _ {t : Jobs} {chosen j : ℕ} {sums : List ℕ} {count : ℕ} (s : SumsOf t chosen j sums count) where
  -- a job that is not in the set adds none
  pub sums_skip : bit chosen j ≡ false → SumsOf t chosen (j + 1) sums count
  sums_skip out = record {
    few = s.few;
    short = λ i l. omega (arith, s.short i l);
    each = λ some X w. go X w (s.each some X w) (true-or-false (X j));
  }
    where
      go : (X : ℕ → Bool) → Within X chosen → (i : ℕ) × (i < count) × (get_or sums i 0 ≡ together t j X) → (X j ≡ true) ⊎ (X j ≡ false)
          → (i : ℕ) × (i < count) × (get_or sums i 0 ≡ together t (j + 1) X)
      go X w (i, l, e) (inl y) = clash (bit chosen j) (w j y) out
      go X w (i, l, e) (inr y) =
          let none : only (X j) (kept_at t j) ≡ 0 = rw y in
          (i, l, omega (arith, together_more t j X))

  -- there are none where they have no room
  pub sums_none : SumsOf t chosen (j + 1) sums 0
  sums_none = record {
    few = zero-le;
    short = λ i l. absurd (not-suc-le-zero l);
    each = λ some X w. absurd (not-suc-le-zero some);
  }

  pub sums-room : j < most_jobs → kept_at t j ≤ most_kept → 2 * count ≤ length sums → Room sums count (kept_at t j)
  sums-room a b few = record { few = few; fits = λ i l. omega (arith, s.short i l) }

  -- each choice takes the job or leaves it
  pub sums_more : {sums' : List ℕ} → kept_at t j ≤ most_kept → 2 * count ≤ length sums' → Doubled sums sums' count (kept_at t j)
      → SumsOf t chosen (j + 1) sums' (2 * count)
  sums_more {sums'} day few d = record {
    few = few;
    short = λ i l. short i l (less-or-not i count);
    each = λ some X w. go X (s.each (omega arith) X w) (true-or-false (X j));
  }
    where
      short : (i : ℕ) → i < 2 * count → (i < count) ⊎ (count ≤ i) → get_or sums' i 0 ≤ most_kept * (j + 1)
      short i l (inl m) = omega (arith, d.kept i m, s.short i m)
      short i l (inr m) =
          let k = i - count in
          let e : i ≡ count + k = omega arith in
          let n : k < count = omega arith in
          rw e (omega (arith, d.more k n, s.short k n))

      go : (X : ℕ → Bool) → (i : ℕ) × (i < count) × (get_or sums i 0 ≡ together t j X) → (X j ≡ true) ⊎ (X j ≡ false)
          → (i : ℕ) × (i < 2 * count) × (get_or sums' i 0 ≡ together t (j + 1) X)
      go X (i, l, e) (inl y) =
          let one : only (X j) (kept_at t j) ≡ kept_at t j = rw y in
          (count + i, omega arith, omega (arith, together_more t j X, d.more i l))
      go X (i, l, e) (inr y) =
          let none : only (X j) (kept_at t j) ≡ 0 = rw y in
          (i, omega arith, omega (arith, together_more t j X, d.kept i l))

-- ---- the walk over the set's jobs

-- jobs that are not in the set add none
sums_past : {t : Jobs} {chosen : ℕ} {sums : List ℕ} {count : ℕ} (j d : ℕ) → SumsOf t chosen j sums count
    → ((i : ℕ) → j ≤ i → i < j + d → bit chosen i ≡ false) → SumsOf t chosen (j + d) sums count
sums_past j zero s out = rw (add-zero j) s
sums_past {t} {chosen} {sums} {count} j (suc d) s out =
    let e : j + suc d ≡ (j + d) + 1 = omega arith in
    rw e (sums_skip (sums_past j d s (λ i a b. out i a (omega arith))) (out (j + d) (omega arith) (omega arith)))

-- the sums of the set's first jobs, up to a place from which on all its jobs are still to come
pub record Summing (t : Jobs) (chosen jobs todo : ℕ) (sums : List ℕ) (count : ℕ) : Type 0 where
  pub walk : Walk chosen jobs todo
  pub place : ℕ
  pub inside : place ≤ jobs
  pub done : SumsOf t chosen place sums count
  pub ahead : (i : ℕ) → bit todo i ≡ true → place ≤ i
  pub all : (i : ℕ) → place ≤ i → i < jobs → bit chosen i ≡ true → bit todo i ≡ true

module _ (t : Jobs) (chosen jobs : ℕ) where
  pub summing-none : (sums : List ℕ) → 0 < length sums → Summing t chosen jobs (set_of jobs (bit chosen)) (set sums 0 0) 1
  summing-none sums e = record {
    walk = walk_first jobs chosen;
    place = 0;
    inside = zero-le;
    done = sums_start t chosen sums e;
    ahead = λ i b. zero-le;
    all = λ i a l b. bit-set_of jobs (bit chosen) i l ∙ b;
  }

  module _ {todo : ℕ} {sums : List ℕ} {count : ℕ} (s : Summing t chosen jobs todo sums count) where
    -- up to the lowest job that is still to come
    pub summing_to : (j : ℕ) → bit todo j ≡ true → ((i : ℕ) → i < j → bit todo i ≡ false) → SumsOf t chosen j sums count
    summing_to j b low =
        let d = j - s.place in
        let e : s.place + d ≡ j = omega (arith, s.ahead j b) in
        rw e at (sums_past s.place d s.done (λ i p l. go i p (omega arith) (true-or-false (bit chosen i))))
      where
        go : (i : ℕ) → s.place ≤ i → i < j → (bit chosen i ≡ true) ⊎ (bit chosen i ≡ false) → bit chosen i ≡ false
        go i p l (inr x) = x
        go i p l (inl x) = clash (bit todo i) (s.all i p (omega (arith, s.walk.below j b)) x) (low i l)

    pub summing-step : (j : ℕ) {sums' : List ℕ} {count' : ℕ} → bit todo j ≡ true → ((i : ℕ) → i < j → bit todo i ≡ false)
        → SumsOf t chosen (j + 1) sums' count' → Summing t chosen jobs (without_bit todo j) sums' count'
    summing-step j b low more = record {
      walk = walk_next j s.walk;
      place = j + 1;
      inside = omega (arith, s.walk.below j b);
      done = more;
      ahead = λ i x. from i x (less-or-not i (j + 1));
      all = λ i p l x. bit_without todo j i ∙ and_both (bit todo i) _ (s.all i (omega (arith, s.ahead j b)) l x)
          (ap not (ne_eqb i j (λ e. omega arith)));
    }
      where
        from : (i : ℕ) → bit (without_bit todo j) i ≡ true → (i < j + 1) ⊎ (j + 1 ≤ i) → j + 1 ≤ i
        from i x (inr l) = l
        from i x (inl l) = lower (same_or_not i j)
          where
            lower : (i ≡ j) ⊎ (¬ (i ≡ j)) → j + 1 ≤ i
            lower (inl e) = clash (bit (without_bit todo j) i) x (rw e (bit_without_same todo j))
            lower (inr d) = clash (bit todo i) (and_left (bit todo i) _ (sym (bit_without todo j i) ∙ x)) (low i (omega arith))

    pub summing_all : todo ≡ 0 → SumsOf t chosen jobs sums count
    summing_all e =
        let d = jobs - s.place in
        let f : s.place + d ≡ jobs = omega (arith, s.inside) in
        rw f at (sums_past s.place d s.done (λ i p l. go i p (omega arith) (true-or-false (bit chosen i))))
      where
        go : (i : ℕ) → s.place ≤ i → i < jobs → (bit chosen i ≡ true) ⊎ (bit chosen i ≡ false) → bit chosen i ≡ false
        go i p l (inr x) = x
        go i p l (inl x) = clash (bit todo i) (s.all i p l x) (rw e (bit-none i))
