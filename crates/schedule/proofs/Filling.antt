-- Jobs that never fill more lanes than are open can be put on them, in the order of their starts.
use mathlib.Core.Path.{◌≡◌, refl, sym, ap, ◌∙◌}
use mathlib.Core.Logic.{◌⊎◌, inl, inr, ⊎_elim, ◌≢◌}
use mathlib.Core.Bool.{Bool, true, false, not, cond, ◌&&◌}
use Prim.Native.Nat.{ℕ, zero, suc, ◌+◌, ◌≤◌, ◌<◌, zero-le}
use native.Mathlib.Omega.{arith}
use native.Mathlib.Nat.{le_refl}
use lib.Dec.{ltb, eqb}
use borrow.Author.Tests.{ltb-true, ltb-false, lt-ltb, le-leb, eqb-true, ne_eqb, not-true}
use Rattle.counting.specs.Counting.{only, sum, any, count}
use Rattle.counting.proofs.Tests.{true-or-false, clash, and_left, and_right, and_both, or_right, not_of_false}
use Rattle.counting.proofs.Sums.{sum-le, sum_same, sum-add, sum_swap, sum-zero, sum_single}
use Rattle.counting.proofs.Intervals.{inside}
use Rattle.counting.proofs.Ranges.{argmin, any_none}
use Rattle.counting.proofs.Counts.{count_none, count_same, count-lowest, count_insert, count_full, any-le-count}
use Rattle.schedule.specs.ListPlan.{no_jobs, placing, lowest}
use Rattle.schedule.proofs.Lanes.{OnLanes}

module _ (jobs : ℕ) (of : ℕ → Bool) (start minutes weight : ℕ → ℕ) (lanes : ℕ) (is_open : ℕ → ℕ → Bool)
    (lasting : (k : ℕ) → k < jobs → 0 < minutes k)
    (room : (t : ℕ) → sum jobs (λ k. only (of k && inside (start k) (start k + minutes k) t) (weight k)) ≤ count lanes (λ m. is_open m t)) where
  -- the jobs of d are on lanes, and no other starts before one of them
  record Filled (d : ℕ → Bool) (uses : ℕ → ℕ → Bool) : Type 0 where
    part : (k : ℕ) → k < jobs → d k ≡ true → of k ≡ true
    on : OnLanes jobs d start minutes weight lanes is_open uses
    sorted : (i k : ℕ) → i < jobs → k < jobs → d i ≡ true → of k ≡ true → d k ≡ false → start i ≤ start k

  module _ (d : ℕ → Bool) (uses : ℕ → ℕ → Bool) (h : Filled d uses) (j : ℕ) (l : j < jobs) (mine : of j ≡ true) (new : d j ≡ false)
      (first : (k : ℕ) → k < jobs → of k ≡ true → d k ≡ false → start j ≤ start k) where
    -- job i is on its lanes as job j starts
    runs : ℕ → Bool
    runs i = d i && ltb (start j) (start i + minutes i)

    has : ℕ → ℕ → Bool
    has m i = runs i && uses i m

    -- lane m is open then and serves no job
    vacant : ℕ → Bool
    vacant m = is_open m (start j) && not (any jobs (has m))

    taken : ℕ → Bool
    taken = lowest lanes vacant (weight j)

    -- the lanes that are open are vacant, or some job runs on them
    one_lane : (m : ℕ) → only (is_open m (start j)) 1 ≤ only (vacant m) 1 + count jobs (has m)
    unfolding vacant
    one_lane m = go (is_open m (start j)) (any jobs (has m)) refl refl
      where
        go : (a b : Bool) → is_open m (start j) ≡ a → any jobs (has m) ≡ b
            → only (is_open m (start j)) 1 ≤ only (is_open m (start j) && not (any jobs (has m))) 1 + count jobs (has m)
        go false b p q = rw p zero-le
        go true false p q = rw (p, q) (omega arith)
        go true true p q = let c : 1 ≤ count jobs (has m) = rw q at (any-le-count jobs (has m)) in rw (p, q) (omega arith)

    on_lanes : (i : ℕ) → i < jobs → count lanes (λ m. has m i) ≡ only (runs i) (weight i)
    unfolding runs has
    on_lanes i k = go (d i && ltb (start j) (start i + minutes i)) refl
      where
        go : (b : Bool) → runs i ≡ b → count lanes (λ m. runs i && uses i m) ≡ only (runs i) (weight i)
        go true q = rw q (h.on.enough i k (and_left (d i) _ q))
        go false q = rw q (sum-zero lanes)

    -- what runs then, and job j
    beside : (i : ℕ) → i < jobs → (b : Bool) → eqb i j ≡ b → (runs i ≡ true) ⊎ (runs i ≡ false)
        → only (runs i) (weight i) + only (eqb i j) (weight i)
        ≤ only (of i && inside (start i) (start i + minutes i) (start j)) (weight i)
    unfolding runs
    beside i k b e (inl r) =
        let p = and_left (d i) _ r in
        let z = ltb-true (start j) (start i + minutes i) (and_right (d i) _ r) in
        let other : eqb i j ≡ false = ne_eqb i j (λ y. clash (d i) p (rw y new)) in
        let on : (of i && inside (start i) (start i + minutes i) (start j)) ≡ true =
        and_both _ _ (h.part i k p) (and_both _ _ (le-leb (start i) (start j) (h.sorted i j k l p mine new)) (lt-ltb _ _ z)) in
        rw (r, other, on) (omega arith)
    beside i k true e (inr r) =
        let y = eqb-true i j e in
        let on : (of i && inside (start i) (start i + minutes i) (start j)) ≡ true =
        rw y (and_both _ _ mine (and_both _ _ (le-leb (start j) (start j) (le_refl _))
        (lt-ltb (start j) (start j + minutes j) (omega (arith, lasting j l))))) in
        rw (r, e, on) (omega arith)
    beside i k false e (inr r) = rw (r, e) zero-le

    enough_vacant : weight j ≤ count lanes vacant
    enough_vacant =
        let each = sum-le lanes (λ m. only (is_open m (start j)) 1) (λ m. only (vacant m) 1 + count jobs (has m)) (λ m x. one_lane m) in
        let split = sum-add lanes (λ m. only (vacant m) 1) (λ m. count jobs (has m)) in
        let swap = sum_swap jobs lanes (λ i m. only (has m i) 1) in
        let jobwise = sum_same jobs (λ i. count lanes (λ m. has m i)) (λ i. only (runs i) (weight i)) on_lanes in
        let both = sum-le jobs (λ i. only (runs i) (weight i) + only (eqb i j) (weight i))
        (λ i. only (of i && inside (start i) (start i + minutes i) (start j)) (weight i))
        (λ i k. beside i k (eqb i j) refl (true-or-false (runs i))) in
        let apart = sum-add jobs (λ i. only (runs i) (weight i)) (λ i. only (eqb i j) (weight i)) in
        let self = sum_single jobs weight j l in
        omega (arith, room (start j))

    taken-count : count lanes taken ≡ weight j
    unfolding taken
    taken-count =
        let drop = count_same lanes taken (λ m. vacant m && ltb (count m vacant) (weight j))
        (λ m x. ap (λ b. b && vacant m && ltb (count m vacant) (weight j)) (lt-ltb m lanes x)) in
        omega (arith, count-lowest lanes vacant (weight j), enough_vacant)

    taken_vacant : (m : ℕ) → taken m ≡ true → vacant m ≡ true
    unfolding taken
    taken_vacant m e = and_right (ltb m lanes) _ (and_left (ltb m lanes && vacant m) _ e)

    -- a job on a lane that is taken has ended
    ended : (i m : ℕ) → i < jobs → d i ≡ true → uses i m ≡ true → taken m ≡ true → start i + minutes i ≤ start j
    unfolding vacant has runs
    ended i m k p u e = go (true-or-false (ltb (start j) (start i + minutes i)))
      where
        none : any jobs (has m) ≡ false
        none = not-true _ (and_right (is_open m (start j)) _ (taken_vacant m e))

        go : (ltb (start j) (start i + minutes i) ≡ true) ⊎ (ltb (start j) (start i + minutes i) ≡ false) → start i + minutes i ≤ start j
        go (inr q) = ltb-false _ _ q
        go (inl q) = clash (has m i) (and_both _ _ (and_both _ _ p q) u) (any_none jobs (has m) none i k)

    abbrev uses' : ℕ → ℕ → Bool
    uses' i m = cond (eqb i j) (taken m) (uses i m)

    -- of a job that is on lanes after the step
    before : (i : ℕ) → eqb i j ≡ false → placing d j i ≡ true → d i ≡ true
    before i e p = rw e at p

    filled-enough : (i : ℕ) → i < jobs → (b : Bool) → eqb i j ≡ b → placing d j i ≡ true → count lanes (uses' i) ≡ weight i
    filled-enough i k true e p = rw (e, eqb-true i j e) taken-count
    filled-enough i k false e p = rw e (h.on.enough i k (before i e p))

    filled-opened : (i m : ℕ) → i < jobs → (b : Bool) → eqb i j ≡ b → placing d j i ≡ true → uses' i m ≡ true → is_open m (start i) ≡ true
    unfolding vacant
    filled-opened i m k true e p u =
        let x : taken m ≡ true = rw e at u in
        rw (eqb-true i j e) (and_left (is_open m (start j)) _ (taken_vacant m x))
    filled-opened i m k false e p u = h.on.opened i m k (before i e p) (rw e at u)

    filled_apart : (i k m : ℕ) → i < jobs → k < jobs → (b : Bool) → eqb i j ≡ b → (c : Bool) → eqb k j ≡ c
        → placing d j i ≡ true → placing d j k ≡ true → i ≢ k → uses' i m ≡ true → uses' k m ≡ true
        → (start i + minutes i ≤ start k) ⊎ (start k + minutes k ≤ start i)
    filled_apart i k m a b true e true q p p' x u u' = absurd (x (eqb-true i j e ∙ sym (eqb-true k j q)))
    filled_apart i k m a b true e false q p p' x u u' = rw (eqb-true i j e) (inr (ended k m b (before k q p') (rw q at u') (rw e at u)))
    filled_apart i k m a b false e true q p p' x u u' = rw (eqb-true k j q) (inl (ended i m a (before i e p) (rw e at u) (rw q at u')))
    filled_apart i k m a b false e false q p p' x u u' =
        h.on.apart i k m a b (before i e p) (before k q p') x (rw e at u) (rw q at u')

    filled_part : (i : ℕ) → i < jobs → (b : Bool) → eqb i j ≡ b → placing d j i ≡ true → of i ≡ true
    filled_part i k true e p = rw (eqb-true i j e) mine
    filled_part i k false e p = h.part i k (before i e p)

    filled_sorted : (i k : ℕ) → i < jobs → k < jobs → (b : Bool) → eqb i j ≡ b → placing d j i ≡ true → of k ≡ true → d k ≡ false
        → start i ≤ start k
    filled_sorted i k a b true e p x y = rw (eqb-true i j e) (first k b x y)
    filled_sorted i k a b false e p x y = h.sorted i k a b (before i e p) x y

    filled_more : Filled (placing d j) uses'
    filled_more = record {
      part = λ i k. filled_part i k (eqb i j) refl;
      on = record {
        enough = λ i k. filled-enough i k (eqb i j) refl;
        opened = λ i m k. filled-opened i m k (eqb i j) refl;
        apart = λ i k m a b. filled_apart i k m a b (eqb i j) refl (eqb k j) refl;
      };
      sorted = λ i k a b p x y. filled_sorted i k a b (eqb i j) refl p x (or_right (eqb k j) _ y);
    }

  abbrev Filling : Type 0
  Filling = (uses : ℕ → ℕ → Bool) × OnLanes jobs of start minutes weight lanes is_open uses

  full : (d : ℕ → Bool) (uses : ℕ → ℕ → Bool) → Filled d uses → ((k : ℕ) → k < jobs → of k ≡ true → d k ≡ true) → Filling
  full d uses h all = (
    uses,
    record {
      enough = λ k l o. h.on.enough k l (all k l o);
      opened = λ k m l o. h.on.opened k m l (all k l o);
      apart = λ i k m a b o p. h.on.apart i k m a b (all i a o) (all k b p);
    },
  )

  -- the jobs that are not yet on lanes, in the order of their starts
  fill : (n : ℕ) (d : ℕ → Bool) (uses : ℕ → ℕ → Bool) → Filled d uses → count jobs d + n ≡ jobs → Filling
  fill zero d uses h c = full d uses h (λ k l o. count_full jobs d (omega arith) k l)
  fill (suc n) d uses h c = ⊎_elim (λ r.
      let j = r.0 in
      let mine = and_left (of j) _ r.2 in
      let new : d j ≡ false = not-true (d j) (and_right (of j) _ r.2) in
      fill n (placing d j) _ (filled_more d uses h j r.1 mine new
      (λ k l o e. r.3 k l (and_both (of k) _ o (not_of_false (d k) e)))) (omega (arith, count_insert jobs d j r.1 new)))
      (λ none. full d uses h (λ k l o. waits k o (none k l) (true-or-false (d k))))
      (argmin jobs (λ k. of k && not (d k)) start)
    where
      waits : (k : ℕ) → of k ≡ true → (of k && not (d k)) ≡ false → (d k ≡ true) ⊎ (d k ≡ false) → d k ≡ true
      waits k o z (inl e) = e
      waits k o z (inr e) = clash (of k && not (d k)) (and_both _ _ o (not_of_false (d k) e)) z

  -- Where the jobs that run at a minute never weigh more than the lanes that are open then, they have their lanes.
  pub put_on_lanes : Filling
  put_on_lanes = fill jobs no_jobs (λ i m. false) (record {
    part = λ k l e. clash false e refl;
    on = record {
      enough = λ k l e. clash false e refl;
      opened = λ k m l e. clash false e refl;
      apart = λ i k m a b e. clash false e refl;
    };
    sorted = λ i k a b e. clash false e refl;
  }) (omega (arith, count_none jobs no_jobs (λ i l. refl)))
