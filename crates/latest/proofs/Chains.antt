-- The latest start is the least, over the chains that begin at a job, of the last one's departure less the chain's minutes.
use mathlib.Core.Path.{◌≡◌, refl, sym, ap, subst, ◌∙◌}
use mathlib.Core.Logic.{◌⊎◌, inl, inr}
use mathlib.Core.Bool.{Bool, true, false, cond}
use Prim.Native.Nat.{ℕ, zero, suc, ◌+◌, ◌≤◌, ◌<◌}
use native.Mathlib.Omega.{arith}
use native.Mathlib.Nat.{le_refl, add_comm}
use lib.Dec.{leb}
use lib.IntN.{ℤ, pos, ◌-ℤ◌}
use lib.Signed.{◌≤ℤ◌}
use borrow.Author.Tests.{leb-true, leb-false}
use Rattle.counting.proofs.Tests.{clash, last-or_below}
use Rattle.schedule.specs.Plan.{Sheet}
use Rattle.marks.proofs.Levels.{Level, levels}
use Rattle.latest.specs.Latest.{smaller, least_of, latest_within, latest_start_of, Chain, alone, longer, LatestIs}
use Rattle.latest.proofs.Signed.{diff, less_more, diff_test, diff-le}

-- the first job of a chain
pub head : {S : Sheet} {j t m : ℕ} → Chain S j t m → j < S.jobs
head (alone l) = l
head (longer l h c) = l

-- ---- chains of at most k + 1 jobs

module _ (S : Sheet) (departure : ℕ → ℕ) where
  data Short : ℕ → ℕ → ℕ → ℕ → Type 0 where
    single : {k j : ℕ} → Short k j j (S.minutes j)
    more : {k j i t m : ℕ} → i < S.jobs → S.before j i ≡ true → Short k i t m → Short (suc k) j t (S.minutes j + m)

  -- v is the departure less the minutes of some chain from j, and no chain that passes `P` gives less
  record Found (j : ℕ) (v : ℤ) (P : ℕ → ℕ → Type 0) : Type 0 where
    by : ℕ
    minutes : ℕ
    chain : Chain S j by minutes
    is : v ≡ diff (departure by) minutes
    low : (t m : ℕ) → P t m → departure by + m ≤ departure t + minutes

  -- a chain of j alone, or on to a job below n
  data Through (k j n : ℕ) : ℕ → ℕ → Type 0 where
    itself : Through k j n j (S.minutes j)
    on : {i t m : ℕ} → i < n → S.before j i ≡ true → Short k i t m → Through k j n t (S.minutes j + m)

  module _ (k j : ℕ) (l : j < S.jobs) (rest : (i : ℕ) → i < S.jobs → Found i (latest_within S departure k i) (Short k i)) where
    abbrev own : ℤ
    own = diff (departure j) (S.minutes j)

    abbrev via : ℕ → ℤ
    via i = latest_within S departure k i -ℤ pos (S.minutes j)

    Goal : ℕ → Type 0
    Goal n = Found j (least_of n (S.before j) via own) (Through k j n)

    step : (n : ℕ) → n < S.jobs → Goal n → Goal (suc n)
    unfolding Goal least_of
    step n x g = go (S.before j n) refl
      where
        f : Found n (latest_within S departure k n) (Short k n)
        f = rest n x

        next : via n ≡ diff (departure f.by) (f.minutes + S.minutes j)
        next = ap (λ (z : ℤ). z -ℤ pos (S.minutes j)) f.is ∙ less_more (departure f.by) f.minutes (S.minutes j)

        same : smaller (least_of n (S.before j) via own) (via n)
            ≡ cond (leb (departure g.by + (f.minutes + S.minutes j)) (departure f.by + g.minutes))
            (diff (departure g.by) g.minutes) (diff (departure f.by) (f.minutes + S.minutes j))
        same = rw (g.is, next, diff_test (departure g.by) g.minutes (departure f.by) (f.minutes + S.minutes j)) refl

        below : (i : ℕ) → (i ≡ n) ⊎ (i < n) → S.before j n ≡ false → S.before j i ≡ true → i < n
        below i (inl e) o h = clash (S.before j n) (subst (λ (y : ℕ). S.before j y ≡ true) e h) o
        below i (inr e) o h = e

        out : S.before j n ≡ false → (t m : ℕ) → Through k j (suc n) t m → departure g.by + m ≤ departure t + g.minutes
        out o t m itself = g.low j (S.minutes j) itself
        out o t m (on {i = i} y h c) = g.low t _ (on (below i (last-or_below n i y) o h) h c)

        two : S.before j n ≡ true → (b : Bool)
            → leb (departure g.by + (f.minutes + S.minutes j)) (departure f.by + g.minutes) ≡ b
            → Found j (smaller (least_of n (S.before j) via own) (via n)) (Through k j (suc n))
        two o true e =
            let z = leb-true _ _ e in
            record { by = g.by; minutes = g.minutes; chain = g.chain; is = same ∙ ap (λ (b : Bool). cond b (diff (departure g.by) g.minutes) (diff (departure f.by) (f.minutes + S.minutes j))) e; low = λ t m c. first z t m c }
          where
            first : departure g.by + (f.minutes + S.minutes j) ≤ departure f.by + g.minutes
                → (t m : ℕ) → Through k j (suc n) t m → departure g.by + m ≤ departure t + g.minutes
            first z t m itself = g.low j (S.minutes j) itself
            first z t m (on {i = i} {m = w} y h c) = at (last-or_below n i y)
              where
                at : (i ≡ n) ⊎ (i < n) → departure g.by + (S.minutes j + w) ≤ departure t + g.minutes
                at (inr q) = g.low t _ (on q h c)
                at (inl q) = let v = f.low t w (subst (λ (y : ℕ). Short k y t w) q c) in omega arith
        two o false e =
            let z = leb-false _ _ e in
            record {
              by = f.by;
              minutes = f.minutes + S.minutes j;
              chain = subst (λ (y : ℕ). Chain S j f.by y) (add_comm (S.minutes j) f.minutes) (longer l o f.chain);
              is = same ∙ ap (λ (b : Bool). cond b (diff (departure g.by) g.minutes) (diff (departure f.by) (f.minutes + S.minutes j))) e;
              low = λ t m c. second z t m c;
            }
          where
            second : departure f.by + g.minutes < departure g.by + (f.minutes + S.minutes j)
                → (t m : ℕ) → Through k j (suc n) t m → departure f.by + m ≤ departure t + (f.minutes + S.minutes j)
            second z t m itself = let v = g.low j (S.minutes j) itself in omega arith
            second z t m (on {i = i} {m = w} y h c) = at (last-or_below n i y)
              where
                at : (i ≡ n) ⊎ (i < n) → departure f.by + (S.minutes j + w) ≤ departure t + (f.minutes + S.minutes j)
                at (inr q) = let v = g.low t _ (on q h c) in omega arith
                at (inl q) = let v = f.low t w (subst (λ (y : ℕ). Short k y t w) q c) in omega arith

        go : (b : Bool) → S.before j n ≡ b
            → Found j (cond (S.before j n) (smaller (least_of n (S.before j) via own) (via n)) (least_of n (S.before j) via own)) (Through k j (suc n))
        go true o = rw o (two o _ refl)
        go false o = rw o (record { by = g.by; minutes = g.minutes; chain = g.chain; is = g.is; low = out o })

    all : (n : ℕ) → n ≤ S.jobs → Goal n
    unfolding Goal least_of
    all zero x = record { by = j; minutes = S.minutes j; chain = alone l; is = refl; low = λ t m c. only_itself t m c }
      where
        only_itself : (t m : ℕ) → Through k j 0 t m → departure j + m ≤ departure t + S.minutes j
        only_itself t m itself = le_refl _
        only_itself t m (on y h c) = absurd (omega arith)
    all (suc n) x = step n x (all n (omega arith))

  found : (k j : ℕ) → j < S.jobs → Found j (latest_within S departure k j) (Short k j)
  unfolding latest_within Goal
  found zero j l = record { by = j; minutes = S.minutes j; chain = alone l; is = refl; low = λ t m c. only_single t m c }
    where
      only_single : (t m : ℕ) → Short 0 j t m → departure j + m ≤ departure t + S.minutes j
      only_single t m single = le_refl _
  found (suc k) j l =
      let g = all k j l (λ i y. found k i y) S.jobs (le_refl _) in
      record { by = g.by; minutes = g.minutes; chain = g.chain; is = g.is; low = λ t m c. g.low t m (through t m c) }
    where
      through : (t m : ℕ) → Short (suc k) j t m → Through k j S.jobs t m
      through t m single = itself
      through t m (more y h c) = on y h c

  -- ---- a chain is no longer than the jobs are many

  short : (lv : Level S) (k : ℕ) {j t m : ℕ} → Chain S j t m → S.jobs ≤ lv.at j + suc k → Short k j t m
  short lv k (alone l) x = single
  short lv zero (longer {i = i} l h c) x = absurd (omega (arith, lv.rises _ i l (head c) h, lv.low i (head c)))
  short lv (suc k) (longer {i = i} l h c) x = more (head c) h (short lv k c (omega (arith, lv.rises _ i l (head c) h)))

pub latest_is : LatestIs
latest_is S c departure j l =
    let f = found S departure S.jobs j l in
    let lv = levels S c in
    record {
      none_less = λ k m x. subst (λ (v : ℤ). v ≤ℤ diff (departure k) m) (sym f.is)
          (diff-le (departure f.by) f.minutes (departure k) m (f.low k m (short S departure lv S.jobs x (omega arith))));
      by = f.by;
      minutes = f.minutes;
      chain = f.chain;
      is = f.is;
    }

-- it is a difference, and none less than by the job's own departure, whether or not jobs go round in circles
pub own_first : (S : Sheet) (departure : ℕ → ℕ) (j : ℕ) → j < S.jobs
    → (a : ℕ) × (b : ℕ) × (latest_start_of S departure j ≡ diff a b) × (a + S.minutes j ≤ departure j + b)
own_first S departure j l =
    let f = found S departure S.jobs j l in
    (departure f.by, f.minutes, f.is, f.low j (S.minutes j) single)
