-- What the latest start means: starts that meet the departures exist exactly up to it; and slack below 0.
use mathlib.Core.Path.{◌≡◌, refl, sym, ap, subst, ◌∙◌}
use mathlib.Core.Logic.{◌⊎◌, inl, inr}
use mathlib.Core.Bool.{true, cond}
use Prim.Native.Nat.{ℕ, ◌+◌, ◌≤◌, ◌<◌}
use native.Mathlib.Omega.{arith}
use lib.Dec.{eqb}
use lib.IntN.{ℤ, pos, ◌+ℤ◌, ◌-ℤ◌}
use lib.Signed.{◌≤ℤ◌}
use borrow.Author.Tests.{eq-eqb, ne_eqb}
use Rattle.schedule.specs.Plan.{Sheet, Plan, Valid, finish, MustPrecede, directly, through, Circular}
use Rattle.marks.proofs.Levels.{joins}
use Rattle.marks.proofs.Listed.{first-job, last-job}
use Rattle.latest.specs.Latest.{latest_start_of, Chain, alone, longer, Meets, LatestMeans, MissedIsNegative, NoSlackSomebodyLate}
use Rattle.latest.proofs.Signed.{diff, less_more, diff-lt, lt_diff, diff_same, add-le, le-sub, sums-le, ≤ℤ-trans}
use Rattle.latest.proofs.Chains.{head, latest_is, own_first}

module _ (S : Sheet) (c : ¬ Circular S) (departure : ℕ → ℕ) where
  abbrev latest : ℕ → ℤ
  latest j = latest_start_of S departure j

  -- no later than by the job's own departure
  by-own : (k : ℕ) → k < S.jobs → latest k ≤ℤ (pos (departure k) -ℤ pos (S.minutes k))
  by-own k l = (latest_is S c departure k l).none_less k (S.minutes k) (alone l)

  -- and no later than by that of a job that waits for it
  by_mark : (i k : ℕ) → i < S.jobs → k < S.jobs → S.before i k ≡ true → latest i ≤ℤ (latest k -ℤ pos (S.minutes i))
  by_mark i k l m e =
      let f = latest_is S c departure k m in
      let low = (latest_is S c departure i l).none_less f.by (S.minutes i + f.minutes) (longer l e f.chain) in
      let same : diff (departure f.by) (S.minutes i + f.minutes) ≡ (latest k -ℤ pos (S.minutes i)) =
      diff_same (departure f.by) (S.minutes i + f.minutes) (departure f.by) (f.minutes + S.minutes i) (omega arith)
      ∙ sym (less_more (departure f.by) f.minutes (S.minutes i))
      ∙ ap (λ (z : ℤ). z -ℤ pos (S.minutes i)) (sym f.is) in
      subst (λ (z : ℤ). latest i ≤ℤ z) same low

  module _ (j : ℕ) (l : j < S.jobs) (t : ℤ) where
    -- ---- starts up to it

    -- job j at minute t, and the others at their latest
    starts : ℕ → ℤ
    starts k = cond (eqb k j) t (latest k)

    module _ (h : t ≤ℤ latest j) where
      others : (k : ℕ) → MustPrecede S j k → starts k ≡ latest k
      unfolding starts
      others k p = rw (ne_eqb k j (λ e. c (j, subst (λ (x : ℕ). MustPrecede S j x) e p))) refl

      next : (k : ℕ) → k < S.jobs → S.before j k ≡ true → (t +ℤ pos (S.minutes j)) ≤ℤ starts k
      next k m e =
          rw (others k (directly l m e)) (add-le t (latest k) (S.minutes j) (≤ℤ-trans t (latest j) _ h (by_mark j k l m e)))

      further : (i k : ℕ) → MustPrecede S j i → k < S.jobs → S.before i k ≡ true → (starts i +ℤ pos (S.minutes i)) ≤ℤ starts k
      further i k p m e =
          rw (others i p, others k (joins p (directly (last-job p) m e))) (add-le (latest i) (latest k) (S.minutes i) (by_mark i k (last-job p) m e))

      meeting : Meets S departure j t starts
      unfolding starts
      meeting = record {
        here = rw (eq-eqb j j refl) refl;
        own = add-le t (pos (departure j)) (S.minutes j) (≤ℤ-trans t (latest j) _ h (by-own j l));
        waits = next;
        waits_on = further;
        meets = λ k p. rw (others k p) (add-le (latest k) (pos (departure k)) (S.minutes k) (by-own k (last-job p)));
      }

    -- ---- and none behind it

    module _ (start : ℕ → ℤ) (m : Meets S departure j t start) where
      -- along a chain of the jobs that follow
      along : {i k n : ℕ} → MustPrecede S j i → Chain S i k n → (start i +ℤ pos n) ≤ℤ pos (departure k)
      along p (alone x) = m.meets _ p
      along p (longer {j = i} {i = k} {m = n} x e q) =
          sums-le (start i) (start k) _ (S.minutes i) n (m.waits_on i k p (head q) e) (along (joins p (directly x (head q) e)) q)

      from_here : {k n : ℕ} → Chain S j k n → (t +ℤ pos n) ≤ℤ pos (departure k)
      from_here (alone x) = m.own
      from_here (longer {i = k} {m = n} x e q) =
          sums-le t (start k) _ (S.minutes j) n (m.waits k (head q) e) (along (directly x (head q) e) q)

      in_time : t ≤ℤ latest j
      in_time =
          let f = latest_is S c departure j l in
          rw f.is (le-sub t (pos (departure f.by)) f.minutes (from_here f.chain))

pub latest_means : LatestMeans
latest_means S c departure j l t =
    ((λ h. (starts S c departure j l t, meeting S c departure j l t h)), λ x. in_time S c departure j l t x.0 x.1)

-- ---- slack

pub missed_is_negative : MissedIsNegative
missed_is_negative S departure P j l late =
    let f = own_first S departure j l in
    rw (f.2, less_more f.0 f.1 (P.start j)) (diff-lt f.0 (f.1 + P.start j) 0 0 (omega (arith, f.3)))

-- in a valid plan a chain takes its minutes
chain_runs : (S : Sheet) (P : Plan) → Valid S P → {j k m : ℕ} → Chain S j k m → P.start j + m ≤ finish S P k
chain_runs S P v (alone l) = omega arith
chain_runs S P v (longer {j = j} {i = i} l e q) = omega (arith, v.after j i l (head q) e, chain_runs S P v q)

-- its last job is the first, or follows it
chain-follows : {S : Sheet} {j k m : ℕ} → Chain S j k m → (k ≡ j) ⊎ MustPrecede S j k
chain-follows (alone l) = inl refl
chain-follows {S} {j} {k} (longer {i = i} l e q) = go (chain-follows q)
  where
    go : (k ≡ i) ⊎ MustPrecede S i k → (k ≡ j) ⊎ MustPrecede S j k
    go (inl z) = inr (directly l (subst (λ (x : ℕ). x < S.jobs) (sym z) (head q)) (subst (λ (x : ℕ). S.before j x ≡ true) (sym z) e))
    go (inr p) = inr (through l (first-job p) e p)

pub no_slack_somebody_late : NoSlackSomebodyLate
no_slack_somebody_late S c departure P v j l h =
    let f = latest_is S c departure j l in
    let below = lt_diff (departure f.by) (f.minutes + P.start j) 0 0 (rw (f.is, less_more (departure f.by) f.minutes (P.start j)) at h) in
    (f.by, chain-follows f.chain, omega (arith, chain_runs S P v f.chain))
