-- A next job that can share the cabinet with no other job that is left: where it can start as early as job j, it may as well come first.
use mathlib.Core.Path.{◌≡◌, refl, sym, subst}
use mathlib.Core.Logic.{◌⊎◌, inl, inr, ⊎_elim, ◌≢◌}
use mathlib.Core.Bool.{Bool, true, false, not, cond, ◌&&◌}
use mathlib.Core.List.{List, [], ◌∷◌, ◌++◌}
use Prim.Native.Nat.{ℕ, ◌+◌, ◌-◌, ◌≤◌, ◌<◌, max}
use native.Mathlib.Omega.{arith}
use native.Mathlib.Nat.{le_refl, le_trans}
use lib.Dec.{eqb, ltb}
use borrow.Author.Tests.{eqb-true, eqb-false, eq-eqb, ne_eqb, lt-ltb, le-ltb}
use Rattle.counting.specs.Counting.{only}
use Rattle.counting.proofs.Tests.{true-or-false, clash, less-or-not, same_or_not, only_mono}
use Rattle.counting.proofs.Sums.{sum-le}
use Rattle.counting.proofs.Ranges.{le-largest, largest-le}
use Rattle.schedule.specs.Plan.{Sheet, Plan, finish, plan_end, Narrow, Lasting}
use Rattle.schedule.specs.ListPlan.{PartPlan, no_jobs, ready, Follows, start_of, part_of, MayStart}
use Rattle.schedule.specs.PartPlans.{Sound}
use Rattle.schedule.specs.Beginnings.{CannotBeat}
use Rattle.schedule.proofs.Starts.{Ready, ready_says, start_may}
use Rattle.schedule.proofs.Sound.{part_sound}
use Rattle.schedule.proofs.Timed.{runs, runs_on, runs_from, runs_to, load, both_run, Timed}
use Rattle.schedule.proofs.Settled.{StartsNext, settled_next, Completion, by_plans}
use Rattle.schedule.proofs.Beside.{beside-room}

module _ (S : Sheet) (w : Lasting S) (n : Narrow S) (v : List ℕ) (f : Follows S no_jobs v) (i j : ℕ)
    (r : ready S (part_of S v).placed i ≡ true) (sooner : start_of S (part_of S v) i ≤ start_of S (part_of S v) j)
    (alone : (k : ℕ) → k < S.jobs → (part_of S v).placed k ≡ false → k ≢ i → S.modules < S.need i + S.need k) where
  abbrev P : PartPlan
  P = part_of S v

  abbrev s : ℕ
  s = start_of S P i

  abbrev L : ℕ
  L = S.minutes i + S.rest

  sound : Sound S P
  sound = part_sound S n v f

  ri : Ready S P.placed i
  ri = ready_says S P.placed i r

  may : MayStart S P i s
  may = start_may S P i (n i ri.job)

  module _ (Q : Plan) (c : Completion S v j Q) where
    abbrev x : ℕ
    x = Q.start i

    -- job i first, and what was between put off by the time that it takes
    abbrev moved : Plan
    moved = record {
      start = λ k. cond (eqb k i) s (cond (not (P.placed k) && ltb (Q.start k) x) (Q.start k + L) (Q.start k));
      uses = Q.uses;
    }

    from : (k : ℕ) → k < S.jobs → P.placed k ≡ false → s ≤ Q.start k
    from k l p = omega (arith, sooner, c.next, c.first k l p)

    i_later : s ≤ x
    i_later = from i ri.job ri.new

    at_i : moved.start i ≡ s
    at_i = let self : eqb i i ≡ true = eq-eqb i i refl in rw self refl

    kept : (k : ℕ) → k < S.jobs → P.placed k ≡ true → moved.start k ≡ P.plan.start k
    kept k l p = rw (ne_eqb k i (λ y. clash (P.placed k) p (rw y ri.new)), p) (c.kept k l p)

    -- ---- four kinds of jobs: i, those placed, those between them and i, and those behind i

    data Kind : ℕ → Type 0 where
      itself : moved.start i ≡ s → Kind i
      placed : {k : ℕ} → P.placed k ≡ true → Q.start k ≤ s → moved.start k ≡ Q.start k → Kind k
      between : {k : ℕ} → s ≤ Q.start k → finish S Q k + S.rest ≤ x → moved.start k ≡ Q.start k + L → Kind k
      behind : {k : ℕ} → x + L ≤ Q.start k → moved.start k ≡ Q.start k → Kind k

    -- no other job that is left runs while i does
    apart : (k t : ℕ) → k < S.jobs → P.placed k ≡ false → k ≢ i → x ≤ t → t < x + L → Q.start k ≤ t → finish S Q k + S.rest ≤ t
    apart k t l p d a b e = ⊎_elim (λ y.
        let both = both_run S Q t i k ri.job l d (runs_on S Q i t a (omega arith)) (runs_on S Q k t e y) in
        absurd (omega (arith, c.timed.room t, alone k l p d)))
        (λ y. y) (less-or-not t (finish S Q k + S.rest))

    kind : (k : ℕ) → k < S.jobs → Kind k
    kind k l = go (eqb k i) refl (true-or-false (P.placed k)) (less-or-not (Q.start k) x) (less-or-not (Q.start k) (x + L))
      where
        go : (b : Bool) → eqb k i ≡ b → (P.placed k ≡ true) ⊎ (P.placed k ≡ false) → (Q.start k < x) ⊎ (x ≤ Q.start k)
            → (Q.start k < x + L) ⊎ (x + L ≤ Q.start k) → Kind k
        go true e p a b = subst Kind (sym (eqb-true k i e)) (itself at_i)
        go false e (inl p) a b = placed p (omega (arith, c.kept k l p, sound.early k l p, may.later)) (rw (e, p) refl)
        go false e (inr p) (inl a) b =
            between (from k l p) (apart k x l p (eqb-false k i e) (le_refl x) (omega (arith, w i ri.job)) (omega arith))
            (rw (e, p, lt-ltb (Q.start k) x a) refl)
        go false e (inr p) (inr a) (inr b) = behind b (rw (e, p, le-ltb (Q.start k) x a) refl)
        go false e (inr p) (inr a) (inl b) =
            absurd (omega (arith, apart k (Q.start k) l p (eqb-false k i e) a b (le_refl _), w k l))

    -- the others that are left start when i has given up its modules
    others : (k : ℕ) → P.placed k ≡ false → k ≢ i → Kind k → s + L ≤ moved.start k
    others k p d (itself y) = absurd (d refl)
    others k p d (placed q g y) = clash (P.placed k) q p
    others k p d (between g h y) = omega arith
    others k p d (behind g y) = omega (arith, i_later)

    -- how late a job gets
    latest : (k : ℕ) → Kind k → (moved.start k ≤ Q.start k + L) × (finish S moved k ≤ max (finish S Q k) (finish S Q i))
    latest k (itself y) = omega (arith, i_later)
    latest k (placed p d y) = omega arith
    latest k (between d g y) = omega arith
    latest k (behind d y) = omega arith

    -- ---- the load

    abbrev During : Plan → ℕ → ℕ → Type 0
    During R t k = (R.start k ≤ t) × (t < finish S R k + S.rest)

    -- the load at minute t, where all that runs then ran at minute u before
    as_before : (t u : ℕ) → ((k : ℕ) → Kind k → During moved t k → During Q u k) → load S moved t ≤ S.modules
    as_before t u h =
        le_trans (sum-le S.jobs _ (λ k. only (runs S Q u k) (S.need k)) (λ k l.
        only_mono (runs S moved t k) (runs S Q u k) (S.need k) (λ e.
        let b = h k (kind k l) (runs_from S moved k t e, runs_to S moved k t e) in
        runs_on S Q k u b.0 b.1))) (c.timed.room u)

    -- before s, and from x + L on
    outside : (t : ℕ) → (s ≤ t → x + L ≤ t) → load S moved t ≤ S.modules
    outside t o = as_before t t go
      where
        go : (k : ℕ) → Kind k → During moved t k → During Q t k
        go k (itself y) a = absurd (omega (arith, o (omega arith), i_later))
        go k (placed p d y) a = omega arith
        go k (between d g y) a = absurd (omega (arith, o (omega arith)))
        go k (behind d y) a = omega arith

    -- when i has given up its modules, what was between comes later by L
    inside : (t : ℕ) → s + L ≤ t → t < x + L → load S moved t ≤ S.modules
    inside t m o = as_before t (t - L) go
      where
        go : (k : ℕ) → Kind k → During moved t k → During Q (t - L) k
        go k (itself y) a = absurd (omega arith)
        go k (placed p d y) a = omega arith
        go k (between d g y) a = omega arith
        go k (behind d y) a = absurd (omega arith)

    room : (t : ℕ) → (t < s) ⊎ (s ≤ t) → (t < s + L) ⊎ (s + L ≤ t) → (t < x + L) ⊎ (x + L ≤ t) → load S moved t ≤ S.modules
    room t (inl a) b d = outside t (λ y. absurd (omega arith))
    room t (inr a) (inl b) d =
        beside-room S P sound i s ri.job may moved kept t a (λ k l p y. omega (arith, others k p y (kind k l)))
    room t (inr a) (inr b) (inl d) = inside t b d
    room t (inr a) (inr b) (inr d) = outside t (λ y. d)

    -- ---- the rest

    after : (a b : ℕ) → a < S.jobs → b < S.jobs → S.before a b ≡ true → Kind a → Kind b → finish S moved a ≤ moved.start b
    after a b l m e k (itself y) = omega (arith, kept a l (ri.after a l e), may.after a l e)
    after a b l m e k (placed p d y) = let h = sound.after a b l m p e in omega (arith, kept a l h.0, kept b m p)
    after a b l m e k (between d g y) = omega (arith, latest a k, c.timed.after a b l m e)
    after a b l m e k (behind d y) = omega (arith, latest a k, c.timed.after a b l m e)

    arrived : (k : ℕ) → k < S.jobs → Kind k → S.arrival k ≤ moved.start k
    arrived k l (itself y) = omega (arith, may.arrived)
    arrived k l (placed p d y) = omega (arith, c.timed.arrived k l)
    arrived k l (between d g y) = omega (arith, c.timed.arrived k l)
    arrived k l (behind d y) = omega (arith, c.timed.arrived k l)

    timed : Timed S moved
    timed = record {
      room = λ t. room t (less-or-not t s) (less-or-not t (s + L)) (less-or-not t (x + L));
      after = λ a b l m e. after a b l m e (kind a l) (kind b m);
      arrived = λ k l. arrived k l (kind k l);
    }

    next : StartsNext S w n v f i r moved
    next = record {
      timed = timed;
      kept = kept;
      reached = rw at_i (le_refl s);
      first = λ k l p. first k l p (same_or_not k i);
    }
      where
        first : (k : ℕ) → k < S.jobs → P.placed k ≡ false → (k ≡ i) ⊎ (k ≢ i) → moved.start i ≤ moved.start k
        first k l p (inl e) = rw e (le_refl _)
        first k l p (inr d) = omega (arith, at_i, others k p d (kind k l))

    ends : plan_end S moved ≤ plan_end S Q
    ends = largest-le S.jobs (finish S moved) (plan_end S Q) (λ k l.
        omega (arith, latest k (kind k l), le-largest S.jobs (finish S Q) k l, le-largest S.jobs (finish S Q) i ri.job))

  pub alone_cut : (e : ℕ) → CannotBeat S e (v ++ (i ∷ [])) → CannotBeat S e (v ++ (j ∷ []))
  alone_cut e cut = by_plans S n v j e (λ Q c. le_trans (settled_next S w n v f i r e cut (moved Q c) (next Q c)) (ends Q c))
