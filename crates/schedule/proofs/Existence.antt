-- A sheet has a valid plan exactly when no job is wider than the cabinet and none must end before itself.
use mathlib.Core.Path.{◌≡◌, refl, ap}
use mathlib.Core.Logic.{◌⊎◌, inl, inr, ⊎_elim, ◌↔◌}
use mathlib.Core.Bool.{Bool, true, false, not, ◌&&◌}
use mathlib.Core.List.{List, [], ◌∷◌}
use Prim.Native.Nat.{ℕ, zero, suc, ◌+◌, ◌<◌, zero-le}
use native.Mathlib.Omega.{arith}
use native.Mathlib.Nat.{le_refl}
use lib.Dec.{ltb, eqb}
use lib.ListN.{length}
use borrow.Author.Tests.{eqb-true, not-true, ltb-false, le-ltb}
use Rattle.counting.specs.Counting.{count}
use Rattle.counting.proofs.Tests.{true-or-false, clash, and_left, and_right, and_both, not_of_false}
use Rattle.counting.proofs.Ranges.{find, any_none, none_any}
use Rattle.counting.proofs.Counts.{count_insert, count_full, count_none, count-not}
use Rattle.schedule.specs.Plan.{Sheet, Plan, Valid, over_wide, MustPrecede, directly, through, Circular, Narrow, Lasting}
use Rattle.schedule.specs.ListPlan.{Order, no_jobs, placing, ready, Follows, list_plan}
use Rattle.schedule.proofs.Starts.{ready_says, ready_when}
use Rattle.schedule.proofs.Sound.{list_plan_valid}
use Rattle.schedule.proofs.Earliest.{valid_narrow}

-- ---- no job is wider than the cabinet

pub narrow_says : (S : Sheet) → over_wide S ≡ false → Narrow S
unfolding over_wide
narrow_says S e j l = ltb-false S.modules (S.need j) (any_none S.jobs (λ j. ltb S.modules (S.need j)) e j l)

pub narrow_when : (S : Sheet) → Narrow S → over_wide S ≡ false
unfolding over_wide
narrow_when S w = none_any S.jobs _ (λ j l. le-ltb S.modules (S.need j) (w j l))

-- ---- a valid plan excludes a circle

pub precede-lt : (S : Sheet) (P : Plan) → Valid S P → Lasting S → {i j : ℕ} → MustPrecede S i j → P.start i < P.start j
precede-lt S P v w (directly {i} {j} a b e) = omega (arith, v.after i j a b e, w i a)
precede-lt S P v w (through {i} {k} {j} a b e m) = omega (arith, v.after i k a b e, w i a, precede-lt S P v w m)

pub valid-not_circular : (S : Sheet) (P : Plan) → Valid S P → Lasting S → ¬ Circular S
valid-not_circular S P v w c = omega (arith, precede-lt S P v w c.1)

-- ---- where no job can follow, the jobs that are left go round in a circle

module _ (S : Sheet) (d : ℕ → Bool) (stuck : (j : ℕ) → j < S.jobs → ready S d j ≡ false) where
  -- an earlier job of c that is not in d
  abbrev Missing : ℕ → Type 0
  Missing c = (i : ℕ) × (i < S.jobs) × (S.before i c ≡ true) × (d i ≡ false)

  back : (j : ℕ) → j < S.jobs → d j ≡ false → Missing j
  back j l e = ⊎_elim
      (λ r. (r.0, r.1, and_left (S.before r.0 j) _ r.2, not-true (d r.0) (and_right (S.before r.0 j) _ r.2)))
      (λ h. let r = ready_when S d j (record { job = l; new = e; after = λ i k b. go i (h i k) b (true-or-false (d i)) }) in
      clash (ready S d j) r (stuck j l))
      (find S.jobs (λ i. S.before i j && not (d i)))
    where
      go : (i : ℕ) → (S.before i j && not (d i)) ≡ false → S.before i j ≡ true → (d i ≡ true) ⊎ (d i ≡ false) → d i ≡ true
      go i h b (inl q) = q
      go i h b (inr q) = clash (S.before i j && not (d i)) (and_both _ _ b (not_of_false (d i) q)) h

  module _ (c : ℕ) (v : ℕ → Bool) (l : c < S.jobs) (h : (i : ℕ) → i < S.jobs → v i ≡ true → (i ≡ c) ⊎ MustPrecede S c i)
      (b : Missing c) where
    met : v b.0 ≡ true → Circular S
    met q = ⊎_elim (λ z. (c, directly l l (rw z at b.2))) (λ m. (b.0, through b.1 l b.2 m)) (h b.0 b.1 q)

    passed : (i : ℕ) → i < S.jobs → placing v b.0 i ≡ true → (t : Bool) → eqb i b.0 ≡ t → (i ≡ b.0) ⊎ MustPrecede S b.0 i
    passed i a p true q = inl (eqb-true i b.0 q)
    passed i a p false q =
        let p' : v i ≡ true = rw q at p in
        inr (⊎_elim (λ z. rw z (directly b.1 l b.2)) (λ m. through b.1 l b.2 m) (h i a p'))

  -- going back from job c, which must end before each job passed so far (v); k jobs were not passed
  circle : (k c : ℕ) (v : ℕ → Bool) → c < S.jobs → d c ≡ false
      → ((i : ℕ) → i < S.jobs → v i ≡ true → (i ≡ c) ⊎ MustPrecede S c i) → count S.jobs v + k ≡ S.jobs → Circular S
  circle zero c v l e h n = let b = back c l e in met c v l h b (count_full S.jobs v (omega arith) b.0 b.1)
  circle (suc k) c v l e h n =
      let b = back c l e in
      ⊎_elim (met c v l h b)
      (λ q. circle k b.0 (placing v b.0) b.1 b.3 (λ i a p. passed c v l h b i a p (eqb i b.0) refl)
      (omega (arith, count_insert S.jobs v b.0 b.1 q)))
      (true-or-false (v b.0))

  pub stuck_circular : (c : ℕ) → c < S.jobs → d c ≡ false → Circular S
  stuck_circular c l e =
      circle S.jobs c no_jobs l e (λ i l e. clash false e refl) (omega (arith, count_none S.jobs no_jobs (λ i l. refl)))

-- ---- orders

-- the jobs that are left have an order, or some job must end before itself
rest-or_circular : (S : Sheet) (k : ℕ) (d : ℕ → Bool) → count S.jobs d + k ≡ S.jobs
    → ((o : List ℕ) × (length o ≡ k) × Follows S d o) ⊎ Circular S
rest-or_circular S zero d c = inl ([], refl, tt)
rest-or_circular S (suc k) d c = ⊎_elim
    (λ r. let y = ready_says S d r.0 r.2 in
    ⊎_elim (λ t. inl (r.0 ∷ t.0, ap suc t.1, (r.2, t.2))) (λ x. inr x)
    (rest-or_circular S k (placing d r.0) (omega (arith, count_insert S.jobs d r.0 y.job y.new))))
    (λ stuck. ⊎_elim (λ u. inr (stuck_circular S d stuck u.0 u.1 (not-true (d u.0) u.2)))
    (λ full. absurd (omega (arith, count-not S.jobs d, count_none S.jobs (λ i. not (d i)) full)))
    (find S.jobs (λ i. not (d i))))
    (find S.jobs (ready S d))

pub order-or_circular : (S : Sheet) → ((o : List ℕ) × Order S o) ⊎ Circular S
order-or_circular S = ⊎_elim (λ t. inl (t.0, record { all = t.1; follows = t.2 })) (λ c. inr c)
    (rest-or_circular S S.jobs no_jobs (omega (arith, count_none S.jobs no_jobs (λ i l. refl))))

-- the sheet with its marks of earlier jobs alone: no modules, and a minute for each job
bare : Sheet → Sheet
bare S = record { jobs = S.jobs; modules = 0; need = λ j. 0; minutes = λ j. 1; before = S.before; arrival = λ j. 0; rest = 0 }

bare-follows : (S : Sheet) (d : ℕ → Bool) (o : List ℕ) → Follows S d o → Follows (bare S) d o
unfolding bare ready
bare-follows S d [] f = tt
bare-follows S d (j ∷ o) f = (f.0, bare-follows S (placing d j) o f.1)

bare_precede : (S : Sheet) {i j : ℕ} → MustPrecede S i j → MustPrecede (bare S) i j
unfolding bare
bare_precede S (directly a b e) = directly a b e
bare_precede S (through a b e m) = through a b e (bare_precede S m)

-- an order of all jobs excludes a circle, whatever the widths
pub order-not_circular : (S : Sheet) (o : List ℕ) → Order S o → ¬ Circular S
unfolding bare
order-not_circular S o h c =
    valid-not_circular (bare S) (list_plan (bare S) o)
    (list_plan_valid (bare S) (λ j l. zero-le) o (record { all = h.all; follows = bare-follows S no_jobs o h.follows }))
    (λ j l. le_refl 1) (c.0, bare_precede S c.1)

-- There is an order exactly when no job must end before itself.
pub has_order : (S : Sheet) → ((o : List ℕ) × Order S o) ↔ (¬ Circular S)
has_order S = (
  (λ t. order-not_circular S t.0 t.1),
  (λ h. ⊎_elim (λ t. t) (λ c. absurd (h c)) (order-or_circular S)),
)

-- There is a valid plan exactly when no job is wider than the cabinet and none must end before itself.
pub has_plan : (S : Sheet) → Lasting S → ((P : Plan) × Valid S P) ↔ ((over_wide S ≡ false) × (¬ Circular S))
has_plan S w = (
  (λ p. (narrow_when S (valid_narrow S p.0 p.1), valid-not_circular S p.0 p.1 w)),
  (λ h. ⊎_elim (λ t. (list_plan S t.0, list_plan_valid S (narrow_says S h.0) t.0 t.1)) (λ c. absurd (h.1 c))
      (order-or_circular S)),
)
