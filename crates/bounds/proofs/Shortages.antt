-- Jobs that must overlap, and the bounds by weights, by lanes and by modules, of the figures of a part-plan.
use mathlib.Core.Path.{◌≡◌, refl, sym, ap, ◌∙◌}
use mathlib.Core.Logic.{◌⊎◌, inl, inr}
use mathlib.Core.Bool.{Bool, true, false, cond, not, ◌&&◌}
use mathlib.Core.List.{List}
use Prim.Native.Nat.{ℕ, suc, ◌+◌, ◌-◌, ◌*◌, ◌≤◌, ◌<◌, max}
use native.Mathlib.Omega.{arith}
use lib.Dec.{ltb, leb, eqb}
use lib.ListN.{get_or}
use borrow.Author.Tests.{ltb-true, lt-ltb, eqb-false}
use Rattle.tables.specs.declared.Jobs.{Jobs}
use Rattle.tables.specs.declared.Prepared.{Prepared}
use Rattle.counting.specs.Counting.{only, sum}
use Rattle.counting.proofs.Tests.{true-or-false, and_left, and_right, mul-only}
use Rattle.counting.proofs.Sums.{sum_same}
use Rattle.bits.specs.Bits.{bit}
use Rattle.schedule.specs.Plan.{Sheet, finish}
use Rattle.schedule.specs.ListPlan.{PartPlan, ready, occupies, occupied, place_all}
use Rattle.schedule.specs.PartPlans.{Completes}
use Rattle.schedule.specs.Bounds.{kept, chain, head, must_run, gain, Lasts, ServesFrom}
use Rattle.schedule.specs.Beginnings.{CannotBeat}
use Rattle.schedule.proofs.Bounds.{overlap_cut, weights_cut, reach_cut, release_cut, modules_cut, later}
use Rattle.schedule.proofs.Chains.{start-waits}
use Rattle.schedule.proofs.Starts.{ready_says}
use Rattle.tables.specs.Tables.{sheet_of, need_at, kept_at, count_of, modules_of, changeover_of}
use Rattle.tables.specs.declared.Part.{Part}
use Rattle.tables.specs.Part.{word_of}
use Rattle.placement.specs.Profile.{held_of}
use Rattle.placement.specs.Part.{Figures}
use Rattle.placement.proofs.Parts.{occupied_is}
use Rattle.weights.specs.Weights.{Outweighed}
use Rattle.overlaps.specs.Overlaps.{must_hold, Overlapping}
use Rattle.lanes.specs.Lanes.{served_on, Overfull}
use Rattle.fitting.specs.Fitting.{release_at, OverfullFrom}
use Rattle.sums.specs.Sums.{together}
use Rattle.sums.specs.Serving.{Unserved}
use Rattle.relations.specs.Relations.{ChainsOf}
use Rattle.heads.specs.Heads.{HeadsOf}
use Rattle.candidates.specs.Candidates.{Known, theory_part, JobStarts}
use Rattle.candidates.proofs.Starting.{none_before}
use Rattle.bounds.specs.Bounds.{TooFew}

module _ {t : Jobs} {part : Part} (known : Known t part)
    {at : List ℕ} {least : ℕ} (starts : JobStarts t part at least) (T : ℕ) where
  abbrev S : Sheet
  S = sheet_of t

  abbrev jobs : ℕ
  jobs = count_of t

  abbrev w : List ℕ
  w = word_of part

  abbrev P : PartPlan
  P = theory_part t part

  abbrev F : Figures S P part
  F = known.is.figures

  -- the minute by which a plan that ends by T has given back all modules
  abbrev C : ℕ
  C = T + changeover_of t

  held_is : (t : ℕ) → held_of part t ≡ occupied S P t
  held_is = occupied_is t known.fit part w known.is

  -- the jobs of the set are those that are left
  of_set : (f : ℕ → ℕ) → sum jobs (λ k. only (bit part.unplaced k) (f k)) ≡ sum jobs (λ k. only (not (P.placed k)) (f k))
  of_set f = sum_same jobs _ _ (λ k l. ap (λ b. only b (f k)) (F.set k l))

  -- jobs keep their modules as long as the table says
  as-kept : (X : ℕ → Bool) (f : ℕ → ℕ → ℕ) → sum jobs (λ k. only (X k) (f k (kept_at t k))) ≡ sum jobs (λ k. only (X k) (f k (kept S k)))
  as-kept X f = sum_same jobs _ _ (λ k l. ap (λ (m : ℕ). only (X k) (f k m)) (known.fit.keeps k l))

  overlapping_cut : (prepared : Prepared) → ChainsOf t prepared.tails jobs → HeadsOf t prepared.heads jobs
      → Overlapping t prepared part least T
      → CannotBeat S (suc T) w
  overlapping_cut prepared chains heads o =
      let m = o.minute in
      let same = sum_same jobs (λ k. only (not (P.placed k)) (must_hold t prepared least T m k))
      (λ k. only (not (P.placed k) && must_run (max least (head S jobs k)) (chain S jobs k) T m (kept S k)) (S.need k))
      (λ k l. rw (heads.each k l, chains.each k l, known.fit.keeps k l) (both (not (P.placed k)) _ (S.need k))) in
      overlap_cut S known.fit.lasting known.fit.narrow w known.is.follows least starts.low
      (none_before known starts) T jobs jobs m o.from
      (omega (arith, o.over, of_set (must_hold t prepared least T m), same, held_is m))
    where
      both : (a b : Bool) (x : ℕ) → only a (only b x) ≡ only (a && b) x
      both true b x = refl
      both false b x = refl

  outweighed_cut : Outweighed t part least C
      → CannotBeat S (suc T) w
  outweighed_cut o =
      let free = sum_same C (λ m. only (leb least m) (o.most (modules_of t - held_of part m)))
      (λ m. only (leb least m) (o.most (modules_of t - occupied S P m)))
      (λ m l. ap (λ (x : ℕ). only (leb least m) (o.most (modules_of t - x))) (held_is m)) in
      weights_cut S known.fit.lasting known.fit.narrow w known.is.follows least starts.low
      (none_before known starts) T o.weight o.most o.weighs
      (omega (arith, free, of_set (λ k. kept_at t k * o.weight k), as-kept (λ k. not (P.placed k)) (λ k m. m * o.weight k), o.over))

  overfull_cut : Overfull t part least C
      → CannotBeat S (suc T) w
  unfolding served_on
  overfull_cut o =
      let served : ℕ → ℕ → ℕ = λ x m. only (leb least m) (o.most (modules_of t - x) * gain o.reach C m) in
      let free = sum_same C (λ m. served (held_of part m) m) (λ m. served (occupied S P m) m)
      (λ m l. ap (λ (x : ℕ). served x m) (held_is m)) in
      reach_cut S known.fit.lasting known.fit.narrow w known.is.follows least starts.low
      (none_before known starts) T o.weight o.value o.most o.reach
      o.weighs o.most-rises (λ X x l short. o.lasts X x l (omega (arith, short, as-kept X (λ k m. m)))) o.reach-none o.reach-rises
      (omega (arith, free, of_set (λ k. o.weight k * o.value k), o.over))

  -- a job that is left starts neither before the next start nor, where it may come next, before its own
  released : (k : ℕ) → k < jobs → P.placed k ≡ false → (p : List ℕ) → Completes S P p → release_at at least k ≤ (place_all S P p).plan.start k
  unfolding release_at
  released k l z p c = go (eqb (get_or at k 0) 65535) refl
    where
      go : (b : Bool) → eqb (get_or at k 0) 65535 ≡ b → cond (eqb (get_or at k 0) 65535) least (get_or at k 0) ≤ (place_all S P p).plan.start k
      go true e = rw e (later S known.fit.lasting known.fit.narrow w known.is.follows least starts.low
          (none_before known starts) T p c k l z)
      go false e = rw e (own e (true-or-false (ready S P.placed k)))
        where
          own : eqb (get_or at k 0) 65535 ≡ false → (ready S P.placed k ≡ true) ⊎ (ready S P.placed k ≡ false)
              → get_or at k 0 ≤ (place_all S P p).plan.start k
          own d (inl r) =
              omega (arith, (starts.each k l).here r, start-waits S known.fit.narrow P p c k (ready_says S P.placed k r))
          own d (inr r) = absurd (eqb-false (get_or at k 0) 65535 d ((starts.each k l).none r))

  pub fitted_cut : OverfullFrom t part (release_at at least) least C → CannotBeat S (suc T) w
  unfolding served_on
  fitted_cut o =
      let served : ℕ → ℕ → ℕ = λ x m. only (leb least m) ((modules_of t - x) * gain o.reach C m) in
      let free = sum_same C (λ m. served (held_of part m) m) (λ m. served (occupied S P m) m)
      (λ m l. ap (λ (x : ℕ). served x m) (held_is m)) in
      release_cut S known.fit.lasting known.fit.narrow w known.is.follows least starts.low
      (none_before known starts) T (release_at at least) S.need o.value (λ x. x) o.reach released
      (λ X x l short. short) (λ a b l m. l) serves o.reach-none o.reach-rises
      (omega (arith, free, of_set (λ k. need_at t k * o.value k), o.over))
    where
      serves : ServesFrom S P C (release_at at least) o.value o.reach
      serves X x l left short late = o.serves X x l (λ k m e. F.set k m ∙ ap not (left k e)) (
        omega (arith, short, as-kept X (λ k m. m)),
        λ a. omega (arith, late a, as-kept (λ k. X k && leb a (release_at at least k)) (λ k m. m)),
      )

  module _ (u : Unserved t part least C) where
    -- some of the jobs that are left
    reaches : (X : ℕ → Bool) (x : ℕ) → ((k : ℕ) → X k ≡ true → P.placed k ≡ false)
        → together t jobs X ≤ x → together t jobs X ≤ u.reach x
    reaches X x left short =
        let same = sum_same jobs (λ k. only (X k) (kept_at t k)) (λ k. only (X k && ltb k jobs) (kept_at t k))
        (λ k l. inside k l (X k)) in
        omega (
          arith,
          same,
          u.bounds (λ k. X k && ltb k jobs) x (λ k e.
              F.set k (ltb-true k jobs (and_right (X k) _ e)) ∙ ap not (left k (and_left (X k) _ e)))
              (omega (arith, same)),
        )
      where
        inside : (k : ℕ) → k < jobs → (b : Bool) → only b (kept_at t k) ≡ only (b && ltb k jobs) (kept_at t k)
        inside k l true = rw (lt-ltb k jobs l) refl
        inside k l false = refl

    -- what the modules of the jobs that run serve
    behind : sum part.placed (λ k. only (ltb least (get_or part.until k 0))
        (get_or part.held k 0 * u.reach (C - get_or part.until k 0)))
        ≡ sum jobs (λ i. only (occupies S P least i) (S.need i * u.reach (C - (finish S P.plan i + S.rest))))
    behind =
        sum_same part.placed _ _ (λ k l.
        sym (mul-only (ltb least (get_or part.until k 0)) (get_or part.held k 0) (u.reach (C - get_or part.until k 0))))
        ∙ F.by_end (λ e. only (ltb least e) (u.reach (C - e)))
        ∙ sum_same jobs _ _ (λ i l. one i (P.placed i) refl)
      where
        one : (i : ℕ) (b : Bool) → P.placed i ≡ b
            → only (P.placed i) (S.need i * only (ltb least (finish S P.plan i + S.rest)) (u.reach (C - (finish S P.plan i + S.rest))))
            ≡ only (occupies S P least i) (S.need i * u.reach (C - (finish S P.plan i + S.rest)))
        one i true e = rw e
            (mul-only (ltb least (finish S P.plan i + S.rest)) (S.need i) (u.reach (C - (finish S P.plan i + S.rest))))
        one i false e = rw e refl

    lasts : Lasts S P (kept S) u.reach
    lasts X x left short =
        let same = as-kept X (λ k m. m) in
        omega (arith, same, reaches X x left (omega (arith, same)))

    unserved_cut : CannotBeat S (suc T) w
    unserved_cut =
        let free = ap (λ (x : ℕ). (modules_of t - x) * u.reach (C - least)) (held_is least) in
        modules_cut S known.fit.lasting known.fit.narrow w known.is.follows least starts.low
        (none_before known starts) T (kept S) u.reach lasts u.rises
        (omega (arith, behind, free, F.left, u.short))

  pub short_cut : (prepared : Prepared) → ChainsOf t prepared.tails jobs → HeadsOf t prepared.heads jobs
      → TooFew t prepared part least T C
      → CannotBeat S (suc T) w
  short_cut prepared chains heads (inl o) = overlapping_cut prepared chains heads o
  short_cut prepared chains heads (inr (inl o)) = outweighed_cut o
  short_cut prepared chains heads (inr (inr (inl o))) = overfull_cut o
  short_cut prepared chains heads (inr (inr (inr u))) = unserved_cut u
