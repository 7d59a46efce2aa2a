-- The part-plan in code and the theory's: which jobs may come next, when they start, and the part-plan with one job more.
use mathlib.Core.Path.{◌≡◌, refl, sym, ap, ◌∙◌, subst}
use mathlib.Core.Logic.{◌⊎◌, inl, inr}
use mathlib.Core.Bool.{Bool, true, false, not, ◌&&◌, ◌||◌}
use mathlib.Core.List.{List, [], ◌∷◌, ◌++◌}
use Prim.Native.Nat.{ℕ, suc, ◌+◌, ◌-◌, ◌*◌, ◌≤◌, ◌<◌, max, zero-le}
use native.Mathlib.Omega.{arith}
use native.Mathlib.Nat.{le_trans, mul-le-mul_left, mul-le-mul_right, mul-one, add-zero, not-suc-le-zero}
use lib.Dec.{ltb, eqb}
use lib.Bits.{bit_and, and_comm}
use lib.Count.{ones}
use lib.ListN.{length, get_or}
use lib.Pow.{pow_pos}
use borrow.Author.Tests.{eqb-true, eqb-false, eq-eqb, not-true, not-false}
use Rattle.figures.specs.Figures.{last_end, longest_changeover}
use Rattle.counting.specs.Counting.{only, sum}
use Rattle.counting.proofs.Tests.{true-or-false, clash, only-le, only_within, mul-only, same_test, and_left, and_right, and_both}
use Rattle.counting.proofs.Sums.{sum_same, sum-zero, sum-add, sum_single, sum_most, le-sum}
use Rattle.counting.proofs.Ranges.{largest-le, largest_same}
use Rattle.counting.proofs.Counts.{count_same, count-not, count_full}
use Rattle.bits.specs.Bits.{bit, without_bit}
use Rattle.bits.proofs.Members.{bit_without, without-le}
use Rattle.bits.proofs.Sets.{and-empty, empty-and, all_bits}
use Rattle.bits.proofs.Ones.{ones-count, ones_without, ones-ones}
use Rattle.schedule.specs.Plan.{Sheet, finish}
use Rattle.schedule.specs.ListPlan.{PartPlan, ready, occupies, not_before, start_of, place, place_all, part_of, occupied}
use Rattle.schedule.specs.PartPlans.{Sound}
use Rattle.schedule.proofs.Starts.{Ready, ready_says, ready_when, start_may, not_before-le}
use Rattle.schedule.proofs.Sound.{part_sound}
use Rattle.schedule.proofs.Occupied.{room-sum}
use Rattle.schedule.proofs.Jumps.{start_here}
use Rattle.tables.specs.declared.Jobs.{Jobs}
use Rattle.tables.proofs.Ends.{ends_short}
use Rattle.schedule.proofs.Prefixes.{part_count, part_more, follows_more}
use Rattle.tables.specs.Tables.{sheet_of, need_at, minutes_at, kept_at, most_kept, arrival_at, earlier_at, count_of, modules_of, changeover_of, Fit}
use Rattle.tables.specs.declared.Part.{Part}
use Rattle.tables.proofs.Laws.{job_area}
use Rattle.placement.specs.Profile.{held_at, held_after, held_from, held_of, held_since}
use Rattle.placement.specs.Part.{waits, StartFor, Figures, IsPart, Placeable, Placed, is_ready, FirstPart}
use Rattle.placement.proofs.Inserts.{inserted-sum}

-- the minute from which all modules are free
abbrev last_free : ℕ
last_free = last_end + longest_changeover

module _ (t : Jobs) (fit : Fit t) where
  abbrev S : Sheet
  S = sheet_of t

  abbrev jobs : ℕ
  jobs = count_of t

  -- ---- the part-plan without jobs

  pub first_is : (p : Part) → FirstPart t p → IsPart S [] p
  unfolding place_all held_from sum
  first_is p f = record {
    word = rw f.placed refl;
    follows = tt;
    figures = record {
      size = f.size;
      places = f.places;
      low = rw f.unplaced (omega (arith, pow_pos jobs));
      set = λ i l. rw f.unplaced (all_bits jobs i l);
      sizes = rw (f.placed, f.unplaced) (omega (arith, ones-ones jobs));
      last = f.last;
      ends = λ i l. f.ends i (omega (arith, fit.few));
      left = f.left ∙ sum_same jobs _ _ (λ i l. ap (λ (k : ℕ). need_at t i * k) (fit.keeps i l));
      profile = rw (f.placed, f.gone, f.free) (record {
        sorted = λ i k l m. absurd (not-suc-le-zero m);
        few = zero-le;
        inside = zero-le;
        ended = λ k l. absurd (not-suc-le-zero l);
        balance = add-zero (modules_of t);
      });
      by_end = λ g. rw f.placed (sym (sum-zero jobs));
    };
  }

  module _ (p : Part) (w : List ℕ) (is : IsPart S w p) where
    abbrev P : PartPlan
    P = part_of S w

    abbrev F : Figures S P p
    F = is.figures

    sound : Sound S P
    sound = part_sound S fit.narrow w is.follows

    -- ---- what the placed jobs hold

    pub occupied_is : (u : ℕ) → held_of p u ≡ occupied S P u
    unfolding held_at occupied
    occupied_is u =
        sum_same p.placed _ _ (λ k l. rw (mul-only, mul-one))
        ∙ F.by_end (λ e. only (ltb u e) 1)
        ∙ sum_same jobs _ _ (λ i l. one i (P.placed i) refl)
      where
        one : (i : ℕ) (b : Bool) → P.placed i ≡ b
            → only (P.placed i) (S.need i * only (ltb u (finish S P.plan i + S.rest)) 1) ≡ only (occupies S P u i) (S.need i)
        one i true e = rw (e, mul-only, mul-one)
        one i false e = rw e refl

    pub after_is : (u : ℕ) → held_since p u
        ≡ sum jobs (λ i. only (P.placed i) (S.need i * (finish S P.plan i + S.rest - u)))
    unfolding held_after
    after_is u = F.by_end (λ e. e - u)

    -- ---- how many jobs are left

    pub left-count : length w + ones p.unplaced ≡ jobs
    left-count =
        let a = ones-count jobs p.unplaced F.low in
        let b = count_same jobs (bit p.unplaced) (λ i. not (P.placed i)) F.set in
        omega (arith, count-not jobs P.placed, part_count S w is.follows)

    pub all_placed : ones p.unplaced ≡ 0 → (i : ℕ) → i < jobs → P.placed i ≡ true
    all_placed z i l = count_full jobs P.placed (omega (arith, left-count, part_count S w is.follows)) i l

    -- ---- how large the figures are

    pub end_short : (i : ℕ) → i < jobs → P.placed i ≡ true → finish S P.plan i ≤ last_end
    end_short = ends_short t fit w is.follows

    -- its modules are free again a changeover later
    pub free_short : (i : ℕ) → i < jobs → P.placed i ≡ true → finish S P.plan i + S.rest ≤ last_free
    free_short i l e = omega (arith, end_short i l e, fit.rests)

    -- the same of the ends in code, 0 for a job that is not placed
    pub ends_fit : (i : ℕ) → i < jobs → get_or p.ends i 0 + S.rest ≤ last_free
    ends_fit i l =
        let end = only_within (P.placed i) (finish S P.plan i) last_end (end_short i l) in
        omega (arith, F.ends i l, fit.rests)

    pub last_short : p.last ≤ last_end
    last_short =
        let ends = largest-le jobs (λ i. only (P.placed i) (finish S P.plan i)) last_end
        (λ i l. only_within (P.placed i) _ last_end (end_short i l)) in
        omega (arith, F.last, sound.ended)

    pub after_small : (u : ℕ) → held_since p u ≤ 40000000
    after_small u =
        let most = sum_most jobs (λ i. only (P.placed i) (S.need i * (finish S P.plan i + S.rest - u))) (64 * last_free)
        (λ i l. only_within (P.placed i) _ (64 * last_free) (one i l)) in
        let all : jobs * (64 * last_free) ≤ 20 * (64 * last_free) = mul-le-mul_right (64 * last_free) fit.few in
        omega (arith, after_is u)
      where
        one : (i : ℕ) → i < jobs → P.placed i ≡ true → S.need i * (finish S P.plan i + S.rest - u) ≤ 64 * last_free
        one i l e =
            let w : need_at t i ≤ 64 = omega (arith, fit.narrow i l, fit.most) in
            le_trans (mul-le-mul_left (need_at t i) (omega (arith, free_short i l e))) (mul-le-mul_right last_free w)

    pub left_small : p.left ≤ 2000000
    left_small =
        let most = sum_most jobs (λ i. only (not (P.placed i)) (S.need i * (S.minutes i + S.rest))) (64 * most_kept)
        (λ i l. le_trans (only-le (not (P.placed i)) (S.need i * (S.minutes i + S.rest))) (rw (fit.keeps i l) at (job_area t fit i l))) in
        let all : jobs * (64 * most_kept) ≤ 20 * (64 * most_kept) = mul-le-mul_right (64 * most_kept) fit.few in
        omega (arith, F.left)

    -- ---- which jobs may come next

    module _ (j : ℕ) (l : j < jobs) where
      follow-ready : is_ready t p j ≡ true → ready S P.placed j ≡ true
      follow-ready e =
          let a = and_left (bit p.unplaced j) _ e in
          let z : bit_and (earlier_at t j) p.unplaced ≡ 0 = eqb-true _ 0 (and_right (bit p.unplaced j) _ e) in
          ready_when S P.placed j (record {
            job = l;
            new = not-true (P.placed j) (sym (F.set j l) ∙ a);
            after = λ i k b. not-false (P.placed i) (sym (F.set i k) ∙ and-empty (earlier_at t j) p.unplaced z i b);
          })

      ready_follow : ready S P.placed j ≡ true → is_ready t p j ≡ true
      ready_follow e =
          let r = ready_says S P.placed j e in
          let z : bit_and p.unplaced (earlier_at t j) ≡ 0 =
          empty-and jobs p.unplaced (earlier_at t j) F.low (λ i k u. none r i k u (true-or-false (bit (earlier_at t j) i))) in
          and_both (bit p.unplaced j) _ (F.set j l ∙ ap not r.new) (eq-eqb _ 0 (and_comm (earlier_at t j) p.unplaced ∙ z))
        where
          none : Ready S P.placed j → (i : ℕ) → i < jobs → bit p.unplaced i ≡ true
              → (bit (earlier_at t j) i ≡ true) ⊎ (bit (earlier_at t j) i ≡ false) → bit (earlier_at t j) i ≡ false
          none r i k u (inr b) = b
          none r i k u (inl b) = clash (not (P.placed i)) (sym (F.set i k) ∙ u) (ap not (r.after i k b))

      -- the code's test is the theory's
      pub ready_is : is_ready t p j ≡ ready S P.placed j
      ready_is = same_test _ _ follow-ready ready_follow

    -- ---- when a job that may come next starts

    module _ (j : ℕ) (r : ready S P.placed j ≡ true) where
      abbrev R : Ready S P.placed j
      R = ready_says S P.placed j r

      pub waits_is : waits p.ends (earlier_at t j) jobs (max p.last (arrival_at t j)) ≡ not_before S P j
      waits_is =
          let q = largest_same jobs (λ i. only (bit (earlier_at t j) i) (get_or p.ends i 0))
          (λ i. only (S.before i j) (finish S P.plan i)) (λ i l. one i l (true-or-false (S.before i j))) in
          omega (arith, F.last)
        where
          one : (i : ℕ) → i < jobs → (S.before i j ≡ true) ⊎ (S.before i j ≡ false)
              → only (S.before i j) (get_or p.ends i 0) ≡ only (S.before i j) (finish S P.plan i)
          one i l (inl e) = rw (e, F.ends i l, R.after i l e)
          one i l (inr e) = rw e

      pub start_is : (u : ℕ) → StartFor t p j u → u ≡ start_of S P j
      start_is u f =
          let g = start_may S P j (fit.narrow j R.job) in
          let low = not_before-le S P j (start_of S P j) g.later g.arrived g.after in
          let room : held_of p (start_of S P j) + need_at t j ≤ modules_of t =
          omega (arith, occupied_is (start_of S P j), room-sum S P sound j (start_of S P j) g) in
          sym (start_here S P sound j u (omega (arith, f.from, waits_is)) (f.first (start_of S P j) (omega (arith, waits_is)) room)
          (omega (arith, occupied_is u, f.room)))

      pub start_short : start_of S P j + minutes_at t j ≤ last_end
      start_short =
          let s = part_more S w j in
          let self : eqb j j ≡ true = eq-eqb j j refl in
          let placed : (part_of S (w ++ (j ∷ []))).placed j ≡ true = subst (λ (X : PartPlan). X.placed j ≡ true) (sym s) (rw self) in
          let end : finish S (part_of S (w ++ (j ∷ []))).plan j ≡ start_of S P j + minutes_at t j =
          subst (λ (X : PartPlan). finish S X.plan j ≡ start_of S P j + minutes_at t j) (sym s) (rw self) in
          omega (arith, ends_short t fit (w ++ (j ∷ [])) (follows_more S w j is.follows r) j R.job placed)

      -- ---- the part-plan with it

      unplaced_yet : bit p.unplaced j ≡ true
      unplaced_yet = F.set j R.job ∙ ap not R.new

      kept_is : kept_at t j ≡ minutes_at t j + changeover_of t
      kept_is = fit.keeps j R.job

      area-le : need_at t j * kept_at t j ≤ p.left
      area-le =
          let one : need_at t j * (minutes_at t j + changeover_of t) ≤ sum jobs (λ i. only (not (P.placed i)) (S.need i * (S.minutes i + S.rest))) =
          rw R.new at (le-sum jobs (λ i. only (not (P.placed i)) (S.need i * (S.minutes i + S.rest))) j R.job) in
          omega (arith, F.left, ap (λ (k : ℕ). need_at t j * k) kept_is)

      pub placeable : Placeable t p j (start_of S P j)
      placeable =
          let g = start_may S P j (fit.narrow j R.job) in
          record {
            job = omega (arith, R.job, fit.few);
            count = omega (arith, F.sizes, fit.few, ones_without p.unplaced j unplaced_yet);
            later = omega (arith, F.last, g.later);
            lasts = fit.lasting j R.job;
            fits = omega (arith, start_short, kept_is, fit.rests);
            keeps = kept_is;
            most = fit.most;
            profile = F.profile;
            room = omega (arith, occupied_is (start_of S P j), room-sum S P sound j (start_of S P j) g);
            area = area-le;
            size = F.size;
            places = F.places;
          }

      pub fewer : suc (ones (without_bit p.unplaced j)) ≡ ones p.unplaced
      fewer = ones_without p.unplaced j unplaced_yet

      abbrev Q : PartPlan
      Q = place S P j (start_of S P j)

      module _ (q : Part) (h : Placed t p j (start_of S P j) q) where
        next_set : (i : ℕ) → i < jobs → bit q.unplaced i ≡ not (Q.placed i)
        next_set i l =
            ap (λ (x : ℕ). bit x i) h.unplaced ∙ bit_without p.unplaced j i ∙ ap (λ b. b && not (eqb i j)) (F.set i l)
            ∙ neither (eqb i j) (P.placed i)
          where
            neither : (a b : Bool) → (not b && not a) ≡ not (a || b)
            neither true true = refl
            neither true false = refl
            neither false true = refl
            neither false false = refl

        next_ends : (i : ℕ) → i < jobs → (b : Bool) → eqb i j ≡ b → get_or q.ends i 0 ≡ only (Q.placed i) (finish S Q.plan i)
        next_ends i l true e =
            let y : i ≡ j = eqb-true i j e in
            rw e (ap (λ (k : ℕ). get_or q.ends k 0) y ∙ h.end ∙ ap (λ (k : ℕ). start_of S P j + minutes_at t k) (sym y))
        next_ends i l false e = rw e (h.ends i (omega (arith, fit.few)) (eqb-false i j e) ∙ F.ends i l)

        next_left : q.left ≡ sum jobs (λ i. only (not (Q.placed i)) (S.need i * (S.minutes i + S.rest)))
        next_left =
            let f : ℕ → ℕ = λ i. S.need i * (S.minutes i + S.rest) in
            let parts = sum_same jobs (λ i. only (not (P.placed i)) (f i))
            (λ i. only (eqb i j) (f i) + only (not (Q.placed i)) (f i)) (λ i l. one i (eqb i j) refl) in
            let split = sum-add jobs (λ i. only (eqb i j) (f i)) (λ i. only (not (Q.placed i)) (f i)) in
            omega (arith, h.left, F.left, area-le, ap (λ (k : ℕ). need_at t j * k) kept_is, sum_single jobs f j R.job)
          where
            one : (i : ℕ) (b : Bool) → eqb i j ≡ b
                → only (not (P.placed i)) (S.need i * (S.minutes i + S.rest))
                ≡ only (eqb i j) (S.need i * (S.minutes i + S.rest)) + only (not (Q.placed i)) (S.need i * (S.minutes i + S.rest))
            one i true e = let n : P.placed i ≡ false = rw (eqb-true i j e) R.new in rw (e, n) (omega arith)
            one i false e = rw e (omega arith)

        next_by_end : (g : ℕ → ℕ) → sum q.placed (λ k. get_or q.held k 0 * g (get_or q.until k 0))
            ≡ sum jobs (λ i. only (Q.placed i) (S.need i * g (finish S Q.plan i + S.rest)))
        next_by_end g =
            let f : ℕ → ℕ = λ i. S.need i * g (start_of S P j + S.minutes i + S.rest) in
            let parts = sum_same jobs (λ i. only (Q.placed i) (S.need i * g (finish S Q.plan i + S.rest)))
            (λ i. only (P.placed i) (S.need i * g (finish S P.plan i + S.rest)) + only (eqb i j) (f i)) (λ i l. one i (eqb i j) refl) in
            let split = sum-add jobs (λ i. only (P.placed i) (S.need i * g (finish S P.plan i + S.rest))) (λ i. only (eqb i j) (f i)) in
            let until : start_of S P j + kept_at t j ≡ start_of S P j + S.minutes j + S.rest = omega (arith, kept_is) in
            rw h.placed (omega (arith, inserted-sum h.lists g, ap (λ (u : ℕ). need_at t j * g u) until, F.by_end g, sum_single jobs f j R.job))
          where
            one : (i : ℕ) (b : Bool) → eqb i j ≡ b
                → only (Q.placed i) (S.need i * g (finish S Q.plan i + S.rest))
                ≡ only (P.placed i) (S.need i * g (finish S P.plan i + S.rest)) + only (eqb i j) (S.need i * g (start_of S P j + S.minutes i + S.rest))
            one i true e = let n : P.placed i ≡ false = rw (eqb-true i j e) R.new in rw (e, n) (omega arith)
            one i false e = rw e (omega arith)

        figures : Figures S Q q
        figures = record {
          low = omega (arith, h.unplaced, without-le p.unplaced j, F.low);
          set = next_set;
          sizes = omega (arith, h.placed, ap ones h.unplaced, fewer, F.sizes);
          last = h.last;
          ends = λ i l. next_ends i l (eqb i j) refl;
          left = next_left;
          profile = rw h.last h.profile;
          by_end = next_by_end;
          size = h.size;
          places = h.places;
        }

        -- Placing a job that may come next gives the theory's part-plan with it.
        pub placed_part : IsPart S (w ++ (j ∷ [])) q
        placed_part = record {
          word = h.word ∙ ap (λ (x : List ℕ). x ++ (j ∷ [])) is.word;
          follows = follows_more S w j is.follows r;
          figures = subst (λ (X : PartPlan). Figures S X q) (sym (part_more S w j)) figures;
        }
