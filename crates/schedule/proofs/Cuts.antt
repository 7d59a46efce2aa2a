-- What a search may pass over: each cut gives `CannotBeat`, that no order which begins with these jobs ends before e.
use mathlib.Core.Path.{◌≡◌, refl, sym, ap, ◌∙◌, subst}
use mathlib.Core.Logic.{◌⊎◌, inl, inr}
use mathlib.Core.Bool.{Bool, true, ◌||◌}
use mathlib.Core.List.{List, [], ◌∷◌, ◌++◌, append-nil, append_assoc}
use Prim.Native.Nat.{ℕ, suc, ◌+◌, ◌*◌, ◌≤◌, ◌<◌}
use native.Mathlib.Omega.{arith}
use native.Mathlib.Nat.{mul-le-mul_left}
use lib.Dec.{eqb}
use lib.ListN.{length}
use Rattle.counting.specs.Counting.{count}
use Rattle.counting.proofs.Tests.{less-or-not}
use Rattle.counting.proofs.Counts.{count_same}
use Rattle.schedule.specs.Plan.{Sheet, plan_end, Narrow}
use Rattle.schedule.specs.ListPlan.{Order, PartPlan, no_jobs, placing, ready, Follows, start_of, place_all, part_of}
use Rattle.schedule.specs.TieRule.{end_of}
use Rattle.schedule.specs.PartPlans.{Completes, Ahead, next_start, NoneBefore}
use Rattle.schedule.specs.Bounds.{work, chain}
use Rattle.schedule.specs.Beginnings.{CannotBeat}
use Rattle.schedule.proofs.Starts.{ready_says, ready_when}
use Rattle.schedule.proofs.Sound.{part_sound}
use Rattle.schedule.proofs.Dominance.{ahead_ends}
use Rattle.schedule.proofs.Area.{area_bound}
use Rattle.schedule.proofs.Chains.{chain_bound}
use Rattle.schedule.proofs.Prefixes.{order_split, order_join, end_split, part_count, next-ready}

-- which jobs can follow depends on the jobs of the sheet alone
pub follows_same : (S : Sheet) (d e : ℕ → Bool) (o : List ℕ) → ((i : ℕ) → i < S.jobs → d i ≡ e i) → Follows S d o → Follows S e o
follows_same S d e [] h f = tt
follows_same S d e (j ∷ o) h f =
    let r = ready_says S d j f.0 in (
      ready_when S e j (record { job = r.job; new = sym (h j r.job) ∙ r.new; after = λ i l b. sym (h i l) ∙ r.after i l b }),
      follows_same S (placing d j) (placing e j) o (λ i l. ap (λ b. eqb i j || b) (h i l)) f.1,
    )

-- where no job that can come next leads to an order that ends before e, nothing does
pub children_cut : (S : Sheet) (e : ℕ) (w : List ℕ) → length w < S.jobs
    → ((j : ℕ) → ready S (part_of S w).placed j ≡ true → CannotBeat S e (w ++ (j ∷ []))) → CannotBeat S e w
unfolding CannotBeat
children_cut S e w l h o d ([], q) = absurd (omega (arith, d.all, ap length (q ∙ append-nil w)))
children_cut S e w l h o d (j ∷ p, q) =
    let g : o ≡ (w ++ (j ∷ [])) ++ p = q ∙ sym (append_assoc w (j ∷ []) p) in
    h j (next-ready S w j p (subst (λ (x : List ℕ). Order S x) g d)) o d (p, g)

-- once nothing ends before a later minute, nothing ends before an earlier one
pub cannot_beat_less : (S : Sheet) (e f : ℕ) (w : List ℕ) → f ≤ e → CannotBeat S e w → CannotBeat S f w
unfolding CannotBeat
cannot_beat_less S e f w l h o d b = omega (arith, h o d b)

module _ (S : Sheet) (n : Narrow S) (w : List ℕ) (f : Follows S no_jobs w) where
  abbrev P : PartPlan
  P = part_of S w

  -- by the ends of all completions
  pub by_completions : (e : ℕ) → ((p : List ℕ) → Completes S P p → e ≤ plan_end S (place_all S P p).plan) → CannotBeat S e w
  unfolding CannotBeat
  by_completions e h o d (p, q) =
      let c = (order_split S w p (subst (λ (x : List ℕ). Order S x) q d)).1 in
      omega (arith, h p c, ap (end_of S) q, end_split S w p)

  next_from : (l : ℕ) → NoneBefore S P l → length w < S.jobs → (p : List ℕ) → Completes S P p → l ≤ next_start S P p
  next_from l h m [] (g, c) = absurd (omega (arith, part_count S w f))
  next_from l h m (j ∷ p) (g, c) = h j g.0

  -- The area cut: the work of the part-plan is more than the modules can do by minute T and the rest behind it.
  pub area_cut : (l T : ℕ) → P.last ≤ l → NoneBefore S P l → length w < S.jobs → S.modules * (T + S.rest) < work S P l
      → CannotBeat S (suc T) w
  area_cut l T k h m a = by_completions (suc T) (λ p c.
      go p (area_bound S n P (part_sound S n w f) l k p c (next_from l h m p c)) (less-or-not T (plan_end S (place_all S P p).plan)))
    where
      go : (p : List ℕ) → work S P l ≤ S.modules * (plan_end S (place_all S P p).plan + S.rest)
          → (T < plan_end S (place_all S P p).plan) ⊎ (plan_end S (place_all S P p).plan ≤ T) → suc T ≤ plan_end S (place_all S P p).plan
      go p b (inl y) = y
      go p b (inr y) =
          let z : plan_end S (place_all S P p).plan + S.rest ≤ T + S.rest = omega arith in
          absurd (omega (arith, a, b, mul-le-mul_left S.modules z))

  -- The chain cut: a job that can come next, and a chain that begins with it, do not fit before e.
  pub chain_cut : (k j e : ℕ) → ready S P.placed j ≡ true → e ≤ start_of S P j + chain S k j → CannotBeat S e w
  chain_cut k j e r h = by_completions e (λ p c. omega (arith, chain_bound S n P (part_sound S n w f) p c k j r))

  -- The cut by a remembered part-plan: v is ahead of w, and cannot beat e.
  pub ahead_cut : (v : List ℕ) → Follows S no_jobs v → (l e : ℕ) → Ahead S (part_of S v) P l → NoneBefore S P l → length w < S.jobs
      → CannotBeat S e v → CannotBeat S e w
  unfolding CannotBeat
  ahead_cut v g l e a h m s = by_completions e (λ p c.
      let A = part_of S v in
      let t : count S.jobs A.placed ≡ count S.jobs P.placed = count_same S.jobs A.placed P.placed a.same in
      let d : Completes S A p = (follows_same S P.placed A.placed p (λ i l. sym (a.same i l)) c.0, omega (arith, c.1)) in
      let b = ahead_ends S n A P (part_sound S n v g) (part_sound S n w f) l a p c (next_from l h m p c) in
      omega (arith, s (v ++ p) (order_join S v p g d) (p, refl), end_split S v p))
