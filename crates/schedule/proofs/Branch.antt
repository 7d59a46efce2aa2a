-- A part-plan and one further on: what was placed keeps its place, and what came later starts no earlier.
use mathlib.Core.Path.{◌≡◌, refl, sym, ap, ap₂, ◌∙◌}
use mathlib.Core.Logic.{◌⊎◌, inl, inr}
use mathlib.Core.Bool.{Bool, true, false}
use mathlib.Core.List.{List, [], ◌∷◌, ◌++◌, append_assoc}
use Prim.Native.Nat.{ℕ, zero, suc, ◌+◌, ◌≤◌, ◌<◌}
use native.Mathlib.Omega.{arith}
use lib.Dec.{eqb}
use lib.ListN.{length, get_or, length-append}
use lib.Seq.{get_or-append_seam, get_or-append-add}
use borrow.Author.Tests.{eqb-true, eq-eqb}
use Rattle.counting.proofs.Tests.{clash}
use Rattle.schedule.specs.Plan.{Sheet, Narrow}
use Rattle.schedule.specs.ListPlan.{PartPlan, no_jobs, Follows, start_of, place, empty_part, place_all, part_of, placing}
use Rattle.schedule.proofs.Starts.{ready_says, start_may}
use Rattle.schedule.proofs.Along.{place_all-append, place_all_keeps, next_start-kept}
use Rattle.schedule.proofs.Prefixes.{follows_split}

-- a job that is placed on the way starts no earlier than the last start before it
placed_later : (S : Sheet) → Narrow S → (P : PartPlan) (o : List ℕ) → Follows S P.placed o
    → (k : ℕ) → P.placed k ≡ false → (place_all S P o).placed k ≡ true → P.last ≤ (place_all S P o).plan.start k
unfolding place_all
placed_later S n P [] f k a b = clash (P.placed k) b a
placed_later S n P (j ∷ o) f k a b = go (eqb k j) refl (λ z. placed_later S n (place S P j (start_of S P j)) o f.1 k z b)
  where
    Q : PartPlan
    Q = place S P j (start_of S P j)

    from : P.last ≤ start_of S P j
    from = (start_may S P j (n j (ready_says S P.placed j f.0).job)).later

    go : (c : Bool) → eqb k j ≡ c → (Q.placed k ≡ false → Q.last ≤ (place_all S Q o).plan.start k)
        → P.last ≤ (place_all S Q o).plan.start k
    go true e h = rw (eqb-true k j e) (omega (arith, from, next_start-kept S P j o f))
    go false e h = omega (arith, from, h (rw e a))

-- the next job starts before those that come behind it
pub next_first : (S : Sheet) → Narrow S → (P : PartPlan) (j : ℕ) (o : List ℕ) → Follows S P.placed (j ∷ o)
    → (k : ℕ) → P.placed k ≡ false → (place_all S P (j ∷ o)).placed k ≡ true → start_of S P j ≤ (place_all S P (j ∷ o)).plan.start k
unfolding place_all
next_first S n P j o f k a b = go (eqb k j) refl
  where
    go : (c : Bool) → eqb k j ≡ c → start_of S P j ≤ (place_all S P (j ∷ o)).plan.start k
    go true e = rw (eqb-true k j e) (omega (arith, next_start-kept S P j o f))
    go false e = placed_later S n (place S P j (start_of S P j)) o f.1 k (rw e a) b

module _ (S : Sheet) (n : Narrow S) (u : List ℕ) (i : ℕ) (q : List ℕ) (f : Follows S no_jobs (u ++ (i ∷ q))) where
  abbrev P : PartPlan
  P = part_of S u

  abbrev A : PartPlan
  A = part_of S (u ++ (i ∷ q))

  pub branch_follows : Follows S no_jobs u × Follows S P.placed (i ∷ q)
  branch_follows = follows_split S empty_part u (i ∷ q) f

  further : A ≡ place_all S P (i ∷ q)
  further = place_all-append S empty_part u (i ∷ q)

  pub branch_kept : (k : ℕ) → P.placed k ≡ true → (A.placed k ≡ true) × (A.plan.start k ≡ P.plan.start k)
  branch_kept k p =
      let h = place_all_keeps S P (i ∷ q) branch_follows.1 k p in
      (ap (λ (X : PartPlan). X.placed k) further ∙ h.placed, ap (λ (X : PartPlan). X.plan.start k) further ∙ h.start)

  -- the job that u goes on with
  pub branch-placed : A.placed i ≡ true
  unfolding place_all
  branch-placed =
      let self : eqb i i ≡ true = eq-eqb i i refl in
      let h = place_all_keeps S (place S P i (start_of S P i)) q branch_follows.1.1 i (rw self refl) in
      ap (λ (X : PartPlan). X.placed i) further ∙ h.placed

  pub branch_start : A.plan.start i ≡ start_of S P i
  branch_start = ap (λ (X : PartPlan). X.plan.start i) further ∙ next_start-kept S P i q branch_follows.1

  pub branch-behind : (k : ℕ) → P.placed k ≡ false → A.placed k ≡ true → A.plan.start i ≤ A.plan.start k
  branch-behind k a b =
      let h = next_first S n P i q branch_follows.1 k a (ap (λ (X : PartPlan). X.placed k) (sym further) ∙ b) in
      omega (arith, h, branch_start, ap (λ (X : PartPlan). X.plan.start k) further)

-- ---- the place of a job

-- a job that is placed on the way stands in the order
placed_within : (S : Sheet) (P : PartPlan) (o : List ℕ) (i : ℕ) → (place_all S P o).placed i ≡ true
    → (P.placed i ≡ true) ⊎ ((u : List ℕ) × (q : List ℕ) × (o ≡ u ++ (i ∷ q)))
unfolding place_all
placed_within S P [] i b = inl b
placed_within S P (j ∷ o) i b = go (placed_within S (place S P j (start_of S P j)) o i b) (eqb i j) refl
  where
    go : ((place S P j (start_of S P j)).placed i ≡ true) ⊎ ((u : List ℕ) × (q : List ℕ) × (o ≡ u ++ (i ∷ q))) → (c : Bool) → eqb i j ≡ c
        → (P.placed i ≡ true) ⊎ ((u : List ℕ) × (q : List ℕ) × ((j ∷ o) ≡ u ++ (i ∷ q)))
    go (inr (u, q, e)) c x = inr (j ∷ u, q, ap (λ (l : List ℕ). j ∷ l) e)
    go (inl p) true x = inr ([], o, ap (λ (k : ℕ). k ∷ o) (sym (eqb-true i j x)))
    go (inl p) false x = inl (rw x at p)

pub placed_splits : (S : Sheet) (v : List ℕ) (i : ℕ) → (part_of S v).placed i ≡ true → (u : List ℕ) × (q : List ℕ) × (v ≡ u ++ (i ∷ q))
placed_splits S v i b = go (placed_within S empty_part v i b)
  where
    go : (empty_part.placed i ≡ true) ⊎ ((u : List ℕ) × (q : List ℕ) × (v ≡ u ++ (i ∷ q)))
        → (u : List ℕ) × (q : List ℕ) × (v ≡ u ++ (i ∷ q))
    go (inl p) = clash false p refl
    go (inr r) = r

-- what stands at a place of an order, and what stands around it
pub place_splits : (v : List ℕ) (t : ℕ) → t < length v → (u : List ℕ) × (q : List ℕ) × (v ≡ u ++ (get_or v t 0 ∷ q)) × (length u ≡ t)
place_splits [] t l = absurd (omega arith)
place_splits (a ∷ v) zero l = ([], v, refl, refl)
place_splits (a ∷ v) (suc t) l =
    let z = place_splits v t (omega arith) in
    (a ∷ z.0, z.1, ap (λ (x : List ℕ). a ∷ x) z.2, ap suc z.3)

-- is a job of the sheet
pub place_within : (S : Sheet) (d : ℕ → Bool) (v : List ℕ) → Follows S d v → (t : ℕ) → t < length v → get_or v t 0 < S.jobs
place_within S d [] f t l = absurd (omega arith)
place_within S d (j ∷ v) f zero l = (ready_says S d j f.0).job
place_within S d (j ∷ v) f (suc t) l = place_within S (placing d j) v f.1 t (omega arith)

-- the place of a job that u has placed
pub place_in_lem : (S : Sheet) (u p : List ℕ) (k : ℕ) → (part_of S u).placed k ≡ true → (t : ℕ) × (t < length u) × (get_or (u ++ p) t 0 ≡ k)
place_in_lem S u p k h =
    let z = placed_splits S u k h in (
      length z.0,
      omega (arith, ap length z.2, length-append z.0 (k ∷ z.1)),
      ap (λ (x : List ℕ). get_or (x ++ p) (length z.0) 0) z.2
          ∙ ap (λ (x : List ℕ). get_or x (length z.0) 0) (append_assoc z.0 (k ∷ z.1) p)
          ∙ get_or-append_seam z.0 k (z.1 ++ p) 0,
    )

-- and of one that was placed behind u
pub place-behind : (S : Sheet) (u p : List ℕ) (k : ℕ) → (part_of S u).placed k ≡ false → (part_of S (u ++ p)).placed k ≡ true
    → (t : ℕ) × (length u ≤ t) × (t < length (u ++ p)) × (get_or (u ++ p) t 0 ≡ k)
place-behind S u p k new h =
    go (placed_within S (part_of S u) p k (sym (ap (λ (X : PartPlan). X.placed k) (place_all-append S empty_part u p)) ∙ h))
  where
    go : ((part_of S u).placed k ≡ true) ⊎ ((v : List ℕ) × (q : List ℕ) × (p ≡ v ++ (k ∷ q)))
        → (t : ℕ) × (length u ≤ t) × (t < length (u ++ p)) × (get_or (u ++ p) t 0 ≡ k)
    go (inl e) = clash ((part_of S u).placed k) e new
    go (inr (v, q, e)) = (
      length u + length v,
      omega arith,
      omega (arith, length-append u p, ap length e, length-append v (k ∷ q)),
      get_or-append-add u p (length v) 0 ∙ ap (λ (x : List ℕ). get_or x (length v) 0) e ∙ get_or-append_seam v k q 0,
    )

-- where a longer list is split, the last one is the place or stands behind it
pub split_last : (w : List ℕ) (j : ℕ) (u : List ℕ) (i : ℕ) (q : List ℕ) → w ++ (j ∷ []) ≡ u ++ (i ∷ q)
    → ((w ≡ u) × (j ≡ i)) ⊎ ((p : List ℕ) × (w ≡ u ++ (i ∷ p)))
split_last [] j [] i q e = let x : j ≡ i = cc in inl (refl, x)
split_last [] j (a ∷ u) i q e = absurd (omega (arith, ap length e, length-append u (i ∷ q)))
split_last (b ∷ w) j [] i q e = let x : b ≡ i = cc in inr (w, ap (λ (k : ℕ). k ∷ w) x)
split_last (b ∷ w) j (a ∷ u) i q e =
    let x : b ≡ a = cc in
    let y : w ++ (j ∷ []) ≡ u ++ (i ∷ q) = cc in
    go x (split_last w j u i q y)
  where
    go : b ≡ a → ((w ≡ u) × (j ≡ i)) ⊎ ((p : List ℕ) × (w ≡ u ++ (i ∷ p)))
        → (((b ∷ w) ≡ a ∷ u) × (j ≡ i)) ⊎ ((p : List ℕ) × ((b ∷ w) ≡ a ∷ (u ++ (i ∷ p))))
    go x (inl (y, z)) = inl (ap₂ ◌∷◌ x y, z)
    go x (inr (p, y)) = inr (p, ap₂ ◌∷◌ x y)
