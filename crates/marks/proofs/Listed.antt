-- The marks that others imply: all of them can go at once, and none besides.
use mathlib.Core.Path.{◌≡◌, refl, sym, subst}
use mathlib.Core.Logic.{◌⊎◌, inl, inr}
use mathlib.Core.Bool.{Bool, true, false, not, ◌&&◌, ◌||◌}
use Prim.Native.Nat.{ℕ, zero, suc, ◌+◌, ◌<◌}
use native.Mathlib.Omega.{arith}
use lib.Dec.{eqb}
use borrow.Author.Tests.{eq-eqb, eqb-true, not-true}
use Rattle.counting.specs.Counting.{count}
use Rattle.counting.proofs.Counts.{count_mono, count_insert}
use Rattle.counting.proofs.Tests.{true-or-false, clash, and_left, and_right, and_both, or_either, not_of_false}
use Rattle.counting.proofs.Ranges.{any_some, any_at, Some}
use Rattle.schedule.specs.Plan.{Sheet, MustPrecede, directly, through, Circular}
use Rattle.marks.specs.Following.{follows}
use Rattle.marks.specs.Implied.{implied, unmarked, the_mark, ImpliedWhen, SameFollowers, NoFurther, ListedAlone}
use Rattle.marks.proofs.Levels.{follows_when, joins}

-- ---- chains

-- a chain of the sheet without some marks is a chain of the sheet
fewer : (S : Sheet) (f : ℕ → ℕ → Bool) {i j : ℕ} → MustPrecede (unmarked S f) i j → MustPrecede S i j
fewer S f (directly a b e) = directly a b (and_left _ (not (f _ _)) e)
fewer S f (through a b e m) = through a b (and_left _ (not (f _ _)) e) (fewer S f m)

-- the jobs at its ends are jobs
pub first-job : {S : Sheet} {i j : ℕ} → MustPrecede S i j → i < S.jobs
first-job (directly a b e) = a
first-job (through a b e m) = a

pub last-job : {S : Sheet} {i j : ℕ} → MustPrecede S i j → j < S.jobs
last-job (directly a b e) = b
last-job (through a b e m) = last-job m

-- ---- which marks are listed

-- a mark beside which there is a chain through another job is implied
implied_by : (S : Sheet) → ¬ Circular S → (i a j : ℕ) → S.before i j ≡ true → a < S.jobs → S.before i a ≡ true → MustPrecede S a j
    → implied S i j ≡ true
unfolding implied
implied_by S c i a j e l b m =
    and_both (S.before i j) _ e (any_at S.jobs (λ k. S.before i k && follows S k j) a l
    (and_both (S.before i a) (follows S a j) b ((follows_when S c a j l (last-job m)).1 m)))

-- the job through which the other chain goes
between : (S : Sheet) (i j : ℕ) → implied S i j ≡ true → Some S.jobs (λ k. S.before i k && follows S k j)
unfolding implied
between S i j x = any_some S.jobs (λ k. S.before i k && follows S k j) (and_right (S.before i j) _ x)

pub implied_when : ImpliedWhen
unfolding implied
implied_when S c i j l m = (there, λ h. back h.0 h.1.1 h.1.2)
  where
    there : implied S i j ≡ true → (S.before i j ≡ true) × ((a : ℕ) × MustPrecede S i a × MustPrecede S a j)
    there x =
        let s = between S i j x in
        let a = s.0 in (
          and_left (S.before i j) _ x,
          (
            a,
            directly l s.1 (and_left (S.before i a) (follows S a j) s.2),
            (follows_when S c a j s.1 m).0 (and_right (S.before i a) (follows S a j) s.2),
          ),
        )

    back : S.before i j ≡ true → {a : ℕ} → MustPrecede S i a → MustPrecede S a j → implied S i j ≡ true
    back e (directly x y b) q = implied_by S c i _ j e y b q
    back e (through x y b p) q = implied_by S c i _ j e y b (joins p q)

-- ---- no others can go

pub listed_alone : ListedAlone
listed_alone S c f keeps i j l m e x = go (keeps i j (directly l m e))
  where
    go : MustPrecede (unmarked S f) i j → implied S i j ≡ true
    go (directly a b y) = clash (f i j) x (not-true (f i j) (and_right (S.before i j) (not (f i j)) y))
    go (through a b y p) = implied_by S c i _ j e b (and_left _ (not (f i _)) y) (fewer S f p)

pub no_further : NoFurther
no_further S c i j l m e x p = go p
  where
    T : Sheet
    T = unmarked S (implied S)

    go : MustPrecede (unmarked T (the_mark i j)) i j → ⊥
    go (directly a b y) =
        clash (the_mark i j i j) (and_both (eqb i i) (eqb j j) (eq-eqb i i refl) (eq-eqb j j refl))
        (not-true (the_mark i j i j) (and_right (T.before i j) (not (the_mark i j i j)) y))
    go (through a b y q) =
        let first = and_left (S.before i _) (not (implied S i _)) (and_left (T.before i _) (not (the_mark i j i _)) y) in
        clash (implied S i j) (implied_by S c i _ j e b first (fewer S (implied S) (fewer T (the_mark i j) q))) x

-- ---- all of them can go

-- how many jobs must precede job i
rank : Sheet → ℕ → ℕ
rank S i = count S.jobs (λ k. follows S k i)

-- more jobs must precede a later job
rank_rises : (S : Sheet) → ¬ Circular S → {i j : ℕ} → MustPrecede S i j → rank S i < rank S j
unfolding rank
rank_rises S c {i} {j} m =
    let more = count_mono S.jobs (λ k. eqb k i || follows S k i) (λ k. follows S k j) (λ k l e. later k l (or_either (eqb k i) (follows S k i) e)) in
    let one = count_insert S.jobs (λ k. follows S k i) i (first-job m) (not_itself (true-or-false (follows S i i))) in
    omega arith
  where
    later : (k : ℕ) → k < S.jobs → (eqb k i ≡ true) ⊎ (follows S k i ≡ true) → follows S k j ≡ true
    later k l (inl e) = (follows_when S c k j l (last-job m)).1 (subst (λ (x : ℕ). MustPrecede S x j) (sym (eqb-true k i e)) m)
    later k l (inr e) = (follows_when S c k j l (last-job m)).1 (joins ((follows_when S c k i l (first-job m)).0 e) m)

    not_itself : (follows S i i ≡ true) ⊎ (follows S i i ≡ false) → follows S i i ≡ false
    not_itself (inl e) = absurd (c (i, (follows_when S c i i (first-job m) (first-job m)).0 e))
    not_itself (inr e) = e

-- every chain is one of marks that no others imply: by the ranks between its ends
module _ (S : Sheet) (c : ¬ Circular S) where
  abbrev T : Sheet
  T = unmarked S (implied S)

  Kept : ℕ → Type 0
  Kept d = (i j : ℕ) → MustPrecede S i j → rank S j < rank S i + d → MustPrecede T i j

  kept_step : (d : ℕ) → Kept d → Kept (suc d)
  unfolding Kept
  kept_step d less i j m l = go m
    where
      two : {a : ℕ} → MustPrecede S i a → MustPrecede S a j → MustPrecede T i j
      two p q =
          let x = rank_rises S c p in
          let y = rank_rises S c q in
          joins (less i _ p (omega arith)) (less _ j q (omega arith))

      mark : i < S.jobs → j < S.jobs → S.before i j ≡ true → (implied S i j ≡ true) ⊎ (implied S i j ≡ false) → MustPrecede T i j
      mark a b e (inr x) = directly a b (and_both (S.before i j) (not (implied S i j)) e (not_of_false (implied S i j) x))
      mark a b e (inl x) =
          let h = ((implied_when S c i j a b).0 x).1 in
          two h.1 h.2

      go : MustPrecede S i j → MustPrecede T i j
      go (directly a b e) = mark a b e (true-or-false (implied S i j))
      go (through a b e p) = two (directly a b e) p

  kept_all : (d : ℕ) → Kept d
  unfolding Kept
  kept_all zero i j m l = absurd (omega (arith, rank_rises S c m))
  kept_all (suc d) i j m l = kept_step d (kept_all d) i j m l

pub same_followers : SameFollowers
unfolding Kept
same_followers S c i j = (fewer S (implied S), λ m. kept_all S c (suc (rank S j)) i j m (omega arith))
