-- Labels cut from the labels run together: where they lie, and that the checks of labels depend on the first n jobs alone.
use mathlib.Core.Path.{◌≡◌, refl, ap, ap₂, ◌∙◌}
use mathlib.Core.Bool.{Bool, false, not}
use mathlib.Core.List.{List, [], ◌∷◌}
use Prim.Native.Nat.{ℕ, suc, ◌+◌, ◌≤◌, ◌<◌}
use native.Mathlib.Nat.{le_trans}
use native.Mathlib.Omega.{arith}
use lib.Dec.{eqb}
use lib.ListN.{length, take, drop}
use Rattle.counting.specs.Counting.{sum, any}
use Rattle.counting.proofs.Sums.{sum_same, sum_up}
use Rattle.counting.proofs.Ranges.{any_same}
use Rattle.sheet_format.specs.declared.Job.{Job}
use Rattle.sheet_format.specs.Format.{label_length, label_lengths, label_in}
use Rattle.sheet_format.specs.Checks.{faulty, some_faulty, wrong_label, wrong_labels, content_checks}

-- no label is wrong where there is none
pub wrong-none : (l : List ℕ) → length l ≡ 0 → false ≡ wrong_label l
unfolding wrong_label any
wrong-none [] e = refl
wrong-none (b ∷ bs) e = absurd (omega arith)

-- label i ends within the labels where the lengths add up to them
pub label_within : (jobs : ℕ → Job) (n i : ℕ) → i < n → label_lengths i jobs + label_length (jobs i) ≤ label_lengths n jobs
unfolding sum
label_within jobs n i l = sum_up (suc i) n (λ k. label_length (jobs k)) l

-- ---- the first n jobs alone

module _ (n : ℕ) (f g : ℕ → Job) (same : (i : ℕ) → i < n → f i ≡ g i) where
  pub lengths_same : (i : ℕ) → i ≤ n → label_lengths i f ≡ label_lengths i g
  lengths_same i l =
      sum_same i (λ k. label_length (f k)) (λ k. label_length (g k)) (λ k m. ap (λ (j : Job). label_length j) (same k (le_trans m l)))

  pub faulty_same : some_faulty n f ≡ some_faulty n g
  faulty_same = any_same n (λ i. faulty n (f i)) (λ i. faulty n (g i)) (λ i l. ap (faulty n) (same i l))

  pub label_same : (labels : List ℕ) (i : ℕ) → i < n → label_in f labels i ≡ label_in g labels i
  label_same labels i l =
      ap₂ (λ (k m : ℕ). take k (drop m labels)) (ap (λ (j : Job). label_length j) (same i l)) (lengths_same i (omega arith))

  pub labels_same : (labels : List ℕ) → wrong_labels n f labels ≡ wrong_labels n g labels
  labels_same labels =
      any_same n (λ i. wrong_label (label_in f labels i)) (λ i. wrong_label (label_in g labels i)) (λ i l. ap wrong_label (label_same labels i l))

  -- the checks 5 to 7
  pub content_same : (labels : List ℕ) → content_checks n f labels ≡ content_checks n g labels
  content_same labels =
      ap₂ (λ (a : Bool) (t : ℕ). (5, a) ∷ (6, not (eqb t (length labels))) ∷ (7, wrong_labels n f labels) ∷ [])
      faulty_same (lengths_same n (omega arith))
      ∙ ap (λ (b : Bool). (5, some_faulty n g) ∷ (6, not (eqb (label_lengths n g) (length labels))) ∷ (7, b) ∷ []) (labels_same labels)
