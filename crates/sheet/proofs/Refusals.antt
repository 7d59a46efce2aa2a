-- Whoever calls gets a result or the first refusal in the order of checks (R-1.1, C).
use mathlib.Core.Path.{◌≡◌, refl, sym, ◌∙◌}
use mathlib.Core.Logic.{◌↔◌}
use mathlib.Core.Bool.{Bool, true, false, cond}
use mathlib.Core.List.{List}
use Prim.Native.Nat.{ℕ, ◌<◌}
use lib.Dec.{eqb}
use lib.ListN.{length}
use borrow.Author.Tests.{eqb-true, ne_eqb}
use Rattle.checking.specs.Checking.{FirstFails, NoneFails}
use Rattle.checking.proofs.Order.{refused_exactly, answered_exactly}
use Rattle.sheet_format.specs.declared.Job.{Job}
use Rattle.sheet_format.specs.Format.{sheet_bytes}
use Rattle.sheet_format.specs.declared.Cabinet.{Cabinet}
use Rattle.sheet.specs.declared.Written.{Written}
use Rattle.sheet.specs.Read.{read_checks, read_refusal, refused, reading}
use Rattle.sheet.specs.Label.{label_checks, label_refusal, label_place}
use Rattle.sheet.specs.Write.{write_checks, write_refusal, write_answer, write_leaves}
use Rattle.sheet.proofs.Answers.{read_number}
use Rattle.sheet.proofs.Labels.{no_place}
use Rattle.sheet.proofs.Writes.{refused_leaves}

same_number : {A : Type 0} (a b k : ℕ) → a ≡ b → (b ≡ k) ↔ A → (a ≡ k) ↔ A
same_number a b k e f = (λ h. f.0 (sym e ∙ h), λ h. e ∙ f.1 h)

-- reading gives k exactly when check k fails and no earlier one of 1 to 7 does
pub read-refused : (s : List ℕ) (k : ℕ) → 0 < k → ((reading s).refusal ≡ k) ↔ FirstFails (read_checks s) k
read-refused s k h = same_number (reading s).refusal (read_refusal s) k (read_number s) (refused_exactly (read_checks s) k h)

-- and answers exactly when all pass
pub read-answered : (s : List ℕ) → ((reading s).refusal ≡ 0) ↔ NoneFails (read_checks s)
read-answered s = same_number (reading s).refusal (read_refusal s) 0 (read_number s) (answered_exactly (read_checks s) refl)

-- a refused reading: every other figure is 0
pub read-refused_figures : (s : List ℕ) → ((reading s).refusal ≡ 0 → ⊥) → reading s ≡ refused (reading s).refusal
unfolding reading
read-refused_figures s h =
    let n : read_refusal s ≡ 0 → ⊥ = λ z. h (read_number s ∙ z) in
    rw (ne_eqb (read_refusal s) 0 n)

-- the number beside the label: the first of 1 to 7, then 14
pub label-refused : (s : List ℕ) (job k : ℕ) → 0 < k → (label_refusal s job ≡ k) ↔ FirstFails (label_checks s job) k
label-refused s job k h = refused_exactly (label_checks s job) k h

pub label-answered : (s : List ℕ) (job : ℕ) → (label_refusal s job ≡ 0) ↔ NoneFails (label_checks s job)
label-answered s job = answered_exactly (label_checks s job) refl

-- a refused label call: every other figure of its place is 0
pub label-refused-place : (s : List ℕ) (job : ℕ) → (label_refusal s job ≡ 0 → ⊥)
    → label_place s job ≡ record { refusal = label_refusal s job; offset = 0; length = 0 }
label-refused-place s job h = sym (no_place s job (label_refusal s job) refl h)

module _ (jobs : ℕ → Job) (n : ℕ) (labels : List ℕ) (C : Cabinet) (out : List ℕ) where
  pub write_number : (write_answer jobs n labels C out).refusal ≡ write_refusal jobs n labels C (length out)
  unfolding write_answer
  write_number = go (eqb (write_refusal jobs n labels C (length out)) 0) refl
    where
      go : (b : Bool) → eqb (write_refusal jobs n labels C (length out)) 0 ≡ b
          → (cond {A = Written} b (record { refusal = 0; length = length (sheet_bytes jobs n labels C) })
          (record { refusal = write_refusal jobs n labels C (length out); length = 0 })).refusal
          ≡ write_refusal jobs n labels C (length out)
      go true e = sym (eqb-true (write_refusal jobs n labels C (length out)) 0 e)
      go false e = refl

  -- writing gives k exactly when check k fails and no earlier one of 2, 3, 5, 6, 7, 10 does
  pub write-refused : (k : ℕ) → 0 < k
      → ((write_answer jobs n labels C out).refusal ≡ k) ↔ FirstFails (write_checks jobs n labels C (length out)) k
  write-refused k h =
      same_number _ (write_refusal jobs n labels C (length out)) k write_number
      (refused_exactly (write_checks jobs n labels C (length out)) k h)

  pub write-answered : ((write_answer jobs n labels C out).refusal ≡ 0) ↔ NoneFails (write_checks jobs n labels C (length out))
  write-answered =
      same_number _ (write_refusal jobs n labels C (length out)) 0 write_number
      (answered_exactly (write_checks jobs n labels C (length out)) refl)

  -- a refused call writes no byte and answers the length 0
  pub write-refused_leaves : ((write_answer jobs n labels C out).refusal ≡ 0 → ⊥)
      → (write_leaves jobs n labels C out ≡ out) × ((write_answer jobs n labels C out).length ≡ 0)
  unfolding write_answer
  write-refused_leaves h =
      let z : write_refusal jobs n labels C (length out) ≡ 0 → ⊥ = λ e. h (write_number ∙ e) in (
        sym (refused_leaves jobs n labels C out (write_refusal jobs n labels C (length out)) refl z),
        rw (ne_eqb (write_refusal jobs n labels C (length out)) 0 z),
      )
