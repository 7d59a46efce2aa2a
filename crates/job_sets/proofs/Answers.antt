-- What the count answers: the first refusal, or the number.
use mathlib.Core.Path.{◌≡◌, refl, sym, ◌∙◌}
use mathlib.Core.List.{List}
use Prim.Native.Nat.{ℕ, ◌≤◌}
use borrow.Author.Tests.{eq-eqb, ne_eqb}
use Rattle.schedule.specs.Plan.{Circular}
use Rattle.figures.specs.Figures.{most_jobs}
use Rattle.tables.specs.declared.Jobs.{Jobs}
use Rattle.tables.specs.Tables.{sheet_of, count_of}
use Rattle.std.specs.Prelude.{Ok, Err}
use Rattle.checking.specs.Refusals.{number_of}
use Rattle.checking.specs.declared.Refusal.{Refusal}
use Rattle.checking.proofs.Numbers.{number-some}
use Rattle.planable.specs.Planable.{planable_refusal}
use Rattle.planable.specs.Results.{CheckedOf}
use Rattle.planable.proofs.Planable.{number_of_answer, Ready, ready-table}
use Rattle.job_sets.specs.declared.SetCount.{SetCount}
use Rattle.job_sets.specs.Sets.{closed_sets}
use Rattle.job_sets.specs.Results.{sets_answer}
use Rattle.job_sets.proofs.Closed.{sets_same}

-- the number is 1 to 9 and 19's
pub sets_number : (s : List ℕ) → (sets_answer s).refusal ≡ planable_refusal s
unfolding sets_answer
sets_number s = number_of_answer (λ (a : SetCount). a.refusal) (planable_refusal s) _ _ refl refl

module _ (s : List ℕ) where
  pub refused : (e : Refusal) → CheckedOf s (Err e) → (k : ℕ) → k ≡ number_of e → record { refusal = k; sets = 0 } ≡ sets_answer s
  unfolding sets_answer
  refused e h k is = rw (ne_eqb (planable_refusal s) 0 (λ z. number-some e (h.refusal ∙ z)), is ∙ h.refusal) refl

  module _ (t : Jobs) (h : CheckedOf s (Ok t)) where
    passed : planable_refusal s ≡ 0
    passed = sym h.refusal

    ready : Ready s t
    ready = ready-table s t passed h.table

    pub few_jobs : count_of t ≤ most_jobs
    few_jobs = ready.fit.few

    pub no_circle : ¬ Circular (sheet_of t)
    no_circle = ready.free

    pub answered : (n : ℕ) → n ≡ closed_sets (sheet_of t) → record { refusal = 0; sets = n } ≡ sets_answer s
    unfolding sets_answer
    answered n e = rw (eq-eqb (planable_refusal s) 0 passed, e, sets_same ready.same) refl
