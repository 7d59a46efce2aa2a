-- Sheets that say the same of their jobs have the same calls in each minute, and the same last minute.
use mathlib.Core.Path.{◌≡◌, ap, ap₂, ◌∙◌}
use mathlib.Core.Bool.{cond}
use mathlib.Core.List.{List, [], ◌∷◌, ◌++◌}
use Prim.Native.Nat.{ℕ, ◌+◌, ◌*◌, ◌<◌}
use lib.Dec.{eqb}
use Rattle.counting.specs.Counting.{largest, joined}
use Rattle.counting.proofs.Ranges.{largest_same}
use Rattle.counting.proofs.Joins.{joined_same}
use Rattle.schedule.specs.Plan.{Sheet, Plan}
use Rattle.schedule.proofs.Same.{SameJobs}
use Rattle.desk.specs.Calls.{Call, claim, hand_back}
use Rattle.assurance.specs.Following.{begin, end, minute}
use Rattle.assurance.specs.Minutes.{due_at, hand_backs_due, claims_due, due_calls, last_minute}

module _ {S T : Sheet} (h : SameJobs S T) (P : Plan) where
  back_same : (j : ℕ) → j < S.jobs → minute S P (end j) ≡ minute T P (end j)
  back_same j l = ap₂ (λ (m r : ℕ). P.start j + m + r) (h.minutes j l) h.rest

  pub last_same : last_minute S P ≡ last_minute T P
  unfolding last_minute
  last_same =
      largest_same S.jobs _ _ (λ j l. ap (λ (m : ℕ). m + 1) (back_same j l))
      ∙ ap (λ (n : ℕ). largest n (λ j. minute T P (end j) + 1)) h.jobs

  module _ (s c t : ℕ) where
    hand_backs_same : hand_backs_due S P s c t ≡ hand_backs_due T P s c t
    hand_backs_same =
        joined_same S.jobs _ _ (λ j l.
        ap₂ (λ (m k : ℕ). cond (eqb m t) (hand_back c (k * s) ∷ []) []) (back_same j l) (h.need j l))
        ∙ ap (λ (n : ℕ). joined n (λ j. due_at T P s c t (end j))) h.jobs

    claims_same : claims_due S P s c t ≡ claims_due T P s c t
    claims_same =
        joined_same S.jobs _ _ (λ j l. ap (λ (k : ℕ). cond (eqb (P.start j) t) (claim c (k * s) ∷ []) []) (h.need j l))
        ∙ ap (λ (n : ℕ). joined n (λ j. due_at T P s c t (begin j))) h.jobs

    pub due_same : due_calls S P s c t ≡ due_calls T P s c t
    unfolding due_calls
    due_same = ap₂ (λ (l m : List Call). l ++ m) hand_backs_same claims_same
