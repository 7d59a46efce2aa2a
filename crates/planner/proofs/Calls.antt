-- The planning call's numbers, and what it leaves in the lent bytes, in each case.
use mathlib.Core.Path.{◌≡◌, refl, sym, ap, ap₂, ◌∙◌}
use mathlib.Core.Bool.{Bool, true, false}
use mathlib.Core.List.{List, [], ◌∷◌, ◌++◌}
use Prim.Native.Nat.{ℕ, ◌≤◌}
use native.Mathlib.Omega.{arith}
use lib.Dec.{ltb}
use lib.ListN.{length, drop, replicate}
use borrow.Author.Tests.{ltb-false, ne_eqb}
use Rattle.figures.specs.Figures.{most_jobs}
use Rattle.schedule.specs.Plan.{Circular}
use Rattle.tables.specs.declared.Jobs.{Jobs}
use Rattle.tables.specs.Tables.{sheet_of, count_of, Fit}
use Rattle.card.specs.Card.{card_size}
use Rattle.checking.specs.Checking.{first_failing}
use Rattle.checking.proofs.Order.{all_passed, first_in_front, first-behind}
use Rattle.std.specs.Prelude.{Ok, Err}
use Rattle.checking.specs.Refusals.{number_of}
use Rattle.checking.specs.declared.Refusal.{Refusal}
use Rattle.checking.proofs.Numbers.{number-some}
use Rattle.planable.specs.Planable.{sheet_in, planable_checks, planable_refusal, work_after}
use Rattle.planable.specs.Results.{CheckedOf}
use Rattle.planable.proofs.Planable.{Ready, ready-table}
use Rattle.planner.specs.Planning.{room_checks, plan_refusal, best_card, card_after, memory_after}
use Rattle.planner.proofs.Cards.{best-card_same}
use Rattle.planner.proofs.Planning.{plan-written}

-- what a call gives and leaves is the definitions'
abbrev pub Given : List ℕ → List ℕ → List ℕ → ℕ → List ℕ → List ℕ → Type 0
Given s card work k card' work' =
    (k ≡ plan_refusal s (length card)) × ((card' ≡ card_after s card) × (work' ≡ memory_after s (length card) work))

module _ (s card work : List ℕ) where
  -- refused: the number decides
  refused_leaves : (k : ℕ) → k ≡ plan_refusal s (length card) → (k ≡ 0 → ⊥) → Given s card work k card work
  unfolding card_after work_after
  refused_leaves k e h =
      let n = ne_eqb (plan_refusal s (length card)) 0 (λ z. h (e ∙ z)) in
      (e, (rw n refl, rw n refl))

  -- by 1 to 9
  pub turned_away : (e : Refusal) → CheckedOf s (Err e) → Given s card work (number_of e) card work
  unfolding plan_refusal planable_refusal
  turned_away e f =
      refused_leaves (number_of e)
      (f.refusal ∙ sym (first_in_front (planable_checks s) (room_checks (sheet_in s) (length card)) (λ z. number-some e (f.refusal ∙ z))))
      (number-some e)

  module _ (t : Jobs) (f : CheckedOf s (Ok t)) where
    passed : planable_refusal s ≡ 0
    passed = sym f.refusal

    pub ready : Ready s t
    ready = ready-table s t passed f.table

    pub few_jobs : count_of t ≤ most_jobs
    few_jobs = ready.fit.few

    -- by 10
    by-room : (b : Bool) → ltb (length card) (card_size (count_of t)) ≡ b → plan_refusal s (length card) ≡ first_failing ((10, b) ∷ [])
    unfolding plan_refusal planable_refusal
    by-room b e =
        first-behind (planable_checks s) (room_checks (sheet_in s) (length card)) (all_passed (planable_checks s) refl passed)
        ∙ ap (λ (n : ℕ). first_failing ((10, ltb (length card) (card_size n)) ∷ [])) (sym ready.same.jobs)
        ∙ ap (λ (b : Bool). first_failing ((10, b) ∷ [])) e

    pub no_room : ltb (length card) (card_size (count_of t)) ≡ true → Given s card work 10 card work
    unfolding first_failing
    no_room l = refused_leaves 10 (sym (by-room true l)) (λ e. omega arith)

    module _ (l : ltb (length card) (card_size (count_of t)) ≡ false) where
      pub can_plan : Fit t × ((¬ Circular (sheet_of t)) × (card_size (count_of t) ≤ length card))
      can_plan = (ready.fit, (ready.free, ltb-false (length card) (card_size (count_of t)) l))

      pub none : plan_refusal s (length card) ≡ 0
      unfolding first_failing
      none = by-room false l

      pub answered : (card' work' : List ℕ) → card' ≡ best_card (sheet_of t) ++ drop (card_size (count_of t)) card
          → work' ≡ replicate (length work) 0 → Given s card work 0 card' work'
      unfolding work_after
      answered card' work' written cleared = (
        sym none,
        (
          written
              ∙ ap₂ (λ (c : List ℕ) (n : ℕ). c ++ drop (card_size n) card) (best-card_same ready.same ready.free) ready.same.jobs
              ∙ sym (plan-written s card none),
          cleared ∙ rw none refl,
        ),
      )
