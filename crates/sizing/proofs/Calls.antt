-- The call's answer, and what it leaves in the lent bytes, in each case.
use mathlib.Core.Path.{◌≡◌, refl, sym, ap, ap₂, subst, ◌∙◌}
use mathlib.Core.Bool.{true}
use mathlib.Core.List.{List, ◌++◌}
use Prim.Native.Nat.{ℕ, ◌≤◌}
use native.Mathlib.Omega.{arith}
use lib.ListN.{length, drop, replicate}
use borrow.Author.Tests.{ltb-false, ne_eqb}
use Rattle.figures.specs.Figures.{most_modules}
use Rattle.schedule.specs.Plan.{Sheet, Circular}
use Rattle.schedule.specs.Cabinets.{with_modules, ends_by}
use Rattle.schedule.proofs.Same.{SameJobs, circular_same}
use Rattle.schedule.proofs.Larger.{same_with, marks_with}
use Rattle.tables.specs.declared.Jobs.{Jobs}
use Rattle.tables.specs.Tables.{sheet_of, count_of, Fit}
use Rattle.job_table.specs.Table.{for_cabinet, FitJobs}
use Rattle.card.specs.Card.{card_size}
use Rattle.checking.proofs.Order.{first_in_front}
use Rattle.sheet.specs.Read.{read_checks}
use Rattle.std.specs.Prelude.{Ok, Err}
use Rattle.checking.specs.Refusals.{number_of}
use Rattle.checking.specs.declared.Refusal.{Refusal}
use Rattle.checking.proofs.Numbers.{number-some}
use Rattle.planable.specs.Planable.{sheet_in, work_after}
use Rattle.planable.specs.Results.{ReadOf}
use Rattle.planable.proofs.Circles.{ordered_when}
use Rattle.planable.proofs.Planable.{was_read, same_read, jobs_read}
use Rattle.planner.specs.Planning.{best_card}
use Rattle.planner.proofs.Cards.{best_size, best-card_same}
use Rattle.cabinets.specs.Counts.{least_count, Askable}
use Rattle.cabinets.proofs.Counts.{least-some, least_serves, least_same, same-table, can_plan}
use Rattle.sizing.specs.declared.Sized.{Sized}
use Rattle.sizing.specs.Sizing.{count_checks, count_refusal, size_refusal, size_answer, size_card_after, size_work_after}
use Rattle.sizing.proofs.Refusals.{behind-reading, number_same, Enough, enough}

-- ---- the card of the least count

module _ (t : Jobs) (a : Askable t) (by : ℕ) (y : least_count (sheet_of t) by ≤ most_modules) (k : ℕ)
    (q : k ≡ least_count (sheet_of t) by) (u : Jobs) (e : u ≡ for_cabinet t k) where
  same : SameJobs (sheet_of u) (with_modules (sheet_of t) k)
  same = same-table t a k by u e

  fits : Fit u × (¬ Circular (sheet_of u))
  fits =
      can_plan t a k by u e (omega (arith, q, least-some (sheet_of t) by)) (omega (arith, q, y))
      (subst (λ (i : ℕ). ends_by (with_modules (sheet_of t) i) by ≡ true) (sym q) (least_serves (sheet_of t) by a.jobs.lasting y))

  pub can_write : (room : ℕ) → card_size (count_of t) ≤ room → Fit u × ((¬ Circular (sheet_of u)) × (card_size (count_of u) ≤ room))
  can_write room l = (fits.0, (fits.1, subst (λ (n : ℕ). card_size n ≤ room) (sym same.jobs) l))

  pub written : (card : List ℕ) → best_card (sheet_of u) ++ drop (card_size (count_of u)) card
      ≡ best_card (with_modules (sheet_of t) (least_count (sheet_of t) by)) ++ drop (card_size (count_of t)) card
  written card =
      ap₂ (λ (c : List ℕ) (n : ℕ). c ++ drop (card_size n) card) (best-card_same same fits.1) same.jobs
      ∙ ap (λ (i : ℕ). best_card (with_modules (sheet_of t) i) ++ drop (card_size (count_of t)) card) q

-- ---- the call

module _ (s : List ℕ) (by : ℕ) (card work : List ℕ) where
  -- what a call gives and leaves is the definitions'
  abbrev Given : Sized → List ℕ → List ℕ → Type 0
  Given r card' work' = (r ≡ size_answer s by (length card))
      × ((card' ≡ size_card_after s by card) × (work' ≡ size_work_after s by (length card) work))

  -- refused: the number decides
  refused_leaves : (k : ℕ) → k ≡ size_refusal s by (length card) → (k ≡ 0 → ⊥) → Given (record { refusal = k; modules = 0 }) card work
  unfolding size_answer size_card_after work_after
  refused_leaves k e h =
      let n = ne_eqb (size_refusal s by (length card)) 0 (λ z. h (e ∙ z)) in
      (rw (n, e) refl, (rw n refl, rw n refl))

  -- by 1 to 7 and 19
  pub turned_away : (e : Refusal) → ReadOf s (Err e) → Given (record { refusal = number_of e; modules = 0 }) card work
  unfolding size_refusal
  turned_away e f =
      refused_leaves (number_of e)
      (f.refusal ∙ sym (first_in_front (read_checks s) (count_checks (sheet_in s) by (length card)) (λ z. number-some e (f.refusal ∙ z))))
      (number-some e)

  module _ (t : Jobs) (f : ReadOf s (Ok t)) (k : ℕ) (e : k ≡ count_refusal (sheet_of t) by (length card)) where
    fit : FitJobs t
    fit = jobs_read s t f

    same-sheet : SameJobs (sheet_of t) (sheet_in s)
    same-sheet = same_read s t f

    -- the number of the table is the sheet's
    number : k ≡ size_refusal s by (length card)
    number = e ∙ number_same same-sheet fit.lasting by (length card) ∙ sym (behind-reading s by (length card) (was_read s t f))

    -- by 9, 20 or 10
    pub no-count : (k ≡ 0 → ⊥) → Given (record { refusal = k; modules = 0 }) card work
    no-count h = refused_leaves k number h

    module _ (n : k ≡ 0) where
      passed : Enough (sheet_of t) by (length card)
      passed = enough (sheet_of t) by (length card) (sym e ∙ n)

      free : ¬ Circular (sheet_of t)
      free = (ordered_when (sheet_of t)).0 passed.ordered

      pub can_size : Askable t
          × ((least_count (sheet_of t) by ≤ most_modules) × (card_size (count_of t) ≤ length card))
      can_size =
          (record { jobs = fit; free = free }, (passed.count, ltb-false (length card) (card_size (count_of t)) passed.room))

      abbrev S : Sheet
      S = sheet_of t

      abbrev T : Sheet
      T = sheet_in s

      count_same : least_count S by ≡ least_count T by
      count_same = least_same same-sheet fit.lasting by

      card_same : best_card (with_modules S (least_count S by)) ≡ best_card (with_modules T (least_count T by))
      card_same =
          ap (λ (i : ℕ). best_card (with_modules S i)) count_same
          ∙ best-card_same (same_with same-sheet (least_count T by)) (λ c. free (circular_same (marks_with S (least_count T by)) c))

      size_is : length (best_card (with_modules T (least_count T by))) ≡ card_size (count_of t)
      size_is = ap length (sym card_same) ∙ best_size (with_modules S (least_count S by)) (λ c. free (circular_same (marks_with S (least_count S by)) c))

      pub answered : (m : ℕ) (card' work' : List ℕ) → m ≡ least_count S by
          → card' ≡ best_card (with_modules S (least_count S by)) ++ drop (card_size (count_of t)) card
          → work' ≡ replicate (length work) 0 → Given (record { refusal = 0; modules = m }) card' work'
      unfolding size_answer size_card_after work_after
      answered m card' work' count written cleared =
          let none : size_refusal s by (length card) ≡ 0 = sym number ∙ n in (
            rw none (ap (λ (i : ℕ). record { refusal = 0; modules = i }) (count ∙ count_same)),
            (
              rw none (written ∙ ap₂ (λ (c : List ℕ) (i : ℕ). c ++ drop i card) card_same (sym size_is)),
              cleared ∙ rw none refl,
            ),
          )
