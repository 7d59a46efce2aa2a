-- The call's numbers, and what it leaves in the lent working memory, in each case.
use mathlib.Core.Path.{◌≡◌, refl, sym, ap, ap₂, ◌∙◌}
use mathlib.Core.List.{List, [], ◌∷◌}
use Prim.Native.Nat.{ℕ, ◌*◌, ◌<◌, ◌^◌}
use native.Mathlib.Omega.{arith}
use native.Mathlib.Nat.{mul-pos, pos_of_ne-zero}
use lib.Dec.{eqb}
use lib.ListN.{length, replicate}
use borrow.Author.Tests.{ne_eqb}
use Rattle.checking.specs.Checking.{first_failing}
use Rattle.checking.proofs.Order.{all_passed, first_in_front, first-behind}
use Rattle.schedule.specs.Plan.{Circular}
use Rattle.schedule.specs.TieRule.{end_of}
use Rattle.schedule.specs.Ends.{EarliestEnd}
use Rattle.schedule.proofs.Theorems.{best_exists, best_valid}
use Rattle.tables.specs.declared.Jobs.{Jobs}
use Rattle.tables.specs.Tables.{sheet_of, count_of, modules_of, Fit}
use Rattle.std.specs.Prelude.{Ok, Err}
use Rattle.checking.specs.Refusals.{number_of}
use Rattle.checking.specs.declared.Refusal.{Refusal}
use Rattle.checking.proofs.Numbers.{number-some}
use Rattle.planable.specs.Planable.{sheet_in, planable_checks, planable_refusal, work_after}
use Rattle.planable.specs.Results.{CheckedOf}
use Rattle.planable.proofs.Circles.{ordered_when}
use Rattle.planable.proofs.Planable.{passes, Ready, ready-table}
use Rattle.earliest.specs.Earliest.{earliest_end}
use Rattle.earliest.proofs.Ends.{earliest_end_is, table_end}
use Rattle.occupancy.specs.declared.Usage.{Usage}
use Rattle.occupancy.specs.Occupancy.{work_in, share_of}
use Rattle.usage.specs.Usage.{no_usage, job_checks, use_refusal, usage}
use Rattle.occupancy.proofs.Shares.{end-some, usage_is, work_same, work_small}

-- ---- the answer without the plan

-- the share of the sheet's work in the cabinet up to the earliest end
pub usage_of_end : (s : List ℕ) → planable_refusal s ≡ 0 → use_refusal s ≡ 0
    → usage s ≡ share_of (work_in (sheet_in s)) ((sheet_in s).modules * earliest_end (sheet_in s))
unfolding usage
usage_of_end s e z =
    let S = sheet_in s in
    let p = passes s e in
    let b = best_exists S ((ordered_when S).0 p.ordered) in
    let v = best_valid S p.narrow b.0 b.2 in
    let found : usage s ≡ share_of (work_in S) (S.modules * end_of S b.0) = rw (usage, z, b.1) (usage_is S _ v) in
    found ∙ ap (λ (t : ℕ). share_of (work_in S) (S.modules * t)) (sym (earliest_end_is S b.0 b.1))

-- ---- the call

module _ (s work : List ℕ) where
  -- what is answered and left is the definitions'
  abbrev pub Given : Usage → List ℕ → Type 0
  Given u work' = (u ≡ usage s) × (work' ≡ work_after (use_refusal s) work)

  refused_leaves : (k : ℕ) → k ≡ use_refusal s → (k ≡ 0 → ⊥) → Given (no_usage k) work
  unfolding usage work_after
  refused_leaves k e h =
      let n = ne_eqb (use_refusal s) 0 (λ z. h (e ∙ z)) in
      (rw (n, e) refl, rw n refl)

  -- by 1 to 9
  pub turned_away : (e : Refusal) → CheckedOf s (Err e) → Given (no_usage (number_of e)) work
  unfolding use_refusal planable_refusal
  turned_away e f =
      refused_leaves (number_of e)
      (f.refusal ∙ sym (first_in_front (planable_checks s) (job_checks (sheet_in s)) (λ z. number-some e (f.refusal ∙ z)))) (number-some e)

  module _ (t : Jobs) (f : CheckedOf s (Ok t)) where
    passed : planable_refusal s ≡ 0
    passed = sym f.refusal

    ready : Ready s t
    ready = ready-table s t passed f.table

    -- by 23
    by_jobs : use_refusal s ≡ first_failing ((23, eqb (count_of t) 0) ∷ [])
    unfolding use_refusal planable_refusal
    by_jobs =
        first-behind (planable_checks s) (job_checks (sheet_in s)) (all_passed (planable_checks s) refl passed)
        ∙ ap (λ (n : ℕ). first_failing ((23, eqb n 0) ∷ [])) (sym ready.same.jobs)

    pub no_jobs_lem : count_of t ≡ 0 → Given (no_usage 23) work
    unfolding first_failing
    no_jobs_lem l = refused_leaves 23 (sym (by_jobs ∙ rw l refl)) (λ e. omega arith)

    pub fits : Fit t
    fits = ready.fit

    pub can_search : Fit t × (¬ Circular (sheet_of t))
    can_search = (ready.fit, ready.free)

    module _ (l : count_of t ≡ 0 → ⊥) where
      none : use_refusal s ≡ 0
      unfolding first_failing
      none = by_jobs ∙ rw (ne_eqb (count_of t) 0 l) refl

      module _ (end : ℕ) (x : EarliestEnd (sheet_of t) end) where
        -- there is something to divide by
        pub can_share : (occupied cabinet : ℕ) → occupied ≡ work_in (sheet_of t) → cabinet ≡ modules_of t * end
            → (1000 * occupied < 2 ^ 32) × (0 < cabinet)
        can_share occupied cabinet o c =
            let p = x.some in
            let late = end-some (sheet_of t) p.0 fits.lasting (pos_of_ne-zero l) in
            let some : 0 < modules_of t * end = mul-pos fits.some (omega (arith, p.2)) in
            (omega (arith, o, work_small t fits), omega (arith, c))

        pub answered : (u : Usage) (work' : List ℕ) → u ≡ share_of (work_in (sheet_of t)) (modules_of t * end)
            → work' ≡ replicate (length work) 0 → Given u work'
        unfolding work_after
        answered u work' e cleared = (
          e
              ∙ ap₂ (λ (a b : ℕ). share_of a (modules_of t * b)) (work_same ready.same) (table_end s t ready passed end x)
              ∙ ap (λ (n : ℕ). share_of (work_in (sheet_in s)) (n * earliest_end (sheet_in s))) ready.same.modules
              ∙ sym (usage_of_end s passed none),
          cleared ∙ rw none refl,
        )
