-- What checks 1 to 9 say where they pass, and what the front of the planning calls gives.
use mathlib.Core.Path.{◌≡◌, refl, sym, ◌∙◌}
use mathlib.Core.Logic.{◌↔◌}
use mathlib.Core.Bool.{Bool, true, false, cond}
use mathlib.Core.List.{List}
use Rattle.std.specs.Prelude.{Ok}
use Prim.Native.Nat.{ℕ, ◌<◌}
use lib.Dec.{eqb}
use borrow.Author.Tests.{eqb-true}
use Rattle.schedule.specs.Plan.{Plan, Valid, over_wide, Circular}
use Rattle.schedule.proofs.Existence.{has_plan}
use Rattle.tables.specs.declared.Jobs.{Jobs}
use Rattle.tables.specs.Tables.{sheet_of, Fit}
use Rattle.checking.specs.Checking.{first_failing, FirstFails, NoneFails}
use Rattle.checking.proofs.Order.{all_passed, none_failing, both_passed, first_in_front, first-behind, refused_exactly, answered_exactly}
use Rattle.sheet.specs.Read.{read_checks, read_refusal, reading}
use Rattle.job_table.specs.Table.{FitJobs, TableOf}
use Rattle.planable.specs.Planable.{sheet_in, no_order, order_checks, order_refusal, planable_checks, planable_refusal}
use Rattle.planable.specs.Results.{ReadOf}
use Rattle.schedule.proofs.Same.{SameJobs, marks_of, circular_same}
use Rattle.planable.proofs.Circles.{ordered_when, refusal_same}
use Rattle.planable.proofs.Tables.{lasting_read, same_jobs, jobs_fit, fit-table}

-- The number is k exactly when check k fails and no earlier one of 1 to 9 does.
pub planable-refused : (s : List ℕ) (k : ℕ) → 0 < k → (planable_refusal s ≡ k) ↔ FirstFails (planable_checks s) k
unfolding planable_refusal
planable-refused s k h = refused_exactly (planable_checks s) k h

-- And 0 exactly when none fails.
pub planable-answered : (s : List ℕ) → (planable_refusal s ≡ 0) ↔ NoneFails (planable_checks s)
unfolding planable_refusal
planable-answered s = answered_exactly (planable_checks s) refl

-- An answer that is chosen by its number has that number.
pub number_of_answer : {A : Type 0} (number : A → ℕ) (k : ℕ) (answer refused : A) → number answer ≡ 0 → number refused ≡ k
    → number (cond (eqb k 0) answer refused) ≡ k
number_of_answer number k answer refused a r = go (eqb k 0) refl
  where
    go : (b : Bool) → eqb k 0 ≡ b → number (cond b answer refused) ≡ k
    go true e = a ∙ sym (eqb-true k 0 e)
    go false e = r

-- ---- where all pass

pub record Passes (s : List ℕ) : Type 0 where
  pub reads : read_refusal s ≡ 0
  pub narrow : over_wide (sheet_in s) ≡ false
  pub ordered : no_order (sheet_in s) ≡ false

pub passes : (s : List ℕ) → planable_refusal s ≡ 0 → Passes s
unfolding planable_refusal
passes s e =
    let p = both_passed (read_checks s) (order_checks (sheet_in s)) (all_passed (planable_checks s) refl e) in
    record { reads = none_failing (read_checks s) p.0; narrow = p.1.0; ordered = p.1.1.0 }

-- behind a sheet that reads, 8 and 9
pub behind-reading : (s : List ℕ) → read_refusal s ≡ 0 → planable_refusal s ≡ order_refusal (sheet_in s)
unfolding planable_refusal order_refusal
behind-reading s e = first-behind (read_checks s) (order_checks (sheet_in s)) (all_passed (read_checks s) refl e)

-- The calls that check 1 to 9 answer exactly the sheets that read and have a valid plan.
pub planable_when : (s : List ℕ) → (planable_refusal s ≡ 0) ↔ ((read_refusal s ≡ 0) × ((P : Plan) × Valid (sheet_in s) P))
unfolding order_refusal first_failing
planable_when s = (there, back)
  where
    there : planable_refusal s ≡ 0 → (read_refusal s ≡ 0) × ((P : Plan) × Valid (sheet_in s) P)
    there e =
        let p = passes s e in
        (p.reads, (has_plan (sheet_in s) (lasting_read s p.reads)).1 (p.narrow, (ordered_when (sheet_in s)).0 p.ordered))

    back : (read_refusal s ≡ 0) × ((P : Plan) × Valid (sheet_in s) P) → planable_refusal s ≡ 0
    back h =
        let p = (has_plan (sheet_in s) (lasting_read s h.0)).0 h.1 in
        behind-reading s h.0 ∙ rw (p.0, (ordered_when (sheet_in s)).1 p.1) refl

-- ---- the table

-- what is known of the table of a sheet that passes
pub record Ready (s : List ℕ) (t : Jobs) : Type 0 where
  pub reads : read_refusal s ≡ 0
  pub fit : Fit t
  pub free : ¬ Circular (sheet_of t)
  pub same : SameJobs (sheet_of t) (sheet_in s)

pub ready-table : (s : List ℕ) (t : Jobs) → planable_refusal s ≡ 0 → TableOf (reading s) t → Ready s t
ready-table s t e h =
    let p = passes s e in
    let same = same_jobs s p.reads t h in
    record {
      reads = p.reads;
      fit = fit-table s p.reads t h p.narrow;
      free = λ c. (ordered_when (sheet_in s)).0 p.ordered (circular_same (marks_of same) c);
      same = same;
    }

-- ---- the front

module _ (s : List ℕ) where
  -- a sheet that does not read
  pub turned_away : (k : ℕ) → k ≡ read_refusal s → (k ≡ 0 → ⊥) → k ≡ planable_refusal s
  unfolding planable_refusal
  turned_away k e h = e ∙ sym (first_in_front (read_checks s) (order_checks (sheet_in s)) (λ z. h (e ∙ z)))

  -- one that does
  module _ (t : Jobs) (f : ReadOf s (Ok t)) where
    pub was_read : read_refusal s ≡ 0
    was_read = sym f.refusal

    pub same_read : SameJobs (sheet_of t) (sheet_in s)
    same_read = same_jobs s was_read t f.table

    pub jobs_read : FitJobs t
    jobs_read = jobs_fit s was_read t f.table

    pub checked : (k : ℕ) → k ≡ order_refusal (sheet_of t) → k ≡ planable_refusal s
    checked k e = e ∙ refusal_same same_read ∙ sym (behind-reading s was_read)
