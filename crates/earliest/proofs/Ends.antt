-- The earliest end of a sheet is the end of the tie rule's plan, whoever found it.
use mathlib.Core.Path.{◌≡◌, refl, sym, ap, ◌∙◌}
use mathlib.Core.Bool.{false}
use mathlib.Core.List.{List}
use mathlib.Core.Option.{some}
use Prim.Native.Nat.{ℕ}
use native.Mathlib.Omega.{arith}
use lib.ListN.{length, replicate}
use borrow.Author.Tests.{ne_eqb}
use Rattle.schedule.specs.Plan.{Sheet, Lasting, Circular, over_wide}
use Rattle.schedule.specs.ListPlan.{list_plan}
use Rattle.schedule.specs.TieRule.{Best, end_of, best_order}
use Rattle.schedule.specs.Ends.{EarliestEnd}
use Rattle.schedule.proofs.Theorems.{best_exists, best_valid, best_earliest}
use Rattle.schedule.proofs.Same.{same_back, wide_same, end_same, best_same}
use Rattle.tables.specs.declared.Jobs.{Jobs}
use Rattle.tables.specs.Tables.{sheet_of, Fit}
use Rattle.std.specs.Prelude.{Ok, Err}
use Rattle.checking.specs.Refusals.{number_of}
use Rattle.checking.specs.declared.Refusal.{Refusal}
use Rattle.checking.proofs.Numbers.{number-some}
use Rattle.planable.specs.Planable.{sheet_in, planable_refusal, work_after}
use Rattle.planable.specs.Results.{CheckedOf}
use Rattle.planable.proofs.Circles.{ordered_when}
use Rattle.planable.proofs.Planable.{passes, Ready, ready-table}
use Rattle.earliest.specs.declared.Earliest.{Earliest}
use Rattle.earliest.specs.Earliest.{earliest_end, end_answer}

-- there is one earliest end
pub earliest_one : {S : Sheet} {a b : ℕ} → EarliestEnd S a → EarliestEnd S b → a ≡ b
earliest_one x y =
    let p = x.some in
    let q = y.some in
    omega (arith, p.2, q.2, x.least q.0 q.1, y.least p.0 p.1)

-- that of the tie rule's plan
pub best_earliest_end : (S : Sheet) → over_wide S ≡ false → Lasting S → (o : List ℕ) → Best S o → EarliestEnd S (end_of S o)
best_earliest_end S w l o b = record {
  some = (list_plan S o, best_valid S w o b, refl);
  least = best_earliest S l o b;
}

pub earliest_end_is : (S : Sheet) (o : List ℕ) → best_order S ≡ some o → earliest_end S ≡ end_of S o
unfolding earliest_end
earliest_end_is S o e = rw (earliest_end, e) refl

-- the table of a sheet has the same
pub table_end : (s : List ℕ) (t : Jobs) → Ready s t → planable_refusal s ≡ 0 → (r : ℕ) → EarliestEnd (sheet_of t) r → r ≡ earliest_end (sheet_in s)
table_end s t h e r x =
    let p = passes s e in
    let S = sheet_in s in
    let b = best_exists S ((ordered_when S).0 p.ordered) in
    let o = b.0 in
    let there = best_same (same_back h.same) o b.2 in
    let wide : over_wide (sheet_of t) ≡ false = wide_same h.same ∙ p.narrow in
    earliest_one x (best_earliest_end (sheet_of t) wide h.fit.lasting o there)
    ∙ end_same h.same o there.order
    ∙ sym (earliest_end_is S o b.1)

-- ---- the call

module _ (s work : List ℕ) where
  -- what is answered and left is the definitions'
  abbrev Given : Earliest → List ℕ → Type 0
  Given a work' = (a ≡ end_answer s) × (work' ≡ work_after (planable_refusal s) work)

  pub turned_away : (e : Refusal) → CheckedOf s (Err e) → (k : ℕ) → k ≡ number_of e → Given (record { refusal = k; end = 0 }) work
  unfolding end_answer work_after
  turned_away e f k is =
      let n = ne_eqb (planable_refusal s) 0 (λ z. number-some e (f.refusal ∙ z)) in
      (rw (n, is ∙ f.refusal) refl, rw n refl)

  module _ (t : Jobs) (f : CheckedOf s (Ok t)) where
    passed : planable_refusal s ≡ 0
    passed = sym f.refusal

    ready : Ready s t
    ready = ready-table s t passed f.table

    pub can_search : Fit t × (¬ Circular (sheet_of t))
    can_search = (ready.fit, ready.free)

    pub answered : (end : ℕ) (work' : List ℕ) → EarliestEnd (sheet_of t) end → work' ≡ replicate (length work) 0
        → Given (record { refusal = 0; end = end }) work'
    unfolding end_answer work_after
    answered end work' x cleared =
        (rw passed (ap (λ (m : ℕ). record { refusal = 0; end = m }) (table_end s t ready passed end x)), cleared ∙ rw passed refl)
