-- What the call answers and leaves, in each case.
use mathlib.Core.Path.{◌≡◌, refl, sym, ◌∙◌}
use mathlib.Core.List.{List}
use Prim.Native.Nat.{ℕ, ◌<◌}
use native.Mathlib.Omega.{arith}
use lib.ListN.{length, replicate}
use borrow.Author.Tests.{eq-eqb, ne_eqb}
use Rattle.schedule.specs.Plan.{Circular}
use Rattle.schedule.specs.ListPlan.{list_plan}
use Rattle.schedule.specs.TieRule.{Best}
use Rattle.schedule.proofs.Orders.{best_is}
use Rattle.schedule.proofs.Same.{best_same}
use Rattle.tables.specs.declared.Jobs.{Jobs}
use Rattle.tables.specs.Tables.{sheet_of, count_of, Fit}
use Rattle.latest.specs.Counted.{departure_at, Departing}
use Rattle.std.specs.Prelude.{Ok, Err}
use Rattle.checking.specs.declared.Refusal.{Refusal}
use Rattle.checking.specs.Refusals.{number_of}
use Rattle.checking.proofs.Numbers.{number-some}
use Rattle.planable.specs.Planable.{sheet_in, planable_refusal, work_after}
use Rattle.planable.specs.Results.{CheckedOf}
use Rattle.planable.proofs.Tables.{job_read}
use Rattle.planable.proofs.Planable.{Ready, ready-table}
use Rattle.slack.specs.declared.Slacks.{Slacks}
use Rattle.slack.specs.Slack.{no_slacks, slacks_in, departure_on, slacks}
use Rattle.slack.specs.Parts.{DeparturesOf, SlacksOf}
use Rattle.slack.proofs.Given.{slacks_same}

-- answered: the entries beside the tie rule's plan
pub slacks_best : (s o : List ℕ) → planable_refusal s ≡ 0 → Best (sheet_in s) o → slacks s ≡ slacks_in (sheet_in s) (departure_on s) (list_plan (sheet_in s) o)
unfolding slacks
slacks_best s o e b = rw (eq-eqb (planable_refusal s) 0 e, best_is (sheet_in s) o b) refl

module _ (s work : List ℕ) where
  -- what is answered and left is the definitions'
  abbrev Given : Slacks → List ℕ → Type 0
  Given a work' = (a ≡ slacks s) × (work' ≡ work_after (planable_refusal s) work)

  pub turned_away : (e : Refusal) → CheckedOf s (Err e) → (k : ℕ) → k ≡ number_of e → (a : Slacks) → a ≡ no_slacks k → Given a work
  unfolding slacks work_after
  turned_away e f k h a q =
      let n = ne_eqb (planable_refusal s) 0 (λ z. number-some e (f.refusal ∙ z)) in
      (q ∙ rw (n, h, f.refusal) refl, rw n refl)

  module _ (t : Jobs) (f : CheckedOf s (Ok t)) where
    pub passed : planable_refusal s ≡ 0
    passed = sym f.refusal

    ready : Ready s t
    ready = ready-table s t passed f.table

    module _ (departures : List ℕ) (d : DeparturesOf s (sheet_in s).jobs departures) where
      same_departures : (j : ℕ) → j < count_of t → departure_at departures j ≡ departure_on s j
      same_departures j l = d j (omega (arith, ready.same.jobs))

      departing : Departing t departures
      departing j l =
          let k : j < (sheet_in s).jobs = omega (arith, ready.same.jobs) in
          omega (arith, d j k, (job_read s ready.reads j k).departure)

      pub can_search : Fit t × (¬ Circular (sheet_of t)) × Departing t departures
      can_search = (ready.fit, ready.free, departing)

      pub answered : (a : Slacks) (work' : List ℕ) → SlacksOf t departures a → work' ≡ replicate (length work) 0 → Given a work'
      unfolding work_after
      answered a work' x cleared = (
        x.2
            ∙ slacks_same ready.same (departure_at departures) (departure_on s) same_departures x.0 x.1.order
            ∙ sym (slacks_best s x.0 passed (best_same ready.same x.0 x.1)),
        cleared ∙ rw passed refl,
      )
