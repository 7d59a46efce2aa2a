-- What is promised of the entries: beside the plan on planning's card, they are what the paper's sentences say.
use mathlib.Core.Path.{◌≡◌, refl, sym, ap, subst, ◌∙◌}
use mathlib.Core.Bool.{Bool, true, false, cond}
use mathlib.Core.List.{List}
use mathlib.Core.Option.{Option, none, some}
use Prim.Native.Nat.{ℕ, ◌<◌}
use lib.Dec.{eqb}
use lib.IntN.{pos, ◌-ℤ◌}
use lib.ListN.{length, get_or}
use borrow.Author.Tests.{eqb-true}
use Rattle.bits.proofs.Sets.{bit-set_of}
use Rattle.schedule.specs.Plan.{Sheet, Plan, Valid, Circular}
use Rattle.schedule.specs.ListPlan.{list_plan}
use Rattle.schedule.specs.TieRule.{best_order}
use Rattle.marks.specs.Implied.{implied, implied_marks}
use Rattle.latest.proofs.Chains.{latest_is}
use Rattle.latest.proofs.Means.{latest_means, missed_is_negative, no_slack_somebody_late}
use Rattle.planable.specs.Planable.{sheet_in, planable_refusal}
use Rattle.planable.proofs.Circles.{ordered_when}
use Rattle.planable.proofs.Planable.{passes}
use Rattle.planner.specs.Planning.{plan_refusal}
use Rattle.planner.specs.Planned.{our_plan, Answered}
use Rattle.planner.proofs.Planning.{front_passes, plan-answered, plan_decodes}
use Rattle.slack.specs.declared.Slacks.{Slacks}
use Rattle.slack.specs.Slack.{no_slack, slack_of, slacks_in, no_slacks, departure_on, slacks, EntryFor, SlackAnswered, SlackPlanned}
use Rattle.slack.proofs.Places.{place_at}
use Rattle.slack.proofs.Calls.{slacks_best}

-- an entry of the definition is one in the paper's words, beside any valid plan with the same starts
entry_says : (S : Sheet) → ¬ Circular S → (departure : ℕ → ℕ) (P : Plan) → Valid S P → (j : ℕ) → j < S.jobs
    → EntryFor S departure P j (slack_of S departure P j)
unfolding implied_marks
entry_says S c departure P v j l = record {
  latest = latest_is S c departure j l;
  means = latest_means S c departure j l;
  slack = refl;
  missed = missed_is_negative S departure P j l;
  late = no_slack_somebody_late S c departure P v j l;
  marks = λ i m. bit-set_of S.jobs (λ i. implied S i j) i m;
}

module _ (s card : List ℕ) (e : plan_refusal s (length card) ≡ 0) where
  abbrev S : Sheet
  S = sheet_in s

  planned : (order : List ℕ) × Answered s card order
  planned = plan-answered s card e

  abbrev P : Plan
  P = list_plan S planned.0

  given : slacks s ≡ slacks_in S (departure_on s) P
  given = slacks_best s planned.0 (front_passes s (length card) e) planned.1.best

  -- the entry of job j, beside the plan on the card
  entry_is : (j : ℕ) → j < S.jobs → get_or (slacks s).jobs j no_slack ≡ slack_of S (departure_on s) (our_plan s card) j
  unfolding planned
  entry_is j l =
      ap (λ (r : Slacks). get_or r.jobs j no_slack) given
      ∙ place_at (slack_of S (departure_on s) P) S.jobs j l
      ∙ ap (λ (x : ℕ). record { latest_start = (slack_of S (departure_on s) P j).latest_start; slack = (slack_of S (departure_on s) P j).latest_start -ℤ pos x; implied = implied_marks S j })
      (sym ((plan_decodes s card e).start j l))

  entry_for : (j : ℕ) → j < S.jobs → EntryFor S (departure_on s) (our_plan s card) j (get_or (slacks s).jobs j no_slack)
  entry_for j l =
      subst (EntryFor S (departure_on s) (our_plan s card) j) (sym (entry_is j l))
      (entry_says S ((ordered_when S).0 (passes s (front_passes s (length card) e)).ordered) (departure_on s) (our_plan s card) planned.1.valid j l)

pub slack-answered : SlackAnswered
slack-answered s card e =
    (ap (λ (r : Slacks). r.refusal) (given s card e), ap (λ (r : Slacks). r.count) (given s card e), entry_for s card e)

pub slack_planned : SlackPlanned
slack_planned s card e j l = (entry_for s card e j l).slack

-- the number is 1 to 9 and 19's
pub slack_number : (s : List ℕ) → (slacks s).refusal ≡ planable_refusal s
unfolding slacks
slack_number s = go (eqb (planable_refusal s) 0) refl (best_order (sheet_in s))
  where
    go : (b : Bool) → eqb (planable_refusal s) 0 ≡ b → (o : Option (List ℕ))
        → (cond {A = Slacks} b (elim o [ none ↦ no_slacks 0 | some o ↦ slacks_in (sheet_in s) (departure_on s) (list_plan (sheet_in s) o) ])
        (no_slacks (planable_refusal s))).refusal
        ≡ planable_refusal s
    go true e none = sym (eqb-true (planable_refusal s) 0 e)
    go true e (some o) = sym (eqb-true (planable_refusal s) 0 e)
    go false e o = refl
