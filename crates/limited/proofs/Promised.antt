-- The plan of an answered call with a limit is valid, and no valid plan ends before its bound.
use mathlib.Core.Path.{◌≡◌, sym, ap, subst, ◌∙◌}
use mathlib.Core.Logic.{◌⊎◌, inl, inr}
use mathlib.Core.List.{List, ◌++◌}
use Prim.Native.Nat.{ℕ, ◌≤◌, ◌<◌}
use native.Mathlib.Omega.{arith}
use lib.ListN.{length, drop}
use Rattle.counting.proofs.Tests.{less-or-not}
use Rattle.schedule.specs.Plan.{Sheet, Plan, Valid, plan_end}
use Rattle.schedule.specs.ListPlan.{Order}
use Rattle.schedule.proofs.Existence.{narrow_says}
use Rattle.schedule.proofs.Theorems.{none_ends_by}
use Rattle.schedule.proofs.Same.{same_back, order_same}
use Rattle.tables.specs.declared.Jobs.{Jobs}
use Rattle.tables.specs.Tables.{sheet_of}
use Rattle.card.specs.Card.{card_size}
use Rattle.card.specs.Decoding.{Decodes}
use Rattle.card.proofs.Decoding.{card_decodes}
use Rattle.card.proofs.OnCard.{card_valid, card_end}
use Rattle.sheet.specs.Read.{reading}
use Rattle.job_table.specs.Table.{TableOf}
use Rattle.job_table.proofs.Copies.{has-table}
use Rattle.planable.specs.Planable.{sheet_in, planable_refusal}
use Rattle.planable.proofs.Tables.{few_read, lasting_read}
use Rattle.planable.proofs.Planable.{Passes, passes, Ready, ready-table}
use Rattle.planner.specs.Planning.{plan_refusal}
use Rattle.planner.proofs.Cards.{card_same, decodes_same, best-card}
use Rattle.planner.proofs.Planning.{front_passes, plan-written}
use Rattle.limited.specs.declared.Limited.{Limited}
use Rattle.limited.specs.Limited.{WrittenFor}
use Rattle.limited.specs.Promised.{LimitedFor, LimitedAnswered}

module _ (s card after o : List ℕ) (limit : ℕ) (r : Limited) (e : plan_refusal s (length card) ≡ 0)
    (w : WrittenFor (sheet_in s) card after limit o r) where
  abbrev S : Sheet
  S = sheet_in s

  front : planable_refusal s ≡ 0
  front = front_passes s (length card) e

  abbrev p : Passes s
  p = passes s front

  abbrev table : (t : Jobs) × TableOf (reading s) t
  table = has-table (reading s) (few_read s p.reads)

  abbrev t : Jobs
  t = table.0

  abbrev ready : Ready s t
  ready = ready-table s t front table.1

  order : Order (sheet_of t) o
  order = order_same (same_back ready.same) o w.order

  decodes : Decodes S o after
  decodes =
      subst (λ (c : List ℕ). Decodes S o c)
      (ap (λ (c : List ℕ). c ++ drop (card_size S.jobs) card) (card_same ready.same o order) ∙ sym w.written)
      (decodes_same ready.same o order _ (card_decodes t ready.fit o order (drop (card_size S.jobs) card)))

  -- a bound of all orders is one of all valid plans
  bound_of_all : (Q : Plan) → Valid S Q → r.bound ≤ plan_end S Q
  bound_of_all Q v = go (less-or-not (plan_end S Q) r.bound)
    where
      go : (plan_end S Q < r.bound) ⊎ (r.bound ≤ plan_end S Q) → r.bound ≤ plan_end S Q
      go (inl l) = absurd
          (none_ends_by S (lasting_read s p.reads) (narrow_says S p.narrow) (plan_end S Q) (λ o d. omega (arith, l, w.bound o d)) (Q, v, omega arith))
      go (inr l) = l

  promised : LimitedFor S s card after limit r
  promised = record {
    valid = card_valid S (narrow_says S p.narrow) o w.order after decodes;
    end = card_end S (narrow_says S p.narrow) o w.order after decodes ∙ decodes.last ∙ sym w.end;
    bound = bound_of_all;
    exact = λ x. w.written
        ∙ ap (λ (c : List ℕ). c ++ drop (card_size S.jobs) card) (sym (best-card S o (w.exact x))) ∙ sym (plan-written s card e);
    unlimited = w.unlimited;
  }

pub limited-answered : LimitedAnswered
limited-answered s card after o limit r e w = promised s card after o limit r e w
