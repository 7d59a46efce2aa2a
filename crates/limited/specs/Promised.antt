-- What is promised of an answered call with a limit, of all valid plans.
use Rattle.std.specs.Prelude.{◌≡◌, List, ℕ, ◌≤◌, length}
use Rattle.schedule.specs.Plan.{Sheet, Plan, Valid, plan_end}
use Rattle.card.specs.Decoding.{plan_on}
use Rattle.planable.specs.Planable.{sheet_in}
use Rattle.planner.specs.Planning.{plan_refusal, card_after}
use Rattle.search.specs.Search.{no_limit}
use Rattle.limited.specs.declared.Limited.{Limited}
use Rattle.limited.specs.Limited.{WrittenFor}

-- `after` is what the lent card holds
pub record LimitedFor (T : Sheet) (s card after : List ℕ) (limit : ℕ) (r : Limited) : Type 0 where
  -- the plan on the card is valid and ends when the answer says
  pub valid : Valid T (plan_on after)
  pub end : plan_end T (plan_on after) ≡ r.end
  -- no valid plan, whoever finds it and however, ends before the bound
  pub bound : (Q : Plan) → Valid T Q → r.bound ≤ plan_end T Q
  -- marked, the card is planning's
  pub exact : r.exact ≡ 1 → after ≡ card_after s card
  -- and without a limit it is marked
  pub unlimited : limit ≡ no_limit → r.exact ≡ 1

-- of every answered call
abbrev pub LimitedAnswered : Type 0
LimitedAnswered = (s card after o : List ℕ) (limit : ℕ) (r : Limited) → plan_refusal s (length card) ≡ 0
    → WrittenFor (sheet_in s) card after limit o r → LimitedFor (sheet_in s) s card after limit r
