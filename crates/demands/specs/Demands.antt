-- The demands R-1, R-2 and R-3 (docs/REQUIREMENTS.md), a record each. A sentence is one field or a few; ../proofs/Demands.antt proves them.
--
-- They speak of definitions. That the calls answer by these definitions, for whatever bytes and numbers they are lent, is the contract of
-- each call in crates/depot/src/lib.rt: depot_plan answers `plan_refusal` and leaves `card_after` and `memory_after`, depot_plan_within
-- refuses with `plan_refusal` and leaves `LimitedCard` and `memory_after`, depot_size answers `size_answer`, with `size_refusal`, and leaves `size_card_after` and `size_work_after`; depot_end answers `end_answer`, depot_use `usage`,
-- depot_slack `slacks`, depot_sets `sets_answer`, and all of these but the last leave `work_after`; depot_read answers `reading`, depot_label
-- `label_place`, depot_write `write_answer` and leaves `write_leaves`; the desk's calls answer `opened`, `changed`, `claimed`, `handed_back` and
-- `looked`, and opening where firmware keeps desk d leaves `opened_over d`;
-- depot_runner_start answers `started` and depot_runner_step `stepped`.
--
-- R-1.2 to R-1.4 have no field: that a call touches nothing else, that no sum overflows and that it ends is what the checker proves of
-- every function.
use Rattle.std.specs.Prelude.{◌≡◌, ◌⊎◌, ◌≢◌, ◌↔◌, true, List, ◌++◌, ℕ, ◌+◌, ◌≤◌, ◌<◌, length, drop}
use Rattle.counting.specs.Counting.{sum}
use Rattle.checking.specs.Checking.{Check, FirstFails, NoneFails}
use Rattle.words.specs.Words.{byte_at}
use Rattle.sheet_format.specs.declared.Job.{Job}
use Rattle.sheet_format.specs.Format.{label_in}
use Rattle.sheet_format.specs.declared.Cabinet.{Cabinet}
use Rattle.sheet.specs.Read.{read_checks, answered, reading}
use Rattle.sheet.specs.Label.{label_checks, label_of, label_place}
use Rattle.sheet.specs.Write.{write_checks, write_answer, over, write_leaves}
use Rattle.sheet.specs.RoundTrip.{written_sheet, rewrite_answer, rewrite_leaves}
use Rattle.schedule.specs.Plan.{Plan, Valid, plan_end}
use Rattle.schedule.specs.TieRule.{Best}
use Rattle.card.specs.Card.{card_size, card_of}
use Rattle.planable.specs.Planable.{sheet_in, planable_checks, planable_refusal, work_after}
use Rattle.planner.specs.Planning.{plan_checks, plan_refusal, card_after, memory_after}
use Rattle.planner.specs.Planned.{our_plan}
use Rattle.limited.specs.Promised.{LimitedAnswered}
use Rattle.sizing.specs.Sizing.{size_checks, size_refusal, size_card_after, size_work_after}
use Rattle.earliest.specs.Earliest.{end_answer}
use Rattle.usage.specs.Usage.{use_checks, use_refusal, usage}
use Rattle.job_sets.specs.Results.{sets_answer}
use Rattle.slack.specs.Slack.{slacks}
use Rattle.desk.specs.declared.Desk.{Desk}
use Rattle.desk.specs.Desk.{holding, assured_share, ceiling_of, reserved_for_others}
use Rattle.desk.specs.Checks.{open_checks, claim_checks, hand_back_checks, look_checks, change_checks}
use Rattle.desk.specs.Calls.{opened, claimed, Call, claim, hand_back, look, change, refusal_of, desk_after, desk_after_all, LeftByCalls}
use Rattle.desk.specs.Calls.{granted_claims, granted_hand_backs, figures_after}
use Rattle.lent.specs.Lent.{opened_over}
use Rattle.assurance.specs.Following.{plan_need, FollowsPlan, AllGranted, GrantedWhile, unchanging}
use Rattle.runner.specs.declared.Runner.{Runner}
use Rattle.runner.specs.Runner.{start_checks, started, stepped}

-- ---- R-1

-- n is the number of the first check of the list that fails, and 0 exactly when none does
abbrev pub FirstRefusal : ℕ → List Check → Type 0
FirstRefusal n checks = ((k : ℕ) → 0 < k → (n ≡ k) ↔ FirstFails checks k) × ((n ≡ 0) ↔ NoneFails checks)

-- what a call on the desk checks
abbrev pub checks_of : Desk → Call → List Check
checks_of d (claim c k) = claim_checks d c k
checks_of d (hand_back c k) = hand_back_checks d c k
checks_of d (look c) = look_checks d c
checks_of d (change l a t) = change_checks d l a t

pub record EveryCallAnswers : Type 0 where
  -- R-1.1: whoever calls gets a result or the first refusal in the order of checks
  pub reads : (s : List ℕ) → FirstRefusal (reading s).refusal (read_checks s)
  pub labels : (s : List ℕ) (job : ℕ) → FirstRefusal (label_place s job).refusal (label_checks s job)
  pub writes : (jobs : ℕ → Job) (n : ℕ) (labels : List ℕ) (C : Cabinet) (out : List ℕ)
      → FirstRefusal (write_answer jobs n labels C out).refusal (write_checks jobs n labels C (length out))
  pub plans : (s : List ℕ) (room : ℕ) → FirstRefusal (plan_refusal s room) (plan_checks s room)
  pub sizes : (s : List ℕ) (t room : ℕ) → FirstRefusal (size_refusal s t room) (size_checks s t room)
  pub ends : (s : List ℕ) → FirstRefusal (end_answer s).refusal (planable_checks s)
  pub uses : (s : List ℕ) → FirstRefusal (usage s).refusal (use_checks s)
  pub sets : (s : List ℕ) → FirstRefusal (sets_answer s).refusal (planable_checks s)
  pub slack : (s : List ℕ) → FirstRefusal (slacks s).refusal (planable_checks s)
  pub opens : (limit : ℕ) (assured ceilings : List ℕ)
      → FirstRefusal (opened limit assured ceilings).refusal (open_checks limit assured ceilings)
  pub calls : (d : Desk) (x : Call) → FirstRefusal (refusal_of d x) (checks_of d x)
  pub starts : (s card : List ℕ) (d : Desk) (c size : ℕ) → FirstRefusal (started s card d c size).refusal (start_checks s card d c size)
  -- R-1.5: a refused call writes no byte and alters no desk
  pub refused_write : (jobs : ℕ → Job) (n : ℕ) (labels : List ℕ) (C : Cabinet) (out : List ℕ) → (write_answer jobs n labels C out).refusal ≢ 0
      → write_leaves jobs n labels C out ≡ out
  pub refused_plan : (s card memory : List ℕ) → plan_refusal s (length card) ≢ 0
      → (card_after s card ≡ card) × (memory_after s (length card) memory ≡ memory)
  pub refused_size : (s card memory : List ℕ) (t : ℕ) → size_refusal s t (length card) ≢ 0
      → (size_card_after s t card ≡ card) × (size_work_after s t (length card) memory ≡ memory)
  pub refused_end : (s work : List ℕ) → (end_answer s).refusal ≢ 0 → work_after (planable_refusal s) work ≡ work
  pub refused_use : (s work : List ℕ) → (usage s).refusal ≢ 0 → work_after (use_refusal s) work ≡ work
  pub refused_slack : (s work : List ℕ) → (slacks s).refusal ≢ 0 → work_after (planable_refusal s) work ≡ work
  pub refused_opening : (d : Desk) (limit : ℕ) (assured ceilings : List ℕ) → (opened limit assured ceilings).refusal ≢ 0
      → (opened_over d limit assured ceilings).desk ≡ d
  pub refused_call : (d : Desk) (x : Call) → refusal_of d x ≢ 0 → desk_after d x ≡ d
  pub refused-step : (d : Desk) (r : Runner) → (stepped d r).refusal ≢ 0 → ((stepped d r).desk ≡ d) × ((stepped d r).runner ≡ r)

-- ---- R-2

pub record EveryAnswerIsRight : Type 0 where
  -- R-2.1: legal jobs that are written as a sheet read back the same, each label too
  pub read_back : (jobs : ℕ → Job) (n : ℕ) (labels : List ℕ) (C : Cabinet) (out : List ℕ) → (write_answer jobs n labels C out).refusal ≡ 0
      → (reading (written_sheet jobs n labels C out) ≡ answered n jobs C)
      × ((i : ℕ) → i < n → label_of (written_sheet jobs n labels C out) i ≡ label_in jobs labels i)
  -- R-2.2: every sheet that reads, a list of bytes, is what writing its jobs gives
  pub rewritten : (s out : List ℕ) → ((i : ℕ) → byte_at s i < 256) → (reading s).refusal ≡ 0 → length s ≤ length out
      → (rewrite_answer s (reading s) out ≡ record { refusal = 0; length = length s }) × (rewrite_leaves s (reading s) out ≡ over s out)
  -- R-2.3: the plan on the card of an answered call is valid
  pub valid : (s card : List ℕ) → plan_refusal s (length card) ≡ 0 → Valid (sheet_in s) (our_plan s card)
  -- R-2.4: it is the one that the tie rule names, and the card's bytes are its
  pub tie_ruled : (s card : List ℕ) → plan_refusal s (length card) ≡ 0
      → (order : List ℕ) × Best (sheet_in s) order × (card_after s card ≡ card_of (sheet_in s) order ++ drop (card_size (sheet_in s).jobs) card)
  -- P-26, P-27: the plan of an answered call with a limit is valid, no valid plan ends before its bound, and marked it is planning's
  pub limited : LimitedAnswered
  -- R-2.5: a claim of 1 or more is granted if and only if the two sums allow it
  pub claims : (d : Desk) → LeftByCalls d → (c : ℕ) → c < d.count → (k : ℕ) → 1 ≤ k
      → ((claimed d c k).refusal ≡ 0) ↔ ((holding d c + k ≤ ceiling_of d c) × (holding d c + k + reserved_for_others d c ≤ d.limit))
  -- R-2.6: each holding, with the hand-backs granted since the opening, is the claims granted since then
  pub holdings : (limit : ℕ) (assured ceilings : List ℕ) → (opened limit assured ceilings).refusal ≡ 0 → (calls : List Call) (c : ℕ)
      → holding (desk_after_all (opened limit assured ceilings).desk calls) c + granted_hand_backs c (opened limit assured ceilings).desk calls
      ≡ granted_claims c (opened limit assured ceilings).desk calls
  -- R-2.7: together they are never above the limit in force, the opening's or that of the last granted change (F-7.3)
  pub within : (limit : ℕ) (assured ceilings : List ℕ) → (opened limit assured ceilings).refusal ≡ 0 → (calls : List Call)
      → sum (length assured) (holding (desk_after_all (opened limit assured ceilings).desk calls))
      ≤ (figures_after (record { limit = limit; assured = assured; ceilings = ceilings }) (opened limit assured ceilings).desk calls).limit

-- ---- R-3

pub record NoneEarlierAndGranted : Type 0 where
  -- R-3.1: every valid plan ends no earlier than ours (the card does not depend on what the working memory holds)
  pub earliest : (s card : List ℕ) → plan_refusal s (length card) ≡ 0
      → (Q : Plan) → Valid (sheet_in s) Q → plan_end (sheet_in s) (our_plan s card) ≤ plan_end (sheet_in s) Q
  -- R-3.2: a sheet that reads is refused as over-wide (8) or circular (9) exactly when it has no valid plan
  pub refused_exactly : (s : List ℕ) (room : ℕ) → (reading s).refusal ≡ 0
      → ((plan_refusal s room ≡ 8) ⊎ (plan_refusal s room ≡ 9)) ↔ (¬ ((P : Plan) × Valid (sheet_in s) P))
  -- R-3.3, with modules of any size (F-6.2) and with changes in the list (F-7.4): in every list of calls on every desk that an opening and
  -- later calls leave, a controller that holds nothing at the start, is assured the sheet's modules times the size and makes in the list
  -- exactly our plan's claims and hand-backs is granted every one of them, as long as no change takes its share below that
  pub granted : (s card : List ℕ) → plan_refusal s (length card) ≡ 0 → (size : ℕ) → 1 ≤ size
      → (d : Desk) → LeftByCalls d → (c : ℕ) → holding d c ≡ 0 → plan_need (sheet_in s) size ≤ assured_share d c
      → (calls : List Call) → FollowsPlan (sheet_in s) (our_plan s card) size c calls → GrantedWhile (plan_need (sheet_in s) size) c d calls
  -- the same of a list of claims, hand-backs and looks alone: every one of them is granted
  pub all-granted : (s card : List ℕ) → plan_refusal s (length card) ≡ 0 → (size : ℕ) → 1 ≤ size
      → (d : Desk) → LeftByCalls d → (c : ℕ) → holding d c ≡ 0 → plan_need (sheet_in s) size ≤ assured_share d c
      → (calls : List Call) → FollowsPlan (sheet_in s) (our_plan s card) size c calls → unchanging calls ≡ true → AllGranted c d calls
