-- Every row of the runner holds of the definitions: one computed test, and one law that gives each row.
use mathlib.Core.Path.{◌≡◌, refl}
use mathlib.Core.Bool.{true, ◌&&◌}
use Prim.Native.Nat.{ℕ, ◌<◌}
use lib.Count.{ones}
use lib.Dec.{eqb}
use lib.ListN.{length, get_or}
use borrow.Author.Tests.{eqb-true}
use Rattle.counting.specs.Counting.{sum, largest, every, any, joined}
use Rattle.counting.proofs.Tests.{and_left, and_right}
use Rattle.counting.proofs.Ranges.{every-at}
use Rattle.checking.specs.Checking.{first_failing}
use Rattle.schedule.specs.Plan.{over_wide}
use Rattle.schedule.specs.ListPlan.{ready, first_minute, start_of, place_all}
use Rattle.schedule.specs.TieRule.{orders_after, earliest_of, answer_of}
use Rattle.schedule.specs.Rows.{same_list}
use Rattle.schedule.proofs.RowLaws.{list_same}
use Rattle.bits.specs.Bits.{bit, set_of}
use Rattle.words.specs.Words.{number_at}
use Rattle.sheet_format.specs.Format.{record_at, record_bytes, trailer_bytes, sheet_bytes}
use Rattle.sheet_format.specs.Format.{places as sheet-places}
use Rattle.sheet_format.specs.Checks.{outside, faulty, wrong_label}
use Rattle.sheet.specs.Read.{reading}
use Rattle.planable.specs.Planable.{no_order, planable_refusal}
use Rattle.desk.specs.Checks.{wrong_lengths, wrong_figures, shares_exceed, desk_ok, not_of_desk}
use Rattle.desk.specs.Calls.{open_refusal, opened, claim_refusal, claimed, hand_back_refusal, handed_back}
use Rattle.assurance.specs.Minutes.{due_calls, last_minute}
use Rattle.card_check.specs.Test.{figures_fit, order_fits, trailer_fits, card_fits}
use Rattle.runner.specs.Runner.{start_refusal, zeros_behind, kept_ok, runner_ok, not_of_runner, step_refusal, stepped}
use Rattle.examples.specs.Runs.{Run, start, step, Right, holds, no_run, runs}

pub holds_right : (r : Run) → holds r ≡ true → Right r
holds_right (start s card d c size n) e = eqb-true _ _ e
holds_right (step d r n minute held) e =
    let number = eqb (stepped d r).refusal n in
    let next = eqb (stepped d r).runner.minute minute in
    let holdings = same_list (stepped d r).desk.held held in
    let rest = and_right number (next && holdings) e in (
      eqb-true _ _ (and_left number (next && holdings) e),
      eqb-true _ _ (and_left next holdings rest),
      list_same (stepped d r).desk.held held (and_right next holdings rest),
    )

runs_hold : every (length runs) (λ k. holds (get_or runs k no_run)) ≡ true
unfolding runs sum largest every any joined over_wide ready first_minute start_of place_all orders_after earliest_of answer_of
    bit set_of number_at record_at record_bytes trailer_bytes sheet_bytes sheet-places outside faulty wrong_label reading no_order planable_refusal
    first_failing wrong_lengths wrong_figures shares_exceed desk_ok not_of_desk open_refusal opened claim_refusal claimed hand_back_refusal handed_back
    ones due_calls last_minute figures_fit order_fits trailer_fits card_fits start_refusal zeros_behind kept_ok runner_ok not_of_runner step_refusal stepped
runs_hold = refl

-- Each row is right.
pub every_run-holds : (k : ℕ) → k < length runs → Right (get_or runs k no_run)
every_run-holds k l = holds_right (get_or runs k no_run) (every-at (length runs) (λ k. holds (get_or runs k no_run)) runs_hold k l)
