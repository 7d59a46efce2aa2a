-- Every example of the table holds of the definitions: one computed test, and one law that gives each row.
use mathlib.Core.Path.{◌≡◌, refl}
use mathlib.Core.Bool.{true, ◌&&◌}
use mathlib.Core.List.{List, [], ◌∷◌}
use Prim.Native.Nat.{ℕ, ◌<◌}
use lib.Dec.{eqb}
use lib.ListN.{length, get_or}
use borrow.Author.Tests.{eqb-true}
use Rattle.counting.specs.Counting.{sum, largest, every, any, joined}
use Rattle.counting.proofs.Tests.{and_left, and_right}
use Rattle.counting.proofs.Ranges.{every-at}
use Rattle.checking.specs.Checking.{first_failing}
use Rattle.schedule.specs.Plan.{over_wide}
use Rattle.schedule.specs.ListPlan.{ready, first_minute, start_of, place_all}
use Rattle.schedule.specs.TieRule.{orders_after, earliest_of, answer_of}
use Rattle.schedule.specs.Cabinets.{ends_by}
use Rattle.schedule.specs.Rows.{same_list}
use Rattle.schedule.proofs.RowLaws as plans
use Rattle.bits.specs.Bits.{bit, set_of}
use Rattle.card.specs.Card as card
use Rattle.words.specs.Words.{number_at}
use Rattle.sheet_format.specs.Format.{record_at, record_bytes, trailer_bytes, sheet_bytes}
use Rattle.sheet_format.specs.Format.{places as sheet-places}
use Rattle.sheet_format.specs.Checks.{outside, faulty, wrong_label}
use Rattle.sheet.specs.Read.{reading}
use Rattle.planable.specs.Planable.{no_order}
use Rattle.planner.specs.Planning.{plan_refusal, best_card, card_after}
use Rattle.occupancy.specs.Occupancy.{occupied_minutes, cabinet_minutes}
use Rattle.usage.specs.Usage.{use_refusal, usage}
use Rattle.cabinets.specs.Counts.{least_count}
use Rattle.sizing.specs.Sizing.{size_refusal, size_answer, size_card_after}
use Rattle.desk.specs.declared.Desk.{Desk}
use Rattle.desk.specs.Checks.{wrong_lengths, wrong_figures, shares_exceed, desk_ok, not_of_desk}
use Rattle.desk.specs.Calls.{Call, open_refusal, opened, claim_refusal, claimed, hand_back_refusal, handed_back, look_refusal, looked}
use Rattle.desk.specs.Calls.{refusal_of, desk_after}
use Rattle.desk.specs.Rows.{figure_of}
use Rattle.examples.specs.Rows.{Reply, Row, plan, call, size, desk, uses, Answered, answered, Right, holds, no_row}
use Rattle.examples.specs.Table.{table}

-- ---- a row that passes the test is right

calls-answered : (d : Desk) (l : List (Call × Reply)) → answered d l ≡ true → Answered d l
calls-answered d [] e = tt
calls-answered d (x ∷ l) e =
    let number = eqb (refusal_of d x.0) x.1.number in
    let figure = eqb (figure_of d x.0) x.1.figure in
    let rest = answered (desk_after d x.0) l in
    let r = and_right number (figure && rest) e in (
      eqb-true _ _ (and_left number (figure && rest) e),
      eqb-true _ _ (and_left figure rest r),
      calls-answered (desk_after d x.0) l (and_right figure rest r),
    )

pub holds_right : (r : Row) → holds r ≡ true → Right r
holds_right (plan r) e = plans.holds_right r e
holds_right (call s card n after) e =
    let number = eqb (plan_refusal s (length card)) n in
    let bytes = same_list (card_after s card) after in
    (eqb-true _ _ (and_left number bytes e), plans.list_same (card_after s card) after (and_right number bytes e))
holds_right (size s t card n k after) e =
    let number = eqb (size_answer s t (length card)).refusal n in
    let count = eqb (size_answer s t (length card)).modules k in
    let bytes = same_list (size_card_after s t card) after in
    let r = and_right number (count && bytes) e in (
      eqb-true _ _ (and_left number (count && bytes) e),
      eqb-true _ _ (and_left count bytes r),
      plans.list_same (size_card_after s t card) after (and_right count bytes r),
    )
holds_right (desk limit assured ceilings n l) e =
    let o = opened limit assured ceilings in
    let number = eqb o.refusal n in
    let rest = answered o.desk l in
    (eqb-true _ _ (and_left number rest e), calls-answered o.desk l (and_right number rest e))
holds_right (uses s u) e =
    let number = eqb (usage s).refusal u.refusal in
    let share = eqb (usage s).per_mille u.per_mille in
    let rest = eqb (usage s).remainder u.remainder in
    let figures = and_right number (share && rest) e in
    λ i.
    record {
      refusal = eqb-true (usage s).refusal u.refusal (and_left number (share && rest) e) i;
      per_mille = eqb-true (usage s).per_mille u.per_mille (and_left share rest figures) i;
      remainder = eqb-true (usage s).remainder u.remainder (and_right share rest figures) i;
    }

-- ---- the table

table-holds : every (length table) (λ k. holds (get_or table k no_row)) ≡ true
unfolding table sum largest every any joined over_wide ready first_minute start_of place_all orders_after earliest_of answer_of
    bit set_of number_at record_at record_bytes trailer_bytes sheet_bytes sheet-places outside faulty wrong_label reading
    card.row_bytes card.trailer_bytes card.card_bytes no_order plan_refusal best_card card_after
    first_failing wrong_lengths wrong_figures shares_exceed desk_ok not_of_desk open_refusal opened claim_refusal claimed hand_back_refusal handed_back
    look_refusal looked ends_by least_count size_refusal size_answer size_card_after occupied_minutes cabinet_minutes use_refusal usage
table-holds = refl

-- Each row of the table is right.
pub examples_hold : (k : ℕ) → k < length table → Right (get_or table k no_row)
examples_hold k l = holds_right (get_or table k no_row) (every-at (length table) (λ k. holds (get_or table k no_row)) table-holds k l)
