-- What is printed from the card of an answered planning call is the report, and so is the line of a refused one.
use mathlib.Core.Path.{◌≡◌, refl, sym, ap, ap₂, ◌∙◌}
use mathlib.Core.List.{List, ◌++◌}
use Prim.Native.Nat.{ℕ, ◌<◌}
use lib.ListN.{length}
use borrow.Author.Tests.{ne_eqb}
use Rattle.counting.proofs.Joins.{joined_same}
use Rattle.schedule.specs.Plan.{Sheet, Plan}
use Rattle.schedule.specs.ListPlan.{list_plan}
use Rattle.card.specs.Decoding.{Decodes}
use Rattle.planable.specs.Planable.{sheet_in}
use Rattle.planner.specs.Planning.{plan_refusal, card_after}
use Rattle.planner.proofs.Planning.{found, decodes}
use Rattle.text.specs.Texts.{text_of, empty, adding}
use Rattle.text.proofs.Adding.{text_of_lem}
use Rattle.plan_text.specs.Printed.{plan_line, refused_line, departure_of, longest_card}
use Rattle.report.specs.Report.{line_of_job, plan_lines, best_lines, report_of}
use Rattle.plan_text.specs.Rows.{row_line, card_lines}
use Rattle.report.proofs.Lengths.{report_fits}

-- refused
pub refused_report : (s : List ℕ) (k : ℕ) → k ≡ plan_refusal s longest_card → (k ≡ 0 → ⊥)
    → adding empty (refused_line k) ≡ text_of (report_of s)
unfolding report_of
refused_report s k e h =
    let number = plan_refusal s longest_card in
    let is : refused_line k ≡ report_of s = ap refused_line e ∙ rw (ne_eqb number 0 (λ z. h (e ∙ z))) refl in
    ap (adding empty) is ∙ text_of_lem (report_of s) (report_fits s)

-- ---- answered

module _ (s card : List ℕ) (l : length card ≡ longest_card) (z : plan_refusal s longest_card ≡ 0) where
  abbrev S : Sheet
  S = sheet_in s

  e : plan_refusal s (length card) ≡ 0
  e = ap (plan_refusal s) l ∙ z

  abbrev P : Plan
  P = list_plan S (found s card e).0

  abbrev on : Decodes S (found s card e).0 (card_after s card)
  on = decodes s card e

  row : (j : ℕ) → j < S.jobs → row_line s (card_after s card) (departure_of s j) j ≡ line_of_job s S P j
  row j m = rw (on.start j m, on.end j m, on.modules j m) refl

  lines : card_lines s (card_after s card) ≡ plan_lines s S P
  lines =
      ap₂ ◌++◌ (ap (λ (x : ℕ). plan_line x S.jobs S.modules) on.last)
      (joined_same S.jobs _ _ row)

  best_lines_lem : best_lines s S ≡ plan_lines s S P
  unfolding best_lines
  best_lines_lem = rw ((found s card e).1, best_lines) refl

  -- answered
  pub planned_report : (c : List ℕ) → c ≡ card_after s card → adding empty (card_lines s c) ≡ text_of (report_of s)
  unfolding report_of
  planned_report c w =
      let is : card_lines s c ≡ report_of s = ap (card_lines s) w ∙ lines ∙ sym best_lines_lem ∙ rw z refl in
      ap (adding empty) is ∙ text_of_lem (report_of s) (report_fits s)
