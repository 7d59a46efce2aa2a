-- No card is longer than the longest, and no report is longer than the room of a text: the first line has at most 4 + 3 * 6 + 1 = 23 bytes,
-- each of at most 20 job lines 6 + 6 + 7 + 17 + 16 + 1 = 53, together 1083.
use mathlib.Core.Path.{◌≡◌, refl}
use mathlib.Core.Bool.{Bool, true, false, cond}
use mathlib.Core.List.{List}
use mathlib.Core.Option.{Option, none, some}
use Prim.Native.Nat.{ℕ, zero, suc, ◌*◌, ◌≤◌}
use native.Mathlib.Omega.{arith}
use lib.Dec.{eqb, ltb}
use lib.ListN.{length, length-append}
use borrow.Author.Tests.{le-ltb}
use Rattle.counting.specs.Counting.{joined}
use Rattle.schedule.specs.Plan.{Sheet, Plan, plan_end}
use Rattle.schedule.specs.ListPlan.{list_plan}
use Rattle.schedule.specs.TieRule.{best_order}
use Rattle.card.specs.Card.{card_size, lateness_of}
use Rattle.sheet.specs.Label.{label_of}
use Rattle.planable.specs.Planable.{sheet_in}
use Rattle.planner.specs.Planning.{plan_refusal}
use Rattle.text.specs.Lines.{line}
use Rattle.text.specs.Texts.{room}
use Rattle.text.proofs.Lengths.{decimal_short, signed_short, hexadecimal-length}
use Rattle.plan_text.specs.Printed.{plan_line, job_line, refused_line, longest_card}
use Rattle.report.specs.Report.{line_of_job, plan_lines, best_lines, report_of}
use Rattle.plan_text.proofs.Sheets.{few, label_short}

-- the card of no sheet is longer than the longest: check 10 does not fail
pub card_fits_lem : (s : List ℕ) → ltb longest_card (card_size (sheet_in s).jobs) ≡ false
card_fits_lem s = le-ltb longest_card (card_size (sheet_in s).jobs) (omega (arith, few s))

refused_short : (k : ℕ) → length (refused_line k) ≤ room
unfolding refused_line line
refused_short k = simp length-append (omega (arith, decimal_short k))

plan_short : (end n N : ℕ) → length (plan_line end n N) ≤ 23
unfolding plan_line line
plan_short end n N = simp length-append (omega (arith, decimal_short end, decimal_short n, decimal_short N))

job_short : (label : List ℕ) (start end departure modules : ℕ) → length label ≤ 16
    → length (job_line label start end departure modules) ≤ 53
unfolding job_line line
job_short label start end departure modules l =
    simp length-append
    (omega (arith, decimal_short start, decimal_short end, signed_short (lateness_of end departure), hexadecimal-length modules))

-- n lists of at most w elements each
joined_short : (n w : ℕ) (f : ℕ → List ℕ) → ((i : ℕ) → length (f i) ≤ w) → length (joined n f) ≤ n * w
unfolding joined
joined_short zero w f h = omega arith
joined_short (suc n) w f h = simp length-append (omega (arith, joined_short n w f h, h n))

plan_lines_short : (s : List ℕ) (S : Sheet) (P : Plan) → S.jobs ≤ 20 → length (plan_lines s S P) ≤ room
plan_lines_short s S P l =
    let rows = joined_short S.jobs 53 (line_of_job s S P) (λ j. job_short (label_of s j) _ _ _ _ (label_short s j)) in
    simp length-append (omega (arith, plan_short (plan_end S P) S.jobs S.modules))

best_short : (s : List ℕ) (S : Sheet) → S.jobs ≤ 20 → length (best_lines s S) ≤ room
unfolding best_lines
best_short s S l = go (best_order S) refl
  where
    go : (b : Option (List ℕ)) → best_order S ≡ b → length (best_lines s S) ≤ room
    go none e = rw (e, best_lines) (omega arith)
    go (some o) e = rw (e, best_lines) (plan_lines_short s S (list_plan S o) l)

-- Every report fits a text.
pub report_fits : (s : List ℕ) → length (report_of s) ≤ room
unfolding report_of
report_fits s = go (eqb (plan_refusal s longest_card) 0) refl
  where
    go : (b : Bool) → eqb (plan_refusal s longest_card) 0 ≡ b
        → length (cond b (best_lines s (sheet_in s)) (refused_line (plan_refusal s longest_card))) ≤ room
    go true e = best_short s (sheet_in s) (few s)
    go false e = refused_short (plan_refusal s longest_card)
