-- F-2.4, F-4: sheets of a layout of before, put into the layout of today with 0 for what it lacks, give the same refusals, jobs and plans.
use mathlib.Core.Path.{◌≡◌, refl, sym, ap, ap₂, ◌∙◌}
use mathlib.Core.Bool.{cond, not}
use mathlib.Core.List.{List, [], ◌∷◌, ◌++◌}
use Prim.Native.Nat.{ℕ, ◌+◌, ◌*◌, ◌<◌}
use native.Mathlib.Omega.{arith}
use lib.Dec.{eqb}
use lib.ListN.{length}
use borrow.Author.Tests.{eq-eqb}
use Rattle.checking.specs.Checking.{Check, first_failing}
use Rattle.checking.proofs.Order.{Passed, all_passed, both_passed, together_passed, none_failing, first-behind}
use Rattle.schedule.specs.Plan.{Sheet}
use Rattle.sheet_format.specs.declared.Job.{Job}
use Rattle.sheet_format.specs.Figures.{longest_sheet, record_size, trailer_size}
use Rattle.sheet_format.specs.Format.{offset_of, count_of, cabinet_of, job_of, labels_of, places}
use Rattle.sheet_format.specs.declared.Cabinet.{Cabinet}
use Rattle.sheet_format.specs.Checks.{wrong_offset, figure_checks, trailer_checks, content_checks}
use Rattle.sheet_format.proofs.Bounds.{not-outside}
use Rattle.sheet_format.proofs.Trailers.{FiguresFit, fit_passed}
use Rattle.sheet_format.proofs.Lists.{places_same, job_in-place}
use Rattle.sheet_format.proofs.Cuts.{content_same}
use Rattle.sheet.specs.declared.Reading.{Reading}
use Rattle.sheet.specs.Read.{read_checks, read_refusal, answered, refused, reading}
use Rattle.sheet.specs.Write.{over}
use Rattle.planable.specs.Planable.{sheet_on, sheet_in, order_checks, work_after}
use Rattle.planner.specs.Planning.{room_checks, best_card, plan_refusal, card_after, memory_after}
use Rattle.older_sheets.specs.Older as older
use Rattle.older_sheets.specs.Older.{Layout, before_arrivals}
use Rattle.older_sheets.specs.Relaid.{relaid, LaidOut}
use Rattle.older_sheets.proofs.Parts.{Laid, laid, not_longer, length-relaid, offset_is, count_is, cabinet_is, labels_is, job_is}

module _ (L : Layout) (s : List ℕ) (e : LaidOut L s) where
  abbrev r : List ℕ
  r = relaid L s

  abbrev n : ℕ
  n = older.count_of s

  t : Laid L s
  t = laid L s e

  -- 1 to 4 and 19 find nothing in the relaid sheet either
  relaid_passes : Passed (trailer_checks r)
  relaid_passes =
      let size = length-relaid L s t in
      let short = not_longer L (older.offset_of s) n t.few (omega (arith, t.whole, t.short)) in
      let o = offset_is L s t in
      let c = count_is L s t in
      let fit : FiguresFit (count_of r) (cabinet_of r) =
      rw (c, cabinet_is L s t) (record { few = t.few; some = t.some; most = t.most; rests = omega arith }) in (
        not-outside trailer_size longest_sheet (length r) (omega arith) (omega arith),
        together_passed (figure_checks (count_of r) (cabinet_of r)) ((4, wrong_offset r) ∷ []) (fit_passed (count_of r) (cabinet_of r) fit)
            (ap not (eq-eqb (offset_of r + record_size * count_of r + trailer_size) (length r) (omega arith)), tt),
      )

  content_is : content_checks (count_of r) (job_of r) (labels_of r) ≡ content_checks n (older.job_of L s) (older.labels_of s)
  content_is =
      ap₂ (λ (m : ℕ) (ls : List ℕ). content_checks m (job_of r) ls) (count_is L s t) (labels_is L s t)
      ∙ content_same n (job_of r) (older.job_of L s) (job_is L s t) (older.labels_of s)

  -- whatever is checked behind reading
  first_same : (cs : List Check) → first_failing (read_checks r ++ cs) ≡ first_failing (older.read_checks L s ++ cs)
  first_same cs =
      first-behind (trailer_checks r) (content_checks (count_of r) (job_of r) (labels_of r) ++ cs) relaid_passes
      ∙ ap (λ (x : List Check). first_failing (x ++ cs)) content_is
      ∙ sym (first-behind (older.trailer_checks L s) (content_checks n (older.job_of L s) (older.labels_of s) ++ cs)
      (all_passed (older.trailer_checks L s) refl e))

  -- Reading gives the number that it gave, 5 to 7 included.
  pub relaid-refused : read_refusal r ≡ older.read_refusal L s
  relaid-refused = first_same []

  -- It answers the same jobs, with arrival 0 where there was none, the same n and N, and the changeover 0; refused, the same number.
  pub relaid_reads : reading r ≡ older.reading L s
  unfolding reading older.reading
  relaid_reads =
      let jobs : places (count_of r) (job_of r) ≡ places n (older.job_of L s) =
      ap (λ (m : ℕ). places m (job_of r)) (count_is L s t) ∙ places_same n (job_of r) (older.job_of L s) (job_is L s t) in
      let answer : answered (count_of r) (job_of r) (cabinet_of r) ≡ answered n (older.job_of L s) (older.cabinet_of s) =
      ap₂ (λ (m : ℕ) (C : Cabinet). record {
        refusal = 0;
        jobs = places (count_of r) (job_of r);
        count = m;
        modules = C.modules;
        changeover = C.changeover;
      }) (count_is L s t) (cabinet_is L s t)
      ∙ ap (λ (js : List Job). record { refusal = 0; jobs = js; count = n; modules = older.modules_of s; changeover = 0 }) jobs in
      ap₂ (λ (k : ℕ) (a : Reading). cond (eqb k 0) a (refused k)) relaid-refused answer

  same-sheet : sheet_in r ≡ older.sheet_in L s
  same-sheet = ap sheet_on relaid_reads

  refusal_same : (room : ℕ) → plan_refusal r room ≡ older.plan_refusal L s room
  unfolding plan_refusal older.plan_refusal
  refusal_same room =
      ap (λ (S : Sheet). first_failing (read_checks r ++ (order_checks S ++ room_checks S room))) same-sheet
      ∙ first_same (order_checks (older.sheet_in L s) ++ room_checks (older.sheet_in L s) room)

  -- Planning gives the same number, 8, 9 and 10 included, and leaves the same card and the same memory, byte for byte.
  pub relaid_plans : (card memory : List ℕ) → (plan_refusal r (length card) ≡ older.plan_refusal L s (length card))
      × (card_after r card ≡ older.card_after L s card)
      × (memory_after r (length card) memory ≡ older.memory_after L s (length card) memory)
  unfolding card_after older.card_after
  relaid_plans card memory = (
    refusal_same (length card),
    ap₂ (λ (k : ℕ) (S : Sheet). cond (eqb k 0) (over (best_card S) card) card) (refusal_same (length card)) same-sheet,
    ap (λ (k : ℕ). work_after k memory) (refusal_same (length card)),
  )

-- Sheets that read until now are laid out.
pub reads_laid_out : (L : Layout) (s : List ℕ) → older.read_refusal L s ≡ 0 → LaidOut L s
reads_laid_out L s e =
    let p = both_passed (older.trailer_checks L s) (content_checks (older.count_of s) (older.job_of L s) (older.labels_of s))
    (all_passed (older.read_checks L s) refl e) in
    none_failing (older.trailer_checks L s) p.0

-- In the plans of before modules need no rest, and before F-2 every bus is there from minute 0 on.
pub none_resting : (L : Layout) (s : List ℕ) → older.read_refusal L s ≡ 0 → (older.sheet_in L s).rest ≡ 0
unfolding older.reading
none_resting L s e = rw e

pub none_on_the_road : (s : List ℕ) → older.read_refusal before_arrivals s ≡ 0 → (j : ℕ) → j < older.count_of s
    → (older.sheet_in before_arrivals s).arrival j ≡ 0
unfolding older.reading older.record_at
none_on_the_road s e j l = rw e (ap (λ (x : Job). x.arrival) (job_in-place (older.count_of s) (older.job_of before_arrivals s) j l))
