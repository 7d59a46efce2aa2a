-- What reading answers in each case, and what an answer says of the sheet.
use mathlib.Core.Path.{◌≡◌, refl, sym, ap, ap₂, ◌∙◌}
use mathlib.Core.Bool.{Bool, true, false, cond}
use mathlib.Core.List.{List, [], ◌∷◌}
use Prim.Native.Nat.{ℕ, ◌+◌, ◌*◌, ◌≤◌, ◌<◌}
use native.Mathlib.Omega.{arith}
use lib.Dec.{eqb}
use lib.ListN.{length, take}
use lib.Seq.{length-take-le}
use borrow.Author.Tests.{eqb-true, ne_eqb, not-false}
use Rattle.counting.proofs.Ranges.{any_none}
use Rattle.checking.specs.Checking.{first_failing}
use Rattle.checking.proofs.Order.{all_passed, both_passed, none_failing, first_in_front, first-behind}
use Rattle.sheet_format.specs.declared.Job.{Job}
use Rattle.sheet.specs.declared.Reading.{Reading}
use Rattle.sheet_format.specs.Figures.{longest_sheet, record_size, trailer_size}
use Rattle.sheet_format.specs.Format.{job_from, job_of, labels_of, label_lengths, offset_of, count_of}
use Rattle.sheet_format.specs.Format.{cabinet_of}
use Rattle.sheet_format.specs.declared.Cabinet.{Cabinet}
use Rattle.sheet_format.specs.Checks.{faulty, wrong_offset, wrong_labels, figure_checks, content_checks}
use Rattle.sheet.specs.Read.{read_checks, read_refusal, answered, refused, reading}
use Rattle.sheet_format.specs.Checks.{trailer_checks}
use Rattle.sheet_format.specs.Format.{places}
use Rattle.sheet_format.proofs.Bounds.{inside}
use Rattle.sheet_format.proofs.Trailers.{FiguresFit, figures_fit_lem}

-- what 1, 2, 3, 19 and 4 say where they pass
pub record Trailer (s : List ℕ) : Type 0 where
  pub long : trailer_size ≤ length s
  pub short : length s ≤ longest_sheet
  pub figures : FiguresFit (count_of s) (cabinet_of s)
  pub whole : offset_of s + record_size * count_of s + trailer_size ≡ length s

-- what all checks of reading say of a sheet that reads
pub record Reads (s : List ℕ) : Type 0 where
  pub trailer : Trailer s
  pub sound : (i : ℕ) → i < count_of s → faulty (count_of s) (job_of s i) ≡ false
  pub lengths : label_lengths (count_of s) (job_of s) ≡ offset_of s
  pub printable : wrong_labels (count_of s) (job_of s) (labels_of s) ≡ false

module _ (s : List ℕ) where
  pub trailer : (k : ℕ) → k ≡ first_failing (trailer_checks s) → k ≡ 0 → Trailer s
  trailer k e z =
      let p = all_passed (trailer_checks s) refl (sym e ∙ z) in
      let q = both_passed (figure_checks (count_of s) (cabinet_of s)) ((4, wrong_offset s) ∷ []) p.1 in
      let l = inside trailer_size longest_sheet (length s) p.0 in
      record {
        long = l.0;
        short = l.1;
        figures = figures_fit_lem (count_of s) (cabinet_of s) (none_failing (figure_checks (count_of s) (cabinet_of s)) q.0);
        whole = eqb-true (offset_of s + record_size * count_of s + trailer_size) (length s) (not-false _ q.1.0);
      }

  -- the checks 5 to 7, with the figures of the trailer
  pub content_is : (n offset k : ℕ) → n ≡ count_of s → offset ≡ offset_of s → k ≡ first_failing (content_checks n (job_from s offset) (take offset s))
      → k ≡ first_failing (content_checks (count_of s) (job_of s) (labels_of s))
  content_is n offset k en eo ek = ek ∙ ap₂ (λ (m o : ℕ). first_failing (content_checks m (job_from s o) (take o s))) en eo

  -- the answer, from what was found
  pub answer_is : (n offset : ℕ) (C : Cabinet) (jobs : List Job) → n ≡ count_of s → offset ≡ offset_of s → C ≡ cabinet_of s
      → jobs ≡ places n (job_from s offset)
      → ◌≡◌ {A = Reading} (record { refusal = 0; jobs = jobs; count = n; modules = C.modules; changeover = C.changeover })
      (answered (count_of s) (job_of s) (cabinet_of s))
  answer_is n offset C jobs en eo ec ej =
      ap (λ (js : List Job). record { refusal = 0; jobs = js; count = n; modules = C.modules; changeover = C.changeover }) ej
      ∙ ap (λ (D : Cabinet). answered n (job_from s offset) D) ec
      ∙ ap₂ (λ (m o : ℕ). answered m (job_from s o) (cabinet_of s)) en eo

  pub refused_is : (k : ℕ) → k ≡ read_refusal s → (k ≡ 0 → ⊥) → refused k ≡ reading s
  unfolding reading
  refused_is k e h = rw (← e, ne_eqb k 0 h)

  pub refused_early : (k : ℕ) → k ≡ first_failing (trailer_checks s) → (k ≡ 0 → ⊥) → k ≡ read_refusal s
  refused_early k e h =
      e ∙ sym (first_in_front (trailer_checks s) (content_checks (count_of s) (job_of s) (labels_of s)) (λ z. h (e ∙ z)))

  module _ (early : ℕ) (is : early ≡ first_failing (trailer_checks s)) (passed : early ≡ 0) where
    late : read_refusal s ≡ first_failing (content_checks (count_of s) (job_of s) (labels_of s))
    late = first-behind (trailer_checks s) _ (all_passed (trailer_checks s) refl (sym is ∙ passed))

    pub refused_late : (k : ℕ) → k ≡ first_failing (content_checks (count_of s) (job_of s) (labels_of s)) → k ≡ read_refusal s
    refused_late k e = e ∙ sym late

    pub read_whole : (k : ℕ) → k ≡ first_failing (content_checks (count_of s) (job_of s) (labels_of s)) → k ≡ 0
        → answered (count_of s) (job_of s) (cabinet_of s) ≡ reading s
    unfolding reading
    read_whole k e z = rw (late ∙ sym e ∙ z)

  -- the number that reading gives is the first refusal's
  pub read_number : (reading s).refusal ≡ read_refusal s
  unfolding reading
  read_number = go (eqb (read_refusal s) 0) refl
    where
      go : (b : Bool) → eqb (read_refusal s) 0 ≡ b
          → (cond b (answered (count_of s) (job_of s) (cabinet_of s)) (refused (read_refusal s))).refusal ≡ read_refusal s
      go true e = sym (eqb-true (read_refusal s) 0 e)
      go false e = refl

  pub read_answer : read_refusal s ≡ 0 → reading s ≡ answered (count_of s) (job_of s) (cabinet_of s)
  unfolding reading
  read_answer e = rw e

  pub reads : read_refusal s ≡ 0 → Reads s
  reads e =
      let p = both_passed (trailer_checks s) (content_checks (count_of s) (job_of s) (labels_of s)) (all_passed (read_checks s) refl e) in
      let t = trailer 0 (sym (none_failing (trailer_checks s) p.0)) refl in
      let c = p.1 in
      record {
        trailer = t;
        sound = any_none (count_of s) (λ i. faulty (count_of s) (job_of s i)) c.0;
        lengths = eqb-true (label_lengths (count_of s) (job_of s)) (length (labels_of s)) (not-false _ c.1.0)
            ∙ length-take-le (offset_of s) s (omega (arith, t.whole));
        printable = c.1.1.0;
      }
