-- Legal jobs written as a sheet read back the same: the jobs, n, N and each label (R-2.1).
use mathlib.Core.Path.{◌≡◌, refl, sym, ap, ap₂, ◌∙◌}
use mathlib.Core.Bool.{not}
use mathlib.Core.List.{List, [], ◌∷◌, ◌++◌}
use Prim.Native.Nat.{ℕ, suc, ◌+◌, ◌*◌, ◌≤◌, ◌<◌}
use native.Mathlib.Omega.{arith}
use lib.ListN.{length, take, drop, length-drop}
use lib.Seq.{take-append_seam, take-append-le, drop-append-le}
use borrow.Author.Tests.{eq-eqb}
use Rattle.counting.specs.Counting.{sum, joined}
use Rattle.counting.proofs.Sums.{sum_up}
use Rattle.counting.proofs.Ranges.{none_any}
use Rattle.checking.proofs.Order.{none_failing, together_passed}
use Rattle.sheet_format.specs.declared.Job.{Job}
use Rattle.sheet_format.specs.Figures.{longest_sheet, record_size, trailer_size}
use Rattle.sheet_format.specs.Format.{record_bytes, trailer_bytes, label_length, label_lengths, sheet_bytes}
use Rattle.sheet_format.specs.declared.Cabinet.{Cabinet}
use Rattle.sheet_format.specs.Format.{offset_of, count_of, cabinet_of, job_of, labels_of, label_in}
use Rattle.sheet_format.specs.Checks.{faulty, wrong_offset, wrong_labels, figure_checks, trailer_checks, content_checks}
use Rattle.sheet_format.proofs.Bounds.{not-outside}
use Rattle.sheet_format.proofs.Trailers.{FiguresFit, fit_passed}
use Rattle.sheet_format.proofs.Lists.{places_same}
use Rattle.sheet_format.proofs.Cuts.{lengths_same, labels_same}
use Rattle.sheet.specs.Read.{read_checks, read_refusal, answered, reading}
use Rattle.sheet.specs.Label.{label_refusal, label_of}
use Rattle.sheet.specs.Write.{write_refusal, write_answer, write_leaves}
use Rattle.sheet.specs.RoundTrip.{written_sheet}
use Rattle.sheet.proofs.Answers.{read_answer}
use Rattle.sheet.proofs.Labels.{label_there}
use Rattle.sheet.proofs.Writes.{length-sheet, Writes, writes}
use Rattle.sheet.proofs.Refusals.{write_number}
use Rattle.sheet.proofs.Layouts.{offset_is, count_is, cabinet_is, labels_is, job_is}

module _ (jobs : ℕ → Job) (n : ℕ) (labels : List ℕ) (C : Cabinet) (room : ℕ) (w : Writes jobs n labels C room) where
  abbrev sheet : List ℕ
  sheet = sheet_bytes jobs n labels C

  lengths_is : (i : ℕ) → i ≤ n → label_lengths i (job_of sheet) ≡ label_lengths i jobs
  lengths_is = lengths_same n (job_of sheet) jobs (job_is jobs n labels C room w)

  printable_back : wrong_labels (count_of sheet) (job_of sheet) (labels_of sheet) ≡ wrong_labels n jobs labels
  printable_back =
      ap₂ (λ (m : ℕ) (ls : List ℕ). wrong_labels m (job_of sheet) ls) (count_is jobs n labels C room w) (labels_is jobs n labels C room w)
      ∙ labels_same n (job_of sheet) jobs (job_is jobs n labels C room w) labels

  reads_back : read_refusal sheet ≡ 0
  reads_back =
      let size = length-sheet jobs n labels C in
      let o = offset_is jobs n labels C room w in
      let c = count_is jobs n labels C room w in
      let ls = labels_is jobs n labels C room w in
      let some = w.short in
      let few = w.figures.few in
      let total : label_lengths (count_of sheet) (job_of sheet) ≡ length (labels_of sheet) =
      ap (λ (m : ℕ). label_lengths m (job_of sheet)) c ∙ lengths_is n (omega arith) ∙ w.lengths ∙ sym (ap (length {A = ℕ}) ls) in
      let fit : FiguresFit (count_of sheet) (cabinet_of sheet) = rw (c, cabinet_is jobs n labels C room w) w.figures in
      none_failing (read_checks sheet) (together_passed (trailer_checks sheet) (content_checks (count_of sheet) (job_of sheet) (labels_of sheet)) (
        not-outside trailer_size longest_sheet (length sheet) (omega arith) (omega arith),
        together_passed (figure_checks (count_of sheet) (cabinet_of sheet)) ((4, wrong_offset sheet) ∷ [])
            (fit_passed (count_of sheet) (cabinet_of sheet) fit)
            (ap not (eq-eqb (offset_of sheet + record_size * count_of sheet + trailer_size) (length sheet) (omega arith)), tt),
      ) (
        none_any (count_of sheet) (λ i. faulty (count_of sheet) (job_of sheet i))
            (λ i l. ap₂ faulty c (job_is jobs n labels C room w i (omega arith)) ∙ w.sound i (omega arith)),
        (
          ap not (eq-eqb (label_lengths (count_of sheet) (job_of sheet)) (length (labels_of sheet)) total),
          (printable_back ∙ w.printable, tt),
        ),
      ))

  answer_back : reading sheet ≡ answered n jobs C
  answer_back =
      read_answer sheet reads_back
      ∙ ap₂ (λ (m : ℕ) (D : Cabinet). answered m (job_of sheet) D) (count_is jobs n labels C room w) (cabinet_is jobs n labels C room w)
      ∙ ap (λ (js : List Job). record { refusal = 0; jobs = js; count = n; modules = C.modules; changeover = C.changeover })
      (places_same n (job_of sheet) jobs (job_is jobs n labels C room w))

  label_back : (i : ℕ) → i < n → (label_refusal sheet i ≡ 0) × (label_of sheet i ≡ label_in jobs labels i)
  unfolding label_of sheet_bytes sum
  label_back i l =
      let there : label_refusal sheet i ≡ 0 = sym (label_there sheet i reads_back (omega (arith, count_is jobs n labels C room w))) in
      let within = sum_up (suc i) n (λ k. label_length (jobs k)) l in
      let start : label_lengths i jobs ≤ length labels = omega (arith, w.lengths) in
      let rest : List ℕ = joined n (λ k. record_bytes (jobs k)) ++ trailer_bytes (length labels) n C in
      let size : label_length (jobs i) ≤ length (drop (label_lengths i jobs) labels) =
      rw (length-drop (label_lengths i jobs) labels) (omega (arith, w.lengths)) in (
        there,
        rw there
            (ap₂ (λ (k m : ℕ). take k (drop m sheet)) (ap (λ (j : Job). label_length j) (job_is jobs n labels C room w i l))
            (lengths_is i (omega arith))
            ∙ ap (take (label_length (jobs i))) (drop-append-le (label_lengths i jobs) labels rest start)
            ∙ take-append-le (label_length (jobs i)) (drop (label_lengths i jobs) labels) rest size),
      )

module _ (jobs : ℕ → Job) (n : ℕ) (labels : List ℕ) (C : Cabinet) (out : List ℕ)
    (answered-0 : (write_answer jobs n labels C out).refusal ≡ 0) where
  legal_jobs : Writes jobs n labels C (length out)
  legal_jobs = writes jobs n labels C (length out) 0 (sym (sym (write_number jobs n labels C out) ∙ answered-0)) refl

  written_is : written_sheet jobs n labels C out ≡ sheet_bytes jobs n labels C
  unfolding write_answer write_leaves
  written_is =
      let e : write_refusal jobs n labels C (length out) ≡ 0 = sym (write_number jobs n labels C out) ∙ answered-0 in
      let s : List ℕ = sheet_bytes jobs n labels C in
      rw e (take-append_seam s (drop (length s) out))

  -- the jobs, n and N
  pub written_reads : reading (written_sheet jobs n labels C out) ≡ answered n jobs C
  written_reads = ap reading written_is ∙ answer_back jobs n labels C (length out) legal_jobs

  -- and each label
  pub written_label : (i : ℕ) → i < n → (label_refusal (written_sheet jobs n labels C out) i ≡ 0)
      × (label_of (written_sheet jobs n labels C out) i ≡ label_in jobs labels i)
  written_label i l =
      let b = label_back jobs n labels C (length out) legal_jobs i l in
      (ap (λ (s : List ℕ). label_refusal s i) written_is ∙ b.0, ap (λ (s : List ℕ). label_of s i) written_is ∙ b.1)
