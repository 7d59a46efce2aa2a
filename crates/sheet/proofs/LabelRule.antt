-- F-1.1, F-1.4: what check 7 says of the labels of a sheet that is read and of one that is written.
use mathlib.Core.Path.{◌≡◌, refl, sym, ap, ◌∙◌}
use mathlib.Core.Logic.{◌↔◌}
use mathlib.Core.Bool.{Bool, true, false, cond, not}
use mathlib.Core.List.{List}
use Prim.Native.Nat.{ℕ, ◌<◌}
use native.Mathlib.Omega.{arith}
use lib.Dec.{eqb}
use lib.ListN.{length, take, drop, length-drop, take-append-drop}
use lib.Seq.{length-take-le, take-append-le, drop-append-le}
use borrow.Author.Tests.{eq-eqb}
use Rattle.counting.proofs.Ranges.{any_none, none_any}
use Rattle.checking.specs.Checking.{first_failing}
use Rattle.checking.proofs.Order.{all_passed, first-behind}
use Rattle.sheet_format.specs.declared.Job.{Job}
use Rattle.sheet_format.specs.Format.{label_length, label_lengths, label_in, offset_of, count_of, job_of, labels_of}
use Rattle.sheet_format.specs.declared.Cabinet.{Cabinet}
use Rattle.sheet_format.specs.Checks.{faulty, some_faulty, wrong_label, wrong_labels, too_short, figure_checks, trailer_checks, content_checks}
use Rattle.sheet_format.specs.Checks.{WrongLabel, LegalLabel}
use Rattle.sheet_format.proofs.Bounds.{legal}
use Rattle.sheet_format.proofs.Cuts.{label_within}
use Rattle.sheet_format.proofs.LabelRule.{wrong_labels_when, legal_label, label-length}
use Rattle.sheet.specs.Read.{read_refusal}
use Rattle.sheet.specs.Label.{label_refusal, label_of}
use Rattle.sheet.specs.Write.{write_refusal}
use Rattle.sheet.proofs.Answers.{reads}
use Rattle.sheet.proofs.Labels.{label_there}
use Rattle.sheet.proofs.Writes.{behind_figures, Writes}

-- where 5 and 6 find nothing, 7 is decided by the labels, whatever is checked behind it
module _ (n : ℕ) (jobs : ℕ → Job) (labels : List ℕ) (sound : some_faulty n jobs ≡ false) (whole : label_lengths n jobs ≡ length labels) where
  behind_lengths : (rest : ℕ) → cond (some_faulty n jobs) 5 (cond (not (eqb (label_lengths n jobs) (length labels))) 6
      (cond (wrong_labels n jobs labels) 7 rest)) ≡ cond (wrong_labels n jobs labels) 7 rest
  behind_lengths rest = rw (sound, eq-eqb (label_lengths n jobs) (length labels) whole) refl

  seven_when : (rest : ℕ) → (rest ≡ 7 → ⊥) → (cond (wrong_labels n jobs labels) 7 rest ≡ 7)
      ↔ ((i : ℕ) × (i < n) × WrongLabel (label_in jobs labels i))
  seven_when rest other = (
    λ e. (wrong_labels_when n jobs labels).0 (go (wrong_labels n jobs labels) refl e),
    λ w. rw ((wrong_labels_when n jobs labels).1 w) refl,
  )
    where
      go : (b : Bool) → wrong_labels n jobs labels ≡ b → cond b 7 rest ≡ 7 → wrong_labels n jobs labels ≡ true
      go true q e = q
      go false q e = absurd (other e)

  -- where 7 finds nothing either, each label is as it must be
  labels_legal : wrong_labels n jobs labels ≡ false → (i : ℕ) → i < n → LegalLabel (label_in jobs labels i)
  labels_legal right i l =
      let size = label-length n jobs labels whole i l in
      let fit = legal n (jobs i) (any_none n (λ k. faulty n (jobs k)) sound i l) in
      legal_label (label_in jobs labels i) (omega (arith, fit.label-some)) (omega (arith, fit.label_most))
      (any_none n (λ k. wrong_label (label_in jobs labels k)) right i l)

-- ---- reading

-- Reading gives 7 exactly when 1 to 6 find nothing and some label has a byte below 32 or above 126, or a space first or last.
pub read_7_when : (s : List ℕ) → first_failing (trailer_checks s) ≡ 0 → some_faulty (count_of s) (job_of s) ≡ false
    → label_lengths (count_of s) (job_of s) ≡ length (labels_of s)
    → (read_refusal s ≡ 7) ↔ ((i : ℕ) × (i < count_of s) × WrongLabel (label_in (job_of s) (labels_of s) i))
unfolding first_failing
read_7_when s front sound whole =
    let e = first-behind (trailer_checks s) (content_checks (count_of s) (job_of s) (labels_of s)) (all_passed (trailer_checks s) refl front)
    ∙ behind_lengths (count_of s) (job_of s) (labels_of s) sound whole 0 in
    let seven = seven_when (count_of s) (job_of s) (labels_of s) sound whole 0 (λ z. absurd (omega arith)) in
    (λ h. seven.0 (sym e ∙ h), λ w. e ∙ seven.1 w)

-- Each label of a sheet that reads is 1 to 16 bytes of 32 to 126, neither its first nor its last a space.
pub read_labels_legal : (s : List ℕ) → read_refusal s ≡ 0 → (i : ℕ) → i < count_of s → LegalLabel (label_of s i)
unfolding label_of
read_labels_legal s e i l =
    let r = reads s e in
    let n = count_of s in
    let o = offset_of s in
    let there : label_refusal s i ≡ 0 = sym (label_there s i e l) in
    let size : length (labels_of s) ≡ o = length-take-le o s (omega (arith, r.trailer.whole)) in
    let within = label_within (job_of s) n i l in
    let k = label_length (job_of s i) in
    let m = label_lengths i (job_of s) in
    let part : label_in (job_of s) (labels_of s) i ≡ take k (drop m s) =
    sym (ap (λ (x : List ℕ). take k (drop m x)) (sym (take-append-drop o s))
    ∙ ap (take k) (drop-append-le m (labels_of s) (drop o s) (omega (arith, r.lengths)))
    ∙ take-append-le k (drop m (labels_of s)) (drop o s) (omega (arith, r.lengths, length-drop m (labels_of s)))) in
    rw there (rw part at (labels_legal n (job_of s) (labels_of s) (none_any n (λ j. faulty n (job_of s j)) r.sound) (r.lengths ∙ sym size)
    r.printable i l))

-- ---- writing

module _ (jobs : ℕ → Job) (n : ℕ) (labels : List ℕ) (C : Cabinet) (room : ℕ) where
  -- Writing gives 7 by the same rule, where 2, 3, 19, 5 and 6 find nothing.
  pub write_7_when : first_failing (figure_checks n C) ≡ 0 → some_faulty n jobs ≡ false → label_lengths n jobs ≡ length labels
      → (write_refusal jobs n labels C room ≡ 7) ↔ ((i : ℕ) × (i < n) × WrongLabel (label_in jobs labels i))
  unfolding first_failing
  write_7_when figures sound whole =
      let behind : ℕ = cond (too_short n labels room) 10 0 in
      let e : write_refusal jobs n labels C room ≡ cond (wrong_labels n jobs labels) 7 behind =
      behind_figures jobs n labels C room figures ∙ behind_lengths n jobs labels sound whole behind in
      let seven = seven_when n jobs labels sound whole behind (not_seven (too_short n labels room)) in
      (λ h. seven.0 (sym e ∙ h), λ w. e ∙ seven.1 w)
    where
      not_seven : (b : Bool) → ◌≡◌ {A = ℕ} (cond b 10 0) 7 → ⊥
      not_seven true z = absurd (omega arith)
      not_seven false z = absurd (omega arith)

  -- Each label that is written is as it must be.
  pub written_labels_legal : Writes jobs n labels C room → (i : ℕ) → i < n → LegalLabel (label_in jobs labels i)
  written_labels_legal w = labels_legal n jobs labels (none_any n (λ j. faulty n (jobs j)) w.sound) w.lengths w.printable
