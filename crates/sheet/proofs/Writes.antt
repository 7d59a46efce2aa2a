-- What writing answers in each case, what an answer says of the jobs, and how the parts make up the sheet.
use mathlib.Core.Path.{◌≡◌, refl, sym, ap, ap₂, ◌∙◌}
use mathlib.Core.Bool.{false, cond}
use mathlib.Core.List.{List, [], ◌∷◌, ◌++◌, append_assoc}
use Prim.Native.Nat.{ℕ, ◌+◌, ◌-◌, ◌*◌, ◌≤◌, ◌<◌}
use native.Mathlib.Omega.{arith}
use lib.ListN.{length, drop, length-append}
use borrow.Author.Tests.{ltb-false, lt-ltb, le-ltb, eqb-true, ne_eqb, not-false}
use borrow.Rule.Slice.PartMut.{put_mid}
use Rattle.counting.specs.Counting.{joined}
use Rattle.counting.proofs.Ranges.{any_none}
use Rattle.counting.proofs.Sums.{sum_most}
use Rattle.checking.specs.Checking.{Check, first_failing}
use Rattle.checking.proofs.Order.{all_passed, both_passed, none_failing, first_in_front, first-behind}
use Rattle.sheet_format.specs.declared.Job.{Job}
use Rattle.sheet.specs.declared.Written.{Written}
use Rattle.sheet_format.specs.Figures.{record_size, trailer_size, longest_label}
use Rattle.sheet_format.specs.Format.{record_bytes, trailer_bytes, sheet_bytes, label_length, label_lengths}
use Rattle.sheet_format.specs.declared.Cabinet.{Cabinet}
use Rattle.sheet_format.specs.Checks.{faulty, wrong_labels, too_short, figure_checks, content_checks}
use Rattle.sheet.specs.Write.{over, write_checks, write_refusal, write_answer, write_leaves}
use Rattle.sheet_format.proofs.Bounds.{legal}
use Rattle.sheet_format.proofs.Trailers.{FiguresFit, figures_fit_lem}
use Rattle.words.proofs.Parts.{next_part}
use Rattle.sheet_format.proofs.Parts.{length_records, length_trailer}

-- ---- lengths

pub length-sheet : (jobs : ℕ → Job) (n : ℕ) (labels : List ℕ) (C : Cabinet)
    → length (sheet_bytes jobs n labels C) ≡ length labels + record_size * n + trailer_size
unfolding sheet_bytes
length-sheet jobs n labels C =
    let records = joined n (λ i. record_bytes (jobs i)) in
    length-append labels (records ++ trailer_bytes (length labels) n C)
    ∙ omega (arith, length-append records (trailer_bytes (length labels) n C), length_records n jobs, length_trailer (length labels) n C)

-- ---- the cases of the answer

module _ (jobs : ℕ → Job) (n : ℕ) (labels : List ℕ) (C : Cabinet) where
  module _ (room : ℕ) where
    abbrev behind : List Check
    behind = content_checks n jobs labels ++ ((10, too_short n labels room) ∷ [])

    pub refused_figures : (k : ℕ) → k ≡ first_failing (figure_checks n C) → (k ≡ 0 → ⊥) → k ≡ write_refusal jobs n labels C room
    refused_figures k e h = e ∙ sym (first_in_front (figure_checks n C) behind (λ z. h (e ∙ z)))

    module _ (passed : first_failing (figure_checks n C) ≡ 0) where
      pub behind_figures : write_refusal jobs n labels C room ≡ first_failing behind
      behind_figures = first-behind (figure_checks n C) behind (all_passed (figure_checks n C) refl passed)

      pub refused_content : (k : ℕ) → k ≡ first_failing (content_checks n jobs labels) → (k ≡ 0 → ⊥)
          → k ≡ write_refusal jobs n labels C room
      refused_content k e h =
          e ∙ sym (first_in_front (content_checks n jobs labels) ((10, too_short n labels room) ∷ []) (λ z. h (e ∙ z))) ∙ sym behind_figures

      behind_content : first_failing (content_checks n jobs labels) ≡ 0
          → write_refusal jobs n labels C room ≡ cond (too_short n labels room) 10 0
      unfolding first_failing
      behind_content e =
          behind_figures
          ∙ first-behind (content_checks n jobs labels) ((10, too_short n labels room) ∷ [])
          (all_passed (content_checks n jobs labels) refl e)

      pub refused-room : first_failing (content_checks n jobs labels) ≡ 0 → room < length labels + record_size * n + trailer_size
          → 10 ≡ write_refusal jobs n labels C room
      refused-room e l = sym (behind_content e ∙ ap (λ b. cond b 10 0) (lt-ltb room (length labels + record_size * n + trailer_size) l))

      pub not-refused : first_failing (content_checks n jobs labels) ≡ 0 → length labels + record_size * n + trailer_size ≤ room
          → 0 ≡ write_refusal jobs n labels C room
      not-refused e l = sym (behind_content e ∙ ap (λ b. cond b 10 0) (le-ltb room (length labels + record_size * n + trailer_size) l))

-- ---- what an answered call says

pub record Writes (jobs : ℕ → Job) (n : ℕ) (labels : List ℕ) (C : Cabinet) (room : ℕ) : Type 0 where
  pub figures : FiguresFit n C
  pub sound : (i : ℕ) → i < n → faulty n (jobs i) ≡ false
  pub lengths : label_lengths n jobs ≡ length labels
  pub printable : wrong_labels n jobs labels ≡ false
  pub short : length labels ≤ n * longest_label
  pub fits : length labels + record_size * n + trailer_size ≤ room

pub writes : (jobs : ℕ → Job) (n : ℕ) (labels : List ℕ) (C : Cabinet) (room k : ℕ) → k ≡ write_refusal jobs n labels C room → k ≡ 0
    → Writes jobs n labels C room
writes jobs n labels C room k e z =
    let p = both_passed (figure_checks n C) (content_checks n jobs labels ++ ((10, too_short n labels room) ∷ []))
    (all_passed (write_checks jobs n labels C room) refl (sym e ∙ z)) in
    let q = both_passed (content_checks n jobs labels) ((10, too_short n labels room) ∷ []) p.1 in
    let sound = any_none n (λ i. faulty n (jobs i)) q.0.0 in
    let lengths = eqb-true (label_lengths n jobs) (length labels) (not-false _ q.0.1.0) in
    let each : (i : ℕ) → i < n → label_length (jobs i) ≤ longest_label = λ i l. (legal n (jobs i) (sound i l)).label_most in
    record {
      figures = figures_fit_lem n C (none_failing (figure_checks n C) p.0);
      sound = sound;
      lengths = lengths;
      printable = q.0.1.1.0;
      short = omega (arith, lengths, sum_most n (λ i. label_length (jobs i)) longest_label each);
      fits = ltb-false room (length labels + record_size * n + trailer_size) q.1.0;
    }

-- ---- the answer and the buffer

module _ (jobs : ℕ → Job) (n : ℕ) (labels : List ℕ) (C : Cabinet) (out : List ℕ) where
  pub refused_answer : (k : ℕ) → k ≡ write_refusal jobs n labels C (length out) → (k ≡ 0 → ⊥)
      → ◌≡◌ {A = Written} (record { refusal = k; length = 0 }) (write_answer jobs n labels C out)
  unfolding write_answer
  refused_answer k e h = rw (← e, ne_eqb k 0 h)

  pub refused_leaves : (k : ℕ) → k ≡ write_refusal jobs n labels C (length out) → (k ≡ 0 → ⊥) → out ≡ write_leaves jobs n labels C out
  unfolding write_leaves
  refused_leaves k e h = rw (← e, ne_eqb k 0 h)

  module _ (k : ℕ) (e : k ≡ write_refusal jobs n labels C (length out)) (z : k ≡ 0) where
    pub written_answer : (m : ℕ) → m ≡ length labels + record_size * n + trailer_size
        → ◌≡◌ {A = Written} (record { refusal = 0; length = m }) (write_answer jobs n labels C out)
    unfolding write_answer
    written_answer m l = rw (sym e ∙ z) (ap (λ (x : ℕ). record { refusal = 0; length = x }) (l ∙ sym (length-sheet jobs n labels C)))

    pub written_leaves : (after : List ℕ) → after ≡ over (sheet_bytes jobs n labels C) out → after ≡ write_leaves jobs n labels C out
    unfolding write_leaves
    written_leaves after l = rw (sym e ∙ z) l

  -- the three parts, written one behind another
  pub parts_are : (ls rs ts : List ℕ) → ls ≡ labels → rs ≡ joined n (λ i. record_bytes (jobs i)) → ts ≡ trailer_bytes (length labels) n C
      → put_mid (length labels + record_size * n) (length labels + record_size * n + trailer_size - (length labels + record_size * n))
      (put_mid (length labels) (length labels + record_size * n - length labels) (ls ++ drop (length labels) out) rs) ts
      ≡ over (sheet_bytes jobs n labels C) out
  unfolding sheet_bytes
  parts_are ls rs ts el er et =
      let records : List ℕ = joined n (λ i. record_bytes (jobs i)) in
      let trailer : List ℕ = trailer_bytes (length labels) n C in
      let k : length labels + record_size * n + trailer_size - (length labels + record_size * n) ≡ trailer_size = omega arith in
      let m : length labels + record_size * n - length labels ≡ record_size * n = omega arith in
      let size : length (labels ++ records) ≡ length labels + record_size * n =
      length-append labels records ∙ omega (arith, length_records n jobs) in
      rw (el, er, et, k, m)
      (ap (λ (x : List ℕ). put_mid (length labels + record_size * n) trailer_size x trailer)
      (next_part out labels records (length labels) (record_size * n) refl)
      ∙ next_part out (labels ++ records) trailer (length labels + record_size * n) trailer_size size
      ∙ ap₂ (λ (x : List ℕ) (i : ℕ). x ++ drop i out) (append_assoc labels records trailer) (sym (length-sheet jobs n labels C)))
