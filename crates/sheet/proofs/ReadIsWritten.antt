-- Every sheet that reads is what writing its jobs gives, byte for byte (R-2.2).
use mathlib.Core.Path.{◌≡◌, refl, sym, ap, ap₂, ◌∙◌}
use mathlib.Core.Bool.{not}
use mathlib.Core.List.{List, [], ◌∷◌, ◌++◌}
use Prim.Native.Nat.{ℕ, zero, suc, ◌+◌, ◌*◌, ◌≤◌, ◌<◌}
use native.Mathlib.Omega.{arith}
use lib.ListN.{length, take, drop, length-drop, take-append-drop}
use lib.Seq.{take-add, take_all, drop-drop, length-take-le}
use borrow.Author.Tests.{le-ltb, eq-eqb}
use Rattle.counting.specs.Counting.{sum, joined}
use Rattle.counting.proofs.Ranges.{none_any}
use Rattle.counting.proofs.Joins.{joined_same}
use Rattle.checking.proofs.Order.{none_failing, together_passed}
use Rattle.sheet_format.specs.declared.Job.{Job}
use Rattle.sheet_format.specs.Figures.{record_size, trailer_size}
use Rattle.words.specs.Words.{byte_at}
use Rattle.sheet_format.specs.Format.{record_bytes, trailer_bytes, label_length, label_lengths, sheet_bytes}
use Rattle.sheet_format.specs.Format.{jobs_in, places, trailer_at, offset_of, count_of, cabinet_of, job_of, labels_of}
use Rattle.sheet_format.specs.Checks.{faulty, too_short, figure_checks, content_checks}
use Rattle.sheet_format.proofs.Trailers.{fit_passed}
use Rattle.sheet_format.proofs.Lists.{job_in-place}
use Rattle.sheet_format.proofs.Cuts.{lengths_same, labels_same}
use Rattle.sheet_format.proofs.Digits.{record_back, trailer_back}
use Rattle.sheet.specs.declared.Reading.{Reading}
use Rattle.sheet.specs.Read.{read_refusal, reading}
use Rattle.sheet.specs.Label.{label_refusal, label_of}
use Rattle.sheet.specs.Write.{over, write_checks, write_refusal, write_answer, write_leaves}
use Rattle.sheet.specs.RoundTrip.{rewrite_answer, rewrite_leaves}
use Rattle.sheet.proofs.Answers.{read_number, read_answer, reads}
use Rattle.sheet.proofs.Labels.{label_there}

module _ (s : List ℕ) (e : read_refusal s ≡ 0) where
  abbrev n : ℕ
  n = count_of s

  abbrev o : ℕ
  o = offset_of s

  -- the labels, run together
  labels_run : (i : ℕ) → i ≤ n → joined i (label_of s) ≡ take (label_lengths i (job_of s)) s
  unfolding joined label_of sum
  labels_run zero l = refl
  labels_run (suc i) l =
      let there : label_refusal s i ≡ 0 = sym (label_there s i e (omega arith)) in
      rw there
      (ap (λ (x : List ℕ). x ++ take (label_length (job_of s i)) (drop (label_lengths i (job_of s)) s)) (labels_run i (omega arith))
      ∙ sym (take-add (label_lengths i (job_of s)) (label_length (job_of s i)) s))

  pub labels_are : joined n (label_of s) ≡ labels_of s
  labels_are = labels_run n (omega arith) ∙ ap (λ (k : ℕ). take k s) (reads s e).lengths

  module _ (bytes : (i : ℕ) → byte_at s i < 256) where
    -- the records
    records_run : (i : ℕ) → o + record_size * i ≤ length s
        → joined i (λ k. record_bytes (job_of s k)) ≡ take (record_size * i) (drop o s)
    unfolding joined
    records_run zero h = refl
    records_run (suc i) h =
        let next : record_size * suc i ≡ record_size * i + record_size = omega arith in
        rw next
        (ap₂ ◌++◌ (records_run i (omega arith)) (record_back s bytes (o + record_size * i) (omega arith))
        ∙ ap (λ (x : List ℕ). take (record_size * i) (drop o s) ++ take record_size x) (sym (drop-drop (record_size * i) o s))
        ∙ sym (take-add (record_size * i) record_size (drop o s)))

    -- the trailer
    trailer_run : trailer_bytes o n (cabinet_of s) ≡ drop (record_size * n) (drop o s)
    trailer_run =
        let t = (reads s e).trailer in
        let long = t.long in
        let whole = t.whole in
        let at : trailer_at s ≡ o + record_size * n = omega arith in
        let size : length (drop (trailer_at s) s) ≤ trailer_size = rw (length-drop (trailer_at s) s) (omega arith) in
        trailer_back s bytes (trailer_at s) (omega arith)
        ∙ take_all trailer_size (drop (trailer_at s) s) size
        ∙ ap (λ (k : ℕ). drop k s) at
        ∙ sym (drop-drop (record_size * n) o s)

    -- the whole sheet
    sheet_again : (jobs : ℕ → Job) → ((i : ℕ) → i < n → jobs i ≡ job_of s i) → sheet_bytes jobs n (labels_of s) (cabinet_of s) ≡ s
    unfolding sheet_bytes
    sheet_again jobs same =
        let whole = (reads s e).trailer.whole in
        let size : length (labels_of s) ≡ o = length-take-le o s (omega arith) in
        let records : joined n (λ i. record_bytes (jobs i)) ≡ take (record_size * n) (drop o s) =
        joined_same n (λ i. record_bytes (jobs i)) (λ i. record_bytes (job_of s i)) (λ i l. ap record_bytes (same i l))
        ∙ records_run n (omega arith) in
        ap₂ (λ (x y : List ℕ). labels_of s ++ (x ++ y)) records (ap (λ (k : ℕ). trailer_bytes k n (cabinet_of s)) size ∙ trailer_run)
        ∙ ap (λ (x : List ℕ). labels_of s ++ x) (take-append-drop (record_size * n) (drop o s))
        ∙ take-append-drop o s

    module _ (out : List ℕ) (room : length s ≤ length out) (jobs : ℕ → Job) (same : (i : ℕ) → i < n → jobs i ≡ job_of s i) where
      writes_again : write_refusal jobs n (labels_of s) (cabinet_of s) (length out) ≡ 0
      writes_again =
          let r = reads s e in
          let t = r.trailer in
          let few = t.figures.few in
          let whole = t.whole in
          let size : length (labels_of s) ≡ o = length-take-le o s (omega arith) in
          let total : label_lengths n jobs ≡ length (labels_of s) =
          lengths_same n jobs (job_of s) same n (omega arith) ∙ r.lengths ∙ sym size in
          none_failing (write_checks jobs n (labels_of s) (cabinet_of s) (length out))
          (together_passed (figure_checks n (cabinet_of s)) (content_checks n jobs (labels_of s) ++ ((10, too_short n (labels_of s) (length out)) ∷ []))
          (fit_passed n (cabinet_of s) t.figures)
          (together_passed (content_checks n jobs (labels_of s)) ((10, too_short n (labels_of s) (length out)) ∷ []) (
            none_any n (λ i. faulty n (jobs i)) (λ i l. ap (faulty n) (same i l) ∙ r.sound i l),
            (
              ap not (eq-eqb (label_lengths n jobs) (length (labels_of s)) total),
              (labels_same n jobs (job_of s) same (labels_of s) ∙ r.printable, tt),
            ),
          )
          (le-ltb (length out) (length (labels_of s) + record_size * n + trailer_size) (omega arith), tt)))

      answer_again : write_answer jobs n (labels_of s) (cabinet_of s) out ≡ record { refusal = 0; length = length s }
      unfolding write_answer
      answer_again =
          rw writes_again (ap (λ (x : List ℕ). record { refusal = 0; length = length x }) (sheet_again jobs same))

      leaves_again : write_leaves jobs n (labels_of s) (cabinet_of s) out ≡ over s out
      unfolding write_leaves
      leaves_again = rw writes_again (ap (λ (x : List ℕ). over x out) (sheet_again jobs same))

module _ (s : List ℕ) (bytes : (i : ℕ) → byte_at s i < 256) (answered-0 : (reading s).refusal ≡ 0) (out : List ℕ)
    (room : length s ≤ length out) where
  reads_0 : read_refusal s ≡ 0
  reads_0 = sym (read_number s) ∙ answered-0

  -- the length is that of the sheet
  pub read_is-written : rewrite_answer s (reading s) out ≡ record { refusal = 0; length = length s }
  read_is-written =
      ap (λ (r : Reading). rewrite_answer s r out) (read_answer s reads_0)
      ∙ ap (λ (ls : List ℕ). write_answer (jobs_in (places (count_of s) (job_of s))) (count_of s) ls (cabinet_of s) out)
      (labels_are s reads_0)
      ∙ answer_again s reads_0 bytes out room (jobs_in (places (count_of s) (job_of s))) (job_in-place (count_of s) (job_of s))

  -- and the bytes are the sheet, over what was in the buffer
  pub read_is-written_bytes : rewrite_leaves s (reading s) out ≡ over s out
  read_is-written_bytes =
      ap (λ (r : Reading). rewrite_leaves s r out) (read_answer s reads_0)
      ∙ ap (λ (ls : List ℕ). write_leaves (jobs_in (places (count_of s) (job_of s))) (count_of s) ls (cabinet_of s) out)
      (labels_are s reads_0)
      ∙ leaves_again s reads_0 bytes out room (jobs_in (places (count_of s) (job_of s))) (job_in-place (count_of s) (job_of s))
