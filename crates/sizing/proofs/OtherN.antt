-- The bytes of a sheet with another count in the place of N: it reads as the same jobs, in a cabinet of that many modules.
use mathlib.Core.Path.{◌≡◌, refl, sym, ap, ap₂, subst, ◌∙◌}
use mathlib.Core.Logic.{◌⊎◌, inl, inr}
use mathlib.Core.Bool.{not}
use mathlib.Core.List.{List, [], ◌∷◌, ◌++◌}
use Prim.Native.Nat.{ℕ, ◌+◌, ◌-◌, ◌*◌, ◌≤◌, ◌<◌}
use native.Mathlib.Nat.{add-zero}
use native.Mathlib.Omega.{arith}
use lib.ListN.{length, take, drop}
use lib.Seq.{length-take-le, take-append-le, take-take}
use borrow.Author.Tests.{eq-eqb}
use Rattle.figures.specs.Figures.{most_modules}
use Rattle.words.specs.Words.{byte_at, number_at, u16_at, u32_at, bytes_of, written}
use Rattle.words.proofs.Writes.{written-length, written_here, written_other}
use Rattle.checking.proofs.Order.{Passed, all_passed, both_passed, together_passed, none_failing}
use Rattle.schedule.specs.Cabinets.{with_modules}
use Rattle.sheet_format.specs.declared.Job.{Job}
use Rattle.sheet_format.specs.Figures.{longest_sheet, record_size, trailer_size}
use Rattle.sheet_format.specs.Format.{record_at, trailer_at, offset_of, count_of, modules_of, changeover_of, cabinet, cabinet_of, job_of, labels_of, places}
use Rattle.sheet_format.specs.declared.Cabinet.{Cabinet}
use Rattle.sheet_format.specs.Checks.{wrong_offset, figure_checks, trailer_checks, content_checks}
use Rattle.sheet_format.proofs.Bounds.{not-outside}
use Rattle.sheet_format.proofs.Trailers.{FiguresFit, fit_passed}
use Rattle.sheet_format.proofs.Lists.{places_same}
use Rattle.sheet_format.proofs.Cuts.{content_same}
use Rattle.sheet.specs.declared.Reading.{Reading}
use Rattle.sheet.specs.Read.{read_checks, read_refusal, answered, reading}
use Rattle.sheet.proofs.Answers.{Trailer, reads, read_answer}
use Rattle.planable.specs.Planable.{sheet_on, sheet_in}
use Rattle.sizing.specs.Promised.{with_n}

one_byte : (s : List ℕ) (a : ℕ) → number_at s a 1 ≡ byte_at s a
unfolding number_at
one_byte s a = simp add-zero (omega arith)

module _ (s : List ℕ) (e : read_refusal s ≡ 0) (k : ℕ) (some : 1 ≤ k) (most : k ≤ most_modules) where
  abbrev r : List ℕ
  r = with_n s k

  abbrev n : ℕ
  n = count_of s

  abbrev o : ℕ
  o = offset_of s

  abbrev at : ℕ
  at = trailer_at s

  t : Trailer s
  t = (reads s e).trailer

  fits : at + 6 + 2 ≤ length s
  fits = omega (arith, t.long)

  length_is : length r ≡ length s
  unfolding with_n
  length_is = written-length s (at + 6) 2 k fits

  at_is : trailer_at r ≡ at
  at_is = ap (λ (l : ℕ). l - trailer_size) length_is

  -- what does not overlap N stays
  other : (a w : ℕ) → (a + w ≤ at + 6) ⊎ (at + 6 + 2 ≤ a) → number_at r a w ≡ number_at s a w
  unfolding with_n
  other a w d = written_other s (at + 6) 2 k fits a w d

  offset_is : offset_of r ≡ o
  offset_is = ap (u32_at r) at_is ∙ other at 4 (inl (omega arith))

  count_is : count_of r ≡ n
  count_is = ap (λ (a : ℕ). u16_at r (a + 4)) at_is ∙ other (at + 4) 2 (inl (omega arith))

  modules_is : modules_of r ≡ k
  unfolding with_n
  modules_is = ap (λ (a : ℕ). u16_at r (a + 6)) at_is ∙ written_here s (at + 6) 2 k fits (omega arith)

  changeover_is : changeover_of r ≡ changeover_of s
  changeover_is = ap (λ (a : ℕ). u16_at r (a + 8)) at_is ∙ other (at + 8) 2 (inr (omega arith))

  cabinet_is : cabinet_of r ≡ cabinet k (changeover_of s)
  cabinet_is = ap₂ cabinet modules_is changeover_is

  before : o + record_size * n ≤ at
  before = omega (arith, t.whole)

  labels_is : labels_of r ≡ labels_of s
  unfolding with_n written
  labels_is =
      let front = length-take-le (at + 6) s (omega (arith, fits)) in
      ap (λ (i : ℕ). take i r) offset_is
      ∙ take-append-le o (take (at + 6) s) (bytes_of 2 k ++ drop (at + 6 + 2) s) (omega (arith, before))
      ∙ take-take o (at + 6) s (omega (arith, before))

  job_is : (i : ℕ) → i < n → job_of r i ≡ job_of s i
  unfolding record_at
  job_is i l =
      let b = o + record_size * i in
      let low : b + record_size ≤ at = omega (arith, before) in
      let first : byte_at r b ≡ byte_at s b = sym (one_byte r b) ∙ other b 1 (inl (omega arith)) ∙ one_byte s b in
      let second : byte_at r (b + 1) ≡ byte_at s (b + 1) = sym (one_byte r (b + 1)) ∙ other (b + 1) 1 (inl (omega arith)) ∙ one_byte s (b + 1) in
      ap (λ (x : ℕ). record_at r (x + record_size * i)) offset_is
      ∙ rw (
        first,
        second,
        other (b + 2) 2 (inl (omega arith)),
        other (b + 4) 4 (inl (omega arith)),
        other (b + 8) 2 (inl (omega arith)),
        other (b + 10) 2 (inl (omega arith)),
      ) refl

  -- ---- it reads

  pub still_reads : read_refusal r ≡ 0
  still_reads =
      let fit : FiguresFit (count_of r) (cabinet_of r) =
      rw (count_is, cabinet_is) (record { few = t.figures.few; some = some; most = most; rests = t.figures.rests }) in
      let content : content_checks (count_of r) (job_of r) (labels_of r) ≡ content_checks n (job_of s) (labels_of s) =
      ap₂ (λ (m : ℕ) (ls : List ℕ). content_checks m (job_of r) ls) count_is labels_is ∙ content_same n (job_of r) (job_of s) job_is (labels_of s) in
      let passed = both_passed (trailer_checks s) (content_checks n (job_of s) (labels_of s)) (all_passed (read_checks s) refl e) in
      none_failing (read_checks r) (together_passed (trailer_checks r) (content_checks (count_of r) (job_of r) (labels_of r)) (
        not-outside trailer_size longest_sheet (length r) (omega (arith, length_is, t.long)) (omega (arith, length_is, t.short)),
        together_passed (figure_checks (count_of r) (cabinet_of r)) ((4, wrong_offset r) ∷ []) (fit_passed (count_of r) (cabinet_of r) fit)
            (ap not (eq-eqb (offset_of r + record_size * count_of r + trailer_size) (length r) (omega (arith, offset_is, count_is, length_is, t.whole))), tt),
      )
      (subst Passed (sym content) passed.1))

  -- as the same jobs in that cabinet
  pub other_reads : reading r ≡ answered n (job_of s) (cabinet k (changeover_of s))
  other_reads =
      let jobs : places (count_of r) (job_of r) ≡ places n (job_of s) =
      ap (λ (m : ℕ). places m (job_of r)) count_is ∙ places_same n (job_of r) (job_of s) job_is in
      read_answer r still_reads
      ∙ ap₂ (λ (m : ℕ) (C : Cabinet). record {
        refusal = 0;
        jobs = places (count_of r) (job_of r);
        count = m;
        modules = C.modules;
        changeover = C.changeover;
      }) count_is cabinet_is
      ∙ ap (λ (js : List Job). record { refusal = 0; jobs = js; count = n; modules = k; changeover = changeover_of s }) jobs

  pub in-cabinet : sheet_in r ≡ with_modules (sheet_in s) k
  in-cabinet = ap sheet_on other_reads ∙ sym (ap (λ (x : Reading). with_modules (sheet_on x) k) (read_answer s e))
