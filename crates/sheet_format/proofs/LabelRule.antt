-- What check 7 says of each label, and that the labels' bytes are the label bytes there are.
use mathlib.Core.Path.{◌≡◌, sym, ap, ◌∙◌}
use mathlib.Core.Logic.{◌⊎◌, inl, inr, ⊎_elim, ◌↔◌}
use mathlib.Core.Bool.{true, false, ◌||◌}
use mathlib.Core.List.{List}
use Prim.Native.Nat.{ℕ, ◌+◌, ◌-◌, ◌≤◌, ◌<◌}
use native.Mathlib.Omega.{arith}
use lib.Dec.{ltb, eqb}
use lib.ListN.{length, drop, length-drop}
use lib.Seq.{length-take-le, get_or-take, get_or-drop}
use borrow.Author.Tests.{ltb-true, lt-ltb, eqb-true, eq-eqb, eqb-false}
use Rattle.counting.specs.Counting.{any}
use Rattle.counting.proofs.Tests.{or_left, or_right, or_either, or_first, or_second}
use Rattle.counting.proofs.Ranges.{any_same, any_none, any_at, any_some, any_by_parts}
use Rattle.words.specs.Words.{byte_at}
use Rattle.sheet_format.specs.declared.Job.{Job}
use Rattle.sheet_format.specs.Figures.{first_label_byte, last_label_byte, space, longest_label}
use Rattle.sheet_format.specs.Format.{label_length, label_lengths, label_in}
use Rattle.sheet_format.specs.Checks.{outside, wrong_bytes, wrong_label, WrongLabel, LegalLabel, wrong_labels}
use Rattle.sheet_format.proofs.Bounds.{inside}
use Rattle.sheet_format.proofs.Cuts.{label_within}

-- ---- a label

abbrev low : ℕ
low = first_label_byte

abbrev high : ℕ
high = last_label_byte

outside_when : (x : ℕ) → (outside low high x ≡ true) ↔ ((x < low) ⊎ (high < x))
unfolding outside
outside_when x = (
  λ e. ⊎_elim (λ a. inl (ltb-true x low a)) (λ b. inr (ltb-true high x b)) (or_either (ltb x low) (ltb high x) e),
  λ d. ⊎_elim (λ a. or_first (ltb x low) (ltb high x) (lt-ltb x low a)) (λ b. or_second (ltb x low) (ltb high x) (lt-ltb high x b)) d,
)

module _ (l : List ℕ) where
  abbrev first : ℕ
  first = byte_at l 0

  abbrev last : ℕ
  last = byte_at l (length l - 1)

  -- A label is wrong exactly where one of its bytes is below 32 or above 126, or its first or its last is a space.
  pub wrong_when : (wrong_label l ≡ true) ↔ WrongLabel l
  unfolding wrong_label
  wrong_when = (
    λ e. ⊎_elim
        (λ a. let r = any_some (length l) (λ k. outside low high (byte_at l k)) a in inl (r.0, r.1, (outside_when (byte_at l r.0)).0 r.2))
        (λ b. inr (⊎_elim (λ x. inl (eqb-true first space x)) (λ y. inr (eqb-true last space y)) (or_either (eqb first space) (eqb last space) b)))
        (or_either (wrong_bytes l) (eqb first space || eqb last space) e),
    λ w. ⊎_elim
        (λ a. or_first (wrong_bytes l) _
        (any_at (length l) (λ k. outside low high (byte_at l k)) a.0 a.1 ((outside_when (byte_at l a.0)).1 a.2)))
        (λ b. or_second (wrong_bytes l) _
        (⊎_elim (λ x. or_first (eqb first space) (eqb last space) (eq-eqb first space x))
        (λ y. or_second (eqb first space) (eqb last space) (eq-eqb last space y)) b))
        w,
  )

  -- One that is not, of 1 to 16 bytes, is a label as it must be.
  pub legal_label : 1 ≤ length l → length l ≤ longest_label → wrong_label l ≡ false → LegalLabel l
  unfolding wrong_label
  legal_label some most e =
      let bytes = or_left (wrong_bytes l) (eqb first space || eqb last space) e in
      let edges = or_right (wrong_bytes l) (eqb first space || eqb last space) e in
      record {
        some = some;
        most = most;
        bytes = λ k m. inside low high (byte_at l k) (any_none (length l) (λ i. outside low high (byte_at l i)) bytes k m);
        first = eqb-false first space (or_left (eqb first space) (eqb last space) edges);
        last = eqb-false last space (or_right (eqb first space) (eqb last space) edges);
      }

-- ---- the labels of n jobs

module _ (n : ℕ) (jobs : ℕ → Job) (labels : List ℕ) where
  pub wrong_labels_when : (wrong_labels n jobs labels ≡ true) ↔ ((i : ℕ) × (i < n) × WrongLabel (label_in jobs labels i))
  wrong_labels_when = (
    λ e.
        let r = any_some n (λ i. wrong_label (label_in jobs labels i)) e in
        (r.0, r.1, (wrong_when (label_in jobs labels r.0)).0 r.2),
    λ w. any_at n (λ i. wrong_label (label_in jobs labels i)) w.0 w.1 ((wrong_when (label_in jobs labels w.0)).1 w.2),
  )

  module _ (whole : label_lengths n jobs ≡ length labels) where
    pub label-length : (i : ℕ) → i < n → length (label_in jobs labels i) ≡ label_length (jobs i)
    label-length i l =
        length-take-le (label_length (jobs i)) (drop (label_lengths i jobs) labels)
        (omega (arith, length-drop (label_lengths i jobs) labels, label_within jobs n i l))

    label_byte : (i k : ℕ) → k < label_length (jobs i) → byte_at (label_in jobs labels i) k ≡ byte_at labels (label_lengths i jobs + k)
    label_byte i k l =
        get_or-take (label_length (jobs i)) (drop (label_lengths i jobs) labels) k 0 l ∙ get_or-drop (label_lengths i jobs) labels k 0

    -- Where the lengths add up, some label has a byte below 32 or above 126 exactly where some of the label bytes there are is one.
    pub bytes_of_labels : any n (λ i. wrong_bytes (label_in jobs labels i)) ≡ wrong_bytes labels
    bytes_of_labels =
        any_same n (λ i. wrong_bytes (label_in jobs labels i))
        (λ i. any (label_length (jobs i)) (λ k. outside low high (byte_at labels (label_lengths i jobs + k)))) (λ i l.
        ap (λ (m : ℕ). any m (λ k. outside low high (byte_at (label_in jobs labels i) k))) (label-length i l)
        ∙ any_same (label_length (jobs i)) (λ k. outside low high (byte_at (label_in jobs labels i) k))
        (λ k. outside low high (byte_at labels (label_lengths i jobs + k))) (λ k m. ap (outside low high) (label_byte i k m)))
        ∙ sym (any_by_parts n (λ i. label_length (jobs i)) (λ k. outside low high (byte_at labels k)))
        ∙ ap (λ (m : ℕ). any m (λ k. outside low high (byte_at labels k))) whole
