-- Records and the trailer: their lengths, and records written one behind another.
use mathlib.Core.Path.{◌≡◌, refl, ap, ◌∙◌}
use mathlib.Core.List.{List, ◌++◌, append_assoc}
use Prim.Native.Nat.{ℕ, ◌+◌, ◌-◌, ◌*◌, ◌≤◌}
use native.Mathlib.Numerals.{add-one}
use native.Mathlib.Omega.{arith}
use lib.ListN.{length, drop, length-drop, length-append}
use borrow.Rule.Slice.PartMut.{put_mid}
use Rattle.counting.specs.Counting.{joined}
use Rattle.counting.proofs.Joins.{joined_length}
use Rattle.sheet_format.specs.declared.Job.{Job}
use Rattle.words.specs.Words.{bytes_of, written}
use Rattle.words.proofs.Bytes.{bytes-length}
use Rattle.words.proofs.Writes.{written_next, three_numbers}
use Rattle.words.proofs.Parts.{next_part}
use Rattle.sheet_format.specs.Figures.{record_size, trailer_size}
use Rattle.sheet_format.specs.Format.{record_bytes, trailer_bytes}
use Rattle.sheet_format.specs.declared.Cabinet.{Cabinet}

-- the first n bytes are p, and four numbers fill the rest
pub four_numbers : (l p s t u v w : List ℕ) (n h i j k a b c d : ℕ) → length p ≡ n → length l ≡ n + h + i + j + k → s ≡ p ++ drop n l
    → t ≡ written s n h a → u ≡ written t (n + h) i b → v ≡ written u (n + h + i) j c → w ≡ written v (n + h + i + j) k d
    → w ≡ p ++ (bytes_of h a ++ (bytes_of i b ++ (bytes_of j c ++ bytes_of k d)))
four_numbers l p s t u v w n h i j k a b c d e size front first second third fourth =
    three_numbers l (p ++ bytes_of h a) t u v w (n + h) i j k b c d (length-append p (bytes_of h a) ∙ omega (arith, bytes-length h a)) size
    (first ∙ ap (λ (x : List ℕ). written x n h a) front ∙ written_next l p n h a e) second third fourth
    ∙ append_assoc p (bytes_of h a) (bytes_of i b ++ (bytes_of j c ++ bytes_of k d))

length_record : (j : Job) → length (record_bytes j) ≡ record_size
unfolding record_bytes joined
length_record j = refl

pub length_records : (n : ℕ) (jobs : ℕ → Job) → length (joined n (λ i. record_bytes (jobs i))) ≡ record_size * n
length_records n jobs = joined_length n record_size (λ i. record_bytes (jobs i)) (λ i l. length_record (jobs i))

pub length_trailer : (offset n : ℕ) (C : Cabinet) → length (trailer_bytes offset n C) ≡ trailer_size
unfolding trailer_bytes joined
length_trailer offset n C = refl

-- ---- one record more

module _ (jobs : ℕ → Job) (l : List ℕ) where
  pub records_more : (i : ℕ) (part ys : List ℕ) → part ≡ joined i (λ k. record_bytes (jobs k)) ++ drop (record_size * i) l
      → ys ≡ record_bytes (jobs i)
      → put_mid (record_size * i) (record_size * i + record_size - record_size * i) part ys
      ≡ joined (i + 1) (λ k. record_bytes (jobs k)) ++ drop (record_size * (i + 1)) l
  unfolding joined record_bytes
  records_more i part ys e f =
      let k : record_size * i + record_size - record_size * i ≡ record_size = omega arith in
      let m : record_size * (i + 1) ≡ record_size * i + record_size = omega arith in
      let done : List ℕ = joined i (λ k. record_bytes (jobs k)) in
      rw (k, m, add-one, e, f) (next_part l done (record_bytes (jobs i)) (record_size * i) record_size (length_records i jobs))

  pub records-length : (i : ℕ) → record_size * i ≤ length l
      → length (joined i (λ k. record_bytes (jobs k)) ++ drop (record_size * i) l) ≡ length l
  records-length i h =
      length-append (joined i (λ k. record_bytes (jobs k))) (drop (record_size * i) l)
      ∙ omega (arith, length_records i jobs, length-drop (record_size * i) l)
