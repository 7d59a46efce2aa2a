-- Lists with numbers written at their places: what stands there, what stands beside it, and numbers one behind another.
use mathlib.Core.Path.{◌≡◌, sym, ap, ap₂, ◌∙◌}
use mathlib.Core.Logic.{◌⊎◌, inl, inr, ⊎_elim}
use mathlib.Core.List.{List, [], ◌∷◌, ◌++◌, append_assoc}
use Prim.Native.Nat.{ℕ, ◌+◌, ◌-◌, ◌*◌, ◌/◌, ◌%◌, ◌^◌, ◌≤◌, ◌<◌}
use native.Mathlib.Omega.{arith}
use native.Mathlib.Nat.{add_assoc, div-one}
use native.Mathlib.Numerals.{add-one}
use lib.ListN.{length, take, drop, set, length-append, length-drop, get_or-append}
use lib.Seq.{sets-eq, take_at, drop_at, drop-drop, length-take-le, get_or-append-add, get_or-take, get_or-drop}
use Rattle.counting.specs.Counting.{joined}
use Rattle.words.specs.Words.{byte_at, number_at, bytes_of, written}
use Rattle.words.proofs.Bytes.{bytes-length, bytes_low, bytes_parts}
use Rattle.words.proofs.Numbers.{number_same, number_next}
use Rattle.words.proofs.Parts.{whole}
use borrow.Rule.Slice.PartMut.{put_mid}

-- ---- one number

module _ (s : List ℕ) (at k x : ℕ) (h : at + k ≤ length s) where
  front_length : length (take at s) ≡ at
  front_length = length-take-le at s (omega arith)

  pub written-length : length (written s at k x) ≡ length s
  unfolding written
  written-length = simp (length-append, length-drop) (omega (arith, front_length, bytes-length k x))

  pub written_here : x < 2 ^ (8 * k) → number_at (written s at k x) at k ≡ x
  unfolding written
  written_here l = number_next at k x (take at s) (drop (at + k) s) front_length l

  written_byte : (i : ℕ) → (i < at) ⊎ (at + k ≤ i) → byte_at (written s at k x) i ≡ byte_at s i
  unfolding written
  written_byte i (inl l) =
      get_or-append (take at s) (bytes_of k x ++ drop (at + k) s) 0 i (omega (arith, front_length)) ∙ get_or-take at s i 0 l
  written_byte i (inr l) =
      let j = i - (at + k) in
      let e : i ≡ length (take at s) + (length (bytes_of k x) + j) = omega (arith, front_length, bytes-length k x) in
      let f : at + k + j ≡ i = omega arith in
      ap (byte_at (take at s ++ (bytes_of k x ++ drop (at + k) s))) e
      ∙ get_or-append-add (take at s) (bytes_of k x ++ drop (at + k) s) (length (bytes_of k x) + j) 0
      ∙ get_or-append-add (bytes_of k x) (drop (at + k) s) j 0 ∙ get_or-drop (at + k) s j 0 ∙ ap (byte_at s) f

  -- a number that does not overlap it stays
  pub written_other : (a n : ℕ) → (a + n ≤ at) ⊎ (at + k ≤ a) → number_at (written s at k x) a n ≡ number_at s a n
  written_other a n d = number_same (written s at k x) s a a n (λ i l.
      written_byte (a + i) (⊎_elim (λ z. inl (omega arith)) (λ z. inr (omega arith)) d))

-- ---- one behind another

-- the first n bytes are p now, and a number is written behind them
pub written_next : (l p : List ℕ) (n k x : ℕ) → length p ≡ n → written (p ++ drop n l) n k x ≡ (p ++ bytes_of k x) ++ drop (n + k) l
unfolding written
written_next l p n k x e =
    ap₂ (λ (s t : List ℕ). s ++ (bytes_of k x ++ t)) (take_at p (drop n l) n e) (dropped k)
    ∙ sym (append_assoc p (bytes_of k x) (drop (n + k) l))
  where
    dropped : (k : ℕ) → drop (n + k) (p ++ drop n l) ≡ drop (n + k) l
    dropped k = sym (drop-drop k n (p ++ drop n l)) ∙ ap (drop k) (drop_at p (drop n l) n e) ∙ drop-drop k n l

-- the first n bytes are p, and three numbers fill the rest
pub three_numbers : (l p s t u v : List ℕ) (n i j k x y z : ℕ) → length p ≡ n → length l ≡ n + i + j + k → s ≡ p ++ drop n l
    → t ≡ written s n i x → u ≡ written t (n + i) j y → v ≡ written u (n + i + j) k z
    → v ≡ p ++ (bytes_of i x ++ (bytes_of j y ++ bytes_of k z))
three_numbers l p s t u v n i j k x y z e h front a b c =
    c
    ∙ ap (λ (w : List ℕ). written w (n + i + j) k z)
    (b ∙ ap (λ (w : List ℕ). written w (n + i) j y) (a ∙ ap (λ (w : List ℕ). written w n i x) front ∙ written_next l p n i x e)
    ∙ written_next l (p ++ bytes_of i x) (n + i) j y one)
    ∙ written_next l ((p ++ bytes_of i x) ++ bytes_of j y) (n + i + j) k z two
    ∙ whole l (((p ++ bytes_of i x) ++ bytes_of j y) ++ bytes_of k z) (n + i + j + k) (omega arith)
    ∙ append_assoc (p ++ bytes_of i x) (bytes_of j y) (bytes_of k z) ∙ append_assoc p (bytes_of i x) (bytes_of j y ++ bytes_of k z)
  where
    one : length (p ++ bytes_of i x) ≡ n + i
    one = length-append p (bytes_of i x) ∙ omega (arith, bytes-length i x)

    two : length ((p ++ bytes_of i x) ++ bytes_of j y) ≡ n + i + j
    two = length-append (p ++ bytes_of i x) (bytes_of j y) ∙ omega (arith, one, bytes-length j y)

-- ---- a number in two parts

pub written_parts : (s : List ℕ) (at a b x : ℕ) → at + a ≤ length s
    → written (written s at a (x % 2 ^ (8 * a))) (at + a) b (x / 2 ^ (8 * a)) ≡ written s at (a + b) x
unfolding written
written_parts s at a b x h =
    let front = length-take-le at s (omega arith) in
    let p = take at s ++ bytes_of a x in
    let size : length p ≡ at + a = length-append (take at s) (bytes_of a x) ∙ omega (arith, front, bytes-length a x) in
    ap (λ (l : List ℕ). written (take at s ++ (l ++ drop (at + a) s)) (at + a) b (x / 2 ^ (8 * a))) (bytes_low a x)
    ∙ ap (λ (l : List ℕ). written l (at + a) b (x / 2 ^ (8 * a))) (sym (append_assoc (take at s) (bytes_of a x) (drop (at + a) s)))
    ∙ written_next s p (at + a) b (x / 2 ^ (8 * a)) size
    ∙ append_assoc p (bytes_of b (x / 2 ^ (8 * a))) (drop (at + a + b) s)
    ∙ append_assoc (take at s) (bytes_of a x) (bytes_of b (x / 2 ^ (8 * a)) ++ drop (at + a + b) s)
    ∙ ap (λ (l : List ℕ). take at s ++ l)
    (sym (append_assoc (bytes_of a x) (bytes_of b (x / 2 ^ (8 * a))) (drop (at + a + b) s))
    ∙ ap₂ (λ (l : List ℕ) (n : ℕ). l ++ drop n s) (sym (bytes_parts a b x)) (add_assoc at a b))

-- two stored bytes are a number of two bytes
pub stored_two : (s : List ℕ) (at x : ℕ) → at + 2 ≤ length s → x < 65536
    → set (set s at (x % 256)) (at + 1) (x / 256) ≡ written s at 2 x
unfolding written joined
stored_two s at x h l =
    let low : x % 256 ≡ x / 2 ^ (8 * 0) % 256 = omega arith in
    let high : x / 256 ≡ x / 2 ^ (8 * 1) % 256 = omega arith in
    ap (λ (n : ℕ). set (set s at (x % 256)) n (x / 256)) (add-one at)
    ∙ sets-eq (x % 256 ∷ x / 256 ∷ []) s at h
    ∙ append_assoc (take at s) (x % 256 ∷ x / 256 ∷ []) (drop (at + 2) s)
    ∙ ap₂ (λ (a b : ℕ). take at s ++ (a ∷ b ∷ drop (at + 2) s)) low high

-- ---- a number's bytes in a part of the slice

-- the lowest byte, as it is and as `bytes_of` has it
pub lowest_byte : (x : ℕ) (ys : List ℕ) → (x % 256 ∷ ys) ≡ (x / 2 ^ (8 * 0) % 256 ∷ ys)
lowest_byte x ys = ap (λ (y : ℕ). y % 256 ∷ ys) (sym (div-one x))

pub written_part : (s ys : List ℕ) (at k x : ℕ) → ys ≡ bytes_of k x → put_mid at (at + k - at) s ys ≡ written s at k x
unfolding written
written_part s ys at k x e =
    let end : at + (at + k - at) ≡ at + k = omega arith in
    ap₂ (λ (b t : List ℕ). take at s ++ (b ++ t)) e (drop-drop (at + k - at) at s ∙ ap (λ (n : ℕ). drop n s) end)
