-- Numbers read from bytes: from a front, from behind, from a part, and from one of several lists of one length; the round trip both ways.
use mathlib.Core.Path.{◌≡◌, refl, sym, ap, ap₂, ◌∙◌}
use mathlib.Core.Logic.{◌⊎◌, inl, inr}
use mathlib.Core.List.{List, [], ◌∷◌, ◌++◌, append_assoc}
use Prim.Native.Nat.{ℕ, zero, suc, ◌+◌, ◌*◌, ◌/◌, ◌%◌, ◌^◌, ◌≤◌, ◌<◌}
use native.Mathlib.Omega.{arith}
use native.Mathlib.Nat.{add-zero, add_assoc, le_refl, mod-one, mod-eq_of_lt, not-suc-le-zero, mul-le-mul_right}
use lib.ListN.{length, get_or, take, drop, replicate, get_or-replicate, get_or-append}
use lib.Pow.{pow-add, mod-pow-add, high, low}
use lib.Seq.{get_or-append-add, get_or_at, get_or-take, get_or-drop}
use Rattle.counting.specs.Counting.{joined}
use Rattle.counting.proofs.Tests.{last-or_below, below_suc}
use Rattle.counting.proofs.Joins.{joined_length}
use Rattle.words.specs.Words.{byte_at, number_at, bytes_of}
use Rattle.words.proofs.Bytes.{bytes-length, bytes_low, segment}

-- equal bytes, equal numbers
pub number_same : (s r : List ℕ) (a b k : ℕ) → ((i : ℕ) → i < k → byte_at s (a + i) ≡ byte_at r (b + i)) → number_at s a k ≡ number_at r b k
unfolding number_at
number_same s r a b zero h = refl
number_same s r a b (suc k) h =
    ap₂ (λ (x y : ℕ). x * 2 ^ (8 * k) + y) (h k (le_refl _)) (number_same s r a b k (below_suc k h))

-- two, four and eight bytes: a byte or a number, and another above it
pub two_bytes : (s : List ℕ) (at : ℕ) → number_at s at 2 ≡ byte_at s at + byte_at s (at + 1) * 256
unfolding number_at
two_bytes s at = simp add-zero (omega arith)

pub four_bytes : (s : List ℕ) (at : ℕ) → number_at s at 4 ≡ number_at s at 2 + number_at s (at + 2) 2 * 65536
unfolding number_at
four_bytes s at = simp (add-zero, add_assoc) (omega arith)

pub eight_bytes : (s : List ℕ) (at : ℕ) → number_at s at 8 ≡ number_at s at 4 + number_at s (at + 4) 4 * 4294967296
unfolding number_at
eight_bytes s at = simp (add-zero, add_assoc) (omega arith)

-- ---- where it stands

pub number_front : (xs ys : List ℕ) (a k : ℕ) → a + k ≤ length xs → number_at (xs ++ ys) a k ≡ number_at xs a k
number_front xs ys a k l = number_same (xs ++ ys) xs a a k (λ i m. get_or-append xs ys 0 (a + i) (omega arith))

pub number_behind : (xs ys : List ℕ) (n a k : ℕ) → length xs ≡ n → number_at (xs ++ ys) (n + a) k ≡ number_at ys a k
number_behind xs ys n a k e = number_same (xs ++ ys) ys (n + a) a k (λ i m.
    ap (λ (x : ℕ). get_or (xs ++ ys) x 0) (add_assoc n a i ∙ ap (λ (x : ℕ). x + (a + i)) (sym e)) ∙ get_or-append-add xs ys (a + i) 0)

-- in a part of n bytes from b on
pub number_part : (s : List ℕ) (n b a k : ℕ) → a + k ≤ n → number_at (take n (drop b s)) a k ≡ number_at s (b + a) k
number_part s n b a k l = number_same (take n (drop b s)) s a (b + a) k (λ i m.
    get_or-take n (drop b s) (a + i) 0 (omega arith) ∙ get_or-drop b s (a + i) 0 ∙ ap (λ (x : ℕ). get_or s x 0) (sym (add_assoc b a i)))

-- bytes that are all 0
pub number-zero : (n a k : ℕ) → a + k ≤ n → number_at (replicate n 0) a k ≡ 0
unfolding number_at
number-zero n a zero l = refl
number-zero n a (suc k) l =
    ap₂ (λ (x y : ℕ). x * 2 ^ (8 * k) + y) (get_or-replicate n (a + k) 0 0 (omega arith)) (number-zero n a k (omega arith)) ∙ omega arith

-- in the j-th of n lists of w bytes
pub number_joined : (n w : ℕ) (f : ℕ → List ℕ) → ((i : ℕ) → i < n → length (f i) ≡ w) → (rest : List ℕ) (j a k : ℕ) → j < n → a + k ≤ w
    → number_at (joined n f ++ rest) (w * j + a) k ≡ number_at (f j) a k
unfolding joined
number_joined zero w f h rest j a k l m = absurd (not-suc-le-zero l)
number_joined (suc n) w f h rest j a k l m =
    ap (λ (s : List ℕ). number_at s (w * j + a) k) (append_assoc (joined n f) (f n) rest)
    ∙ go (last-or_below n j l) (λ d. number_joined n w f (below_suc n h) (f n ++ rest) j a k d m)
  where
    go : (j ≡ n) ⊎ (j < n) → (j < n → number_at (joined n f ++ (f n ++ rest)) (w * j + a) k ≡ number_at (f j) a k)
        → number_at (joined n f ++ (f n ++ rest)) (w * j + a) k ≡ number_at (f j) a k
    go (inr d) g = g d
    go (inl e) g = rw e (
        number_behind (joined n f) (f n ++ rest) (w * n) a k (joined_length n w f (below_suc n h))
        ∙ number_front (f n) rest a k (omega (arith, h n (le_refl _))))

-- ---- what is written is read

bytes-mod : (k x : ℕ) → number_at (bytes_of k x) 0 k ≡ x % 2 ^ (8 * k)
unfolding number_at joined
bytes-mod zero x = sym (mod-one x)
bytes-mod (suc k) x =
    let b = x / 2 ^ (8 * k) % 256 in
    let low = number_front (bytes_of k x) (b ∷ []) 0 k (omega (arith, bytes-length k x)) ∙ bytes-mod k x in
    let top : get_or (bytes_of k x ++ (b ∷ [])) (0 + k) 0 ≡ b = get_or_at (bytes_of k x) b [] 0 (0 + k) (bytes-length k x ∙ omega arith) in
    let more : 8 + 8 * k ≡ 8 * suc k = omega arith in
    ap₂ (λ (y z : ℕ). y * 2 ^ (8 * k) + z) top low ∙ sym (mod-pow-add x 8 (8 * k)) ∙ ap (λ (i : ℕ). x % 2 ^ i) more

pub number_bytes : (k x : ℕ) → x < 2 ^ (8 * k) → number_at (bytes_of k x) 0 k ≡ x
number_bytes k x l = bytes-mod k x ∙ mod-eq_of_lt l

-- with others behind it, and behind others
pub number_first : (k x : ℕ) (ys : List ℕ) → x < 2 ^ (8 * k) → number_at (bytes_of k x ++ ys) 0 k ≡ x
number_first k x ys l = number_front (bytes_of k x) ys 0 k (omega (arith, bytes-length k x)) ∙ number_bytes k x l

pub number_next : (n k x : ℕ) (xs ys : List ℕ) → length xs ≡ n → x < 2 ^ (8 * k) → number_at (xs ++ (bytes_of k x ++ ys)) n k ≡ x
number_next n k x xs ys e l =
    ap (λ (i : ℕ). number_at (xs ++ (bytes_of k x ++ ys)) i k) (sym (add-zero n))
    ∙ number_behind xs (bytes_of k x ++ ys) n 0 k e ∙ number_first k x ys l

pub number_last : (n k x : ℕ) (xs : List ℕ) → length xs ≡ n → x < 2 ^ (8 * k) → number_at (xs ++ bytes_of k x) n k ≡ x
number_last n k x xs e l =
    ap (λ (i : ℕ). number_at (xs ++ bytes_of k x) i k) (sym (add-zero n))
    ∙ number_behind xs (bytes_of k x) n 0 k e ∙ number_bytes k x l

-- ---- what is read is written

module _ (s : List ℕ) (bytes : (i : ℕ) → byte_at s i < 256) (at : ℕ) where
  pub number_below : (k : ℕ) → number_at s at k < 2 ^ (8 * k)
  unfolding number_at
  number_below zero = omega arith
  number_below (suc k) =
      let e : 8 * suc k ≡ 8 + 8 * k = omega arith in
      let p : 2 ^ (8 * suc k) ≡ 256 * 2 ^ (8 * k) = ap (λ (n : ℕ). 2 ^ n) e ∙ pow-add 2 8 (8 * k) in
      let m : (byte_at s (at + k) + 1) * 2 ^ (8 * k) ≤ 256 * 2 ^ (8 * k) = mul-le-mul_right (2 ^ (8 * k)) (omega (arith, bytes (at + k))) in
      omega (arith, number_below k)

  -- byte by byte
  pub bytes_each : (k : ℕ) → bytes_of k (number_at s at k) ≡ joined k (λ i. byte_at s (at + i) ∷ [])
  unfolding number_at joined
  bytes_each zero = refl
  bytes_each (suc k) =
      let b = byte_at s (at + k) in
      let x = b * 2 ^ (8 * k) + number_at s at k in
      let l = number_below k in
      ap₂ (λ (t : List ℕ) (y : ℕ). t ++ (y ∷ []))
      (sym (bytes_low k x) ∙ ap (bytes_of k) (low b (8 * k) l) ∙ bytes_each k)
      (ap (λ (y : ℕ). y % 256) (high b (8 * k) l) ∙ mod-eq_of_lt (bytes (at + k)))

  pub bytes_number : (k : ℕ) → at + k ≤ length s → bytes_of k (number_at s at k) ≡ take k (drop at s)
  bytes_number k h = bytes_each k ∙ sym (segment s at k h)
