-- The bytes of a number: how many, below 256, and in two parts.
use mathlib.Core.Path.{◌≡◌, refl, sym, ap, ap₂, ◌∙◌}
use mathlib.Core.Logic.{◌⊎◌, inl, inr}
use mathlib.Core.List.{List, [], ◌∷◌, ◌++◌, append_assoc, append-nil}
use Prim.Native.Nat.{ℕ, zero, suc, ◌+◌, ◌-◌, ◌*◌, ◌/◌, ◌%◌, ◌^◌, ◌≤◌, ◌<◌}
use native.Mathlib.Nat.{add-zero}
use native.Mathlib.Omega.{arith}
use lib.ListN.{length, take, drop, length-drop, get_or-eq_default}
use lib.Pow.{shr-shr, field, mod-mod-pow}
use lib.Seq.{take-suc, get_or_at, get_or-drop}
use Rattle.counting.specs.Counting.{joined}
use Rattle.counting.proofs.Tests.{less-or-not}
use Rattle.counting.proofs.Joins.{joined_length, joined_same, joined_split}
use Rattle.words.specs.Words.{byte_at, bytes_of}

pub bytes-length : (k x : ℕ) → length (bytes_of k x) ≡ k
bytes-length k x = joined_length k 1 (λ i. x / 2 ^ (8 * i) % 256 ∷ []) (λ i l. refl) ∙ omega arith

-- byte i of x
pub byte_of : (k x i : ℕ) → i < k → byte_at (bytes_of k x) i ≡ x / 2 ^ (8 * i) % 256
byte_of k x i l =
    let r = joined_split k (λ j. x / 2 ^ (8 * j) % 256 ∷ []) i l in
    ap (λ (s : List ℕ). byte_at s i) r.1
    ∙ get_or_at (bytes_of i x) (x / 2 ^ (8 * i) % 256) r.0 0 i (bytes-length i x)

-- each is below 256
pub bytes_below : (k x i : ℕ) → byte_at (bytes_of k x) i < 256
bytes_below k x i = go (less-or-not i k)
  where
    go : (i < k) ⊎ (k ≤ i) → byte_at (bytes_of k x) i < 256
    go (inl l) = rw (byte_of k x i l) (omega arith)
    go (inr l) = rw (get_or-eq_default (bytes_of k x) 0 {n = i} (omega (arith, bytes-length k x))) (omega arith)

-- what stands above k bytes does not matter to them
pub bytes_low : (k x : ℕ) → bytes_of k (x % 2 ^ (8 * k)) ≡ bytes_of k x
bytes_low k x = joined_same k (λ i. x % 2 ^ (8 * k) / 2 ^ (8 * i) % 256 ∷ []) (λ i. x / 2 ^ (8 * i) % 256 ∷ []) (λ i l.
    let e : 8 * k ≡ 8 * (k - suc i) + (8 + 8 * i) = omega arith in
    ap (λ (b : ℕ). b ∷ [])
    (sym (field (x % 2 ^ (8 * k)) 8 (8 * i))
    ∙ ap (λ (y : ℕ). y / 2 ^ (8 * i)) (ap (λ (n : ℕ). x % 2 ^ n % 2 ^ (8 + 8 * i)) e ∙ mod-mod-pow x (8 * (k - suc i)) (8 + 8 * i))
    ∙ field x 8 (8 * i)))

-- the a lowest bytes, and the b above them
pub bytes_parts : (a b x : ℕ) → bytes_of (a + b) x ≡ bytes_of a x ++ bytes_of b (x / 2 ^ (8 * a))
unfolding joined
bytes_parts a zero x = ap (λ (n : ℕ). bytes_of n x) (add-zero a) ∙ sym (append-nil (bytes_of a x))
bytes_parts a (suc b) x =
    let e : a + suc b ≡ suc (a + b) = omega arith in
    let f : 8 * (a + b) ≡ 8 * a + 8 * b = omega arith in
    ap (λ (n : ℕ). bytes_of n x) e
    ∙ ap₂ (λ (s : List ℕ) (y : ℕ). s ++ (y % 256 ∷ [])) (bytes_parts a b x)
    (ap (λ (n : ℕ). x / 2 ^ n) f ∙ sym (shr-shr x (8 * a) (8 * b)))
    ∙ append_assoc (bytes_of a x) (bytes_of b (x / 2 ^ (8 * a))) _

-- the k bytes of a list from `at` on, one by one
pub segment : (s : List ℕ) (at k : ℕ) → at + k ≤ length s → take k (drop at s) ≡ joined k (λ i. byte_at s (at + i) ∷ [])
unfolding joined
segment s at zero h = refl
segment s at (suc k) h =
    let l : k < length (drop at s) = rw (length-drop at s) (omega arith) in
    take-suc (drop at s) k 0 l
    ∙ ap₂ (λ (x : List ℕ) (b : ℕ). x ++ (b ∷ [])) (segment s at k (omega arith)) (get_or-drop at s k 0)
