-- Laws of lists joined one behind another.
use mathlib.Core.Path.{◌≡◌, refl, sym, ap, ap₂, ◌∙◌}
use mathlib.Core.Logic.{◌⊎◌, inl, inr}
use mathlib.Core.List.{List, [], ◌++◌, append_assoc, append-nil}
use Prim.Native.Nat.{ℕ, zero, suc, ◌+◌, ◌*◌, ◌<◌}
use native.Mathlib.Omega.{arith}
use native.Mathlib.Nat.{le_refl, not-suc-le-zero}
use native.Mathlib.Numerals.{add-one}
use lib.ListN.{length, length-append}
use Rattle.counting.specs.Counting.{joined}
use Rattle.counting.proofs.Tests.{below_suc, last-or_below}

-- n lists of w elements each
pub joined_length : {A : Type 0} (n w : ℕ) (f : ℕ → List A) → ((i : ℕ) → i < n → length (f i) ≡ w) → length (joined n f) ≡ w * n
unfolding joined
joined_length zero w f h = omega arith
joined_length (suc n) w f h =
    length-append (joined n f) (f n) ∙ omega (arith, joined_length n w f (below_suc n h), h n (le_refl _))

pub joined_same : {A : Type 0} (n : ℕ) (f g : ℕ → List A) → ((i : ℕ) → i < n → f i ≡ g i) → joined n f ≡ joined n g
unfolding joined
joined_same zero f g h = refl
joined_same (suc n) f g h = ap₂ ◌++◌ (joined_same n f g (below_suc n h)) (h n (le_refl _))

-- one more
pub joined_more : {A : Type 0} (n : ℕ) (f : ℕ → List A) → joined n f ++ f n ≡ joined (n + 1) f
unfolding joined
joined_more n f = ap (λ (k : ℕ). joined k f) (sym (add-one n))

-- list i, with what is before it and what is behind it
pub joined_split : {A : Type 0} (n : ℕ) (f : ℕ → List A) (i : ℕ) → i < n → (rest : List A) × (joined n f ≡ joined i f ++ (f i ++ rest))
unfolding joined
joined_split zero f i l = absurd (not-suc-le-zero l)
joined_split {A} (suc n) f i l = go (last-or_below n i l) (joined_split n f i)
  where
    go : (i ≡ n) ⊎ (i < n) → (i < n → (rest : List A) × (joined n f ≡ joined i f ++ (f i ++ rest)))
        → (rest : List A) × (joined n f ++ f n ≡ joined i f ++ (f i ++ rest))
    go (inl e) h = ([], rw (e, append-nil (f n)))
    go (inr k) h =
        let r = h k in (
          r.0 ++ f n,
          ap (λ (l : List A). l ++ f n) r.1
              ∙ append_assoc (joined i f) (f i ++ r.0) (f n)
              ∙ ap (λ (l : List A). joined i f ++ l) (append_assoc (f i) r.0 (f n)),
        )
