-- Values put into a list one after another.
use mathlib.Core.Path.{◌≡◌, refl, ◌∙◌}
use mathlib.Core.Logic.{◌⊎◌, inl, inr, ◌≢◌}
use mathlib.Core.List.{List}
use Prim.Native.Nat.{ℕ, ◌+◌, ◌≤◌, ◌<◌}
use native.Mathlib.Omega.{arith}
use native.Mathlib.Nat.{not-suc-le-zero}
use lib.ListN.{length, get_or, set, length-set, get_or-eq_default}
use lib.Seq.{get_or-set_same, get_or-set_other}
use Rattle.counting.proofs.Tests.{less-or-not, same_or_not, last-or_below}
use Rattle.weights.specs.Weights.{Put}

pub put-none : (place : ℕ → ℕ) (l : List ℕ) (value : ℕ → ℕ) → Put place l l 0 value
put-none place l value = record {
  size = refl;
  kept = λ p m. refl;
  each = λ k m. absurd (not-suc-le-zero m);
  small = λ b before after p. before p;
}

pub put_more : {place : ℕ → ℕ} {old new : List ℕ} {n : ℕ} {value : ℕ → ℕ} → Put place old new n value → (x : ℕ)
    → ((k : ℕ) → k < n → place k ≢ place n) → place n < length old → x ≡ value n → Put place old (set new (place n) x) (n + 1) value
put_more {place} {old} {new} {n} {value} h x apart l v = record {
  size = length-set new (place n) x ∙ h.size;
  kept = λ p m. get_or-set_other new (place n) p x 0 (m n (omega arith)) ∙ h.kept p (λ k o. m k (omega arith));
  each = λ k m. each k (last-or_below n k (omega arith));
  small = λ b before after p. small b before after p (same_or_not p (place n));
}
  where
    here : get_or (set new (place n) x) (place n) 0 ≡ value n
    here = get_or-set_same new (place n) x 0 (omega (arith, h.size)) ∙ v

    each : (k : ℕ) → (k ≡ n) ⊎ (k < n) → get_or (set new (place n) x) (place k) 0 ≡ value k
    each k (inl e) = rw e here
    each k (inr m) = get_or-set_other new (place n) (place k) x 0 (apart k m) ∙ h.each k m

    small : (b : ℕ) → ((p : ℕ) → get_or old p 0 ≤ b) → ((k : ℕ) → k < n + 1 → value k ≤ b) → (p : ℕ) → (p ≡ place n) ⊎ (p ≢ place n)
        → get_or (set new (place n) x) p 0 ≤ b
    small b before after p (inl z) = rw z (omega (arith, here, after n (omega arith)))
    small b before after p (inr d) =
        omega (arith, get_or-set_other new (place n) p x 0 d, h.small b before (λ k m. after k (omega arith)) p)

-- of a list that ends before the n-th place only so many are put in
pub put_first : {old new : List ℕ} {m n : ℕ} {value : ℕ → ℕ} → Put (λ x. x) old new n value → length old ≤ m → m ≤ n
    → Put (λ x. x) old new m value
put_first {old} {new} {m} {n} {value} h short l = record {
  size = h.size;
  kept = λ p apart. kept p apart (less-or-not p m);
  each = λ k i. h.each k (omega arith);
  small = λ b before after p. small b after p (less-or-not p m);
}
  where
    past : (l : List ℕ) (p : ℕ) → length l ≤ p → get_or l p 0 ≡ 0
    past l p i = get_or-eq_default {A = ℕ} l 0 i

    kept : (p : ℕ) → ((k : ℕ) → k < m → p ≢ k) → (p < m) ⊎ (m ≤ p) → get_or new p 0 ≡ get_or old p 0
    kept p apart (inl i) = absurd (apart p i refl)
    kept p apart (inr i) = omega (arith, past new p (omega (arith, h.size)), past old p (omega arith))

    small : (b : ℕ) → ((k : ℕ) → k < m → value k ≤ b) → (p : ℕ) → (p < m) ⊎ (m ≤ p) → get_or new p 0 ≤ b
    small b after p (inl i) = omega (arith, h.each p (omega arith), after p i)
    small b after p (inr i) = omega (arith, past new p (omega (arith, h.size)))
