-- Dictionary order, and that the tie rule names one order at most.
use mathlib.Core.Path.{◌≡◌, refl, ap₂}
use mathlib.Core.Logic.{inl, inr}
use mathlib.Core.List.{List, [], ◌∷◌, ◌++◌}
use Prim.Native.Nat.{ℕ}
use native.Mathlib.Omega.{arith}
use Rattle.schedule.specs.Plan.{Sheet}
use Rattle.schedule.specs.TieRule.{DictionaryLe, Best}

pub dictionary_refl : (o : List ℕ) → DictionaryLe o o
dictionary_refl [] = tt
dictionary_refl (a ∷ o) = inr (refl, dictionary_refl o)

pub dictionary_antisym : (o p : List ℕ) → DictionaryLe o p → DictionaryLe p o → o ≡ p
dictionary_antisym [] [] x y = refl
dictionary_antisym [] (b ∷ p) x y = absurd y
dictionary_antisym (a ∷ o) [] x y = absurd x
dictionary_antisym (a ∷ o) (b ∷ p) (inl x) (inl y) = absurd (omega arith)
dictionary_antisym (a ∷ o) (b ∷ p) (inl x) (inr y) = let e = y.0 in absurd (omega arith)
dictionary_antisym (a ∷ o) (b ∷ p) (inr x) (inl y) = let e = x.0 in absurd (omega arith)
dictionary_antisym (a ∷ o) (b ∷ p) (inr x) (inr y) = ap₂ ◌∷◌ x.0 (dictionary_antisym o p x.1 y.1)

-- a common beginning does not matter
pub dictionary-append : (w o p : List ℕ) → DictionaryLe o p → DictionaryLe (w ++ o) (w ++ p)
dictionary-append [] o p h = h
dictionary-append (a ∷ w) o p h = inr (refl, dictionary-append w o p h)

-- The tie rule names one order at most.
pub best_unique : (S : Sheet) (o p : List ℕ) → Best S o → Best S p → o ≡ p
best_unique S o p a b =
    let l = a.early p b.order in
    let m = b.early o a.order in
    dictionary_antisym o p (a.first p b.order (omega arith)) (b.first o a.order (omega arith))
