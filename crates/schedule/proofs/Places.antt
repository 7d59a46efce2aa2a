-- Places in the dictionary of orders: a beginning with one job more.
use mathlib.Core.Path.{◌≡◌, refl}
use mathlib.Core.Logic.{inl, inr}
use mathlib.Core.List.{List, [], ◌∷◌, ◌++◌}
use Prim.Native.Nat.{ℕ}
use Rattle.schedule.specs.Beginnings.{Before, Upto}

-- one job more: before w and j is before w, or w and then a lower job
pub before_upto : (w : List ℕ) (j : ℕ) (o : List ℕ) → Before (w ++ (j ∷ [])) o → Upto w j o
before_upto [] j [] h = absurd h
before_upto [] j (a ∷ o) (inl l) = inr (a, l, (o, refl))
before_upto [] j (a ∷ o) (inr (e, h)) = absurd h
before_upto (b ∷ w) j [] h = absurd h
before_upto (b ∷ w) j (a ∷ o) (inl l) = inl (inl l)
before_upto (b ∷ w) j (a ∷ o) (inr (e, h)) = go (before_upto w j o h)
  where
    go : Upto w j o → Upto (b ∷ w) j (a ∷ o)
    go (inl x) = inl (inr (e, x))
    go (inr (i, l, (p, q))) = inr (i, l, (p, (let z : (a ∷ o) ≡ b ∷ ((w ++ (i ∷ [])) ++ p) = cc in z)))
