-- The job to split on is one of those that are left.
use mathlib.Core.Path.{◌≡◌, sym, subst}
use mathlib.Core.Logic.{◌⊎◌, inl, inr}
use mathlib.Core.Bool.{true}
use Prim.Native.Nat.{ℕ, ◌^◌, ◌≤◌, ◌<◌}
use native.Mathlib.Omega.{arith}
use Rattle.counting.proofs.Tests.{less-or-not, clash}
use Rattle.bits.specs.Bits.{bit, without_bit}
use Rattle.bits.proofs.Digits.{bit_above}
use Rattle.bits.proofs.Walks.{Walk, walk_next}

-- the best so far is one of the jobs left, and so are those to come
pub record Choosing (left best todo : ℕ) : Type 0 where
  pub low : best < 20
  pub member : bit left best ≡ true
  pub walk : Walk left 20 todo

-- a member of a set below 2 ^ n is below n
pub member_low : (n x i : ℕ) → x < 2 ^ n → bit x i ≡ true → i < n
member_low n x i l e = go (less-or-not i n)
  where
    go : (i < n) ⊎ (n ≤ i) → i < n
    go (inl h) = h
    go (inr h) = clash (bit x i) e (bit_above n x i l h)

module _ (left : ℕ) (l : left < 2 ^ 20) where
  pub choosing_first : (j : ℕ) → bit left j ≡ true → Choosing left j (without_bit left j)
  choosing_first j e = record {
    low = member_low 20 left j l e;
    member = e;
    walk = walk_next j (record { below = λ i b. member_low 20 left i l b; inside = λ i b. b });
  }

pub choosing_next : {left best todo : ℕ} (j b : ℕ) → Choosing left best todo → bit todo j ≡ true → (b ≡ best) ⊎ (b ≡ j)
    → Choosing left b (without_bit todo j)
choosing_next {left} j b h e (inl z) = record {
  low = omega (arith, h.low);
  member = subst (λ (x : ℕ). bit left x ≡ true) (sym z) h.member;
  walk = walk_next j h.walk;
}
choosing_next {left} j b h e (inr z) = record {
  low = omega (arith, h.walk.below j e);
  member = subst (λ (x : ℕ). bit left x ≡ true) (sym z) (h.walk.inside j e);
  walk = walk_next j h.walk;
}
