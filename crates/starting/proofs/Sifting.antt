-- A minute by which a job can have ended and rested, and those that start before it, found one by one.
use mathlib.Core.Path.{◌≡◌, refl, ap, ◌∙◌}
use mathlib.Core.Logic.{◌⊎◌, inl, inr}
use mathlib.Core.Bool.{Bool, true, false, cond, ◌||◌}
use mathlib.Core.List.{List}
use Prim.Native.Nat.{ℕ, ◌+◌, ◌≤◌, ◌<◌, min}
use native.Mathlib.Omega.{arith}
use lib.Dec.{eqb, ltb}
use lib.ListN.{get_or}
use borrow.Author.Tests.{lt-ltb, eq-eqb}
use Rattle.counting.proofs.Tests.{less-or-not, clash}
use Rattle.bits.specs.Bits.{bit, with_bit, without_bit, set_of}
use Rattle.bits.proofs.Digits.{bit-none}
use Rattle.bits.proofs.Members.{bit_with}
use Rattle.bits.proofs.Walks.{Walk, walk_first, walk_none, walk_next, walk_gone}
use Rattle.tables.specs.declared.Jobs.{Jobs}
use Rattle.tables.specs.Tables.{kept_at, count_of}
use Rattle.starting.specs.Starting.{EndOfOne, AllEarly}

-- ---- a minute by which a job can have ended and rested

pub or_ends : (t : Jobs) (at : List ℕ) (j r : ℕ) → j < count_of t → EndOfOne t at r → EndOfOne t at (min r (get_or at j 0 + kept_at t j))
or_ends t at j r l h = go (less-or-not r (get_or at j 0 + kept_at t j)) h
  where
    go : (r < get_or at j 0 + kept_at t j) ⊎ (get_or at j 0 + kept_at t j ≤ r) → EndOfOne t at r
        → EndOfOne t at (min r (get_or at j 0 + kept_at t j))
    go (inr k) q = inr (j, l, omega arith)
    go (inl k) (inl q) = inl (omega arith)
    go (inl k) (inr (i, m, q)) = inr (i, m, omega arith)

-- ---- those that start early

pub or-true : (x : Bool) {y : Bool} → y ≡ true → (x || y) ≡ true
or-true true e = refl
or-true false e = e

-- r has those of them that are not still to come
pub record Sifting (at : List ℕ) (end set n r todo : ℕ) : Type 0 where
  pub walk : Walk set n todo
  pub each : (j : ℕ) → j < n → bit set j ≡ true → bit todo j ≡ false → get_or at j 0 < end → bit r j ≡ true

module _ (at : List ℕ) (end set n : ℕ) where
  pub sifting-none : Sifting at end set n 0 (set_of n (bit set))
  sifting-none = record { walk = walk_first n set; each = λ j l b g. clash (bit set j) b (walk_none n set j l g) }

  pub sifting-step : (r todo j : ℕ) → Sifting at end set n r todo
      → Sifting at end set n (cond (ltb (get_or at j 0) end) (with_bit r j) r) (without_bit todo j)
  sifting-step r todo j h = record { walk = walk_next j h.walk; each = λ k l b g e. go k l b e (walk_gone todo j k g) }
    where
      kept : (k : ℕ) (t : Bool) → bit r k ≡ true → bit (cond t (with_bit r j) r) k ≡ true
      kept k false b = b
      kept k true b = bit_with r j k ∙ or-true (eqb k j) b

      go : (k : ℕ) → k < n → bit set k ≡ true → get_or at k 0 < end → (k ≡ j) ⊎ (bit todo k ≡ false)
          → bit (cond (ltb (get_or at j 0) end) (with_bit r j) r) k ≡ true
      go k l b e (inl z) = rw (lt-ltb (get_or at j 0) end (rw z at e)) (bit_with r j k ∙ ap (λ x. x || bit r k) (eq-eqb k j z))
      go k l b e (inr z) = kept k (ltb (get_or at j 0) end) (h.each k l b z e)

  pub sifting_all : (r todo : ℕ) → Sifting at end set n r todo → todo ≡ 0 → AllEarly at end set n r
  sifting_all r todo h e j l b = h.each j l b (rw e (bit-none j))
