-- The jobs to be tried: each other job may as well come behind one of them.
use mathlib.Core.Path.{◌≡◌, refl, ap, ◌∙◌}
use mathlib.Core.Logic.{◌⊎◌, inl, inr}
use mathlib.Core.Bool.{true, ◌||◌}
use mathlib.Core.List.{List}
use Prim.Native.Nat.{ℕ, ◌≤◌, ◌<◌}
use native.Mathlib.Omega.{arith}
use lib.ListN.{get_or}
use borrow.Author.Tests.{eq-eqb}
use Rattle.figures.specs.Figures.{no_minute}
use Rattle.counting.proofs.Tests.{less-or-not}
use Rattle.bits.specs.Bits.{bit, with_bit}
use Rattle.bits.proofs.Members.{bit_with}
use Rattle.tables.specs.declared.Jobs.{Jobs}
use Rattle.tables.specs.Tables.{count_of}
use Rattle.starting.specs.Starting.{Alone, EndOfOne, AllEarly}
use Rattle.branching.specs.Branching.{ComesBefore, ToTry, Trying}

-- ---- the jobs to be tried

module _ (t : Jobs) (related at : List ℕ) (least set : ℕ) (h : Trying t at least set) where
  -- one that starts first and can run beside no other
  pub try_alone : (i : ℕ) → i < count_of t → get_or at i 0 ≡ least → least < no_minute → Alone related set i
      → ToTry t related at set (with_bit 0 i)
  try_alone i l a k alone j m b =
      let in_set : bit (with_bit 0 i) i ≡ true = bit_with 0 i i ∙ ap (λ x. x || bit 0 i) (eq-eqb i i refl) in
      inr (i, l, (in_set, (omega arith, inr (omega (arith, h.low j m), alone))))

  -- those that start before one can have ended
  pub try_early : (end r : ℕ) → EndOfOne t at end → AllEarly at end set (count_of t) r → ToTry t related at set r
  try_early end r one all j m b = go (less-or-not (get_or at j 0) end) one
    where
      go : (get_or at j 0 < end) ⊎ (end ≤ get_or at j 0) → EndOfOne t at end
          → (bit r j ≡ true)
          ⊎ ((i : ℕ) × (i < count_of t) × ((bit r i ≡ true) × ((get_or at i 0 < no_minute) × ComesBefore t related at set i j)))
      go (inl e) q = inl (all j m b e)
      go (inr e) (inl q) = absurd (omega (arith, h.top j m))
      go (inr e) (inr (i, l, q)) =
          let low : get_or at i 0 < no_minute = omega (arith, h.top j m, h.lasting i l) in
          inr (i, l, (all i l (h.inside i l low) (omega (arith, h.lasting i l)), (low, inl (omega arith))))
