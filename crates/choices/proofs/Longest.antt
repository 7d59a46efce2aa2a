-- Laws of the largest sum that fits.
use mathlib.Core.Path.{◌≡◌}
use mathlib.Core.Bool.{Bool}
use mathlib.Core.List.{List}
use Prim.Native.Nat.{ℕ, ◌≤◌, ◌<◌}
use native.Mathlib.Omega.{arith}
use lib.Dec.{leb}
use lib.ListN.{get_or}
use borrow.Author.Tests.{leb-true, le-leb}
use Rattle.counting.specs.Counting.{only}
use Rattle.counting.proofs.Tests.{only_within}
use Rattle.counting.proofs.Ranges.{le-largest, largest-le}
use Rattle.tables.specs.declared.Jobs.{Jobs}
use Rattle.choices.specs.Choices.{together, Within, SumsOf, longest}

module _ (sums : List ℕ) (count : ℕ) where
  pub longest-le : (x : ℕ) → longest sums count x ≤ x
  unfolding longest
  longest-le x = largest-le count _ x (λ i l. only_within (leb (get_or sums i 0) x) (get_or sums i 0) x (leb-true (get_or sums i 0) x))

  -- a sum that fits is not above it
  pub le-longest : (x i : ℕ) → i < count → get_or sums i 0 ≤ x → get_or sums i 0 ≤ longest sums count x
  unfolding longest
  le-longest x i l m =
      let e = le-leb (get_or sums i 0) x m in
      rw e at (le-largest count (λ k. only (leb (get_or sums k 0) x) (get_or sums k 0)) i l)

  pub longest-rises : (a b : ℕ) → a ≤ b → longest sums count a ≤ longest sums count b
  unfolding longest
  longest-rises a b h = largest-le count _ (longest sums count b) (λ i l. only_within (leb (get_or sums i 0) a) (get_or sums i 0) _
      (λ e. le-longest b i l (omega (arith, leb-true (get_or sums i 0) a e))))

  pub longest_bounds : {t : Jobs} {set jobs : ℕ} → SumsOf t set jobs sums count → 0 < count
      → (X : ℕ → Bool) (x : ℕ) → Within X set → together t jobs X ≤ x → together t jobs X ≤ longest sums count x
  longest_bounds {t} {jobs = jobs} s some X x w h = go (s.each some X w)
    where
      go : (i : ℕ) × (i < count) × (get_or sums i 0 ≡ together t jobs X) → together t jobs X ≤ longest sums count x
      go (i, l, e) = omega (arith, le-longest x i l (omega arith))
