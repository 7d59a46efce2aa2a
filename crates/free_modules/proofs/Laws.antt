-- The lowest modules outside a set, one module after another.
use mathlib.Core.Path.{◌≡◌, sym, ap, ap₂, ◌∙◌}
use mathlib.Core.Bool.{Bool, true, false, cond, ◌&&◌}
use Prim.Native.Nat.{ℕ, ◌+◌, ◌^◌, ◌<◌, min}
use native.Mathlib.Omega.{arith}
use native.Mathlib.Nat.{le_refl}
use native.Mathlib.Numerals.{add-one}
use lib.Dec.{ltb}
use lib.Count.{ones}
use borrow.Author.Tests.{lt-ltb, ltb-true}
use Rattle.counting.specs.Counting.{only, sum, count}
use Rattle.counting.proofs.Tests.{same_test}
use Rattle.counting.proofs.Counts.{count_same, count-lowest}
use Rattle.bits.specs.Bits.{with_bit, set_of}
use Rattle.bits.proofs.Members.{with_clear}
use Rattle.bits.proofs.Sets.{bit-set_of_above, set_of_same}
use Rattle.bits.proofs.Ones.{ones-set_of}
use Rattle.schedule.specs.ListPlan.{lowest}

-- where the same modules are free, the same ones are the lowest
pub lowest_same : (n : ℕ) (f g : ℕ → Bool) (k : ℕ) → ((m : ℕ) → m < n → f m ≡ g m)
    → set_of n (lowest n f k) ≡ set_of n (lowest n g k)
lowest_same n f g k h = set_of_same n (lowest n f k) (lowest n g k) (λ m l.
    ap₂ (λ a (c : ℕ). ltb m n && a && ltb c k) (h m l) (count_same m f g (λ i x. h i (omega arith))))

-- the lowest ones of the modules below m, and module m
module _ (n : ℕ) (f : ℕ → Bool) (k m : ℕ) (l : m < n) where
  taken : ones (set_of m (lowest n f k)) ≡ min k (count m f)
  taken =
      ones-set_of m (lowest n f k)
      ∙ count_same m (lowest n f k) (λ i. f i && ltb (count i f) k)
      (λ i x. ap (λ b. b && f i && ltb (count i f) k) (lt-ltb i n (omega arith)))
      ∙ count-lowest m f k

  wanted : ltb (ones (set_of m (lowest n f k))) k ≡ ltb (count m f) k
  wanted =
      ap (λ (x : ℕ). ltb x k) taken
      ∙ same_test _ _ (λ e. lt-ltb (count m f) k (omega (arith, ltb-true (min k (count m f)) k e)))
      (λ e. lt-ltb (min k (count m f)) k (omega (arith, ltb-true (count m f) k e)))

  pub lowest_more : cond (f m && ltb (ones (set_of m (lowest n f k))) k) (with_bit (set_of m (lowest n f k)) m) (set_of m (lowest n f k))
      ≡ set_of (m + 1) (lowest n f k)
  unfolding set_of sum
  lowest_more =
      let x = set_of m (lowest n f k) in
      let here : (f m && ltb (ones x) k) ≡ lowest n f k m =
      ap (λ b. f m && b) wanted ∙ ap (λ b. b && f m && ltb (count m f) k) (sym (lt-ltb m n l)) in
      ap (λ b. cond b (with_bit x m) x) here ∙ one (lowest n f k m)
      ∙ ap (λ (i : ℕ). set_of i (lowest n f k)) (sym (add-one m))
    where
      one : (b : Bool) → cond b (with_bit (set_of m (lowest n f k)) m) (set_of m (lowest n f k)) ≡ set_of m (lowest n f k) + only b (2 ^ m)
      one true = with_clear (set_of m (lowest n f k)) m (bit-set_of_above m (lowest n f k) m (le_refl m))
      one false = omega arith
