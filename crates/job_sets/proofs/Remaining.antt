-- What is left without a job and a set of others.
use mathlib.Core.Path.{◌≡◌, refl, sym, ap, ◌∙◌}
use mathlib.Core.Bool.{Bool, true, false, not, ◌&&◌, ◌||◌}
use Prim.Native.Nat.{ℕ, zero, suc, ◌-◌, ◌/◌, ◌%◌, ◌^◌, ◌<◌, min}
use native.Mathlib.Omega.{arith}
use lib.Dec.{eqb}
use lib.Count.{ones}
use lib.Bits.{bit_and, and_step, and_le_l}
use Rattle.counting.proofs.Counts.{count_mono}
use Rattle.bits.specs.Bits.{bit, without_bit}
use Rattle.bits.proofs.Digits.{bit_first, bit-suc}
use Rattle.bits.proofs.Members.{without-le, bit_without}
use Rattle.bits.proofs.Ones.{ones-count, ones_without}
use Rattle.job_sets.specs.Results.{Leaving}

-- the members of x that are none of y
pub bit_minus : (i x y : ℕ) → bit (x - bit_and x y) i ≡ (bit x i && not (bit y i))
bit_minus zero x y =
    let s = and_step x y in
    let a = and_le_l (x / 2) (y / 2) in
    let e : (x - bit_and x y) % 2 ≡ x % 2 - min (x % 2) (y % 2) = omega arith in
    bit_first (x - bit_and x y) ∙ ap (λ (d : ℕ). eqb d 1) e ∙ go (x % 2) (y % 2) (omega arith) (omega arith)
    ∙ sym (ap (λ b. b && not (bit y 0)) (bit_first x) ∙ ap (λ b. eqb (x % 2) 1 && not b) (bit_first y))
  where
    go : (a b : ℕ) → a < 2 → b < 2 → eqb (a - min a b) 1 ≡ (eqb a 1 && not (eqb b 1))
    go zero zero l m = refl
    go zero (suc zero) l m = refl
    go (suc zero) zero l m = refl
    go (suc zero) (suc zero) l m = refl
    go (suc (suc a)) b l m = absurd (omega arith)
    go zero (suc (suc b)) l m = absurd (omega arith)
    go (suc zero) (suc (suc b)) l m = absurd (omega arith)
bit_minus (suc i) x y =
    let s = and_step x y in
    let a = and_le_l (x / 2) (y / 2) in
    let e : (x - bit_and x y) / 2 ≡ x / 2 - bit_and (x / 2) (y / 2) = omega arith in
    bit-suc (x - bit_and x y) i ∙ ap (λ (d : ℕ). bit d i) e ∙ bit_minus i (x / 2) (y / 2)
    ∙ sym (ap (λ b. b && not (bit y (suc i))) (bit-suc x i) ∙ ap (λ b. bit (x / 2) i && not b) (bit-suc y i))

pub leaves : (left j others : ℕ) → Leaving left j others (without_bit left j - bit_and (without_bit left j) others)
leaves left j others = record {
  within = omega (arith, without-le left j);
  each = λ i. bit_minus i (without_bit left j) others ∙ ap (λ b. b && not (bit others i)) (bit_without left j i)
      ∙ go (bit left i) (eqb i j) (bit others i);
}
  where
    go : (a b c : Bool) → ((a && not b) && not c) ≡ (a && not (b || c))
    go true true c = refl
    go true false c = refl
    go false b c = refl

-- fewer are left
pub fewer_left : {left j others r : ℕ} → bit left j ≡ true → left < 2 ^ 20 → Leaving left j others r → ones r < ones left
fewer_left {left} {j} {others} {r} e l h =
    let n = ones-count 20 r (omega (arith, h.within)) in
    let m = ones-count 20 (without_bit left j) (omega (arith, without-le left j)) in
    let less = count_mono 20 (bit r) (bit (without_bit left j)) (λ i k b. bit_without left j i ∙ go (bit left i) (eqb i j) (bit others i) (sym (h.each i) ∙ b)) in
    omega (arith, ones_without left j e)
  where
    go : (a b c : Bool) → (a && not (b || c)) ≡ true → (a && not b) ≡ true
    go true true c q = q
    go true false c q = refl
    go false b c q = q
