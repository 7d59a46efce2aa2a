-- Numbers as they are printed: digits, without a zero in front, that stand for the number; their sign; hexadecimal digits.
use mathlib.Core.Path.{◌≡◌, refl, sym, ap, ◌∙◌}
use mathlib.Core.Logic.{◌⊎◌, inl, inr, ◌≢◌}
use mathlib.Core.Bool.{Bool, true, false, cond}
use mathlib.Core.List.{List, [], ◌∷◌, ◌++◌}
use Prim.Native.Nat.{ℕ, zero, suc, ◌+◌, ◌-◌, ◌*◌, ◌/◌, ◌%◌, ◌^◌, ◌≤◌, ◌<◌}
use native.Mathlib.Omega.{arith}
use native.Mathlib.Nat.{mod-lt, mod-eq_of_lt, div-eq_of_lt, div-div-eq-div-mul, div-lt_iff_lt-mul, le-div_iff_mul-le}
use lib.Dec.{leb, lit<}
use lib.IntN.{ℤ, pos, negsuc, nat_abs}
use lib.ListN.{length, get_or, length-append}
use lib.Pow.{pow-add}
use borrow.Author.Tests.{lt-ltb, le-ltb, le-leb, lt-leb, leb-true, leb-false}
use Rattle.counting.specs.Counting.{joined}
use Rattle.counting.proofs.Tests.{less-or-not}
use Rattle.text.specs.Numbers.{digit, place, decimal, signed, hex_digit, hexadecimal}
use Rattle.text.specs.Values.{digit_value_of, value_from, Each, DecimalDigit, HexadecimalDigit, Decimal, Signed, Hexadecimal}
use Rattle.text.proofs.Lengths.{hexadecimal-length}

-- ---- digits

each_append : (P : ℕ → Type 0) (xs ys : List ℕ) → Each P xs → Each P ys → Each P (xs ++ ys)
each_append P [] ys a b = b
each_append P (x ∷ xs) ys a b = (a.0, each_append P xs ys a.1 b)

value_more : (base n : ℕ) (xs ys : List ℕ) → value_from base n (xs ++ ys) ≡ value_from base (value_from base n xs) ys
unfolding value_from
value_more base n [] ys = refl
value_more base n (x ∷ xs) ys = value_more base (base * n + digit_value_of x) xs ys

digit_low : (d : ℕ) → d < 10 → digit d ≡ 48 + d
unfolding digit
digit_low d l = rw (lt-ltb d 10 l)

digit_high : (d : ℕ) → 10 ≤ d → digit d ≡ 55 + d
unfolding digit
digit_high d l = rw (le-ltb d 10 l)

digit-decimal : (d : ℕ) → d < 10 → DecimalDigit (digit d)
digit-decimal d l = (omega (arith, digit_low d l), omega (arith, digit_low d l))

module _ (d : ℕ) (l : d < 16) where
  pub digit-hexadecimal : HexadecimalDigit (digit d)
  digit-hexadecimal = go (less-or-not d 10)
    where
      go : (d < 10) ⊎ (10 ≤ d) → HexadecimalDigit (digit d)
      go (inl m) = inl (digit-decimal d m)
      go (inr m) = inr (omega (arith, digit_high d m), omega (arith, digit_high d m))

  digit_value : digit_value_of (digit d) ≡ d
  digit_value = go (less-or-not d 10)
    where
      go : (d < 10) ⊎ (10 ≤ d) → digit_value_of (digit d) ≡ d
      go (inl m) = rw (digit_low d m, le-leb (48 + d) 57 (omega arith)) (omega arith)
      go (inr m) = rw (digit_high d m, lt-leb (55 + d) 57 (omega arith)) (omega arith)

-- ---- decimal

module _ (p x : ℕ) where
  place_each : Each DecimalDigit (place p x)
  unfolding place
  place_each = go (leb p x)
    where
      go : (b : Bool) → Each DecimalDigit (cond b (digit (x / p % 10) ∷ []) [])
      go true = (digit-decimal (x / p % 10) (mod-lt (x / p) (lit< tt)), tt)
      go false = tt

  -- behind the digits of the higher places, a place gives one digit more, or none where the number does not reach it
  place_value : value_from 10 (x / (p * 10)) (place p x) ≡ x / p
  unfolding place value_from
  place_value = go (leb p x) refl
    where
      go : (b : Bool) → leb p x ≡ b → value_from 10 (x / (p * 10)) (cond b (digit (x / p % 10) ∷ []) []) ≡ x / p
      go true e =
          let d = digit_value (x / p % 10) (omega arith) in
          let q : x / (p * 10) ≡ x / p / 10 = sym (div-div-eq-div-mul x p 10) in
          omega (arith, d, q)
      go false e =
          let l = leb-false p x e in
          let m : x < p * 10 = omega (arith, l) in
          div-eq_of_lt m ∙ sym (div-eq_of_lt l)

  place_first : (rest : List ℕ) → value_from 10 (x / (p * 10)) (place p x ++ rest) ≡ value_from 10 (x / p) rest
  place_first rest = value_more 10 (x / (p * 10)) (place p x) rest ∙ ap (λ (n : ℕ). value_from 10 n rest) place_value

-- of two or more digits the first is no zero
abbrev Front : List ℕ → Type 0
Front bs = 1 < length bs → get_or bs 0 0 ≢ 48

-- a number below ten times a place: its digit there is no zero, or the place is left out
place_front : (p x : ℕ) (rest : List ℕ) → 0 < p → x < p * 10 → (x < p → Front rest) → Front (place p x ++ rest)
unfolding place
place_front p x rest some l next = go (leb p x) refl
  where
    go : (b : Bool) → leb p x ≡ b → Front (cond b (digit (x / p % 10) ∷ []) [] ++ rest)
    go true e k z =
        let one : 1 * p ≤ x = omega (arith, leb-true p x e) in
        let least : 1 ≤ x / p = (le-div_iff_mul-le some).1 one in
        let most : x / p < 10 = (div-lt_iff_lt-mul some).1 (omega arith) in
        let d : x / p % 10 ≡ x / p = mod-eq_of_lt most in
        absurd (omega (arith, digit_low (x / p % 10) (omega arith)))
    go false e k z = next (leb-false p x e) k z

module _ (x : ℕ) (l : x < 100000) where
  -- What is printed of a number below 100000 is its decimal digits.
  pub decimal_is : Decimal (decimal x) x
  unfolding decimal value_from
  decimal_is =
      let unit = mod-lt x (lit< tt) in
      let last = digit-decimal (x % 10) unit in
      let each = each_append DecimalDigit in
      record {
        some = simp length-append (omega arith);
        digits =
            each (place 10000 x) _ (place_each 10000 x) (each (place 1000 x) _ (place_each 1000 x)
            (each (place 100 x) _ (place_each 100 x) (each (place 10 x) _ (place_each 10 x) (last, tt))));
        value =
            ap (λ (n : ℕ). value_from 10 n (decimal x)) (sym (div-eq_of_lt l)) ∙ place_first 10000 x _ ∙ place_first 1000 x _
            ∙ place_first 100 x _ ∙ place_first 10 x _ ∙ omega (arith, digit_value (x % 10) (omega arith));
        front =
            place_front 10000 x _ (omega arith) (omega arith) (λ a. place_front 1000 x _ (omega arith) (omega arith) (λ b.
            place_front 100 x _ (omega arith) (omega arith) (λ c. place_front 10 x _ (omega arith) (omega arith) (λ d k. absurd (omega arith)))));
      }

-- With its sign, where its size is below 100000.
pub signed_is : (z : ℤ) → nat_abs z < 100000 → Signed (signed z) z
unfolding signed
signed_is (pos x) l = decimal_is x l
signed_is (negsuc x) l = (decimal (suc x), refl, decimal_is (suc x) l)

-- ---- hexadecimal

module _ (x : ℕ) where
  hex_each : (i : ℕ) → Each HexadecimalDigit (joined i (hex_digit x))
  unfolding joined
  hex_each zero = tt
  hex_each (suc i) =
      each_append HexadecimalDigit (joined i (hex_digit x)) (hex_digit x i) (hex_each i)
      (digit-hexadecimal (x / 2 ^ (4 * (15 - i)) % 16) (omega arith), tt)

  -- the first i digits stand for what is left of the number without its lower ones
  hex_value : x < 2 ^ 64 → (i : ℕ) → i ≤ 16 → value_from 16 0 (joined i (hex_digit x)) ≡ x / 2 ^ (4 * (16 - i))
  unfolding joined value_from
  hex_value small zero l = sym (div-eq_of_lt small)
  hex_value small (suc i) l =
      let q = 2 ^ (4 * (15 - i)) in
      let e : 4 * (16 - i) ≡ 4 * (15 - i) + 4 = omega arith in
      let f : 4 * (16 - suc i) ≡ 4 * (15 - i) = omega arith in
      let high : x / 2 ^ (4 * (16 - i)) ≡ x / q / 16 =
      ap (λ (n : ℕ). x / 2 ^ n) e ∙ ap (λ (n : ℕ). x / n) (pow-add 2 (4 * (15 - i)) 4) ∙ sym (div-div-eq-div-mul x q 16) in
      let d = digit_value (x / q % 16) (omega arith) in
      value_more 16 0 (joined i (hex_digit x)) (hex_digit x i)
      ∙ ap (λ (n : ℕ). 16 * n + digit_value_of (digit (x / q % 16))) (hex_value small i (omega arith) ∙ high)
      ∙ omega (arith, d) ∙ ap (λ (n : ℕ). x / 2 ^ n) (sym f)

-- What is printed of a number of 64 bits is its sixteen hexadecimal digits.
pub hexadecimal_is : (x : ℕ) → x < 2 ^ 64 → Hexadecimal (hexadecimal x) x
unfolding hexadecimal
hexadecimal_is x small = record { sixteen = hexadecimal-length x; digits = hex_each x 16; value = hex_value x small 16 (omega arith) ∙ omega arith }
