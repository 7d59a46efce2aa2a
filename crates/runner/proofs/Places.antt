-- Bytes in places: those past the last are 0, and the bytes can be had back.
use mathlib.Core.Path.{◌≡◌, refl, sym, ap, ◌∙◌}
use mathlib.Core.Logic.{⊎_elim}
use mathlib.Core.Bool.{true, false, ◌&&◌, ◌||◌}
use mathlib.Core.List.{List, ◌++◌}
use Prim.Native.Nat.{ℕ, zero, suc, ◌+◌, ◌-◌, ◌≤◌, ◌<◌}
use native.Mathlib.Omega.{arith}
use lib.Dec.{ltb, leb, eqb}
use lib.ListN.{length, get_or, take, drop, replicate, length-append, length-replicate, get_or-replicate, get_or-append}
use lib.Seq.{ext_get_or, length-take-le, get_or-take, get_or-append-add}
use borrow.Author.Tests.{eqb-true, eq-eqb, leb-true, le-leb, lt-ltb, le-ltb}
use Rattle.counting.specs.Counting.{every}
use Rattle.counting.proofs.Tests.{and_left, and_right, and_both, less-or-not}
use Rattle.counting.proofs.Ranges.{every-at, every_intro}
use Rattle.runner.specs.Runner.{in_places, zeros_behind}

drop-zeros : (k n : ℕ) → drop {A = ℕ} k (replicate n 0) ≡ replicate (n - k) 0
drop-zeros zero n = ap (λ (m : ℕ). replicate m 0) (let e : n ≡ n - 0 = omega arith in e)
drop-zeros (suc k) zero = ap (λ (m : ℕ). replicate m 0) (let e : 0 ≡ 0 - suc k = omega arith in e)
drop-zeros (suc k) (suc n) = drop-zeros k n ∙ ap (λ (m : ℕ). replicate m 0) (let e : n - k ≡ suc n - suc k = omega arith in e)

-- the bytes copied over the front of n zeros
pub copied : (n : ℕ) (l front : List ℕ) → front ≡ l → front ++ drop (length l) (replicate n 0) ≡ in_places n l
copied n l front e = rw (e, drop-zeros (length l) n) refl

module _ (n : ℕ) (l : List ℕ) (h : length l ≤ n) where
  places-length : length (in_places n l) ≡ n
  places-length = omega (arith, length-append l (replicate (n - length l) 0), length-replicate {A = ℕ} (n - length l) 0)

  places_past : (i : ℕ) → length l ≤ i → i < n → get_or (in_places n l) i 0 ≡ 0
  places_past i a b =
      let e : i ≡ length l + (i - length l) = omega arith in
      ap (λ (k : ℕ). get_or (in_places n l) k 0) e ∙ get_or-append-add l (replicate (n - length l) 0) (i - length l) 0
      ∙ get_or-replicate (n - length l) (i - length l) 0 0 (omega arith)

  pub zeros-behind : zeros_behind n (length l) (in_places n l) ≡ true
  unfolding zeros_behind
  zeros-behind =
      and_both _ _ (eq-eqb _ _ places-length)
      (and_both _ _ (le-leb (length l) n h)
      (every_intro n (λ i. ltb i (length l) || eqb (get_or (in_places n l) i 0) 0)
      (λ i k. ⊎_elim (λ (a : i < length l). rw (lt-ltb i (length l) a) refl)
      (λ a. rw (le-ltb i (length l) a, eq-eqb _ 0 (places_past i a k)) refl) (less-or-not i (length l)))))

module _ (n len : ℕ) (l : List ℕ) (z : zeros_behind n len l ≡ true) where
  behind-length : length l ≡ n
  unfolding zeros_behind
  behind-length = eqb-true _ _ (and_left (eqb (length l) n) _ z)

  past-length : (leb len n && every n (λ i. ltb i len || eqb (get_or l i 0) 0)) ≡ true
  unfolding zeros_behind
  past-length = and_right (eqb (length l) n) _ z

  pub behind-inside : len ≤ n
  behind-inside = leb-true _ _ (and_left (leb len n) _ past-length)

  behind_past : (i : ℕ) → len ≤ i → i < n → get_or l i 0 ≡ 0
  behind_past i a b =
      let t = every-at n (λ i. ltb i len || eqb (get_or l i 0) 0) (and_right (leb len n) _ past-length) i b in
      let u : (false || eqb (get_or l i 0) 0) ≡ true = rw (le-ltb i len a) at t in
      eqb-true _ 0 u

  pub front_length : length (take len l) ≡ len
  front_length = length-take-le len l (omega (arith, behind-length, behind-inside))

  -- the list is its front, in places
  pub front-placed : in_places n (take len l) ≡ l
  front-placed =
      let m = places-length n (take len l) (omega (arith, front_length, behind-inside)) in
      ext_get_or 0 (in_places n (take len l)) l (m ∙ sym behind-length)
      (λ i k. ⊎_elim
      (λ (a : i < len). get_or-append (take len l) (replicate (n - length (take len l)) 0) 0 i (omega (arith, front_length))
      ∙ get_or-take len l i 0 a)
      (λ a. places_past n (take len l) (omega (arith, front_length, behind-inside)) i (omega (arith, front_length)) (omega arith)
      ∙ sym (behind_past i a (omega arith)))
      (less-or-not i len))
