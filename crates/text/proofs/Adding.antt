-- Laws of bytes added to a text.
use mathlib.Core.Path.{◌≡◌, refl, sym, ap, ap₂, ◌∙◌}
use mathlib.Core.List.{List, [], ◌∷◌, ◌++◌, append_assoc, append-nil}
use Prim.Native.Nat.{ℕ, suc, ◌+◌, ◌-◌, ◌≤◌, ◌<◌}
use native.Mathlib.Omega.{arith}
use native.Mathlib.Numerals.{add-one}
use lib.ListN.{length, take, get_or, set, replicate, length-append}
use lib.Seq.{set-append_seam, take-suc}
use borrow.Author.Tests.{lt-ltb}
use Rattle.text.specs.declared.Text.{Text}
use Rattle.text.specs.Texts.{room, text_of, empty, with_byte, adding}

-- one list behind another
pub adding_more : (t : Text) (xs ys : List ℕ) → adding (adding t xs) ys ≡ adding t (xs ++ ys)
unfolding adding
adding_more t [] ys = refl
adding_more t (x ∷ xs) ys = adding_more (with_byte t x) xs ys

-- one byte more of a list
pub adding_next : (t : Text) (xs : List ℕ) (i : ℕ) → i < length xs
    → adding (adding t (take i xs)) (get_or xs i 0 ∷ []) ≡ adding t (take (i + 1) xs)
adding_next t xs i l =
    adding_more t (take i xs) (get_or xs i 0 ∷ []) ∙ ap (adding t) (sym (take-suc xs i 0 l) ∙ ap (λ (k : ℕ). take k xs) (sym (add-one i)))

-- ---- where there is room for all

module _ (xs : List ℕ) (y : ℕ) (l : length xs < room) where
  more : length xs + 1 ≡ length (xs ++ (y ∷ []))
  more = sym (length-append xs (y ∷ []))

  set_next : set (xs ++ replicate (room - length xs) 0) (length xs) y
      ≡ (xs ++ (y ∷ [])) ++ replicate (room - length (xs ++ (y ∷ []))) 0
  set_next =
      let left : room - length xs ≡ suc (room - length (xs ++ (y ∷ []))) = omega (arith, more) in
      ap (λ (k : ℕ). set (xs ++ replicate k 0) (length xs) y) left
      ∙ set-append_seam xs 0 (replicate (room - length (xs ++ (y ∷ []))) 0) y
      ∙ sym (append_assoc xs (y ∷ []) (replicate (room - length (xs ++ (y ∷ []))) 0))

  text_next : with_byte (text_of xs) y ≡ text_of (xs ++ (y ∷ []))
  unfolding text_of
  text_next =
      rw (lt-ltb (length xs) room l) (ap₂ (λ (bs : List ℕ) (n : ℕ). record { bytes = bs; length = n }) set_next more)

text_more : (xs ys : List ℕ) → length xs + length ys ≤ room → adding (text_of xs) ys ≡ text_of (xs ++ ys)
unfolding adding
text_more xs [] l = ap text_of (sym (append-nil xs))
text_more xs (y ∷ ys) l =
    let step : length (xs ++ (y ∷ [])) + length ys ≤ room = omega (arith, length-append xs (y ∷ [])) in
    ap (λ (t : Text). adding t ys) (text_next xs y (omega arith)) ∙ text_more (xs ++ (y ∷ [])) ys step
    ∙ ap text_of (append_assoc xs (y ∷ []) ys)

-- Bytes that there is room for, added to the empty text, are the text of these bytes.
pub text_of_lem : (bs : List ℕ) → length bs ≤ room → adding empty bs ≡ text_of bs
unfolding text_of
text_of_lem bs l = text_more [] bs (omega arith)

-- The bytes of a text stand within its room.
pub text_within : (t : Text) (bs : List ℕ) → t ≡ text_of bs → t.length ≤ length t.bytes
unfolding text_of
text_within t bs e = rw e (simp length-append (omega arith))
