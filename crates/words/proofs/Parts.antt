-- A slice that is written from its front on: byte by byte, and part by part.
use mathlib.Core.Path.{◌≡◌, refl, sym, ap, ap₂, ◌∙◌}
use mathlib.Core.List.{List, [], ◌++◌, append_assoc, append-nil}
use Prim.Native.Nat.{ℕ, suc, ◌+◌, ◌-◌, ◌≤◌, ◌<◌}
use native.Mathlib.Omega.{arith}
use native.Mathlib.Numerals.{add-one}
use lib.ListN.{length, get_or, take, drop, set, length-append, drop_of_length-le}
use lib.Seq.{drop-cons, set_at, take_at, drop_at, drop-drop, take-suc, append_snoc, length-take-le}
use borrow.Rule.Slice.PartMut.{put_mid}

-- one byte more is copied to the front
pub copy_more : (s l : List ℕ) (n : ℕ) → n < length s → n < length l
    → set (take n s ++ drop n l) n (get_or s n 0) ≡ take (n + 1) s ++ drop (n + 1) l
copy_more s l n h k =
    rw (add-one, drop-cons l n 0, take-suc s n 0)
    (set_at (take n s) (get_or l n 0) (drop (suc n) l) (get_or s n 0) n (length-take-le n s (omega arith))
    ∙ sym (append_snoc (take n s) (get_or s n 0) (drop (suc n) l)))

-- the first n bytes of l are p now, and the next k are written: then the first n + k are p and those
pub next_part : (l p ys : List ℕ) (n k : ℕ) → length p ≡ n → put_mid n k (p ++ drop n l) ys ≡ (p ++ ys) ++ drop (n + k) l
next_part l p ys n k e =
    ap₂ (λ (s t : List ℕ). s ++ (ys ++ t)) (take_at p (drop n l) n e) (ap (drop k) (drop_at p (drop n l) n e) ∙ drop-drop k n l)
    ∙ sym (append_assoc p ys (drop (n + k) l))

-- the same of the part from a up to e
pub part_more : (l p ys : List ℕ) (a e : ℕ) → length p ≡ a → a ≤ e → put_mid a (e - a) (p ++ drop a l) ys ≡ (p ++ ys) ++ drop e l
part_more l p ys a e k h =
    let end : a + (e - a) ≡ e = omega arith in
    next_part l p ys a (e - a) k ∙ ap (λ (n : ℕ). (p ++ ys) ++ drop n l) end

-- three parts, each behind the one before
pub three_parts : (l xs ys zs : List ℕ) (a b e : ℕ) → length xs ≡ a - 0 → length ys ≡ b - a → a ≤ b → b ≤ e
    → put_mid b (e - b) (put_mid a (b - a) (put_mid 0 (a - 0) l xs) ys) zs ≡ (xs ++ (ys ++ zs)) ++ drop e l
three_parts l xs ys zs a b e i j h k =
    ap (λ (t : List ℕ). put_mid b (e - b) (put_mid a (b - a) t ys) zs) (part_more l [] xs 0 a refl (omega arith))
    ∙ ap (λ (t : List ℕ). put_mid b (e - b) t zs) (part_more l xs ys a b (omega arith) h)
    ∙ part_more l (xs ++ ys) zs b e (length-append xs ys ∙ omega arith) k
    ∙ ap (λ (t : List ℕ). t ++ drop e l) (append_assoc xs ys zs)

-- the whole slice is written
pub whole : (l p : List ℕ) (i : ℕ) → length l ≤ i → p ++ drop i l ≡ p
whole l p i h = ap (λ (t : List ℕ). p ++ t) (drop_of_length-le l {i = i} h) ∙ append-nil p
