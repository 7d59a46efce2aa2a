-- A list copied into the padded list's places one step on, as the code's loop takes it: from i to i + 1.
use mathlib.Core.Path.{◌≡◌, refl, sym, ◌∙◌}
use mathlib.Core.List.{List, ◌++◌}
use Prim.Native.Nat.{ℕ, suc, ◌+◌, ◌<◌}
use native.Mathlib.Omega.{arith}
use native.Mathlib.Numerals.{add-one}
use lib.ListN.{length, get_or, set, take, drop}
use lib.Seq.{take-suc, drop-cons, set_at, append_snoc, length-take-le, take-length}
use Rattle.desk.specs.Desk.{most_controllers, zeros, padded}

-- the first i places are copied
abbrev pub copied : List ℕ → ℕ → List ℕ
copied l i = take i l ++ drop i zeros

pub copy_more : (l : List ℕ) (i : ℕ) → i < length l → i < most_controllers → set (copied l i) i (get_or l i 0) ≡ copied l (i + 1)
copy_more l i a b =
    rw (add-one, drop-cons zeros i 0 b, take-suc l i 0 a)
    (set_at (take i l) (get_or zeros i 0) (drop (suc i) zeros) (get_or l i 0) i (length-take-le i l (omega arith))
    ∙ sym (append_snoc (take i l) (get_or l i 0) (drop (suc i) zeros)))

pub copy_all : (l : List ℕ) → copied l (length l) ≡ padded l
copy_all l = rw (take-length l) refl
