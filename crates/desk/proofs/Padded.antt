-- A padded list, place by place.
use mathlib.Core.Path.{◌≡◌, ap, ◌∙◌}
use mathlib.Core.Logic.{⊎_elim}
use mathlib.Core.List.{List}
use Prim.Native.Nat.{ℕ, ◌+◌, ◌-◌, ◌≤◌, ◌<◌}
use native.Mathlib.Omega.{arith}
use lib.ListN.{length, get_or, drop, length-append, length-drop, get_or-replicate, get_or-append}
use lib.ListN.{get_or-eq_default}
use lib.Seq.{get_or-drop, get_or-append-add}
use Rattle.counting.proofs.Tests.{less-or-not}
use Rattle.desk.specs.Desk.{most_controllers, zeros, padded}

pub zero-at : (i : ℕ) → get_or zeros i 0 ≡ 0
zero-at i = ⊎_elim (λ l. get_or-replicate most_controllers i 0 0 l) (λ l. get_or-eq_default zeros 0 l) (less-or-not i most_controllers)

pub padded-inside : (l : List ℕ) (i : ℕ) → i < length l → get_or (padded l) i 0 ≡ get_or l i 0
padded-inside l i h = get_or-append l (drop (length l) zeros) 0 i h

pub padded_past : (l : List ℕ) (i : ℕ) → length l ≤ i → get_or (padded l) i 0 ≡ 0
padded_past l i h =
    let e : i ≡ length l + (i - length l) = omega arith in
    ap (λ (k : ℕ). get_or (padded l) k 0) e
    ∙ get_or-append-add l (drop (length l) zeros) (i - length l) 0
    ∙ get_or-drop (length l) zeros (i - length l) 0
    ∙ zero-at (length l + (i - length l))

pub padded-length : (l : List ℕ) → length l ≤ most_controllers → length (padded l) ≡ most_controllers
padded-length l h = omega (arith, length-append l (drop (length l) zeros), length-drop (length l) zeros)
