-- The numbers of an entry, by its place in a group.
use mathlib.Core.Path.{◌≡◌}
use mathlib.Core.Bool.{true, false}
use mathlib.Core.List.{List}
use Prim.Native.Nat.{ℕ, ◌+◌, ◌*◌, ◌≤◌, ◌<◌, max}
use native.Mathlib.Omega.{arith}
use lib.ListN.{get_or}
use Rattle.words.specs.Words.{u16_at, u32_at}
use Rattle.words.proofs.Numbers.{number_part}
use Rattle.entries.specs.Entry.{entry_in, EntryAhead}

-- false is not true
pub no : {A : Type 0} → false ≡ true → A
no e = let z : ◌≡◌ {A = ℕ} 0 1 = cc in absurd (omega arith)

pub ahead_in : (g : List ℕ) (way jobs : ℕ) (ends : List ℕ) (u l rested : ℕ) → jobs ≤ 20 → u32_at g (way * 4) ≡ u → u16_at g (64 + way * 42) ≤ l
    → ((i : ℕ) → i < jobs → u16_at g (64 + way * 42 + 2 + 2 * i) ≤ max (get_or ends i 0) rested) → EntryAhead (entry_in g way) jobs ends u l rested
unfolding entry_in
ahead_in g way jobs ends u l rested few set last end = record {
  set = set;
  last = let z : 64 + way * 42 + 0 ≡ 64 + way * 42 = omega arith in rw (number_part g 42 (64 + way * 42) 0 2 (omega arith), z) last;
  end = λ i h.
      let z : 64 + way * 42 + (2 + 2 * i) ≡ 64 + way * 42 + 2 + 2 * i = omega arith in
      rw (number_part g 42 (64 + way * 42) (2 + 2 * i) 2 (omega arith), z) (end i h);
}
