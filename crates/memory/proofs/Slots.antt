-- An entry that is written leaves the others; a memory that is all zero has no entry with a set.
use mathlib.Core.Path.{◌≡◌, refl, sym, ap, ◌∙◌}
use mathlib.Core.Logic.{◌⊎◌, inl, inr}
use mathlib.Core.List.{List, ◌++◌, append_assoc}
use Prim.Native.Nat.{ℕ, suc, ◌+◌, ◌-◌, ◌*◌, ◌/◌, ◌%◌, ◌^◌, ◌≤◌, ◌<◌}
use native.Mathlib.Omega.{arith}
use native.Mathlib.Nat.{two-pow-succ}
use lib.Count.{under, count_trailing_zeros}
use lib.ListN.{length, take, drop, length-drop, length-append, take-append-drop, replicate, length-replicate}
use lib.Seq.{take_at, drop_at, drop-drop, drop-append-le, take-append-le, length-take-le}
use borrow.Rule.Slice.PartMut.{put_mid}
use Rattle.counting.proofs.Tests.{less-or-not}
use Rattle.words.specs.Words.{u32_at}
use Rattle.words.proofs.Numbers.{number_part, number-zero}
use Rattle.memory.specs.Entries.{Entry, entry_in, group_at, entries, entry_at, EntryAhead, FiguresOf, EntryOf, Stored, Hit, Adds}

-- ---- a set of entries

trailing_lt : (w k n : ℕ) → k ≤ w → 0 < n → n < 2 ^ k → count_trailing_zeros w n < k
unfolding count_trailing_zeros
trailing_lt w ℕ.zero n h p l = absurd (omega arith)
trailing_lt ℕ.zero (suc k) n h p l = absurd (omega arith)
trailing_lt (suc w) (suc k) n h p l =
    go (n % 2) refl (λ e. trailing_lt w k (n / 2) (omega arith) (omega arith) (omega (arith, two-pow-succ k)))
  where
    go : (d : ℕ) → n % 2 ≡ d → (n % 2 ≡ 0 → count_trailing_zeros w (n / 2) < k) → under d (count_trailing_zeros w (n / 2)) < suc k
    go ℕ.zero e h = omega (arith, h e)
    go (suc d) e h = omega arith

-- the first entry of a set that is not empty
pub lowest-inside : (n : ℕ) → 0 < n → n < 65536 → count_trailing_zeros 32 n < 16
lowest-inside n p l = trailing_lt 32 16 n (omega arith) p l

-- ---- a part of n bytes replaced

abbrev part : ℕ → ℕ → List ℕ → List ℕ
part a n m = take (a + n - a) (drop a m)

abbrev replaced : ℕ → ℕ → List ℕ → List ℕ → List ℕ
replaced a n m e = put_mid a (a + n - a) m e

module _ (m e : List ℕ) (a n : ℕ) (h : a + n ≤ length m) (k : length e ≡ length (part a n m)) where
  abbrev new : List ℕ
  new = replaced a n m e

  new_is : new ≡ take a m ++ (e ++ drop (a + n) m)
  new_is = let z : a + n - a ≡ n = omega arith in rw (z, drop-drop n a m) refl

  part_length : length e ≡ n
  part_length = let z : a + n - a ≡ n = omega arith in k ∙ rw z (length-take-le n (drop a m) (omega (arith, length-drop a m)))

  front_length : length (take a m) ≡ a
  front_length = length-take-le a m (omega arith)

  new-length : length new ≡ length m
  new-length = rw new_is (simp (length-append, length-drop) (omega (arith, front_length, part_length)))

  new_here : take n (drop a new) ≡ e
  new_here =
      rw new_is (ap (take n) (drop_at (take a m) (e ++ drop (a + n) m) a front_length) ∙ take_at e (drop (a + n) m) n part_length)

  new_before : (b s : ℕ) → b + s ≤ a → take s (drop b new) ≡ take s (drop b m)
  new_before b s g =
      let front : (r : List ℕ) → take s (drop b (take a m ++ r)) ≡ take s (drop b (take a m)) =
      λ r. ap (take s) (drop-append-le b (take a m) r (omega (arith, front_length)))
      ∙ take-append-le s (drop b (take a m)) r (omega (arith, front_length, length-drop b (take a m))) in
      rw new_is
      (front (e ++ drop (a + n) m) ∙ sym (front (drop a m)) ∙ ap (λ (l : List ℕ). take s (drop b l)) (take-append-drop a m))

  new-after : (b s : ℕ) → a + n ≤ b → take s (drop b new) ≡ take s (drop b m)
  new-after b s g =
      let j = b - (a + n) in
      let q : a + n + j ≡ b = omega arith in
      let p : drop (a + n) new ≡ drop (a + n) m =
      rw new_is (ap (drop (a + n)) (sym (append_assoc (take a m) e (drop (a + n) m)))
      ∙ drop_at (take a m ++ e) (drop (a + n) m) (a + n) (length-append (take a m) e ∙ omega (arith, front_length, part_length))) in
      ap (take s)
      (ap (λ (n : ℕ). drop n new) (sym q) ∙ sym (drop-drop j (a + n) new) ∙ ap (drop j) p ∙ drop-drop j (a + n) m
      ∙ ap (λ (n : ℕ). drop n m) q)

-- ---- an entry of a group

-- the entry with these bytes
abbrev parts : List ℕ → List ℕ → Entry
parts s f = record { set = u32_at s 0; figures = f }

entry_parts : (g : List ℕ) (way : ℕ) → entry_in g way ≡ parts (take 4 (drop (way * 4) g)) (take 42 (drop (64 + way * 42) g))
unfolding entry_in
entry_parts g way =
    let z : way * 4 + 0 ≡ way * 4 = omega arith in
    rw (number_part g 4 (way * 4) 0 4 (omega arith), z) refl

-- an entry of which no byte is changed
entry_same : (g g' : List ℕ) (way : ℕ) → take 4 (drop (way * 4) g') ≡ take 4 (drop (way * 4) g)
    → take 42 (drop (64 + way * 42) g') ≡ take 42 (drop (64 + way * 42) g) → entry_in g' way ≡ entry_in g way
entry_same g g' way p q = entry_parts g' way ∙ rw (p, q) (sym (entry_parts g way))

-- the set and the figures of an entry are written
module _ (g s f : List ℕ) (way jobs : ℕ) (ends : List ℕ) (u l : ℕ) where
  abbrev mid : List ℕ
  mid = replaced (way * 4) 4 g s

  abbrev end : List ℕ
  end = replaced (64 + way * 42) 42 mid f

  pub stored : length g ≡ 736 → way < 16 → length s ≡ length (part (way * 4) 4 g) → length f ≡ length (part (64 + way * 42) 42 mid)
      → u32_at s 0 ≡ u → FiguresOf f jobs ends l → Stored g end jobs ends u l
  stored size w ss sf set figures i k = go (less-or-not i way) (less-or-not way i)
    where
      fits : way * 4 + 4 ≤ length g
      fits = omega arith

      mid_fits : 64 + way * 42 + 42 ≤ length mid
      mid_fits = omega (arith, new-length g s (way * 4) 4 fits ss)

      -- the sets stand before the figures
      sets : take 4 (drop (i * 4) end) ≡ take 4 (drop (i * 4) mid)
      sets = new_before mid f (64 + way * 42) 42 mid_fits sf (i * 4) 4 (omega arith)

      behind : take 42 (drop (64 + i * 42) mid) ≡ take 42 (drop (64 + i * 42) g)
      behind = new-after g s (way * 4) 4 fits ss (64 + i * 42) 42 (omega arith)

      go : (i < way) ⊎ (way ≤ i) → (way < i) ⊎ (i ≤ way) → (entry_in end i ≡ entry_in g i) ⊎ EntryOf (entry_in end i) jobs ends u l
      go (inl x) y = inl (entry_same g end i (sets ∙ new_before g s (way * 4) 4 fits ss (i * 4) 4 (omega arith))
          (new_before mid f (64 + way * 42) 42 mid_fits sf (64 + i * 42) 42 (omega arith) ∙ behind))
      go (inr x) (inl y) = inl (entry_same g end i (sets ∙ new-after g s (way * 4) 4 fits ss (i * 4) 4 (omega arith))
          (new-after mid f (64 + way * 42) 42 mid_fits sf (64 + i * 42) 42 (omega arith) ∙ behind))
      go (inr x) (inr y) =
          let e : i ≡ way = omega arith in
          let p : take 4 (drop (i * 4) end) ≡ s = sets ∙ rw e (new_here g s (way * 4) 4 fits ss) in
          let q : take 42 (drop (64 + i * 42) end) ≡ f = rw e (new_here mid f (64 + way * 42) 42 mid_fits sf) in
          inr (rw (entry_parts end i, p, q) (record { set = set; figures = figures }))

-- ---- what the code does

module _ (m : List ℕ) (jobs : ℕ) (ends : List ℕ) (u l : ℕ) where
  pub adds_none : Adds m m jobs ends u l
  adds_none = record { size = refl; each = λ k h. inl refl }

  -- a group is written at a, the start of the g-th
  pub adds-at : (e : List ℕ) (a g : ℕ) → a ≡ g * 736 → a + 736 ≤ length m → length e ≡ length (part a 736 m)
      → Stored (part a 736 m) e jobs ends u l → Adds m (replaced a 736 m e) jobs ends u l
  unfolding entry_at group_at
  adds-at e a g q h s y = record {
    size = new-length m e a 736 h s;
    each = λ k i. go k (less-or-not (k / 16) g) (less-or-not g (k / 16));
  }
    where
      written : List ℕ
      written = replaced a 736 m e

      go : (k : ℕ) → (k / 16 < g) ⊎ (g ≤ k / 16) → (g < k / 16) ⊎ (k / 16 ≤ g)
          → (entry_at written k ≡ entry_at m k) ⊎ EntryOf (entry_at written k) jobs ends u l
      go k (inl x) w = inl (ap (λ (t : List ℕ). entry_in t (k % 16)) (new_before m e a 736 h s (k / 16 * 736) 736 (omega arith)))
      go k (inr x) (inl w) = inl (ap (λ (t : List ℕ). entry_in t (k % 16)) (new-after m e a 736 h s (k / 16 * 736) 736 (omega arith)))
      go k (inr x) (inr w) =
          let p : k / 16 * 736 ≡ a = omega arith in
          let z : a + 736 - a ≡ 736 = omega arith in
          rw (p, new_here m e a 736 h s) (rw z at (y (k % 16) (omega arith)))

  -- an entry of a group at a, the start of the g-th, is ahead
  pub hit-at : (rest a g way : ℕ) → a ≡ g * 736 → a + 736 ≤ length m → way < 16
      → EntryAhead (entry_in (part a 736 m) way) jobs ends u l (l - rest) → Hit m jobs ends u l rest
  unfolding entry_at group_at
  hit-at rest a g way q h w o =
      let z : a + 736 - a ≡ 736 = omega arith in
      let p : (g * 16 + way) / 16 ≡ g = omega arith in
      let r : (g * 16 + way) % 16 ≡ way = omega arith in
      record { at = g * 16 + way; inside = omega arith; ahead = rw (p, r) (rw (z, q) at o) }

-- ---- all zero

-- no entry has a set
pub zero_sets : (m : List ℕ) (n : ℕ) → m ≡ replicate n 0 → (k : ℕ) → k < entries m → (entry_at m k).set ≡ 0
unfolding entry_at entry_in group_at
zero_sets m n e k l =
    let q : length m ≡ n = ap length e ∙ length-replicate n 0 in
    rw e
    (number_part (replicate n 0) 736 (k / 16 * 736) (k % 16 * 4) 4 (omega arith)
    ∙ number-zero n (k / 16 * 736 + k % 16 * 4) 4 (omega arith))
