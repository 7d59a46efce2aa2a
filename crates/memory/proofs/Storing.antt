-- The figures of an entry while they are written: the last start, then the ends one by one.
use mathlib.Core.Path.{◌≡◌, ap, ◌∙◌}
use mathlib.Core.Logic.{inl, ⊎_elim}
use mathlib.Core.List.{List}
use Prim.Native.Nat.{ℕ, ◌+◌, ◌*◌, ◌≤◌, ◌<◌, zero-le}
use native.Mathlib.Omega.{arith}
use lib.ListN.{length, get_or}
use Rattle.counting.proofs.Tests.{less-or-not}
use Rattle.words.specs.Words.{u16_at, written}
use Rattle.words.proofs.Writes.{written-length, written_here, written_other}
use Rattle.memory.specs.Entries.{last_at, end_at, FiguresOf}

-- the last start and the first i ends are written
pub record Storing (ends : List ℕ) (jobs last : ℕ) (figures : List ℕ) (i : ℕ) : Type 0 where
  pub few : jobs ≤ 20
  pub inside : i ≤ jobs
  pub size : length figures ≡ 42
  pub start : last_at figures ≡ last
  pub end : (k : ℕ) → k < i → end_at figures k ≡ get_or ends k 0

-- the last start is written
pub storing_first : {ends figures' : List ℕ} {jobs last x : ℕ} (figures : List ℕ) → jobs ≤ 20 → length figures ≡ 42 → x ≡ last
    → figures' ≡ written figures 0 2 x → x < 65536 → Storing ends jobs last figures' 0
storing_first {x = x} figures few size e w small = record {
  few = few;
  inside = zero-le;
  size = ap length w ∙ written-length figures 0 2 x (omega arith) ∙ size;
  start = rw w (written_here figures 0 2 x (omega arith) small ∙ e);
  end = λ k h. absurd (omega arith);
}

module _ {ends figures : List ℕ} {jobs last i : ℕ} (s : Storing ends jobs last figures i) where
  -- the next end is written
  pub storing-step : {figures' : List ℕ} {x : ℕ} → i < jobs → x ≡ get_or ends i 0 → figures' ≡ written figures (2 + 2 * i) 2 x → x < 65536
      → Storing ends jobs last figures' (i + 1)
  storing-step {figures'} {x} l e w small =
      let room : 2 + 2 * i + 2 ≤ length figures = omega (arith, s.few, s.size) in
      let other : (a : ℕ) → a + 2 ≤ 2 + 2 * i → u16_at figures' a ≡ u16_at figures a =
      λ a h. rw w (written_other figures (2 + 2 * i) 2 x room a 2 (inl h)) in
      record {
        few = s.few;
        inside = omega arith;
        size = ap length w ∙ written-length figures (2 + 2 * i) 2 x room ∙ s.size;
        start = other 0 (omega arith) ∙ s.start;
        end = λ k h. ⊎_elim (λ (m : k < i). other (2 + 2 * k) (omega arith) ∙ s.end k m)
            (λ (m : i ≤ k).
            let same : k ≡ i = omega arith in
            rw (same, w) (written_here figures (2 + 2 * i) 2 x room small ∙ e))
            (less-or-not k i);
      }

  pub storing_all : jobs ≤ i → FiguresOf figures jobs ends last
  storing_all l = record { last = s.start; end = λ k h. s.end k (omega arith) }
