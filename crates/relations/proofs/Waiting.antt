-- The jobs that wait for each job, as sets.
use mathlib.Core.Path.{◌≡◌, ap, ◌∙◌}
use mathlib.Core.Logic.{◌⊎◌, inl, inr}
use mathlib.Core.List.{List}
use Prim.Native.Nat.{ℕ, ◌+◌, ◌<◌}
use native.Mathlib.Omega.{arith}
use native.Mathlib.Nat.{not-suc-le-zero}
use lib.ListN.{length, get_or, set, length-set}
use lib.Seq.{get_or-set_same, get_or-set_other}
use Rattle.counting.proofs.Tests.{same_or_not}
use Rattle.bits.specs.Bits.{bit}
use Rattle.bits.proofs.Sets.{bit-set_of}
use Rattle.tables.specs.declared.Jobs.{Jobs}
use Rattle.tables.specs.Tables.{earlier_at, count_of}
use Rattle.relations.specs.Relations.{LaterOf}

-- the first n jobs' sets
pub record LatersTo (t : Jobs) (n : ℕ) (later : List ℕ) : Type 0 where
  pub size : length later ≡ 20
  pub each : (i k : ℕ) → i < n → k < count_of t → bit (get_or later i 0) k ≡ bit (earlier_at t k) i

pub laters-none : (t : Jobs) (later : List ℕ) → length later ≡ 20 → LatersTo t 0 later
laters-none t later e = record { size = e; each = λ i k l. absurd (not-suc-le-zero l) }

pub laters_more : {t : Jobs} {n s : ℕ} {later : List ℕ} → LatersTo t n later → n < 20 → LaterOf t n (count_of t) s
    → LatersTo t (n + 1) (set later n s)
laters_more {t} {n} {s} {later} h l f = record {
  size = length-set later n s ∙ h.size;
  each = λ i k a b. go i k a b (same_or_not i n);
}
  where
    go : (i k : ℕ) → i < n + 1 → k < count_of t → (i ≡ n) ⊎ (¬ (i ≡ n)) → bit (get_or (set later n s) i 0) k ≡ bit (earlier_at t k) i
    go i k a b (inl z) = rw (z, get_or-set_same later n s 0 (omega (arith, h.size)))
        (ap (λ (x : ℕ). bit x k) f ∙ bit-set_of (count_of t) (λ k. bit (earlier_at t k) n) k b)
    go i k a b (inr z) = rw (get_or-set_other later n i s 0 z) (h.each i k (omega arith) b)
