-- The job of a set that starts first.
use mathlib.Core.Path.{◌≡◌}
use mathlib.Core.Logic.{◌⊎◌, inl, inr}
use mathlib.Core.Bool.{true, false}
use mathlib.Core.List.{List}
use Prim.Native.Nat.{ℕ, ◌+◌, ◌-◌, ◌*◌, ◌/◌, ◌≤◌, ◌<◌}
use native.Mathlib.Omega.{arith}
use lib.ListN.{get_or}
use Rattle.counting.proofs.Tests.{clash}
use Rattle.bits.specs.Bits.{bit, without_bit, set_of}
use Rattle.bits.proofs.Digits.{bit-none}
use Rattle.bits.proofs.Walks.{Walk, walk_first, walk_none, walk_next, walk_gone}
use Rattle.candidates.specs.declared.Choice.{Choice}
use Rattle.candidates.specs.Candidates.{LowerRank, ChoiceOf}

-- the choice, by rank, among the jobs of the set that are not still to come
pub record Choosing (at : List ℕ) (set jobs todo job rank : ℕ) : Type 0 where
  pub walk : Walk set jobs todo
  pub first : (k : ℕ) → k < jobs → bit set k ≡ true → bit todo k ≡ false → rank / 65536 ≤ get_or at k 0
  pub some : rank / 65536 < 65535 → (job < jobs) × ((bit set job ≡ true) × (get_or at job 0 ≡ rank / 65536))
  pub low : rank / 65536 ≤ 65535

module _ (at : List ℕ) (set jobs : ℕ) where
  pub choosing-none : Choosing at set jobs (set_of jobs (bit set)) 0 4294901760
  choosing-none = record {
    walk = walk_first jobs set;
    first = λ k l b g. clash (bit set k) b (walk_none jobs set k l g);
    some = λ h. absurd (omega arith);
    low = omega arith;
  }

  pub choosing-step : (todo j chain c rank d least : ℕ) → get_or at j 0 ≤ 65535 → Choosing at set jobs todo c rank → bit todo j ≡ true
      → LowerRank c rank j (get_or at j 0 * 65536 + (65535 - chain)) d least → Choosing at set jobs (without_bit todo j) d least
  choosing-step todo j chain c rank d least top h t (inl (e, (f, m))) = record {
    walk = walk_next j h.walk;
    first = λ k l x g. go k l x (walk_gone todo j k g);
    some = λ q. rw (e, f) (h.some (rw f at q));
    low = omega (arith, h.low);
  }
    where
      go : (k : ℕ) → k < jobs → bit set k ≡ true → (k ≡ j) ⊎ (bit todo k ≡ false) → least / 65536 ≤ get_or at k 0
      go k l x (inl z) = rw z (omega arith)
      go k l x (inr z) = omega (arith, h.first k l x z)
  choosing-step todo j chain c rank d least top h t (inr (e, (f, m))) = record {
    walk = walk_next j h.walk;
    first = λ k l x g. go k l x (walk_gone todo j k g);
    some = λ q. rw e (h.walk.below j t, (h.walk.inside j t, here));
    low = omega arith;
  }
    where
      here : get_or at j 0 ≡ least / 65536
      here = omega arith

      go : (k : ℕ) → k < jobs → bit set k ≡ true → (k ≡ j) ⊎ (bit todo k ≡ false) → least / 65536 ≤ get_or at k 0
      go k l x (inl z) = rw z (omega (arith, here))
      go k l x (inr z) = omega (arith, h.first k l x z)

  pub choosing_all : (todo rank : ℕ) (c : Choice) → Choosing at set jobs todo c.job rank → todo ≡ 0 → c.start ≡ rank / 65536
      → ChoiceOf at set jobs c
  choosing_all todo rank c h e s = record {
    first = λ k l b. rw s (h.first k l b (rw e (bit-none k)));
    some = λ q. rw s (h.some (rw s at q));
    low = omega (arith, h.low);
  }
