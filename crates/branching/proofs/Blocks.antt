-- Jobs behind a block: which jobs are awaited, and how a block grows along the placed jobs.
use mathlib.Core.Path.{◌≡◌, refl, sym, ap, ◌∙◌}
use mathlib.Core.Logic.{◌⊎◌, inl, inr}
use mathlib.Core.Bool.{Bool, true, false, ◌||◌}
use mathlib.Core.List.{List}
use Prim.Native.Nat.{ℕ, ◌+◌, ◌≤◌, ◌<◌, max}
use native.Mathlib.Omega.{arith}
use lib.Bits.{bit_or}
use lib.ListN.{get_or}
use Rattle.figures.specs.Figures.{most_jobs}
use Rattle.counting.proofs.Tests.{clash, last-or_below}
use Rattle.bits.specs.Bits.{bit, without_bit, set_of}
use Rattle.bits.proofs.Digits.{bit-none, bit-or}
use Rattle.bits.proofs.Walks.{Walk, walk_first, walk_none, walk_next, walk_gone}
use Rattle.tables.specs.declared.Jobs.{Jobs}
use Rattle.tables.specs.Tables.{minutes_at, arrival_at, earlier_at, count_of, changeover_of}
use Rattle.tables.specs.declared.Part.{Part}
use Rattle.branching.specs.declared.Behind.{Behind}
use Rattle.branching.specs.Branching.{Passing, AllAwaited, AllArrived, BlockFrom, EndsInBlock}
use Rattle.starting.proofs.Sifting.{or-true}

-- ---- the awaited jobs, and the last arrival

-- r has those of the jobs that are not still to come, and all of them have arrived by `last`
pub record Awaiting (t : Jobs) (set r last todo : ℕ) : Type 0 where
  pub walk : Walk set (count_of t) todo
  pub each : (x : ℕ) → x < count_of t → bit set x ≡ true → bit todo x ≡ false → (k : ℕ) → bit (earlier_at t x) k ≡ true → bit r k ≡ true
  pub arrived : (x : ℕ) → x < count_of t → bit set x ≡ true → bit todo x ≡ false → arrival_at t x ≤ last

pub awaiting-none : (t : Jobs) (set : ℕ) → Awaiting t set 0 0 (set_of (count_of t) (bit set))
awaiting-none t set =
    record { walk = walk_first (count_of t) set; each = λ x l b g. none x l b g; arrived = λ x l b g. none x l b g }
  where
    none : {A : Type 0} (x : ℕ) → x < count_of t → bit set x ≡ true → bit (set_of (count_of t) (bit set)) x ≡ false → A
    none x l b g = clash (bit set x) b (walk_none (count_of t) set x l g)

pub awaiting-step : {t : Jobs} {set r last todo : ℕ} (j : ℕ) → Awaiting t set r last todo
    → Awaiting t set (bit_or r (earlier_at t j)) (max last (arrival_at t j)) (without_bit todo j)
awaiting-step {t} {set} {r} {last} {todo} j h = record {
  walk = walk_next j h.walk;
  each = λ x l b g k e. bit-or r (earlier_at t j) k ∙ go x l b k e (walk_gone todo j x g);
  arrived = λ x l b g. by x l b (walk_gone todo j x g);
}
  where
    by : (x : ℕ) → x < count_of t → bit set x ≡ true → (x ≡ j) ⊎ (bit todo x ≡ false) → arrival_at t x ≤ max last (arrival_at t j)
    by x l b (inl z) = rw z (omega arith)
    by x l b (inr z) = omega (arith, h.arrived x l b z)

    go : (x : ℕ) → x < count_of t → bit set x ≡ true → (k : ℕ) → bit (earlier_at t x) k ≡ true → (x ≡ j) ⊎ (bit todo x ≡ false)
        → (bit r k || bit (earlier_at t j) k) ≡ true
    go x l b k e (inl z) = or-true (bit r k) (ap (λ (y : ℕ). bit (earlier_at t y) k) (sym z) ∙ e)
    go x l b k e (inr z) = rw (h.each x l b z k e) refl

pub awaiting_all : {t : Jobs} {set r last todo : ℕ} → Awaiting t set r last todo → todo ≡ 0 → AllAwaited t set r × AllArrived t set last
awaiting_all h e = ((λ x l b. h.each x l b (rw e (bit-none x))), (λ x l b. h.arrived x l b (rw e (bit-none x))))

-- ---- the block

-- the m-th placed job is the number of a job
pub placed-job : {t : Jobs} {p : Part} {j placed m a : ℕ} → Passing t p j → placed ≡ p.placed → m < placed → a ≡ get_or p.order m 0
    → a < most_jobs
placed-job {m = m} h e l z = omega (arith, h.jobs m (omega arith))

-- all of the first m placed jobs have ended and rested and all unplaced jobs have arrived by `latest`, and where a block was found, it reaches up to them
pub record Growing (t : Jobs) (p : Part) (settled : List ℕ) (behind : Behind) (j : ℕ) (found : Bool) (latest m : ℕ) : Type 0 where
  pub here : behind.arrived ≤ latest
  pub ended : (k : ℕ) → k < m → get_or p.ends (get_or p.order k 0) 0 + changeover_of t ≤ latest
  pub block : found ≡ true → (at : ℕ) × BlockFrom t p settled behind m j at

module _ (t : Jobs) (p : Part) (settled : List ℕ) (behind : Behind) (j : ℕ) where
  pub growing-none : Growing t p settled behind j false behind.arrived 0
  growing-none = record { here = omega arith; ended = λ k l. absurd (omega arith); block = λ e. clash false e refl }

  -- the next placed job, a, ends at `end`
  pub growing-step : (found : Bool) (latest m a end rest : ℕ) (more : Bool) → a ≡ get_or p.order m 0 → end ≡ get_or p.ends a 0
      → rest ≡ changeover_of t
      → Growing t p settled behind j found latest m
      → (more ≡ true → (bit behind.awaited a ≡ false)
      × ((found ≡ true) ⊎ ((bit (get_or settled a 0) j ≡ true) × (latest + minutes_at t a ≤ end))))
      → Growing t p settled behind j more (max latest (end + rest)) (m + 1)
  growing-step found latest m a end rest more z x y h says = record {
    here = omega (arith, h.here);
    ended = λ k l. ended k (last-or_below m k (omega arith));
    block = λ e. let s = says e in block s.0 s.1;
  }
    where
      ended : (k : ℕ) → (k ≡ m) ⊎ (k < m) → get_or p.ends (get_or p.order k 0) 0 + changeover_of t ≤ max latest (end + rest)
      ended k (inl e) = rw (e, ← z) (omega arith)
      ended k (inr l) = omega (arith, h.ended k l)

      free : bit behind.awaited a ≡ false → (k : ℕ) → (k ≡ m) ⊎ (k < m) → (k < m → bit behind.awaited (get_or p.order k 0) ≡ false)
          → bit behind.awaited (get_or p.order k 0) ≡ false
      free b k (inl e) g = rw (e, ← z) b
      free b k (inr l) g = g l

      block : bit behind.awaited a ≡ false → (found ≡ true) ⊎ ((bit (get_or settled a 0) j ≡ true) × (latest + minutes_at t a ≤ end))
          → (at : ℕ) × BlockFrom t p settled behind (m + 1) j at
      block b (inl e) =
          let old = h.block e in
          let o = old.1 in (
            old.0,
            record {
              inside = omega (arith, o.inside);
              here = o.here;
              before = o.before;
              settled_then = o.settled_then;
              unawaited = λ k x y. free b k (last-or_below m k (omega arith)) (λ l. o.unawaited k x l);
            },
          )
      block b (inr (e, l)) = (
        m,
        record {
          inside = omega arith;
          here = rw (← z) (omega (arith, l, x, h.here));
          before = λ k v. rw (← z) (omega (arith, l, x, h.ended k v));
          settled_then = rw (← z) e;
          unawaited = λ k x y. free b k (last-or_below m k (omega arith)) (λ v. absurd (omega arith));
        },
      )

  pub growing_all : (found : Bool) (latest start : ℕ) → Growing t p settled behind j found latest p.placed → found ≡ true → latest ≤ start
      → EndsInBlock t p settled behind start j
  growing_all found latest start h e l =
      let b = h.block e in record { at = b.0; block = b.1; ended = λ k x. omega (arith, h.ended k x) }
