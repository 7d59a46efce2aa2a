-- Laws of profiles: how many modules are held, and the first minute with room.
use mathlib.Core.Path.{◌≡◌, refl, ap, ◌∙◌}
use mathlib.Core.Logic.{◌⊎◌, inl, inr}
use mathlib.Core.Bool.{Bool, true, false}
use mathlib.Core.List.{List}
use Prim.Native.Nat.{ℕ, ◌+◌, ◌≤◌, ◌<◌, max}
use native.Mathlib.Omega.{arith}
use native.Mathlib.Nat.{le_refl}
use lib.Dec.{ltb, leb, eqb}
use lib.ListN.{get_or}
use borrow.Author.Tests.{ltb-true, leb-true, lt-ltb, le-leb, lt-leb, eqb-true, eqb-false}
use Rattle.counting.specs.Counting.{only}
use Rattle.counting.proofs.Tests.{less-or-not, only_mono}
use Rattle.counting.proofs.Sums.{sum-le, sum_same, sum-zero, sum-add, sum_single}
use Rattle.placement.specs.declared.Ended.{Ended}
use Rattle.placement.specs.Profile.{held_at, held_from, Sorted, Profile, FirstRoom, EndedBy}

module _ (until held : List ℕ) (count : ℕ) where
  -- ---- the modules of the later ones

  pub held_from-step : (i : ℕ) → i < count → held_from held count i ≡ get_or held i 0 + held_from held count (i + 1)
  unfolding held_from
  held_from-step i l =
      sum_same count _ (λ k. only (eqb k i) (get_or held k 0) + only (leb (i + 1) k) (get_or held k 0)) (λ k m. one k (eqb k i) refl)
      ∙ sum-add count (λ k. only (eqb k i) (get_or held k 0)) (λ k. only (leb (i + 1) k) (get_or held k 0))
      ∙ ap (λ x. x + held_from held count (i + 1)) (sum_single count (λ k. get_or held k 0) i l)
    where
      one : (k : ℕ) (b : Bool) → eqb k i ≡ b
          → only (leb i k) (get_or held k 0) ≡ only (eqb k i) (get_or held k 0) + only (leb (i + 1) k) (get_or held k 0)
      one k true e =
          let q : k ≡ i = eqb-true k i e in
          rw (e, le-leb i k (omega arith), lt-leb (i + 1) k (omega arith)) (omega arith)
      one k false e = let d = eqb-false k i e in go (less-or-not i k)
        where
          go : (i < k) ⊎ (k ≤ i) → only (leb i k) (get_or held k 0) ≡ only (eqb k i) (get_or held k 0) + only (leb (i + 1) k) (get_or held k 0)
          go (inl m) = rw (e, le-leb i k (omega arith), le-leb (i + 1) k (omega arith)) (omega arith)
          go (inr m) = let d = eqb-false k i e in rw (e, lt-leb i k (omega arith), lt-leb (i + 1) k (omega arith)) (omega arith)

  pub held_from-none : (i : ℕ) → count ≤ i → held_from held count i ≡ 0
  unfolding held_from
  held_from-none i l = sum_same count _ (λ k. 0) (λ k m. ap (λ b. only b (get_or held k 0)) (lt-leb i k (omega arith))) ∙ sum-zero count

  -- what has ended is held no more
  pub held-at-le : (i t : ℕ) → ((k : ℕ) → k < i → get_or until k 0 ≤ t) → held_at until held count t ≤ held_from held count i
  unfolding held_at held_from
  held-at-le i t h = sum-le count _ _ (λ k m. only_mono (ltb t (get_or until k 0)) (leb i k) (get_or held k 0)
      (λ e. go k (ltb-true t (get_or until k 0) e) (less-or-not k i)))
    where
      go : (k : ℕ) → t < get_or until k 0 → (k < i) ⊎ (i ≤ k) → leb i k ≡ true
      go k e (inl m) = absurd (omega (arith, h k m))
      go k e (inr m) = le-leb i k m

  -- what has not ended is held
  pub held_from-le : (i t : ℕ) → ((k : ℕ) → i ≤ k → k < count → t < get_or until k 0) → held_from held count i ≤ held_at until held count t
  unfolding held_at held_from
  held_from-le i t h = sum-le count _ _ (λ k m. only_mono (leb i k) (ltb t (get_or until k 0)) (get_or held k 0)
      (λ e. lt-ltb t (get_or until k 0) (h k (leb-true i k e) m)))

-- ---- one more has ended

pub profile_fits : {until held : List ℕ} {count gone free modules t : ℕ} → Profile until held count gone free modules t → gone < count
    → free + get_or held gone 0 ≤ modules
profile_fits {until} {held} {count} {gone} p l = omega (arith, p.balance, held_from-step until held count gone l)

pub profile-step : {until held : List ℕ} {count gone free modules t : ℕ} → Profile until held count gone free modules t → gone < count
    → get_or until gone 0 ≤ t → Profile until held count (gone + 1) (free + get_or held gone 0) modules t
profile-step {until} {held} {count} {gone} {free} {modules} {t} p l e = record {
  sorted = p.sorted;
  few = p.few;
  inside = omega arith;
  ended = λ k m. one k m (less-or-not k gone);
  balance = omega (arith, p.balance, held_from-step until held count gone l);
}
  where
    one : (k : ℕ) → k < gone + 1 → (k < gone) ⊎ (gone ≤ k) → get_or until k 0 ≤ t
    one k m (inl x) = p.ended k x
    one k m (inr x) = omega (arith, p.sorted k gone (omega arith) l)

-- none of the others has, where the next one has not
pub profile_live : {until held : List ℕ} {count gone free modules t : ℕ} → Profile until held count gone free modules t
    → t < get_or until gone 0 → (k : ℕ) → gone ≤ k → k < count → t < get_or until k 0
profile_live {gone = gone} p l k m n = omega (arith, p.sorted gone k m n)

-- what is held is what the others hold, so that the room is what is free
pub ended-room : {until held : List ℕ} {count modules t want : ℕ} {r : Ended} → EndedBy until held count modules t r
    → held_at until held count t + want ≤ modules → want ≤ r.free
ended-room {until} {held} {count} {modules} {t} {want} {r} e h =
    omega (arith, e.profile.balance, held_from-le until held count r.gone t e.live)

-- a later minute
pub profile_later : {until held : List ℕ} {count gone free modules t : ℕ} (u : ℕ) → t ≤ u → Profile until held count gone free modules t
    → Profile until held count gone free modules u
profile_later u l p = record {
  sorted = p.sorted;
  few = p.few;
  inside = p.inside;
  ended = λ k m. omega (arith, p.ended k m);
  balance = p.balance;
}

-- ---- looking for room, from one end to the next

-- so far: i have ended by minute r, f modules are free then, and there was no room before
pub record Scan (until held : List ℕ) (count modules want t r f i : ℕ) : Type 0 where
  pub sorted : Sorted until count
  pub few : count ≤ 20
  pub wanted : want ≤ modules
  pub inside : i ≤ count
  pub balance : f + held_from held count i ≡ modules
  pub from : t ≤ r
  pub ended : (k : ℕ) → k < i → get_or until k 0 ≤ r
  pub first : (u : ℕ) → t ≤ u → held_at until held count u + want ≤ modules → r ≤ u

pub scan_start : {until held : List ℕ} {count gone free modules want t : ℕ} → Profile until held count gone free modules t
    → want ≤ modules → Scan until held count modules want t t free gone
scan_start {t = t} p w = record {
  sorted = p.sorted;
  few = p.few;
  wanted = w;
  inside = p.inside;
  balance = p.balance;
  from = le_refl t;
  ended = p.ended;
  first = λ u l h. l;
}

-- where there is no room yet, another is to end
pub record Turn (held : List ℕ) (count modules f i : ℕ) : Type 0 where
  pub inside : i < count
  pub low : i < 20
  pub fits : f + get_or held i 0 ≤ modules

pub scan_turn : {until held : List ℕ} {count modules want t r f i : ℕ} → Scan until held count modules want t r f i → f < want
    → Turn held count modules f i
scan_turn {until} {held} {count} {modules} {want} {t} {r} {f} {i} s l = go (less-or-not i count)
  where
    go : (i < count) ⊎ (count ≤ i) → Turn held count modules f i
    go (inl k) = record {
      inside = k;
      low = omega (arith, s.few);
      fits = omega (arith, s.balance, held_from-step until held count i k);
    }
    go (inr k) = absurd (omega (arith, s.balance, s.wanted, held_from-none until held count i k))

pub scan_step : {until held : List ℕ} {count modules want t r f i : ℕ} → Scan until held count modules want t r f i → f < want
    → Scan until held count modules want t (max r (get_or until i 0)) (f + get_or held i 0) (i + 1)
scan_step {until} {held} {count} {modules} {want} {t} {r} {f} {i} s l = record {
  sorted = s.sorted;
  few = s.few;
  wanted = s.wanted;
  inside = omega (arith, turn.inside);
  balance = omega (arith, s.balance, held_from-step until held count i turn.inside);
  from = omega (arith, s.from);
  ended = λ k n. ended k n (less-or-not k i);
  first = λ u n h. first u (s.first u n h) h (less-or-not u (get_or until i 0));
}
  where
    turn : Turn held count modules f i
    turn = scan_turn s l

    ended : (k : ℕ) → k < i + 1 → (k < i) ⊎ (i ≤ k) → get_or until k 0 ≤ max r (get_or until i 0)
    ended k n (inl x) = omega (arith, s.ended k x)
    ended k n (inr x) = omega (arith, s.sorted k i (omega arith) turn.inside)

    first : (u : ℕ) → r ≤ u → held_at until held count u + want ≤ modules → (u < get_or until i 0) ⊎ (get_or until i 0 ≤ u)
        → max r (get_or until i 0) ≤ u
    first u n h (inr x) = omega arith
    first u n h (inl x) =
        let all = held_from-le until held count i u (λ k y z. omega (arith, s.sorted i k y z)) in
        absurd (omega (arith, s.balance))

pub scan-done : {until held : List ℕ} {count modules want t r f i : ℕ} → Scan until held count modules want t r f i → want ≤ f
    → FirstRoom until held count modules want t r
scan-done {until} {held} {count} {r = r} {i = i} s l = record {
  from = s.from;
  room = omega (arith, s.balance, held-at-le until held count i r s.ended);
  first = s.first;
}
