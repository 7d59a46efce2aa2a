-- The frame of a table, and what its last row shows.
use mathlib.Core.Path.{◌≡◌, refl, ap, ◌∙◌}
use mathlib.Core.Logic.{◌⊎◌, inl, inr}
use mathlib.Core.Bool.{Bool, true, false, ◌&&◌}
use mathlib.Core.List.{List}
use Prim.Native.Nat.{ℕ, ◌+◌, ◌-◌, ◌*◌, ◌/◌, ◌≤◌, ◌<◌, min}
use native.Mathlib.Omega.{arith}
use native.Mathlib.Nat.{le_refl, le-div_iff_mul-le, lt-div-mul-add, mul-add, mul_comm, mul-le-mul_left, div-mul-le_self, zero-div}
use lib.Dec.{leb, eqb}
use lib.ListN.{get_or}
use borrow.Author.Tests.{le-leb}
use Rattle.counting.specs.Counting.{only, sum, Rises}
use Rattle.counting.proofs.Tests.{true-or-false, less-or-not}
use Rattle.counting.proofs.Sums.{sum_same}
use Rattle.figures.specs.Figures.{most_jobs, most_modules, no_minute}
use Rattle.bits.specs.Bits.{bit}
use Rattle.tables.specs.declared.Jobs.{Jobs}
use Rattle.tables.specs.Tables.{need_at, kept_at, count_of, modules_of, Fit}
use Rattle.tables.specs.declared.Part.{Part}
use Rattle.placement.specs.Profile.{ProfileOf}
use Rattle.weights.specs.Weights.{Put}
use Rattle.lanes.specs.Lanes.{served_on, Serving}
use Rattle.lanes.proofs.Laws.{div-rises}
use Rattle.fitting.specs.declared.Frame.{Frame}
use Rattle.fitting.specs.Fitting.{cells, release_at, Ordered, AllAmong, Framed, HasRoom, FitsIn, RowOf, reach_by, Tabling, OverfullFrom}
use Rattle.fitting.proofs.Tables.{column}

-- ---- the frame

-- the columns that so many rows leave to each
pub many_columns : (n : ℕ) → n ≤ most_jobs → 292 ≤ cells / (n + 1)
many_columns n l = (le-div_iff_mul-le {k = n + 1} {x = 292} {y = cells} (omega arith)).1 (omega arith)

-- a step has no more than half of the minutes, and one more
pub short-step : (x c : ℕ) → 0 < c → ((1 ≤ x) → 2 ≤ c) → x / c * 2 ≤ x
short-step x c pos two = go (less-or-not x 1)
  where
    go : (x < 1) ⊎ (1 ≤ x) → x / c * 2 ≤ x
    go (inl l) = omega (arith, div-mul-le_self x c, mul-le-mul_left (x / c) pos)
    go (inr l) = omega (arith, div-mul-le_self x c, mul-le-mul_left (x / c) (two l))

-- steps so long that x minutes have fewer than c of them
pub few-steps : (x c : ℕ) → 0 < c → x / (x / c + 1) < c
few-steps x c pos = go (less-or-not (x / (x / c + 1)) c)
  where
    go : (x / (x / c + 1) < c) ⊎ (c ≤ x / (x / c + 1)) → x / (x / c + 1) < c
    go (inl l) = l
    go (inr l) =
        let most = (le-div_iff_mul-le {k = x / c + 1} {x = c} {y = x} (omega arith)).0 l in
        absurd (omega (arith, most, lt-div-mul-add {a = x} pos, mul-add c (x / c) 1, mul_comm c (x / c)))

-- ---- the last row

module _ {t : Jobs} {f : Frame} {release value : ℕ → ℕ} {order : List ℕ} {n : ℕ} {row : ℕ → ℕ} (framed : Framed f)
    (h : RowOf t f release value order n row) where
  abbrev span : ℕ
  span = f.close - f.least

  reach-rises : Rises f.close (reach_by f row)
  reach-rises a b l m =
      h.rises (min a span / f.step) (min b span / f.step) (div-rises (min a span) (min b span) f.step framed.some (omega arith))
      (column framed (min b span) (omega arith))

  reach-none : reach_by f row 0 ≡ 0
  reach-none =
      let e : min 0 span ≡ 0 = omega arith in
      ap (λ (x : ℕ). row (x / f.step)) e ∙ ap row (zero-div f.step) ∙ h.none

  pub serving_by : {p : Part} {gone free modules : ℕ} → n ≤ most_jobs → ProfileOf p gone free modules f.least → modules ≤ most_modules
      → Serving (λ x. x) (reach_by f row) p gone free modules f.least f.close
  serving_by few profile narrow = record {
    most_small = λ x l. omega arith;
    reach-rises = reach-rises;
    reach-none = reach-none;
    reach_small = λ x l. omega (arith, h.small (min x span / f.step) (column framed (min x span) (omega arith)));
    profile = profile;
    narrow = narrow;
    before = framed.before;
  }

  module _ (p : Part) (all : AllAmong p.unplaced (count_of t) order n) (released : (k : ℕ) → k < count_of t → f.least ≤ release k)
      (beside : (k : ℕ) → bit p.unplaced k ≡ false → value k ≡ 0) where
    serves : (X : ℕ → Bool) (x : ℕ) → ((k : ℕ) → k < count_of t → X k ≡ true → bit p.unplaced k ≡ true)
        → FitsIn t release f.close X x → sum (count_of t) (λ k. only (X k) (value k)) ≤ reach_by f row x
    serves X x left fits =
        let same = sum_same (count_of t) (λ k. only (X k) (kept_at t k)) (λ k. only (X k && leb f.least (release k)) (kept_at t k))
        (λ k m. one k m (X k) refl) in
        h.holds X (min x span) (omega arith) (λ k m e. all k m (left k m e)) (omega (arith, same, fits.0, fits.1 f.least), fits.1)
      where
        one : (k : ℕ) → k < count_of t → (b : Bool) → X k ≡ b
            → only (X k) (kept_at t k) ≡ only (X k && leb f.least (release k)) (kept_at t k)
        one k m true e = rw (e, le-leb f.least (release k) (released k m)) refl
        one k m false e = rw e refl

    pub overfull_by : served_on (λ x. x) (reach_by f row) (modules_of t) p f.least f.close
        < sum (count_of t) (λ k. need_at t k * value k) → OverfullFrom t p release f.least f.close
    overfull_by over = record {
      value = value;
      reach = reach_by f row;
      serves = λ X x l left fits. serves X x left fits;
      reach-rises = reach-rises;
      reach-none = reach-none;
      over = omega (
        arith,
        over,
        sum_same (count_of t) (λ k. need_at t k * value k) (λ k. only (bit p.unplaced k) (need_at t k * value k))
            (λ k m. one k (bit p.unplaced k) refl),
      );
    }
      where
        one : (k : ℕ) (b : Bool) → bit p.unplaced k ≡ b → need_at t k * value k ≡ only (bit p.unplaced k) (need_at t k * value k)
        one k true e = rw e refl
        one k false e = rw (e, beside k e) (omega arith)

-- the same by releases that are the same
pub overfull_alike : {t : Jobs} {p : Part} {release release' : ℕ → ℕ} {l C : ℕ} → ((k : ℕ) → k < count_of t → release k ≡ release' k)
    → OverfullFrom t p release l C → OverfullFrom t p release' l C
overfull_alike {t} {release = release} {release'} same h = record {
  value = h.value;
  reach = h.reach;
  serves = λ X x l left fits. h.serves X x l left (
    fits.0,
    λ a. omega (
      arith,
      fits.1 a,
      sum_same (count_of t) (λ k. only (X k && leb a (release k)) (kept_at t k)) (λ k. only (X k && leb a (release' k)) (kept_at t k))
          (λ k m. ap (λ (r : ℕ). only (X k && leb a r) (kept_at t k)) (same k m)),
    ),
  );
  reach-rises = h.reach-rises;
  reach-none = h.reach-none;
  over = h.over;
}

-- ---- the table of a part-plan

-- no release lies before minute l if no start does
release_from : (at : List ℕ) (l k : ℕ) → l ≤ get_or at k 0 → l ≤ release_at at l k
unfolding release_at
release_from at l k m = go (true-or-false (eqb (get_or at k 0) no_minute))
  where
    go : (eqb (get_or at k 0) no_minute ≡ true) ⊎ (eqb (get_or at k 0) no_minute ≡ false) → l ≤ release_at at l k
    go (inl e) = rw e (le_refl l)
    go (inr e) = rw e m

pub tabling : {t : Jobs} (p : Part) {f : Frame} {order : List ℕ} {n : ℕ} (at : List ℕ) {old release : List ℕ} {l gone free : ℕ} → Fit t
    → Put (λ k. k) old release most_jobs (release_at at l) → f.least ≡ l → Framed f → HasRoom f n
    → Ordered (λ k. get_or release k 0) (count_of t) order n
    → AllAmong p.unplaced (count_of t) order n → ((k : ℕ) → k < count_of t → l ≤ get_or at k 0)
    → ProfileOf p gone free (modules_of t) l → Tabling t p f order n release gone free
tabling p at {l = l} fit put e framed room ordered all starts profile = record {
  fit = fit;
  framed = framed;
  room = room;
  ordered = ordered;
  all = all;
  released = λ k m. omega (arith, e, put.each k (omega (arith, fit.few)), release_from at l k (starts k m));
  profile = rw e profile;
}
