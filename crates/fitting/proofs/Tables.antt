-- No set of the jobs that are left which fits into so many minutes is worth more than the last row has for them.
use mathlib.Core.Path.{◌≡◌, refl, sym, ap, ◌∙◌}
use mathlib.Core.Logic.{◌⊎◌, inl, inr, ◌≢◌}
use mathlib.Core.Bool.{Bool, true, false, not, ◌&&◌, ◌||◌, and-true}
use mathlib.Core.List.{List}
use Prim.Native.Nat.{ℕ, ◌+◌, ◌-◌, ◌*◌, ◌/◌, ◌≤◌, ◌<◌, min}
use native.Mathlib.Omega.{arith}
use native.Mathlib.Nat.{le_trans, le-div_iff_mul-le, div-mul-le_self, add-mul, mul-add, mul-le-mul_left}
use lib.Dec.{leb, eqb}
use lib.ListN.{get_or}
use borrow.Author.Tests.{eqb-true, eqb-false, le-leb}
use Rattle.counting.specs.Counting.{only, sum}
use Rattle.counting.proofs.Tests.{true-or-false, clash, less-or-not, last-or_below, and_left, and_right, and_both, only_mono}
use Rattle.counting.proofs.Sums.{sum-le, sum_same, sum-zero, sum_insert}
use Rattle.tables.specs.declared.Jobs.{Jobs}
use Rattle.tables.specs.Tables.{kept_at, count_of}
use Rattle.lanes.proofs.Laws.{div-rises}
use Rattle.fitting.specs.declared.Frame.{Frame}
use Rattle.fitting.specs.Fitting.{cells, top_value, Among, Framed, FitsIn, RowOf, row_with}
use Rattle.fitting.proofs.Rows.{with_keeps, with_takes, with-rises, with_small, with_short, with_long}

-- ---- a set without one of its members

module _ (X : ℕ → Bool) (j : ℕ) where
  abbrev others : ℕ → Bool
  others k = X k && not (eqb k j)

  others-none : others j ≡ false
  others-none = go (eqb j j) refl
    where
      go : (b : Bool) → eqb j j ≡ b → others j ≡ false
      go true e = rw e (and-false (X j))
        where
          and-false : (a : Bool) → (a && false) ≡ false
          and-false true = refl
          and-false false = refl
      go false e = absurd (eqb-false j j e refl)

  split : (n : ℕ) (g : ℕ → ℕ) → j < n → X j ≡ true → sum n (λ k. only (X k) (g k)) ≡ sum n (λ k. only (others k) (g k)) + g j
  split n g l has =
      sum_same n (λ k. only (X k) (g k)) (λ k. only (eqb k j || others k) (g k)) (λ k m. ap (λ b. only b (g k)) (one k (eqb k j) refl))
      ∙ sum_insert n others g j l others-none
    where
      one : (k : ℕ) (b : Bool) → eqb k j ≡ b → X k ≡ (eqb k j || (X k && not (eqb k j)))
      one k true e = rw e (ap X (eqb-true k j e) ∙ has)
      one k false e = rw e (sym (and-true (X k)))

  other : (k : ℕ) → others k ≡ true → (X k ≡ true) × (k ≢ j)
  other k b = (and_left (X k) _ b, λ e. clash (others k) b (ap others e ∙ others-none))

-- ---- minutes in whole steps

-- what is left of m minutes behind d of them has no more steps than m has behind those of d
steps_less : (m d s : ℕ) → 0 < s → d ≤ m → (m - d) / s + d / s ≤ m / s
steps_less m d s pos l =
    (le-div_iff_mul-le pos).1 (omega (arith, add-mul ((m - d) / s) (d / s) s, div-mul-le_self (m - d) s, div-mul-le_self d s))

pub column : {f : Frame} → Framed f → (x : ℕ) → x ≤ f.close - f.least → x / f.step < f.cols
column {f} framed x l = omega (arith, div-rises x (f.close - f.least) f.step framed.some l, framed.inside)

-- room for one row more
pub room_more : (cols i n : ℕ) → i < n → cols * (n + 1) ≤ cells → cols * i + cols + cols ≤ cells
room_more cols i n l room =
    let more : i + 2 ≤ n + 1 = omega arith in
    omega (arith, mul-add cols i 2, mul-le-mul_left cols more)

-- ---- one job more

pub row-none : {t : Jobs} {f : Frame} {release value : ℕ → ℕ} {order : List ℕ} {row : ℕ → ℕ} → Framed f
    → ((x : ℕ) → x < f.cols → row x ≡ 0) → RowOf t f release value order 0 row
row-none {t} {f} {release} {value} {order} {row} framed zero = record {
  holds = λ X x l among fits. omega (
    arith,
    sum_same (count_of t) (λ k. only (X k) (value k)) (λ k. 0) (λ k m. one X among k m (true-or-false (X k))),
    sum-zero (count_of t),
  );
  rises = λ a b l m. omega (arith, zero a (omega arith), zero b m);
  none = zero 0 (omega (arith, framed.inside));
  small = λ x m. omega (arith, zero x m);
}
  where
    one : (X : ℕ → Bool) → ((k : ℕ) → k < count_of t → X k ≡ true → Among order 0 k) → (k : ℕ) → k < count_of t
        → (X k ≡ true) ⊎ (X k ≡ false) → only (X k) (value k) ≡ 0
    one X among k m (inl e) = absurd (omega (arith, (among k m e).1))
    one X among k m (inr e) = rw e refl

module _ {t : Jobs} {f : Frame} {release value : ℕ → ℕ} {order : List ℕ} {n : ℕ} {row row' : ℕ → ℕ} (framed : Framed f)
    (h : RowOf t f release value order n row) (inside : get_or order n 0 < count_of t)
    (falls : (i : ℕ) → i < n → release (get_or order n 0) ≤ release (get_or order i 0))
    (light : value (get_or order n 0) ≤ top_value) (short : kept_at t (get_or order n 0) < f.step → value (get_or order n 0) ≡ 0)
    (is : (x : ℕ) → x < f.cols → row' x ≡ row_with row (kept_at t (get_or order n 0) / f.step)
    ((f.close - release (get_or order n 0)) / f.step) (value (get_or order n 0)) x) where
  abbrev j : ℕ
  j = get_or order n 0

  abbrev d : ℕ
  d = kept_at t j / f.step

  abbrev room : ℕ
  room = (f.close - release j) / f.step

  -- a member of the first jobs and one more is that one, or a member of the first
  last_among : (k : ℕ) → Among order (n + 1) k → (k ≡ j) ⊎ Among order n k
  last_among k (i, l, e) = go (last-or_below n i (omega arith))
    where
      go : (i ≡ n) ⊎ (i < n) → (k ≡ j) ⊎ Among order n k
      go (inl s) = inl (sym e ∙ ap (λ (p : ℕ). get_or order p 0) s)
      go (inr s) = inr (i, s, e)

  released : (k : ℕ) → Among order (n + 1) k → release j ≤ release k
  released k a = go (last_among k a)
    where
      go : (k ≡ j) ⊎ Among order n k → release j ≤ release k
      go (inl e) = omega (arith, ap release e)
      go (inr (i, l, e)) = omega (arith, falls i l, ap release e)

  module _ (X : ℕ → Bool) (x : ℕ) (l : x ≤ f.close - f.least) (among : (k : ℕ) → k < count_of t → X k ≡ true → Among order (n + 1) k)
      (fits : FitsIn t release f.close X x) where
    -- a set with the job starts from its release on
    all_late : sum (count_of t) (λ k. only (X k) (kept_at t k)) ≤ f.close - release j
    all_late =
        let same = sum_same (count_of t) (λ k. only (X k) (kept_at t k)) (λ k. only (X k && leb (release j) (release k)) (kept_at t k))
        (λ k m. one k m (X k) refl) in
        omega (arith, same, fits.1 (release j))
      where
        one : (k : ℕ) → k < count_of t → (b : Bool) → X k ≡ b
            → only (X k) (kept_at t k) ≡ only (X k && leb (release j) (release k)) (kept_at t k)
        one k m true e = rw (e, le-leb (release j) (release k) (released k (among k m e))) refl
        one k m false e = rw e refl

    with-job : X j ≡ true → sum (count_of t) (λ k. only (X k) (value k)) ≤ row' (x / f.step)
    with-job e =
        let m = min x (f.close - release j) in
        let lasts = split X j (count_of t) (kept_at t) inside e in
        let worth = split X j (count_of t) value inside e in
        let rest = h.holds (others X j) (m - kept_at t j) (omega arith) (λ k i b. old k i b)
        (omega (arith, lasts, fits.0, all_late), λ a. le_trans (fewer a) (fits.1 a)) in
        let less = steps_less m (kept_at t j) f.step framed.some (omega (arith, lasts, fits.0, all_late)) in
        let low = div-rises m x f.step framed.some (omega arith) in
        let low' = div-rises m (f.close - release j) f.step framed.some (omega arith) in
        let up = h.rises ((m - kept_at t j) / f.step) (min (x / f.step) room - d) (omega arith) (omega (arith, column framed x l)) in
        omega (arith, worth, rest, up, is (x / f.step) (column framed x l), with_takes row d room (value j) (x / f.step) (omega arith))
      where
        old : (k : ℕ) → k < count_of t → others X j k ≡ true → Among order n k
        old k i b = go (last_among k (among k i (other X j k b).0))
          where
            go : (k ≡ j) ⊎ Among order n k → Among order n k
            go (inl s) = absurd ((other X j k b).1 s)
            go (inr a) = a

        fewer : (a : ℕ) → sum (count_of t) (λ k. only (others X j k && leb a (release k)) (kept_at t k))
            ≤ sum (count_of t) (λ k. only (X k && leb a (release k)) (kept_at t k))
        fewer a = sum-le (count_of t) _ _ (λ k m. only_mono (others X j k && leb a (release k)) (X k && leb a (release k)) (kept_at t k)
            (λ b. and_both (X k) _ (other X j k (and_left (others X j k) _ b)).0 (and_right (others X j k) _ b)))

    without : X j ≡ false → sum (count_of t) (λ k. only (X k) (value k)) ≤ row' (x / f.step)
    without e =
        omega (
          arith,
          h.holds X x l (λ k i b. go k b (last_among k (among k i b))) fits,
          with_keeps row d room (value j) (x / f.step),
          is (x / f.step) (column framed x l),
        )
      where
        go : (k : ℕ) → X k ≡ true → (k ≡ j) ⊎ Among order n k → Among order n k
        go k b (inl s) = clash (X k) b (ap X s ∙ e)
        go k b (inr a) = a

  none : row' 0 ≡ 0
  none = is 0 (omega (arith, framed.inside)) ∙ go (less-or-not (min 0 room) d)
    where
      go : (min 0 room < d) ⊎ (d ≤ min 0 room) → row_with row d room (value j) 0 ≡ 0
      go (inl s) = with_short row d room (value j) 0 s ∙ h.none
      go (inr s) =
          let here : min 0 room - d ≡ 0 = omega arith in
          omega (
            arith,
            with_long row d room (value j) 0 s,
            ap row here,
            h.none,
            short (none_whole (omega arith)),
          )
        where
          none_whole : d ≡ 0 → kept_at t j < f.step
          none_whole e = go' (less-or-not (kept_at t j) f.step)
            where
              go' : (kept_at t j < f.step) ⊎ (f.step ≤ kept_at t j) → kept_at t j < f.step
              go' (inl s) = s
              go' (inr s) = absurd (omega (arith, e, (le-div_iff_mul-le {x = 1} {y = kept_at t j} framed.some).1 (omega arith)))

  pub row_more : RowOf t f release value order (n + 1) row'
  row_more = record {
    holds = λ X x l among fits. go X x l among fits (true-or-false (X j));
    rises = λ a b l m. omega (
      arith,
      is a (omega arith),
      is b m,
      with-rises row d room (value j) f.cols h.rises a b l m,
    );
    none = none;
    small = λ x m. omega (
      arith,
      is x m,
      with_small row d room (value j) f.cols h.rises x (top_value * n) top_value m h.small light,
    );
  }
    where
      go : (X : ℕ → Bool) (x : ℕ) → x ≤ f.close - f.least → ((k : ℕ) → k < count_of t → X k ≡ true → Among order (n + 1) k)
          → FitsIn t release f.close X x → (X j ≡ true) ⊎ (X j ≡ false) → sum (count_of t) (λ k. only (X k) (value k)) ≤ row' (x / f.step)
      go X x l among fits (inl e) = with-job X x l among fits e
      go X x l among fits (inr e) = without X x l among fits e
