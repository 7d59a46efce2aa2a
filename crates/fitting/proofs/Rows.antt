-- A row with one job more: its cells, and how they are put in.
use mathlib.Core.Path.{◌≡◌, refl, sym, ap, ◌∙◌, subst}
use mathlib.Core.Logic.{◌⊎◌, inl, inr}
use mathlib.Core.List.{List}
use Prim.Native.Nat.{ℕ, ◌+◌, ◌-◌, ◌≤◌, ◌<◌, max, min}
use native.Mathlib.Omega.{arith}
use lib.ListN.{get_or}
use borrow.Author.Tests.{le-leb, lt-leb}
use Rattle.counting.proofs.Tests.{less-or-not}
use Rattle.weights.specs.Weights.{Put}
use Rattle.fitting.specs.Fitting.{row_at, row_with}

-- ---- its cells

module _ (row : ℕ → ℕ) (d h v : ℕ) where
  -- a job that does not fit leaves the row as it is
  pub with_short : (x : ℕ) → min x h < d → row_with row d h v x ≡ row x
  unfolding row_with
  with_short x l = rw (lt-leb d (min x h) l) (omega arith)

  pub with_long : (x : ℕ) → d ≤ min x h → row_with row d h v x ≡ max (row x) (v + row (min x h - d))
  unfolding row_with
  with_long x l = rw (le-leb d (min x h) l) refl

  pub with-inside : (x : ℕ) → d ≤ x → x ≤ h → row_with row d h v x ≡ max (row x) (v + row (x - d))
  with-inside x l m =
      let e : min x h ≡ x = omega arith in
      with_long x (omega arith) ∙ ap (λ (y : ℕ). max (row x) (v + row (y - d))) e

  pub with_above : (x : ℕ) → d ≤ h → h ≤ x → row_with row d h v x ≡ max (row x) (v + row (h - d))
  with_above x l m =
      let e : min x h ≡ h = omega arith in
      with_long x (omega arith) ∙ ap (λ (y : ℕ). max (row x) (v + row (y - d))) e

  pub with_keeps : (x : ℕ) → row x ≤ row_with row d h v x
  unfolding row_with
  with_keeps x = omega arith

  pub with_takes : (x : ℕ) → d ≤ min x h → v + row (min x h - d) ≤ row_with row d h v x
  with_takes x l = omega (arith, with_long x l)

  module _ (cols : ℕ) (rises : (a b : ℕ) → a ≤ b → b < cols → row a ≤ row b) where
    pub with-rises : (a b : ℕ) → a ≤ b → b < cols → row_with row d h v a ≤ row_with row d h v b
    with-rises a b l m = go (less-or-not (min a h) d)
      where
        go : (min a h < d) ⊎ (d ≤ min a h) → row_with row d h v a ≤ row_with row d h v b
        go (inl s) = omega (arith, with_short a s, with_keeps b, rises a b l m)
        go (inr s) = omega (
          arith,
          with_long a s,
          with_takes b (omega arith),
          with_keeps b,
          rises a b l m,
          rises (min a h - d) (min b h - d) (omega arith) (omega arith),
        )

    pub with_small : (x b each : ℕ) → x < cols → ((y : ℕ) → y < cols → row y ≤ b) → v ≤ each → row_with row d h v x ≤ b + each
    with_small x b each m small light = go (less-or-not (min x h) d)
      where
        go : (min x h < d) ⊎ (d ≤ min x h) → row_with row d h v x ≤ b + each
        go (inl s) = omega (arith, with_short x s, small x m)
        go (inr s) = omega (arith, with_long x s, small x m, small (min x h - d) (omega arith))

-- ---- cells put in

-- other places and values that are the same
pub put_alike : {place place' : ℕ → ℕ} {old new : List ℕ} {n : ℕ} {value value' : ℕ → ℕ} → Put place old new n value
    → ((k : ℕ) → place k ≡ place' k) → ((k : ℕ) → k < n → value k ≡ value' k) → Put place' old new n value'
put_alike {new = new} h here same = record {
  size = h.size;
  kept = λ p apart. h.kept p (λ k l e. apart k l (e ∙ here k));
  each = λ k l. ap (λ (p : ℕ). get_or new p 0) (sym (here k)) ∙ h.each k l ∙ same k l;
  small = λ b before after p. h.small b before (λ k l. omega (arith, after k l, same k l)) p;
}

-- cells behind others
pub put-behind : {old mid new : List ℕ} {n : ℕ} {value : ℕ → ℕ} (at m : ℕ) → Put (λ x. at + x) old mid m value
    → Put (λ x. at + m + x) mid new n (λ x. value (m + x)) → Put (λ x. at + x) old new (m + n) value
put-behind {old} {mid} {new} {n} {value} at m h g = record {
  size = g.size ∙ h.size;
  kept = λ p apart. g.kept p (λ k l e. apart (m + k) (omega arith) (omega arith)) ∙ h.kept p (λ k l. apart k (omega arith));
  each = λ k l. each k l (less-or-not k m);
  small = λ b before after p. g.small b (h.small b before (λ k l. after k (omega arith))) (λ k l. after (m + k) (omega arith)) p;
}
  where
    each : (k : ℕ) → k < m + n → (k < m) ⊎ (m ≤ k) → get_or new (at + k) 0 ≡ value k
    each k l (inl s) = g.kept (at + k) (λ i o e. omega arith) ∙ h.each k s
    each k l (inr s) =
        let e : at + k ≡ at + m + (k - m) = omega arith in
        let f : m + (k - m) ≡ k = omega arith in
        ap (λ (p : ℕ). get_or new p 0) e ∙ g.each (k - m) (omega arith) ∙ ap value f

-- what stands before the cells is as it was
pub before_put : {old new : List ℕ} {n : ℕ} {value : ℕ → ℕ} (at : ℕ) → Put (λ x. at + x) old new n value → (from x : ℕ) → from + x < at
    → row_at new from x ≡ row_at old from x
before_put at h from x l = h.kept (from + x) (λ k m e. omega arith)

-- a row put in, in three parts: before the job ends, up to its room, and behind it
pub row_put : {old first second new : List ℕ} (from cols d h v : ℕ) → d ≤ h → h < cols
    → Put (λ x. from + cols + x) old first d (λ x. max (row_at old from x) 0)
    → Put (λ x. from + cols + d + x) first second (h + 1 - d) (λ x. max (row_at first (from + d) x) (v + row_at first from x))
    → Put (λ x. from + cols + h + 1 + x) second new (cols - h - 1) (λ x. max (row_at second (from + h + 1) x) (v + row_at old from (h - d)))
    → Put (λ x. from + cols + x) old new cols (row_with (row_at old from) d h v)
row_put {old} {first} {second} {new} from cols d h v l m put put' put'' =
    let at = from + cols in
    let row = row_at old from in
    let size : d + (h + 1 - d) + (cols - h - 1) ≡ cols = omega arith in
    let one = put_alike {value' = row_with row d h v} put (λ k. refl) (λ x o. omega (arith, with_short row d h v x (omega arith))) in
    let two = put_alike {value' = λ x. row_with row d h v (d + x)} put' (λ k. refl) (λ x o. middle x o) in
    let both = put-behind at d one two in
    let three = put_alike {value' = λ x. row_with row d h v (d + (h + 1 - d) + x)} put'' (λ k. last-place k) (λ x o. last both x o) in
    subst (λ (n : ℕ). Put (λ x. from + cols + x) old new n (row_with (row_at old from) d h v)) size
    (put-behind at (d + (h + 1 - d)) both three)
  where
    last-place : (k : ℕ) → from + cols + h + 1 + k ≡ from + cols + (d + (h + 1 - d)) + k
    last-place k = omega arith

    middle : (x : ℕ) → x < h + 1 - d
        → max (row_at first (from + d) x) (v + row_at first from x) ≡ row_with (row_at old from) d h v (d + x)
    middle x o =
        let inside = with-inside (row_at old from) d h v (d + x) (omega arith) (omega arith) in
        let high = before_put (from + cols) put (from + d) x (omega arith) in
        let low = before_put (from + cols) put from x (omega arith) in
        let e : from + d + x ≡ from + (d + x) = omega arith in
        let f : d + x - d ≡ x = omega arith in
        omega (arith, inside, high, low, ap (λ (p : ℕ). get_or old p 0) e, ap (row_at old from) f)

    last : Put (λ x. from + cols + x) old second (d + (h + 1 - d)) (row_with (row_at old from) d h v) → (x : ℕ) → x < cols - h - 1
        → max (row_at second (from + h + 1) x) (v + row_at old from (h - d))
        ≡ row_with (row_at old from) d h v (d + (h + 1 - d) + x)
    last both x o =
        let above = with_above (row_at old from) d h v (d + (h + 1 - d) + x) l (omega arith) in
        let high = before_put (from + cols) both (from + h + 1) x (omega arith) in
        let e : from + h + 1 + x ≡ from + (d + (h + 1 - d) + x) = omega arith in
        omega (arith, above, high, ap (λ (p : ℕ). get_or old p 0) e)
