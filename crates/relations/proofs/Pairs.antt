-- The rows of all jobs, one pair after another.
use mathlib.Core.Path.{◌≡◌, refl, sym, ap, ◌∙◌, subst}
use mathlib.Core.Logic.{◌⊎◌, inl, inr, ◌≢◌}
use mathlib.Core.Bool.{Bool, true, false, cond, ◌||◌}
use mathlib.Core.List.{List}
use Prim.Native.Nat.{ℕ, ◌+◌, ◌*◌, ◌≤◌, ◌<◌}
use native.Mathlib.Omega.{arith}
use native.Mathlib.Nat.{not-suc-le-zero}
use lib.Dec.{eqb}
use lib.Bits.{bit_and}
use lib.ListN.{length, get_or, set, length-set}
use lib.Seq.{get_or-set_same, get_or-set_other}
use borrow.Author.Tests.{eqb-true, eq-eqb}
use Rattle.counting.proofs.Tests.{clash, same_or_not, and_right}
use Rattle.bits.specs.Bits.{bit, with_bit}
use Rattle.bits.proofs.Digits.{bit-none, bit-and}
use Rattle.bits.proofs.Members.{bit_with}
use Rattle.relations.specs.declared.Row.{Row}
use Rattle.tables.specs.declared.Jobs.{Jobs}
use Rattle.tables.specs.Tables.{need_at, minutes_at, count_of, modules_of}
use Rattle.relations.specs.Relations.{Laters, WaitsToo, Alike, Swapping, RowOf, row_at, Related, PairPut, with_row}

-- a set that is in another
subset : (a b : ℕ) → bit_and a b ≡ a → (k : ℕ) → bit a k ≡ true → bit b k ≡ true
subset a b e k h = and_right (bit a k) (bit b k) (sym (bit-and a b k) ∙ ap (λ (x : ℕ). bit x k) e ∙ h)

-- whatever waits for a waits for b, by the sets of later jobs
waits_too : (t : Jobs) (later : List ℕ) → Laters t later → (a b : ℕ) → a < count_of t → b < count_of t
    → bit_and (get_or later a 0) (get_or later b 0) ≡ get_or later a 0 → WaitsToo t a b
waits_too t later h a b x y e k m w = sym (h b k y m) ∙ subset (get_or later a 0) (get_or later b 0) e k (h a k x m ∙ w)

-- a member of a set with one member more
with-or : (x n i : ℕ) → bit (with_bit x n) i ≡ true → (i ≡ n) ⊎ (bit x i ≡ true)
with-or x n i b = go (eqb i n) refl
  where
    go : (e : Bool) → eqb i n ≡ e → (i ≡ n) ⊎ (bit x i ≡ true)
    go true e = inl (eqb-true i n e)
    go false e = inr (rw e at (sym (bit_with x n i) ∙ b))

-- a number that is no member of it
with_none : (x n i : ℕ) → bit (with_bit x n) i ≡ false → (i ≢ n) × (bit x i ≡ false)
with_none x n i b = (other, go (eqb i n) refl)
  where
    other : i ≢ n
    other e = clash (bit (with_bit x n) i) (bit_with x n i ∙ ap (λ p. p || bit x i) (eq-eqb i n e)) b

    go : (e : Bool) → eqb i n ≡ e → bit x i ≡ false
    go true e = absurd (other (eqb-true i n e))
    go false e = rw e at (sym (bit_with x n i) ∙ b)

-- a member that is put in where a test passes
pub put_where : {A : Type 0} {r : ℕ} (x i : ℕ) (passed : Bool) → r ≡ cond passed (with_bit x i) x → (passed ≡ true → A)
    → (r ≡ x) ⊎ ((r ≡ with_bit x i) × A)
put_where x i true e f = inr (e, f refl)
put_where x i false e f = inl e

pub put-or : {A : Type 0} {r : ℕ} (x i : ℕ) (passed : Bool) → r ≡ cond passed (with_bit x i) x → (passed ≡ false → A)
    → ((r ≡ x) × A) ⊎ (r ≡ with_bit x i)
put-or x i true e f = inr e
put-or x i false e f = inl (e, f refl)

-- ---- the row of one job

module _ (t : Jobs) (later : List ℕ) (j : ℕ) (l : j < count_of t) (h : Laters t later) where
  pub row-none : RowOf t j 0 (record { alike = 0; swapping = 0; beside = 0 })
  row-none = record {
    alike = λ i b. clash (bit 0 i) b (bit-none i);
    swapping = λ i b. clash (bit 0 i) b (bit-none i);
    beside = λ i k. absurd (not-suc-le-zero k);
  }

  pub row_more : (n : ℕ) (row r : Row) → n < count_of t → RowOf t j n row
      → PairPut row t later n j r
      → RowOf t j (n + 1) r
  row_more n row r m old put = record { alike = alike put.alike; swapping = swapping put.swapping; beside = beside put.beside }
    where
      alike : (r.alike ≡ row.alike) ⊎ ((r.alike ≡ with_bit row.alike n) × ((need_at t n ≡ need_at t j)
          × ((minutes_at t n ≡ minutes_at t j) × (bit_and (get_or later j 0) (get_or later n 0) ≡ get_or later j 0))))
          → (i : ℕ) → bit r.alike i ≡ true → (i < n + 1) × Alike t i j
      alike (inl e) i b = let o = old.alike i (rw e at b) in (omega (arith, o.0), o.1)
      alike (inr (e, (w, (d, s)))) i b = go (with-or row.alike n i (rw e at b))
        where
          go : (i ≡ n) ⊎ (bit row.alike i ≡ true) → (i < n + 1) × Alike t i j
          go (inl z) = rw z (omega arith, (w, (d, waits_too t later h j n l m s)))
          go (inr z) = let o = old.alike i z in (omega (arith, o.0), o.1)

      swapping : (r.swapping ≡ row.swapping) ⊎ ((r.swapping ≡ with_bit row.swapping n) × ((need_at t n ≡ need_at t j)
          × (bit_and (get_or later n 0) (get_or later j 0) ≡ get_or later n 0)))
          → (i : ℕ) → bit r.swapping i ≡ true → (i < n + 1) × Swapping t i j
      swapping (inl e) i b = let o = old.swapping i (rw e at b) in (omega (arith, o.0), o.1)
      swapping (inr (e, (w, s))) i b = go (with-or row.swapping n i (rw e at b))
        where
          go : (i ≡ n) ⊎ (bit row.swapping i ≡ true) → (i < n + 1) × Swapping t i j
          go (inl z) = rw z (omega arith, (w, waits_too t later h n j m l s))
          go (inr z) = let o = old.swapping i z in (omega (arith, o.0), o.1)

      beside : ((r.beside ≡ row.beside) × (n ≢ j → modules_of t < need_at t n + need_at t j)) ⊎ (r.beside ≡ with_bit row.beside n)
          → (i : ℕ) → i < n + 1 → bit r.beside i ≡ false → i ≢ j → modules_of t < need_at t i + need_at t j
      beside (inl (e, f)) i k b d = go (same_or_not i n)
        where
          go : (i ≡ n) ⊎ (¬ (i ≡ n)) → modules_of t < need_at t i + need_at t j
          go (inl z) = rw z (f (λ q. d (z ∙ q)))
          go (inr z) = old.beside i (omega arith) (rw e at b) d
      beside (inr e) i k b d =
          let o = with_none row.beside n i (rw e at b) in
          old.beside i (omega (arith, o.0)) o.1 d

-- ---- the rows of the first n jobs

pub record RelatedTo (t : Jobs) (n : ℕ) (all : List ℕ) : Type 0 where
  pub size : length all ≡ 60
  pub each : (j : ℕ) → j < n → RowOf t j (count_of t) (row_at all j)

pub related-none : {t : Jobs} (all : List ℕ) → length all ≡ 60
    → RelatedTo t 0 all
related-none all e = record { size = e; each = λ j l. absurd (not-suc-le-zero l) }

module _ (all : List ℕ) (n : ℕ) (row : Row) (size : length all ≡ 60) (l : n < 20) where
  abbrev one : List ℕ
  one = set all (n * 3) row.alike

  abbrev two : List ℕ
  two = set one (n * 3 + 1) row.swapping

  size_one : length one ≡ 60
  size_one = length-set all (n * 3) row.alike ∙ size

  size_two : length two ≡ 60
  size_two = length-set one (n * 3 + 1) row.swapping ∙ size_one

  pub with_row_size : length (with_row all n row) ≡ 60
  with_row_size = length-set two (n * 3 + 2) row.beside ∙ size_two

  -- the row of job n
  with_row_same : row_at (with_row all n row) n ≡ row
  with_row_same = rw (first, second, third) refl
    where
      first : get_or (with_row all n row) (n * 3) 0 ≡ row.alike
      first =
          get_or-set_other two (n * 3 + 2) (n * 3) row.beside 0 (λ e. omega arith)
          ∙ get_or-set_other one (n * 3 + 1) (n * 3) row.swapping 0 (λ e. omega arith)
          ∙ get_or-set_same all (n * 3) row.alike 0 (omega arith)

      second : get_or (with_row all n row) (n * 3 + 1) 0 ≡ row.swapping
      second =
          get_or-set_other two (n * 3 + 2) (n * 3 + 1) row.beside 0 (λ e. omega arith)
          ∙ get_or-set_same one (n * 3 + 1) row.swapping 0 (omega (arith, size_one))

      third : get_or (with_row all n row) (n * 3 + 2) 0 ≡ row.beside
      third = get_or-set_same two (n * 3 + 2) row.beside 0 (omega (arith, size_two))

  -- a place of another job
  other_place : (p : ℕ) → p ≢ n * 3 → p ≢ n * 3 + 1 → p ≢ n * 3 + 2 → get_or (with_row all n row) p 0 ≡ get_or all p 0
  other_place p a b c =
      get_or-set_other two (n * 3 + 2) p row.beside 0 c ∙ get_or-set_other one (n * 3 + 1) p row.swapping 0 b
      ∙ get_or-set_other all (n * 3) p row.alike 0 a

  with_row_other : (j : ℕ) → j < n → row_at (with_row all n row) j ≡ row_at all j
  with_row_other j k = rw (
    other_place (j * 3) (λ e. omega arith) (λ e. omega arith) (λ e. omega arith),
    other_place (j * 3 + 1) (λ e. omega arith) (λ e. omega arith) (λ e. omega arith),
    other_place (j * 3 + 2) (λ e. omega arith) (λ e. omega arith) (λ e. omega arith),
  ) refl

  pub related_more : {t : Jobs} → RelatedTo t n all
      → RowOf t n (count_of t) row → RelatedTo t (n + 1) (with_row all n row)
  related_more {t} h r = record {
    size = with_row_size;
    each = λ j k. go j k (same_or_not j n);
  }
    where
      Is : ℕ → Row → Type 0
      Is j = RowOf t j (count_of t)

      go : (j : ℕ) → j < n + 1 → (j ≡ n) ⊎ (¬ (j ≡ n)) → Is j (row_at (with_row all n row) j)
      go j k (inl e) = rw (e, with_row_same) r
      go j k (inr d) = subst (Is j) (sym (with_row_other j (omega arith))) (h.each j (omega arith))

-- a list that has the same at the places of the rows
pub related_same : (t : Jobs) (a b : List ℕ) → count_of t ≤ 20 → ((p : ℕ) → p < 60 → get_or b p 0 ≡ get_or a p 0) → Related t a → Related t b
related_same t a b few same h j l = subst (RowOf t j (count_of t)) (sym row) (h j l)
  where
    row : row_at b j ≡ row_at a j
    row = rw (same (j * 3) (omega arith), same (j * 3 + 1) (omega arith), same (j * 3 + 2) (omega arith)) refl
