-- Signed numbers: their order, and differences of two natural numbers.
use mathlib.Core.Path.{◌≡◌, refl, sym, ap, subst, ◌∙◌}
use mathlib.Core.Bool.{Bool, true, false, cond}
use Prim.Native.Nat.{ℕ, zero, suc, ◌+◌, ◌-◌, ◌≤◌, ◌<◌, min}
use native.Mathlib.Omega.{arith}
use lib.Dec.{T, ltb, leb}
use lib.IntN.{ℤ, pos, negsuc, neg_ℤ, sub_ℕ, ◌-ℤ◌, ◌+ℤ◌, +ℤ_assoc, +ℤ_comm, neg_ℤ-+ℤ, pos-+ℤ-pos}
use lib.Signed.{le_z, lt_z, ◌≤ℤ◌, ◌<ℤ◌}
use borrow.Author.Tests.{ltb-true, ltb-false, leb-true, leb-false, le-leb, lt-leb, le-ltb, lt-ltb}
use Rattle.counting.proofs.Tests.{same_test}
use Rattle.latest.specs.Latest.{smaller}

-- ---- differences

abbrev pub diff : ℕ → ℕ → ℤ
diff a b = pos a -ℤ pos b

diff-sub : (a b : ℕ) → diff a b ≡ sub_ℕ a b
diff-sub a zero = let e : a + 0 ≡ a - 0 = omega arith in rw (le-ltb a 0 (omega arith)) (ap (λ (x : ℕ). pos x) e)
diff-sub a (suc b) = refl

-- every number is one
pub as_diff : (z : ℤ) → (a : ℕ) × (b : ℕ) × (z ≡ diff a b)
as_diff (pos a) = (a, 0, ap (λ (x : ℕ). pos x) (let e : a ≡ a + 0 = omega arith in e))
as_diff (negsuc a) = (0, suc a, rw (lt-ltb 0 (suc a) (omega arith)) (ap (λ (x : ℕ). negsuc x) (omega arith)))

-- a difference, less m
pub less_more : (a b m : ℕ) → diff a b -ℤ pos m ≡ diff a (b + m)
less_more a b m = +ℤ_assoc (pos a) (neg_ℤ (pos b)) (neg_ℤ (pos m)) ∙ ap (λ (x : ℤ). pos a +ℤ x) (sym (neg_ℤ-+ℤ (pos b) (pos m)))

-- and with m more
pub more_less : (a b m : ℕ) → diff a b +ℤ pos m ≡ diff (a + m) b
more_less a b m =
    +ℤ_assoc (pos a) (neg_ℤ (pos b)) (pos m)
    ∙ ap (λ (x : ℤ). pos a +ℤ x) (+ℤ_comm (neg_ℤ (pos b)) (pos m))
    ∙ sym (+ℤ_assoc (pos a) (pos m) (neg_ℤ (pos b)))
    ∙ ap (λ (x : ℤ). x +ℤ neg_ℤ (pos b)) (pos-+ℤ-pos a m)

-- one difference is at most another where the sums crosswise are
pub diff_test : (a b c d : ℕ) → le_z (diff a b) (diff c d) ≡ leb (a + d) (c + b)
diff_test a b c d = rw (diff-sub a b, diff-sub c d) (go (ltb a b) refl (ltb c d) refl)
  where
    go : (x : Bool) → ltb a b ≡ x → (y : Bool) → ltb c d ≡ y → le_z (sub_ℕ a b) (sub_ℕ c d) ≡ leb (a + d) (c + b)
    go true e true f =
        let p = ltb-true a b e in
        let q = ltb-true c d f in
        rw (e, f) (same_test _ _ (λ h. let z = leb-true (d - suc c) (b - suc a) h in le-leb (a + d) (c + b) (omega arith))
        (λ h. let z = leb-true (a + d) (c + b) h in le-leb (d - suc c) (b - suc a) (omega arith)))
    go true e false f =
        let p = ltb-true a b e in
        let q = ltb-false c d f in
        rw (e, f) (sym (le-leb (a + d) (c + b) (omega arith)))
    go false e true f =
        let p = ltb-false a b e in
        let q = ltb-true c d f in
        rw (e, f) (sym (lt-leb (a + d) (c + b) (omega arith)))
    go false e false f =
        let p = ltb-false a b e in
        let q = ltb-false c d f in
        rw (e, f) (same_test _ _ (λ h. let z = leb-true (a - b) (c - d) h in le-leb (a + d) (c + b) (omega arith))
        (λ h. let z = leb-true (a + d) (c + b) h in le-leb (a - b) (c - d) (omega arith)))

-- two are the same where the sums crosswise are
pub diff_same : (a b c d : ℕ) → a + d ≡ c + b → diff a b ≡ diff c d
diff_same a b c d e = diff-sub a b ∙ go (ltb a b) refl (ltb c d) refl ∙ sym (diff-sub c d)
  where
    go : (x : Bool) → ltb a b ≡ x → (y : Bool) → ltb c d ≡ y → sub_ℕ a b ≡ sub_ℕ c d
    go true p true q = rw (p, q) (ap (λ (x : ℕ). negsuc x) (omega (arith, ltb-true a b p, ltb-true c d q)))
    go true p false q = absurd (omega (arith, ltb-true a b p, ltb-false c d q))
    go false p true q = absurd (omega (arith, ltb-false a b p, ltb-true c d q))
    go false p false q = rw (p, q) (ap (λ (x : ℕ). pos x) (omega (arith, ltb-false a b p, ltb-false c d q)))

-- ---- the order

pub diff-le : (a b c d : ℕ) → a + d ≤ c + b → diff a b ≤ℤ diff c d
diff-le a b c d h = record { le = subst T (sym (diff_test a b c d ∙ le-leb (a + d) (c + b) h)) tt }

of-true : (b : Bool) → T b → b ≡ true
of-true true h = refl
of-true false h = absurd h

pub le_diff : (a b c d : ℕ) → diff a b ≤ℤ diff c d → a + d ≤ c + b
le_diff a b c d h = leb-true (a + d) (c + b) (sym (diff_test a b c d) ∙ of-true (le_z (diff a b) (diff c d)) h.le)

not-le : (a b : ℤ) → lt_z a b ≡ true → le_z b a ≡ false
not-le (pos a) (pos b) e = lt-leb b a (ltb-true a b e)
not-le (pos a) (negsuc b) e = sym e
not-le (negsuc a) (pos b) e = refl
not-le (negsuc a) (negsuc b) e = lt-leb a b (ltb-true b a e)

le_not : (a b : ℤ) → le_z b a ≡ false → lt_z a b ≡ true
le_not (pos a) (pos b) e = lt-ltb a b (leb-false b a e)
le_not (pos a) (negsuc b) e = sym e
le_not (negsuc a) (pos b) e = refl
le_not (negsuc a) (negsuc b) e = lt-ltb b a (leb-false a b e)

pub diff-lt : (a b c d : ℕ) → a + d < c + b → diff a b <ℤ diff c d
diff-lt a b c d h = record { lt = subst T (sym (le_not (diff a b) (diff c d) (diff_test c d a b ∙ lt-leb (c + b) (a + d) h))) tt }

pub lt_diff : (a b c d : ℕ) → diff a b <ℤ diff c d → a + d < c + b
lt_diff a b c d h =
    leb-false (c + b) (a + d) (sym (diff_test c d a b) ∙ not-le (diff a b) (diff c d) (of-true (lt_z (diff a b) (diff c d)) h.lt))

-- of two differences to the same number, the smaller is that of the smaller number
pub smaller_diff : (a b s : ℕ) → smaller (diff a s) (diff b s) ≡ diff (min a b) s
smaller_diff a b s = rw (diff_test a s b s) (go (leb (a + s) (b + s)) refl)
  where
    go : (x : Bool) → leb (a + s) (b + s) ≡ x → cond x (diff a s) (diff b s) ≡ diff (min a b) s
    go true e = ap (λ (x : ℕ). diff x s) (omega (arith, leb-true (a + s) (b + s) e))
    go false e = ap (λ (x : ℕ). diff x s) (omega (arith, leb-false (a + s) (b + s) e))

-- ---- sums and the order

-- what is taken from one side is given to the other
pub add-le : (z y : ℤ) (m : ℕ) → z ≤ℤ (y -ℤ pos m) → (z +ℤ pos m) ≤ℤ y
add-le z y m h =
    let p = as_diff z in
    let q = as_diff y in
    go p.0 p.1 p.2 q.0 q.1 q.2
  where
    go : (a b : ℕ) → z ≡ diff a b → (c d : ℕ) → y ≡ diff c d → (z +ℤ pos m) ≤ℤ y
    go a b e c d f =
        rw (e, f, more_less a b m) (diff-le (a + m) b c d (omega (arith, le_diff a b c (d + m) (rw (e, f, less_more c d m) at h))))

pub le-sub : (z y : ℤ) (m : ℕ) → (z +ℤ pos m) ≤ℤ y → z ≤ℤ (y -ℤ pos m)
le-sub z y m h =
    let p = as_diff z in
    let q = as_diff y in
    go p.0 p.1 p.2 q.0 q.1 q.2
  where
    go : (a b : ℕ) → z ≡ diff a b → (c d : ℕ) → y ≡ diff c d → z ≤ℤ (y -ℤ pos m)
    go a b e c d f =
        rw (e, f, less_more c d m) (diff-le a b c (d + m) (omega (arith, le_diff (a + m) b c d (rw (e, f, more_less a b m) at h))))

-- one sum behind another
pub sums-le : (z y w : ℤ) (m n : ℕ) → (z +ℤ pos m) ≤ℤ y → (y +ℤ pos n) ≤ℤ w → (z +ℤ pos (m + n)) ≤ℤ w
sums-le z y w m n h k =
    let p = as_diff z in
    let q = as_diff y in
    let r = as_diff w in
    go p.0 p.1 p.2 q.0 q.1 q.2 r.0 r.1 r.2
  where
    go : (a b : ℕ) → z ≡ diff a b → (c d : ℕ) → y ≡ diff c d → (u v : ℕ) → w ≡ diff u v → (z +ℤ pos (m + n)) ≤ℤ w
    go a b e c d f u v g =
        let x : a + m + d ≤ c + b = le_diff (a + m) b c d (rw (e, f, more_less a b m) at h) in
        let y : c + n + v ≤ u + d = le_diff (c + n) d u v (rw (f, g, more_less c d n) at k) in
        rw (e, g, more_less a b (m + n)) (diff-le (a + (m + n)) b u v (omega arith))

pub ≤ℤ-trans : (a b c : ℤ) → a ≤ℤ b → b ≤ℤ c → a ≤ℤ c
≤ℤ-trans a b c h k =
    let p = as_diff a in
    let q = as_diff b in
    let r = as_diff c in
    go p.0 p.1 p.2 q.0 q.1 q.2 r.0 r.1 r.2
  where
    go : (a₁ a₂ : ℕ) → a ≡ diff a₁ a₂ → (b₁ b₂ : ℕ) → b ≡ diff b₁ b₂ → (c₁ c₂ : ℕ) → c ≡ diff c₁ c₂ → a ≤ℤ c
    go a₁ a₂ e b₁ b₂ f c₁ c₂ g =
        rw (e, g) (diff-le a₁ a₂ c₁ c₂ (omega (arith, le_diff a₁ a₂ b₁ b₂ (rw (e, f) at h), le_diff b₁ b₂ c₁ c₂ (rw (f, g) at k))))
