-- The number of closed sets among the jobs of L, split on one of them.
use mathlib.Core.Path.{◌≡◌, refl, sym, ap, subst}
use mathlib.Core.Logic.{◌⊎◌, inl, inr}
use mathlib.Core.Bool.{Bool, true, false, not, ◌&&◌, ◌||◌}
use Prim.Native.Nat.{ℕ, ◌+◌, ◌<◌}
use native.Mathlib.Omega.{arith}
use lib.Dec.{eqb}
use borrow.Author.Tests.{eqb-true, eq-eqb, not-true}
use Rattle.counting.specs.Counting.{only, every}
use Rattle.counting.proofs.Tests.{or_either, or_first, or_second, true-or-false, clash, same_test, and_left, and_right, and_both, not_of_false, implied, implication}
use Rattle.counting.proofs.Ranges.{every-at, every_intro}
use Rattle.counting.proofs.Subsets.{subsets_same, subsets_split, has, misses, minus, subsets_fixed}
use Rattle.bits.proofs.Numbers.{count_subsets}
use Rattle.job_sets.specs.Sets.{closed_in, sets_in}

-- R i j: job j follows job i
module _ (n : ℕ) (R : ℕ → ℕ → Bool)
    (chains : (a b c : ℕ) → a < n → b < n → c < n → R a b ≡ true → R b c ≡ true → R a c ≡ true) where
  -- a job and all that follow it; a job and all that it follows
  abbrev pub up : ℕ → ℕ → Bool
  up j i = eqb i j || R j i

  abbrev pub down : ℕ → ℕ → Bool
  down j i = eqb i j || R i j

  -- what a closed set says
  record Closed (L d : ℕ → Bool) : Type 0 where
    among : (k : ℕ) → k < n → d k ≡ true → L k ≡ true
    before : (i k : ℕ) → i < n → k < n → d k ≡ true → R i k ≡ true → L i ≡ true → d i ≡ true

  closed_says : (L d : ℕ → Bool) → closed_in n R L d ≡ true → Closed L d
  closed_says L d e = record {
    among = λ k l x. and_left (L k) _ (at k l x);
    before = λ i k l m x r y. implied (R i k && L i) (d i)
        (every-at n (λ i. not (R i k && L i) || d i) (and_right (L k) _ (at k m x)) i l) (and_both (R i k) (L i) r y);
  }
    where
      at : (k : ℕ) → k < n → d k ≡ true → (L k && every n (λ i. not (R i k && L i) || d i)) ≡ true
      at k l x = implied (d k) _ (every-at n (λ k. not (d k) || (L k && every n (λ i. not (R i k && L i) || d i))) e k l) x

  says-closed : (L d : ℕ → Bool) → Closed L d → closed_in n R L d ≡ true
  says-closed L d c = every_intro n _ (λ k l. implication (d k) _ (λ x. and_both (L k) _ (c.among k l x)
      (every_intro n _ (λ i m. implication (R i k && L i) (d i) (λ y. c.before i k m l x (and_left (R i k) (L i) y) (and_right (R i k) (L i) y))))))

  module _ (L : ℕ → Bool) (j : ℕ) (l : j < n) (in-l : L j ≡ true) where
    -- a job that follows one of j's jobs upwards is one; a job that one of j's jobs downwards follows is one
    up_on : (i k : ℕ) → i < n → k < n → up j i ≡ true → R i k ≡ true → up j k ≡ true
    up_on i k a b u r = or_second (eqb k j) (R j k) (go (or_either (eqb i j) (R j i) u))
      where
        go : (eqb i j ≡ true) ⊎ (R j i ≡ true) → R j k ≡ true
        go (inl e) = subst (λ (x : ℕ). R x k ≡ true) (eqb-true i j e) r
        go (inr e) = chains j i k l a b e r

    down_on : (i k : ℕ) → i < n → k < n → down j k ≡ true → R i k ≡ true → down j i ≡ true
    down_on i k a b u r = or_second (eqb i j) (R i j) (go (or_either (eqb k j) (R k j) u))
      where
        go : (eqb k j ≡ true) ⊎ (R k j ≡ true) → R i j ≡ true
        go (inl e) = subst (λ (x : ℕ). R i x ≡ true) (eqb-true k j e) r
        go (inr e) = chains i k j a b l r e

    -- the sets without j
    without : (d : ℕ → Bool) → (not (d j) && closed_in n R L d) ≡ closed_in n R (minus L (up j)) d
    without d = same_test _ _ there back
      where
        there : (not (d j) && closed_in n R L d) ≡ true → closed_in n R (minus L (up j)) d ≡ true
        there e =
            let out = not-true (d j) (and_left (not (d j)) _ e) in
            let c = closed_says L d (and_right (not (d j)) _ e) in
            says-closed (minus L (up j)) d (record {
              among = λ k m x. and_both (L k) (not (up j k)) (c.among k m x) (not_of_false (up j k) (free c out k m x (true-or-false (up j k))));
              before = λ i k a b x r y. c.before i k a b x r (and_left (L i) (not (up j i)) y);
            })
          where
            free : Closed L d → d j ≡ false → (k : ℕ) → k < n → d k ≡ true → (up j k ≡ true) ⊎ (up j k ≡ false) → up j k ≡ false
            free c out k m x (inr z) = z
            free c out k m x (inl z) = go (or_either (eqb k j) (R j k) z)
              where
                go : (eqb k j ≡ true) ⊎ (R j k ≡ true) → up j k ≡ false
                go (inl w) = clash (d j) (subst (λ (y : ℕ). d y ≡ true) (eqb-true k j w) x) out
                go (inr w) = clash (d j) (c.before j k l m x w in-l) out

        back : closed_in n R (minus L (up j)) d ≡ true → (not (d j) && closed_in n R L d) ≡ true
        back e =
            let c = closed_says (minus L (up j)) d e in
            and_both (not (d j)) _ (not_of_false (d j) (out c (true-or-false (d j)))) (says-closed L d (record {
              among = λ k m x. and_left (L k) (not (up j k)) (c.among k m x);
              before = λ i k a b x r y. c.before i k a b x r (and_both (L i) (not (up j i)) y (not_of_false (up j i) (free c i k a b x r (true-or-false (up j i)))));
            }))
          where
            out : Closed (minus L (up j)) d → (d j ≡ true) ⊎ (d j ≡ false) → d j ≡ false
            out c (inr z) = z
            out c (inl z) = clash (up j j) (or_first (eqb j j) (R j j) (eq-eqb j j refl)) (not-true (up j j) (and_right (L j) (not (up j j)) (c.among j l z)))

            free : Closed (minus L (up j)) d → (i k : ℕ) → i < n → k < n → d k ≡ true → R i k ≡ true → (up j i ≡ true) ⊎ (up j i ≡ false) → up j i ≡ false
            free c i k a b x r (inr z) = z
            free c i k a b x r (inl z) = clash (up j k) (up_on i k a b z r) (not-true (up j k) (and_right (L k) (not (up j k)) (c.among k b x)))

    -- those of L that j follows, and j
    abbrev D : ℕ → Bool
    D i = L i && down j i

    -- the sets with j
    within : (d : ℕ → Bool) → (d j && closed_in n R L d) ≡ (has n D d && closed_in n R (minus L (down j)) (minus d D))
    within d = same_test _ _ there back
      where
        there : (d j && closed_in n R L d) ≡ true → (has n D d && closed_in n R (minus L (down j)) (minus d D)) ≡ true
        there e =
            let x = and_left (d j) _ e in
            let c = closed_says L d (and_right (d j) _ e) in
            and_both (has n D d) _ (every_intro n _ (λ i m. implication (D i) (d i) (λ y. all c x i m (and_left (L i) (down j i) y)
            (or_either (eqb i j) (R i j) (and_right (L i) (down j i) y)))))
            (says-closed (minus L (down j)) (minus d D) (record {
              among = λ k m y. and_both (L k) (not (down j k)) (c.among k m (and_left (d k) (not (D k)) y))
                  (not_of_false (down j k) (other (L k) (down j k) (c.among k m (and_left (d k) (not (D k)) y))
                  (not-true (D k) (and_right (d k) (not (D k)) y))));
              before = λ i k a b y r z. and_both (d i) (not (D i)) (c.before i k a b (and_left (d k) (not (D k)) y) r (and_left (L i) (not (down j i)) z))
                  (not_of_false (D i) (neither (L i) (down j i) (not-true (down j i) (and_right (L i) (not (down j i)) z))));
            }))
          where
            all : Closed L d → d j ≡ true → (i : ℕ) → i < n → L i ≡ true → (eqb i j ≡ true) ⊎ (R i j ≡ true) → d i ≡ true
            all c x i m y (inl w) = subst (λ (z : ℕ). d z ≡ true) (sym (eqb-true i j w)) x
            all c x i m y (inr w) = c.before i j m l x w y

            other : (a b : Bool) → a ≡ true → (a && b) ≡ false → b ≡ false
            other true b e f = f
            other false b e f = clash false e refl

            neither : (a b : Bool) → b ≡ false → (a && b) ≡ false
            neither true b e = e
            neither false b e = refl

        back : (has n D d && closed_in n R (minus L (down j)) (minus d D)) ≡ true → (d j && closed_in n R L d) ≡ true
        back e =
            let h = every-at n (λ i. not (D i) || d i) (and_left (has n D d) _ e) in
            let c = closed_says (minus L (down j)) (minus d D) (and_right (has n D d) _ e) in
            let own = and_both (L j) (down j j) in-l (or_first (eqb j j) (R j j) (eq-eqb j j refl)) in
            and_both (d j) _ (implied (D j) (d j) (h j l) own) (says-closed L d (record {
              among = λ k m x. in_among c k m x (true-or-false (D k));
              before = λ i k a b x r y. in_before h c i k a b x r y (true-or-false (down j i));
            }))
          where
            in_among : Closed (minus L (down j)) (minus d D) → (k : ℕ) → k < n → d k ≡ true → (D k ≡ true) ⊎ (D k ≡ false) → L k ≡ true
            in_among c k m x (inl z) = and_left (L k) (down j k) z
            in_among c k m x (inr z) = and_left (L k) (not (down j k)) (c.among k m (and_both (d k) (not (D k)) x (not_of_false (D k) z)))

            in_before : ((i : ℕ) → i < n → (not (D i) || d i) ≡ true) → Closed (minus L (down j)) (minus d D)
                → (i k : ℕ) → i < n → k < n → d k ≡ true → R i k ≡ true → L i ≡ true → (down j i ≡ true) ⊎ (down j i ≡ false) → d i ≡ true
            in_before h c i k a b x r y (inl z) = implied (D i) (d i) (h i a) (and_both (L i) (down j i) y z)
            in_before h c i k a b x r y (inr z) =
                and_left (d i) (not (D i)) (c.before i k a b (and_both (d k) (not (D k)) x (not_of_false (D k) (apart (true-or-false (D k))))) r
                (and_both (L i) (not (down j i)) y (not_of_false (down j i) z)))
              where
                apart : (D k ≡ true) ⊎ (D k ≡ false) → D k ≡ false
                apart (inr w) = w
                apart (inl w) = clash (down j i) (down_on i k a b (and_right (L k) (down j k) w) r) z

    -- a closed set among the others has none of them
    missing : (d : ℕ → Bool) → (misses n D d && closed_in n R (minus L (down j)) d) ≡ closed_in n R (minus L (down j)) d
    missing d = same_test _ _ (λ e. and_right (misses n D d) _ e) (λ e.
        let c = closed_says (minus L (down j)) d e in
        and_both (misses n D d) _ (every_intro n _ (λ i m. implication (D i) (not (d i)) (λ y. not_of_false (d i) (out c i m y (true-or-false (d i)))))) e)
      where
        out : Closed (minus L (down j)) d → (i : ℕ) → i < n → D i ≡ true → (d i ≡ true) ⊎ (d i ≡ false) → d i ≡ false
        out c i m y (inr z) = z
        out c i m y (inl z) =
            clash (down j i) (and_right (L i) (down j i) y) (not-true (down j i) (and_right (L i) (not (down j i)) (c.among i m z)))

    -- The closed sets are those without j, among the jobs that do not follow it, and those with j, each of which is j, all that it follows
    -- and a closed set among the jobs that it does not follow.
    pub sets_split : sets_in n R L ≡ sets_in n R (minus L (up j)) + sets_in n R (minus L (down j))
    unfolding sets_in
    sets_split =
        let all = count_subsets n (closed_in n R L) in
        let lower = count_subsets n (closed_in n R (minus L (up j))) in
        let higher = count_subsets n (closed_in n R (minus L (down j))) in
        let a = subsets_split n j (closed_in n R L) in
        let b = subsets_same n (λ d. only (not (d j) && closed_in n R L d) 1) (λ d. only (closed_in n R (minus L (up j)) d) 1) (λ d w. ap (λ x. only x 1) (without d)) in
        let c = subsets_same n (λ d. only (d j && closed_in n R L d) 1) (λ d. only (has n D d && closed_in n R (minus L (down j)) (minus d D)) 1)
        (λ d w. ap (λ x. only x 1) (within d)) in
        let e = subsets_fixed n D (closed_in n R (minus L (down j))) in
        let f = subsets_same n (λ d. only (misses n D d && closed_in n R (minus L (down j)) d) 1) (λ d. only (closed_in n R (minus L (down j)) d) 1)
        (λ d w. ap (λ x. only x 1) (missing d)) in
        omega arith
