-- What the tests of ranges and of earlier-job bits say of the numbers.
use mathlib.Core.Path.{◌≡◌, refl, sym, ap, ◌∙◌}
use mathlib.Core.Logic.{◌↔◌, ⊎_elim}
use mathlib.Core.Bool.{false, not}
use Prim.Native.Nat.{ℕ, zero, suc, ◌+◌, ◌*◌, ◌/◌, ◌%◌, ◌^◌, ◌≤◌, ◌<◌}
use native.Mathlib.Nat.{add-zero, lt_of_lt_of_le, div-eq_of_lt, div-eq_of_lt-le, le-div_iff_mul-le}
use native.Mathlib.Omega.{arith}
use lib.Dec.{ltb, leb, eqb}
use lib.Pow.{pow_pos, pow_mono, pow-add}
use borrow.Author.Tests.{ltb-false, le-ltb, leb-true, leb-false, le-leb, eqb-false, ne_eqb, not-true}
use Rattle.counting.proofs.Tests.{less-or-not, or_left, or_right, not_of_false, same_test}
use Rattle.sheet_format.specs.declared.Job.{Job}
use Rattle.sheet_format.specs.Figures.{most_jobs, longest_sheet, record_size, trailer_size, longest_label, widest_job, most_minutes}
use Rattle.sheet_format.specs.Figures.{last_departure, last_arrival}
use Rattle.sheet_format.specs.Format.{label_length}
use Rattle.sheet_format.specs.Checks.{outside, faulty}

pub inside : (low high x : ℕ) → outside low high x ≡ false → (low ≤ x) × (x ≤ high)
unfolding outside
inside low high x e =
    (ltb-false x low (or_left (ltb x low) (ltb high x) e), ltb-false high x (or_right (ltb x low) (ltb high x) e))

pub not-outside : (low high x : ℕ) → low ≤ x → x ≤ high → outside low high x ≡ false
unfolding outside
not-outside low high x l h = rw (le-ltb x low l, le-ltb high x h)

-- something is left of u without its n lowest bits where u is 2 ^ n or more
pub left_of : (n u : ℕ) → not (eqb (u / 2 ^ n) 0) ≡ leb (2 ^ n) u
left_of n u =
    same_test _ _
    (λ e. ⊎_elim (λ l. absurd (eqb-false (u / 2 ^ n) 0 (not-true _ e) (div-eq_of_lt l))) (λ l. le-leb (2 ^ n) u l) (less-or-not u (2 ^ n)))
    (λ e. not_of_false _ (ne_eqb (u / 2 ^ n) 0 (λ z.
    let one : 1 * 2 ^ n ≤ u = omega (arith, leb-true (2 ^ n) u e) in
    let d : 1 ≤ u / 2 ^ n = (le-div_iff_mul-le (pow_pos n)).1 one in
    omega arith)))

-- a bit at n or higher is set exactly where u is 2 ^ n or more
top_bit : (n u k : ℕ) → u < 2 ^ (n + k) → 2 ^ n ≤ u → (i : ℕ) × (n ≤ i) × (u / 2 ^ i % 2 ≡ 1)
top_bit n u zero l h = absurd (omega (arith, ap (λ (m : ℕ). 2 ^ m) (add-zero n)))
top_bit n u (suc k) l h = ⊎_elim (λ low. top_bit n u k low h) here (less-or-not u (2 ^ (n + k)))
  where
    here : 2 ^ (n + k) ≤ u → (i : ℕ) × (n ≤ i) × (u / 2 ^ i % 2 ≡ 1)
    here m =
        let e : n + suc k ≡ n + k + 1 = omega arith in
        let d : 2 ^ (n + suc k) ≡ 2 ^ (n + k) * 2 = ap (λ (x : ℕ). 2 ^ x) e ∙ pow-add 2 (n + k) 1 in
        let one : u / 2 ^ (n + k) ≡ 1 = div-eq_of_lt-le (2 ^ (n + k)) (omega arith) (omega arith) in
        (n + k, omega arith, ap (λ (x : ℕ). x % 2) one)

pub high_bit : (n u : ℕ) → u < 2 ^ 32 → (2 ^ n ≤ u) ↔ ((i : ℕ) × (n ≤ i) × (u / 2 ^ i % 2 ≡ 1))
high_bit n u f = (
  top_bit n u 32 (lt_of_lt_of_le f (pow_mono {i = 32} {j = n + 32} (omega arith))),
  λ b. ⊎_elim
      (λ (l : u < 2 ^ n).
      let z : u / 2 ^ b.0 ≡ 0 = div-eq_of_lt (lt_of_lt_of_le l (pow_mono b.1)) in
      let c : 0 % 2 ≡ 1 = ap (λ (x : ℕ). x % 2) (sym z) ∙ b.2 in
      absurd (omega arith))
      (λ h. h)
      (less-or-not u (2 ^ n)),
)

-- the longest sheet is that of the most jobs with the longest labels
pub longest : longest_sheet ≡ most_jobs * (longest_label + record_size) + trailer_size
longest = refl

-- the ranges that a record's fields keep where it is not faulty
pub record Legal (n : ℕ) (j : Job) : Type 0 where
  pub label-some : 1 ≤ label_length j
  pub label_most : label_length j ≤ longest_label
  pub modules-some : 1 ≤ j.modules
  pub modules_most : j.modules ≤ widest_job
  pub minutes-some : 1 ≤ j.minutes
  pub minutes_most : j.minutes ≤ most_minutes
  pub departure : j.departure ≤ last_departure
  pub arrival : j.arrival ≤ last_arrival
  pub earlier : j.earlier < 2 ^ n

pub legal : (n : ℕ) (j : Job) → faulty n j ≡ false → Legal n j
unfolding faulty
legal n j e =
    let e₁ = or_right (outside 1 longest_label (label_length j)) _ e in
    let e₂ = or_right (outside 1 widest_job j.modules) _ e₁ in
    let e₃ = or_right (outside 1 most_minutes j.minutes) _ e₂ in
    let e₄ = or_right (outside 0 last_departure j.departure) _ e₃ in
    let a = inside 1 longest_label (label_length j) (or_left _ _ e) in
    let b = inside 1 widest_job j.modules (or_left _ _ e₁) in
    let c = inside 1 most_minutes j.minutes (or_left _ _ e₂) in
    record {
      label-some = a.0;
      label_most = a.1;
      modules-some = b.0;
      modules_most = b.1;
      minutes-some = c.0;
      minutes_most = c.1;
      departure = (inside 0 last_departure j.departure (or_left _ _ e₃)).1;
      arrival = (inside 0 last_arrival j.arrival (or_left _ _ e₄)).1;
      earlier = leb-false (2 ^ n) j.earlier (or_right (outside 0 last_arrival j.arrival) _ e₄);
    }
