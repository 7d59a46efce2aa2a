-- The module-minutes that are held from a minute on, summed over the jobs that have not ended.
use mathlib.Core.Path.{◌≡◌, sym, ap, ◌∙◌}
use Prim.Native.Nat.{ℕ, suc, ◌+◌, ◌-◌, ◌*◌, ◌≤◌, ◌<◌}
use native.Mathlib.Omega.{arith}
use native.Mathlib.Nat.{mul-zero}
use native.Mathlib.Numerals.{add-one}
use lib.ListN.{get_or}
use Rattle.counting.specs.Counting.{sum}
use Rattle.counting.proofs.Sums.{sum_same, sum-zero, sum_up}
use Rattle.tables.specs.declared.Part.{Part}
use Rattle.placement.specs.Profile.{held_after}
use Rattle.areas.specs.Areas.{HeldAfter}

-- the sum over the first i
pub record Summing (p : Part) (l total i : ℕ) : Type 0 where
  pub pre : HeldAfter p l
  pub inside : i ≤ p.placed
  pub total_is : total ≡ held_after p.until p.held i l

-- what has ended adds nothing
pub summing_start : {p : Part} {l : ℕ} → HeldAfter p l → Summing p l 0 p.gone
unfolding held_after
summing_start {p} {l} h = record {
  pre = h;
  inside = h.inside;
  total_is = sym (sum_same p.gone _ (λ k. 0) (λ k m. (let z : get_or p.until k 0 - l ≡ 0 = omega (arith, h.ended k m) in
      ap (λ (x : ℕ). get_or p.held k 0 * x) z ∙ mul-zero (get_or p.held k 0))) ∙ sum-zero p.gone);
}

pub summing_fits : {p : Part} {l total i : ℕ} → Summing p l total i → i < p.placed
    → total + get_or p.held i 0 * (get_or p.until i 0 - l) ≤ 40000000
unfolding held_after sum
summing_fits {p} {l} {total} {i} s m =
    let up = sum_up (suc i) p.placed (λ k. get_or p.held k 0 * (get_or p.until k 0 - l)) m in
    omega (arith, s.total_is, s.pre.small)

pub summing-step : {p : Part} {l total i : ℕ} → Summing p l total i → i < p.placed
    → Summing p l (total + get_or p.held i 0 * (get_or p.until i 0 - l)) (i + 1)
unfolding held_after sum
summing-step {p} {l} {total} {i} s m = record {
  pre = s.pre;
  inside = omega arith;
  total_is = ap (λ (x : ℕ). x + get_or p.held i 0 * (get_or p.until i 0 - l)) s.total_is
      ∙ ap (λ (n : ℕ). held_after p.until p.held n l) (sym (add-one i));
}
