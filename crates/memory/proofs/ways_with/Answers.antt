-- `memory::ways_with` meets its contract.
use Prim.Native.Nat.{ℕ, ◌+◌, ◌^◌, ◌≤◌, ◌<◌}
use mathlib.Core.Path.{◌≡◌, ap, ◌∙◌}
use native.Mathlib.Numerals.{add-one}
use native.Mathlib.Omega.{arith}
use native.Mathlib.Nat.{two-pow-succ, pow-le-pow_right}
use Rattle.memory.proofs.ways_with.Goals as goal

doubled : (n : ℕ) → 2 ^ (n + 1) ≡ 2 ^ n + 2 ^ n
doubled n = ap (λ (k : ℕ). 2 ^ k) (add-one n) ∙ two-pow-succ n

small : (n : ℕ) → n < 16 → 2 ^ n ≤ 32768
small n h = pow-le-pow_right {n = 2} (omega arith) {i = n} {j = 15} (omega arith)

pub loop-n-init : goal.loop-n-init
loop-n-init c = omega arith

pub overflow_mul-ways : goal.overflow_mul-ways
overflow_mul-ways c =
    let loop = c.loop-n in
    record { fits = omega (arith, loop.invariant, small loop.n c.loop-n-test.true) }

pub overflow_add-ways : goal.overflow_add-ways
overflow_add-ways c =
    let loop = c.loop-n in
    record { fits = omega (arith, loop.invariant, small loop.n c.loop-n-test.true, c.same.ensures) }

pub loop-n-preserved : goal.loop-n-preserved
loop-n-preserved c =
    let loop = c.loop-n in
    omega (arith, loop.invariant, doubled loop.n, c.same.ensures)

pub returns : goal.returns
returns c =
    let loop = c.loop-n in
    let e : loop.n ≡ 16 = omega (arith, loop.auto.n-end) in
    rw e at loop.invariant
