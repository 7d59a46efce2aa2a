-- `widths::with_width` meets its contract.
use mathlib.Core.Path.{◌≡◌, refl, ap, ◌∙◌}
use mathlib.Core.Bool.{Bool, true, false, ◌||◌}
use Prim.Native.Nat.{◌+◌, ◌*◌, ◌%◌, ◌^◌}
use native.Mathlib.Omega.{arith}
use Rattle.bits.specs.Bits.{bit}
use Rattle.bits.proofs.Digits.{bit-or}
use Rattle.widths.proofs.Sums.{bit-shl}
use Rattle.widths.proofs.with_width.Goals as goal

or-true : (a : Bool) → (a || true) ≡ true
or-true true = refl
or-true false = refl

pub returns-then-width-ge-LIMIT : goal.returns-then-width-ge-LIMIT
returns-then-width-ge-LIMIT c s b l = (b, λ m. absurd (omega (arith, m, c.if-width-ge-LIMIT.true)))

pub returns : goal.returns
returns c s b l =
    let a = c.args in
    let sums = a.sums in
    let more = sums * 2 ^ a.width % 2 ^ 64 in
    (bit-or sums more s ∙ ap (λ (x : Bool). x || bit more s) b, λ m. bit-or sums more (s + a.width) ∙ ap (λ (x : Bool). bit sums (s + a.width) || x) (bit-shl 64 a.width sums s m ∙ b) ∙ or-true (bit sums (s + a.width)))
