-- `text::with_signed` meets its contract.
use mathlib.Core.Path.{refl}
use Rattle.text.proofs.Adding.{adding_more}
use Rattle.text.proofs.Signs.{with_sign, without_sign}
use Rattle.text.proofs.with_signed.Goals as goal

pub returns-then-x-lt0 : goal.returns-then-x-lt0
returns-then-x-lt0 c =
    rw (
      c.with_decimal.ensures,
      c.unsigned_abs.ensures.value,
      c.with_byte-next.ensures,
      adding_more,
      with_sign c.args.x c.ranges.x c.if-x-lt0.true,
    )
    refl

pub returns-else-x-lt0 : goal.returns-else-x-lt0
returns-else-x-lt0 c =
    let plain = without_sign c.args.x c.ranges.x c.if-x-lt0.false in
    rw (c.with_decimal-else-x-lt0.ensures, c.unsigned_abs-else-x-lt0.ensures.value, plain) refl
