-- `text::with_decimal` meets its contract.
use mathlib.Core.List.{append_assoc}
use Rattle.text.specs.Numbers.{decimal}
use Rattle.text.proofs.Adding.{adding_more}
use Rattle.text.proofs.with_decimal.Goals as goal

pub returns : goal.returns
unfolding decimal
returns c =
    rw (
      c.with_byte.ensures,
      c.with_byte-next.ensures,
      c.digit.ensures,
      c.with_place-next-4.ensures,
      c.with_place-next-3.ensures,
      c.with_place-next-2.ensures,
      c.with_place-next.ensures,
    )
    (simp (adding_more, append_assoc))
