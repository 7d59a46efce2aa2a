-- `text::with_hexadecimal` meets its contract.
use mathlib.Core.Path.{◌≡◌}
use Rattle.counting.specs.Counting.{joined}
use Rattle.text.specs.Numbers.{hex_digit}
use Rattle.text.specs.Texts.{adding}
use Rattle.text.proofs.with_hexadecimal.Given as goal

abbrev pub invariant-loop-i : goal.invariant-loop-i
invariant-loop-i l = l.next ≡ adding l.initial.next (joined l.i (hex_digit l.x))
