-- `records::read_one` meets its contract.
use mathlib.Core.Path.{refl}
use Rattle.sheet_format.specs.Format.{record_at}
use Rattle.records.proofs.read_one.Goals as goal

pub returns : goal.returns
unfolding record_at
returns c =
    let third = c in
    let second = third in
    rw (second.read.ensures, second.read-2.ensures, third.read-3.ensures, c.read-4.ensures) refl
