-- `trailer::write` meets its contract.
use mathlib.Core.Path.{refl}
use mathlib.Core.List.{[]}
use Rattle.sheet_format.proofs.Parts.{four_numbers}
use Rattle.sheet_format.specs.Format.{trailer_bytes}
use Rattle.trailer.proofs.write.Goals as goal

pub returns : goal.returns
unfolding trailer_bytes
returns c =
    let fourth = c in
    let third = fourth in
    let second = third in
    let first = second in
    let start = first in
    let a = start.args in
    four_numbers a.part.now [] _ _ _ _ _ 0 4 2 2 2 a.offset a.count a.cabinet.modules a.cabinet.changeover refl start.requires refl
    first.write.ensures second.write-2.ensures third.write-3.ensures fourth.write-4.ensures
