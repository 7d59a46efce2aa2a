-- `card::write_row` meets its contract.
use mathlib.Core.Path.{refl}
use mathlib.Core.List.{[]}
use Rattle.words.proofs.Writes.{three_numbers}
use Rattle.card.specs.Card.{row_bytes}
use Rattle.card.proofs.write_row.Goals as goal

pub returns : goal.returns
unfolding row_bytes
returns c =
    three_numbers c.args.part.now [] _ _ _ _ 0 2 2 8 c.args.start c.args.end c.args.modules refl c.requires refl
    c.write.ensures c.write-2.ensures c.write-3.ensures
