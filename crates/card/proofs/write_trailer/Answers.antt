-- `card::write_trailer` meets its contract.
use mathlib.Core.Path.{refl}
use mathlib.Core.List.{[]}
use Rattle.words.proofs.Writes.{three_numbers}
use Rattle.card.specs.Card.{order_at, trailer_bytes}
use Rattle.card.proofs.write_trailer.Goals as goal

pub returns : goal.returns
unfolding trailer_bytes
returns c =
    three_numbers c.args.part.now [] _ _ _ _ 0 4 2 2 (order_at c.args.count) c.args.end c.args.count refl c.requires.1 refl
    c.write.ensures c.write-2.ensures c.write-3.ensures
