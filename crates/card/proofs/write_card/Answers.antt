-- `card::write_card` meets its contract.
use mathlib.Core.Path.{◌≡◌, ap₂, ◌∙◌}
use mathlib.Core.List.{List, ◌++◌}
use Prim.Native.Nat.{ℕ, ◌+◌, ◌*◌}
use native.Mathlib.Omega.{arith}
use lib.ListN.{drop}
use Rattle.card.specs.Card.{row_size, trailer_size, card_size, card_bytes}
use Rattle.words.proofs.Parts.{three_parts}
use Rattle.card.proofs.write_card.Goals as goal

pub returns : goal.returns
unfolding card_bytes
returns c =
    let a = c.args in
    let s = a.card.now in
    let n = a.count in
    let rows = row_size * n in
    let x = c.write_rows in
    let y = c.write_order in
    let z = c.write_trailer in
    let size : rows + n + trailer_size ≡ card_size n = omega arith in
    three_parts s x.new.part y.new.part z.new.part rows (rows + n) (rows + n + trailer_size)
    (omega (arith, x.auto.part)) (omega (arith, y.auto.part)) (omega arith) (omega arith)
    ∙ ap₂ (λ (l : List ℕ) (e : ℕ). l ++ drop e s) (ap₂ ◌++◌ x.ensures (ap₂ ◌++◌ y.ensures z.ensures)) size
