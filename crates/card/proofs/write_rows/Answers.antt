-- `card::write_rows` meets its contract.
use mathlib.Core.Path.{◌≡◌, refl, ap, ap₂, ◌∙◌}
use mathlib.Core.List.{List, ◌++◌}
use Prim.Native.Nat.{ℕ, ◌+◌, ◌-◌, ◌*◌}
use native.Mathlib.Omega.{arith}
use lib.ListN.{drop}
use borrow.Rule.Slice.PartMut.{put_mid, same_len_mid}
use Rattle.counting.specs.Counting.{joined}
use Rattle.counting.proofs.Joins.{joined_length, joined_more}
use Rattle.card.specs.Card.{row_size}
use Rattle.card.specs.Rows.{slot_row}
use Rattle.words.proofs.Parts.{part_more}
use Rattle.card.proofs.Joins.{row-length}
use Rattle.card.proofs.write_rows.Goals as goal

pub loop-j-init : goal.loop-j-init
unfolding joined
loop-j-init c = (refl, refl)

pub loop-j-preserved : goal.loop-j-preserved
loop-j-preserved c =
    let args = c.args in
    let loop = c.loop-j in
    let s = args.part.now in
    let f : ℕ → List ℕ = slot_row args.slots in
    let j = loop.j in
    let w = c.write_row in
    let size = joined_length j row_size f (λ i l. row-length _ _ _) in
    let next : row_size * j + row_size ≡ row_size * (j + 1) = omega arith in (
      ap (λ (l : List ℕ). put_mid (row_size * j) (row_size * j + row_size - row_size * j) l w.new.part) loop.invariant.0
          ∙ part_more s (joined j f) w.new.part (row_size * j) (row_size * j + row_size) size (omega arith)
          ∙ ap₂ (λ (x : List ℕ) (k : ℕ). (joined j f ++ x) ++ drop k s) w.ensures next
          ∙ ap (λ (l : List ℕ). l ++ drop (row_size * (j + 1)) s) (joined_more j f),
      same_len_mid (row_size * j) (row_size * j + row_size - row_size * j) loop.part w.new.part w.auto.part ∙ loop.invariant.1,
    )
