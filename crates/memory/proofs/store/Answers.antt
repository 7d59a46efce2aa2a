-- `memory::store` meets its contract.
use mathlib.Core.Path.{ap, ◌∙◌}
use mathlib.Core.List.{List}
use Prim.Native.Nat.{ℕ}
use borrow.Author.Rules.{rules}
use Rattle.words.specs.Words.{u32_at}
use Rattle.words.proofs.Writes.{written_here}
use Rattle.memory.proofs.Slots.{stored}
use Rattle.memory.proofs.store.Goals as goal

pub returns : goal.returns
returns c =
    let write-figures = c.write_figures in
    let mid = c in
    let write = mid.write in
    let read = mid in
    let start = read in
    let a = start.args in
    let p = a.part.now in
    stored a.group.now write.new.s write-figures.new.figures a.way a.jobs p.ends p.unplaced p.last
    start.requires.0 start.requires.1 mid.group-1.given.0 c.group-2-1.given.0
    (ap (λ (x : List ℕ). u32_at x 0) write.ensures
    ∙ written_here _ 0 4 _ (search rules) (search rules))
    write-figures.ensures
