use mathlib.Core.Path.{◌∙◌}
use Rattle.counting.specs.Counting.{joined}
use Rattle.words.proofs.Writes.{lowest_byte, written_part}
use Rattle.words.proofs.U16Number.write.Goals as goal

pub returns : goal.returns
unfolding joined
returns c =
    let a = c.args in
    written_part a.s.now _ a.at 2 a.x (c.copy_from_slice.ensures.after ∙ c.to_le_bytes.ensures ∙ lowest_byte a.x _)
