-- `search::ends_by` meets its contract.
use mathlib.Core.Path.{ap, ◌∙◌}
use Prim.Native.Nat.{ℕ}
use lib.ListN.{length, replicate}
use Rattle.tables.specs.Tables.{sheet_of}
use Rattle.search.proofs.Recalls.{remembered-none}
use Rattle.search.proofs.ends_by.Goals as goal

pub some_ends_by-ends-requires : goal.some_ends_by-ends-requires
some_ends_by-ends-requires c =
    let cleared = c in
    let begin = c.begin-listed in
    let a = cleared.args in
    record {
      fit = cleared.requires.0;
      tabled = begin.ensures.tabled;
      best_is = begin.ensures.listed;
      remembered = remembered-none (sheet_of a.jobs.now) _ (length a.memory.now) begin.result.end cleared.clear.ensures;
    }

pub shape_of-memory : goal.shape_of-memory
shape_of-memory c =
    let asked = c in
    c.clear-2.auto.memory ∙ asked.some_ends_by-ends.auto.memory ∙ asked.clear.auto.memory

pub returns : goal.returns
returns c =
    let asked = c in
    let size = asked.some_ends_by-ends.auto.memory ∙ asked.clear.auto.memory in
    record { answer = asked.some_ends_by-ends.ensures; cleared = c.clear-2.ensures ∙ ap (λ (k : ℕ). replicate k 0) size }
