-- `search::seek` meets its contract.
use mathlib.Core.Path.{◌∙◌}
use Prim.Native.Nat.{ℕ}
use lib.ListN.{length-replicate}
use Rattle.tables.specs.Tables.{sheet_of}
use Rattle.tables.specs.Part.{word_of}
use Rattle.fitting.specs.Fitting.{slate_size}
use Rattle.bounds.proofs.Cuts.{held_later}
use Rattle.bounds.proofs.Late.{too_late_cut}
use Rattle.search.proofs.Sweeps.{none_outcome}
use Rattle.search.proofs.Whole.{none_settled}
use Rattle.search.proofs.seek.Goals as goal

pub too_late-requires : goal.too_late-requires
too_late-requires c = let known = c.requires.known in (known.fit, held_later known)

pub returns-then-too_late : goal.returns-then-too_late
returns-then-too_late c =
    let g = c.requires in
    let cut = too_late_cut g.known c.args.target c.args.prepared.now g.tabled.chains g.tabled.heads
    (c.too_late.ensures c.if-too_late.true) in
    record { outcome = rw c.none_found.ensures (none_outcome cut); remembered = g.remembered; limit = λ e. e }

pub begin-requires : goal.begin-requires
begin-requires c = c.requires.known.fit

pub visit-requires : goal.visit-requires
visit-requires c =
    let past = c in
    let a = past.args in
    record {
      going = past.requires;
      slated = c.begin.ensures ∙ length-replicate {A = ℕ} slate_size 0;
      settled_so = none_settled (sheet_of a.jobs.now) a.target (word_of a.part.now);
    }

pub shape_of-memory : goal.shape_of-memory
shape_of-memory c = c.visit.auto.memory

pub returns : goal.returns
returns c = let visit = c.visit.ensures in
    record { outcome = visit.outcome; remembered = visit.remembered; limit = visit.limit }
