-- `cabinets::least_count` meets its contract.
use mathlib.Core.Path.{refl, ◌∙◌}
use native.Mathlib.Omega.{arith}
use Rattle.tables.specs.Tables.{sheet_of}
use Rattle.cabinets.proofs.Counts.{whole_range, one_left}
use Rattle.cabinets.proofs.least_count.Goals as goal

pub loop-between-init : goal.loop-between-init
loop-between-init c =
    (whole_range (sheet_of c.args.jobs.now) c.args.by c.requires.0.jobs.lasting c.requires.1, refl)

pub halved-between-requires : goal.halved-between-requires
halved-between-requires c =
    (c.requires.0, (c.loop-between.invariant.0, c.loop-between-test.true))

pub loop-between-smaller : goal.loop-between-smaller
loop-between-smaller c = c.halved-between.ensures.fewer

pub loop-between-preserved : goal.loop-between-preserved
loop-between-preserved c =
    let halved = c.halved-between in
    (halved.ensures.holds, halved.auto.memory ∙ c.loop-between.invariant.1)

pub shape_of-memory : goal.shape_of-memory
shape_of-memory c = c.loop-between.invariant.1

pub returns : goal.returns
returns c =
    let a = c.args in
    one_left (sheet_of a.jobs.now) a.by c.loop-between.between c.loop-between.invariant.0 (omega (arith, c.loop-between-test.false))
