-- `slack::departures_of` meets its contract.
use mathlib.Core.Path.{◌≡◌, refl, ap}
use native.Mathlib.Omega.{arith}
use Rattle.sheet_format.specs.Format.{jobs_in}
use Rattle.sheet.specs.declared.Reading.{Reading}
use Rattle.sheet.specs.Read.{reading}
use Rattle.marks.proofs.Steps.{filled_none, filled_more}
use Rattle.planable.proofs.Planable.{passes}
use Rattle.planable.proofs.Tables.{few_read}
use Rattle.slack.proofs.departures_of.Invariants.{Departure}
use Rattle.slack.proofs.departures_of.Goals as goal

pub loop-j-init : goal.loop-j-init
loop-j-init c =
    let s = c.args.sheet.now in (
      c.read-found.ensures,
      rw c.read-found.ensures (few_read s (passes s c.requires).reads),
      filled_none (Departure s) _ refl,
    )

pub loop-j-preserved : goal.loop-j-preserved
loop-j-preserved c =
    let loop = c.loop-j in
    let inv = loop.invariant in (
      inv.0,
      inv.1,
      filled_more _ inv.2 (omega arith) (ap (λ (r : Reading). (jobs_in r.jobs loop.j).departure) inv.0),
    )

pub returns : goal.returns
returns c =
    let loop = c.loop-j in
    let s = c.args.sheet.now in
    let e : loop.j ≡ (reading s).count =
    let e : c.read-found.result.count ≡ (reading s).count = ap (λ (r : Reading). r.count) loop.invariant.0 in
    omega (arith, c.loop-j-test.false) in
    (rw e at loop.invariant.2).each
