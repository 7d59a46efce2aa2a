-- `search::cut_off` meets its contract.
use mathlib.Core.Path.{refl}
use Prim.Native.Nat.{suc, ◌<◌}
use native.Mathlib.Omega.{arith}
use lib.Count.{ones}
use Rattle.bounds.proofs.Cuts.{bounding, hopeless_cut}
use Rattle.bounds.proofs.Shortages.{fitted_cut}
use Rattle.search.proofs.Turns.{recall_cut}
use Rattle.search.proofs.cut_off.Goals as goal

pub hopeless-requires : goal.hopeless-requires
hopeless-requires c =
    let g = c.requires.0.0 in
    ((g.known.fit, (g.tabled.weighted, g.tabled.laned)), bounding g.known c.requires.1.0)

pub returns-then-hopeless : goal.returns-then-hopeless
returns-then-hopeless c =
    let pre = c.requires in
    let a = c.args in
    let g = pre.0.0 in
    let left : 0 < ones a.part.now.unplaced = omega (arith, g.known.is.figures.sizes, pre.1.1) in
    let cut = hopeless_cut g.known pre.1.0 a.prepared.now a.target g.tabled.chains g.tabled.heads left (c.hopeless.ensures c.if-hopeless.true) in
    record { fails = λ _. cut; size = refl }

pub recall-requires : goal.recall-requires
recall-requires c = omega (arith, c.count.ensures, c.requires.0.0.known.fit.few)

pub returns-then-recall : goal.returns-then-recall
returns-then-recall c =
    let asked = c in
    let pre = asked.requires in
    let a = asked.args in
    let g = pre.0.0 in
    let left : 0 < ones a.part.now.unplaced = omega (arith, g.known.is.figures.sizes, pre.1.1) in
    let hit = rw (asked.count.ensures, c.changeover.ensures) at c.recall.ensures in
    let cut = recall_cut g.known pre.1.0 (suc a.target) left g.remembered (hit c.if-recall.true) in
    record { fails = λ _. cut; size = refl }

pub overfilled-requires : goal.overfilled-requires
overfilled-requires c =
    let start = c in
    let g = start.requires.0.0 in
    ((g.known.fit, start.requires.0.1), (start.requires.1.0.first, bounding g.known start.requires.1.0))

pub returns : goal.returns
returns c =
    let start = c in
    let a = start.args in
    record { fails = λ e. fitted_cut start.requires.0.0.known start.requires.1.0 a.target (c.overfilled.ensures.over e); size = c.overfilled.ensures.size }
