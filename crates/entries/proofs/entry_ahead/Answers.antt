-- `entries::entry_ahead` meets its contract.
use Prim.Native.Nat.{◌+◌, ◌*◌, ◌≤◌, max, zero-le}
use mathlib.Core.Path.{◌≡◌, sym, ◌∙◌}
use native.Mathlib.Omega.{arith}
use borrow.Author.Count.{below_more}
use borrow.Author.Tests.{eqb-true}
use lib.ListN.{get_or}
use Rattle.words.specs.Words.{u16_at}
use Rattle.entries.proofs.Laws.{no, ahead_in}
use Rattle.entries.proofs.entry_ahead.Goals as goal

pub returns-then-read-unplaced : goal.returns-then-read-unplaced
returns-then-read-unplaced c = no

pub loop-i-init : goal.loop-i-init
loop-i-init c =
    let last = c.after_both-late.ensures in
    (last.0, λ e. (omega (arith, last.1 e, c.read-2.ensures), λ k h. absurd (omega arith)))

pub loop-i-preserved : goal.loop-i-preserved
loop-i-preserved c =
    let one = c.after_both-late-in-loop-i.ensures in
    let read = c in
    let loop = read.loop-i in
    let a = read.args in
    let at = 64 + a.way * 42 in (
      omega (arith, loop.invariant, one.0),
      λ e.
          let so = loop.invariant.1 (omega arith) in
          let zero : c.after_both-late-in-loop-i.result ≡ 0 = omega arith in
          let here : u16_at a.group.now (at + 2 + 2 * loop.i) ≤ max (get_or a.part.now.ends loop.i 0) a.rested =
          rw (read.read-in-loop-i.ensures) at (one.1 zero) in
          (so.0, below_more _ _ so.1 here),
    )

pub returns : goal.returns
returns c =
    let loop = c.loop-i in
    let else1 = c in
    let read = else1.read in
    let start = else1 in
    let a = start.args in
    λ e.
    let so = loop.invariant.1 (eqb-true _ _ e) in
    ahead_in a.group.now a.way a.jobs a.part.now.ends a.unplaced a.l a.rested start.requires.2
    (sym read.ensures ∙ else1.if-read-unplaced.false) so.0 (λ i h. so.1 i (omega arith))
