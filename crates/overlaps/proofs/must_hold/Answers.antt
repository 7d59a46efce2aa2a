-- `overlaps::must_hold` meets its contract.
use mathlib.Core.Path.{refl}
use mathlib.Core.Bool.{and-false}
use Prim.Native.Nat.{◌+◌}
use lib.Dec.{leb}
use borrow.Author.Tests.{le-leb, lt-leb, lt-ltb, le-ltb}
use Rattle.overlaps.proofs.must_hold.Goals as goal

pub returns-then-m-first : goal.returns-then-m-first
returns-then-m-first c =
    let a = c.args in
    rw (le-leb a.target (a.m + a.tail) c.if-target-m.true, lt-ltb a.m (a.first + a.kept) c.if-m-first.true) refl

pub returns-else-m-first : goal.returns-else-m-first
returns-else-m-first c =
    let a = c.args in
    rw (le-ltb a.m (a.first + a.kept) c.if-m-first.false, and-false (leb a.target (a.m + a.tail))) refl

pub returns-else-target-m : goal.returns-else-target-m
returns-else-target-m c =
    let a = c.args in
    rw (lt-leb a.target (a.m + a.tail) c.if-target-m.false) refl
