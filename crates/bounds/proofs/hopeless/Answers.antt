-- `bounds::hopeless` meets its contract.
use mathlib.Core.Path.{refl, subst}
use mathlib.Core.Logic.{inl, inr}
use mathlib.Core.Bool.{false}
use mathlib.Core.List.{List}
use Prim.Native.Nat.{ℕ}
use native.Mathlib.Omega.{arith}
use Rattle.tables.specs.declared.Jobs.{Jobs}
use Rattle.tables.specs.declared.Part.{Part}
use Rattle.tables.specs.declared.Prepared.{Prepared}
use Rattle.counting.proofs.Tests.{clash}
use Rattle.bounds.specs.Bounds.{Hopeless}
use Rattle.bounds.proofs.Closing.{closes}
use Rattle.bounds.proofs.hopeless.Goals as goal

abbrev hopeless-by : Jobs → Prepared → Part → List ℕ → ℕ → ℕ → ℕ → Type 0
hopeless-by jobs prepared part at least T C = Hopeless jobs prepared part at least T C

pub returns-then-close : goal.returns-then-close
returns-then-close c = λ e. clash false e refl

pub crowded-requires : goal.crowded-requires
crowded-requires c =
    let pre = c.requires in
    (pre.1.held_after, (pre.1.little, omega (arith, c.modules.ensures, pre.0.0.most)))

pub returns-then-crowded : goal.returns-then-crowded
returns-then-crowded c =
    let closing = c.closing-close in
    let a = c.args in
    let e = closes a.target a.jobs.now closing.ensures c.if-close.false in
    λ _. subst (hopeless-by a.jobs.now a.prepared.now a.part.now a.at.now a.least a.target) e
    (inl (rw c.modules.ensures at (c.crowded.ensures c.if-crowded.true)))

pub overflow_add-target : goal.overflow_add-target
overflow_add-target c =
    let else1 = c in
    record { fits = omega (arith, else1.closing-close.ensures, else1.if-close.false) }

pub some_too_long-requires : goal.some_too_long-requires
some_too_long-requires c =
    let start = c in
    omega (arith, c.count.ensures, start.requires.0.0.few)

pub returns-then-some_too_long : goal.returns-then-some_too_long
returns-then-some_too_long c = λ _. inr (inl (rw c.count.ensures at (c.some_too_long.ensures c.if-some_too_long.true)))

pub too_few-requires : goal.too_few-requires
too_few-requires c =
    let start = c in
    (start.requires.0, start.requires.1.profile)

pub returns : goal.returns
returns c =
    let else1 = c in
    let a = else1.args in
    let e = closes a.target a.jobs.now else1.closing-close.ensures else1.if-close.false in
    λ y. subst (hopeless-by a.jobs.now a.prepared.now a.part.now a.at.now a.least a.target) e
    (inr (inr (c.too_few.ensures y)))
