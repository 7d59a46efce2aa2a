-- `bounds::overfilled` meets its contract.
use mathlib.Core.Path.{refl, subst}
use mathlib.Core.Bool.{false}
use Prim.Native.Nat.{ℕ}
use Rattle.counting.proofs.Tests.{clash}
use Rattle.fitting.specs.Fitting.{release_at, OverfullFrom}
use Rattle.bounds.proofs.Closing.{closes}
use Rattle.bounds.proofs.overfilled.Goals as goal

pub returns-then-close : goal.returns-then-close
returns-then-close c =
    record { over = λ e. clash false e refl; size = refl }

pub overfull-requires : goal.overfull-requires
overfull-requires c =
    let pre = c.requires in
    (pre.0, (pre.1.0, c.ended_by-ended.ensures.profile))

pub returns : goal.returns
returns c =
    let else1 = c in
    let a = else1.args in
    let e = closes a.target a.jobs.now else1.closing-close.ensures else1.if-close.false in
    record {
      over = λ y. subst (λ (C : ℕ). OverfullFrom a.jobs.now a.part.now (release_at a.at.now a.least) a.least C) e
          (c.overfull.ensures.over y);
      size = c.overfull.ensures.size;
    }
