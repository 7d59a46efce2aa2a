-- `fitting::shown` meets its contract.
use native.Mathlib.Omega.{arith}
use borrow.Author.Tests.{eqb-true}
use Rattle.fitting.proofs.shown.Goals as goal

pub returns-then-above-eq0 : goal.returns-then-above-eq0
returns-then-above-eq0 c =
    record { over = (λ _. c.gap-above.ensures.over c.if-above-eq0.true); size = omega (arith, c.gap-above.ensures.size, c.loop-turns.invariant, c.requires.1) }

pub turn-requires : goal.turn-requires
turn-requires c =
    let h = c.requires.0 in (
      (h.framed.some, record { few = h.ordered.few; each = λ i l. omega (arith, h.ordered.each i l, h.fit.few) }),
      h.profile.few,
    )

pub returns : goal.returns
returns c =
    record { over = (λ e. c.gap.ensures.over (eqb-true c.gap.result 0 e)); size = omega (arith, c.gap.ensures.size, c.loop-turns.invariant, c.requires.1) }
