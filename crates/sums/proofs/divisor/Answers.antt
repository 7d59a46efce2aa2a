-- `sums::divisor` meets its contract.
use native.Mathlib.Nat.{pos_of_ne-zero, mod-lt, dvd_refl, dvd-zero, dvd-mod_iff}
use Rattle.sums.proofs.divisor.Goals as goal

pub loop-y-init : goal.loop-y-init
loop-y-init c = λ d p q. (p, q)

pub loop-y-smaller : goal.loop-y-smaller
loop-y-smaller c = mod-lt c.loop-y.x (pos_of_ne-zero c.loop-y-test.true)

pub loop-y-preserved : goal.loop-y-preserved
loop-y-preserved c = λ d p q. c.loop-y.invariant d ((dvd-mod_iff d p).0 q) p

pub returns : goal.returns
returns c =
    let x = c.loop-y.x in
    c.loop-y.invariant x (dvd_refl x) (rw c.loop-y-test.false (dvd-zero x))
