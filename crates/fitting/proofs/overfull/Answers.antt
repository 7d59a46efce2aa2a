-- `fitting::overfull` meets its contract.
use mathlib.Core.Path.{refl, ◌∙◌}
use mathlib.Core.Bool.{false}
use Rattle.counting.proofs.Tests.{clash}
use Rattle.fitting.proofs.overfull.Goals as goal

pub returns-then-close-least : goal.returns-then-close-least
returns-then-close-least c =
    record { over = (λ e. clash false e refl); size = refl }

pub returns-then-account-lt-FEWEST : goal.returns-then-account-lt-FEWEST
returns-then-account-lt-FEWEST c =
    record { over = (λ e. clash false e refl); size = c.pass.ensures }

pub returns-then-not-pays : goal.returns-then-not-pays
returns-then-not-pays c =
    record { over = (λ e. clash false e refl); size = c.pays.ensures ∙ c.enter.ensures }

pub tabled-over-requires : goal.tabled-over-requires
tabled-over-requires c =
    let paid = c in
    let entered = paid in
    let first = entered in
    let pre = first.requires in
    (((pre.0.0, paid.pays.ensures ∙ entered.enter.ensures ∙ pre.0.1), first.if-close-least.false), pre.1)
