-- `card_check::pairs_fit` meets its contract: each job may stand beside job j.
use mathlib.Core.Path.{refl, ap, ◌∙◌}
use mathlib.Core.Bool.{Bool}
use Prim.Native.Nat.{ℕ}
use borrow.Author.Rules.{rules}
use native.Mathlib.Omega.{arith}
use Rattle.std.proofs.Common.{tests}
use Rattle.std.proofs.lemmas.Iterator.{YieldsList-from_range}
use Rattle.std.proofs.lemmas.Iterator.Search.{all_from_yields_List}
use Rattle.counting.specs.Counting.{every}
use Rattle.counting.proofs.Iterated.{all_below}
use Rattle.tables.specs.Tables.{sheet_of}
use Rattle.card_check.specs.Test.{pair_fits}
use Rattle.card_check.proofs.pairs_fit.Goals as goal

pub returns : goal.returns
returns c =
    let a = c.args in
    let p : ℕ → Bool = pair_fits (sheet_of a.jobs.now) a.card.now a.j in
    let n = c.count.result in
    all_from_yields_List p _ _ _ c.all.ensures.ran (YieldsList-from_range 0 n n refl (omega arith)) (λ x b q k. search (rules, tests))
    ∙ all_below n p
    ∙ ap (λ (k : ℕ). every k p) c.count.ensures
