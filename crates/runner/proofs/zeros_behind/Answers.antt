-- `runner::zeros_behind` meets its contract: each place is used or 0.
use mathlib.Core.Bool.{Bool, ◌||◌}
use mathlib.Core.Path.{◌≡◌, refl, ◌∙◌}
use Prim.Native.Nat.{ℕ}
use borrow.Author.Rules.{rules}
use native.Mathlib.Omega.{arith}
use lib.Dec.{ltb, eqb}
use lib.ListN.{length, get_or}
use borrow.Author.Tests.{eq-eqb, lt-leb, le-leb}
use Rattle.std.proofs.Common.{tests}
use Rattle.std.proofs.lemmas.Iterator.{YieldsList-from_range}
use Rattle.std.proofs.lemmas.Iterator.Search.{all_from_yields_List}
use Rattle.counting.specs.Counting.{every}
use Rattle.counting.proofs.Iterated.{all_below}
use Rattle.runner.specs.Runner.{zeros_behind}
use Rattle.runner.proofs.zeros_behind.Goals as goal

pub returns-then-used-places : goal.returns-then-used-places
unfolding zeros_behind
returns-then-used-places c =
    let a = c.args in
    let n = length a.places.now in
    let p : ℕ → Bool = λ i. ltb i a.used || eqb (get_or a.places.now i 0) 0 in
    let all : c.all.result ≡ every n p =
    all_from_yields_List p _ _ _ c.all.ensures.ran (YieldsList-from_range 0 n n refl (omega arith)) (λ x b q k. search (rules, tests))
    ∙ all_below n p in
    rw (eq-eqb n _ refl, le-leb _ _ c.if-used-places.true) all

pub returns-else-used-places : goal.returns-else-used-places
unfolding zeros_behind
returns-else-used-places c = rw (eq-eqb (length c.args.places.now) _ refl, lt-leb _ _ c.if-used-places.false) refl
