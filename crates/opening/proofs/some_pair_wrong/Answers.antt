-- `opening::some_pair_wrong` meets its contract: no pair that was passed is wrong.
use mathlib.Core.Path.{◌≡◌, refl, sym, ◌∙◌}
use mathlib.Core.Bool.{true, false}
use lib.ListN.{length}
use Rattle.std.proofs.lemmas.List.{length_push}
use Rattle.std.proofs.lemmas.Slice.Zip.{zip_turn}
use Rattle.counting.specs.Counting.{any}
use Rattle.counting.proofs.Loops.{any_more, any_at}
use Rattle.opening.proofs.some_pair_wrong.Invariants.{wrong}
use Rattle.opening.proofs.some_pair_wrong.Goals as goal

pub loop-share-init : goal.loop-share-init
unfolding any
loop-share-init c = refl

pub returns-then-wrong_pair : goal.returns-then-wrong_pair
returns-then-wrong_pair c =
    let a = c.args in
    let t = zip_turn a.assured.now a.ceilings.now c.loop-share.yielded c.into_iter-share-iterator.result c.loop-share.share-iterator c.next.new.self _ (cc) (cc) c.loop-share.yielded_by _ c.in-Some.is c.next.ensures.steps in
    let e : wrong a.limit a.assured.now a.ceilings.now (length c.loop-share.yielded) ≡ true =
    rw (← t.2 0, ← t.3 0) (sym c.wrong_pair.ensures ∙ c.if-wrong_pair.true) in
    sym (any_at _ (wrong a.limit a.assured.now a.ceilings.now) (length c.loop-share.yielded) t.0 e)

pub loop-share-preserved : goal.loop-share-preserved
loop-share-preserved c =
    let a = c.args in
    let t = zip_turn a.assured.now a.ceilings.now c.loop-share.yielded c.into_iter-share-iterator.result c.loop-share.share-iterator c.next.new.self _ (cc) (cc) c.loop-share.yielded_by _ c.in-Some.is c.next.ensures.steps in
    let e : wrong a.limit a.assured.now a.ceilings.now (length c.loop-share.yielded) ≡ false =
    rw (← t.2 0, ← t.3 0) (sym c.wrong_pair.ensures ∙ c.if-wrong_pair.false) in
    rw (length_push c.loop-share.yielded (c.in-Some.share, c.in-Some.ceiling))
    (any_more (wrong a.limit a.assured.now a.ceilings.now) (length c.loop-share.yielded) c.loop-share.invariant e)
