-- `search::settle_place` meets its contract.
use mathlib.Core.Path.{◌≡◌, refl, ◌∙◌}
use Prim.Native.Nat.{◌<◌}
use native.Mathlib.Omega.{arith}
use lib.ListN.{get_or}
use Rattle.tables.specs.Tables.{count_of}
use Rattle.tables.specs.Part.{word_of}
use Rattle.candidates.proofs.Children.{word-length}
use Rattle.search.proofs.Placings.{upto-none, upto_more}
use Rattle.search.proofs.Placings.{placed_at, named-at, job_below, place_hit, place_miss}
use Rattle.search.proofs.settle_place.Goals as goal

pub bounds-best-k : goal.bounds-best-k
bounds-best-k c =
    let pre = c.requires in
    omega (arith, pre.1.1, pre.0.known.fit.few)

pub loop-j-init : goal.loop-j-init
loop-j-init c =
    let pre = c.requires in
    ((upto-none pre.1.0, (pre.0.remembered, (refl, λ e. e))))

pub try_place-found-requires : goal.try_place-found-requires
try_place-found-requires c =
    let pre = c.requires in
    let a = c.args in
    let loop = c.loop-j in
    let g = pre.0 in
    let p = a.part.now in
    let lower = job_below pre.1.0 p.placed (word-length g.known) pre.1.1 in
    let below : loop.j < count_of a.jobs.now = omega (arith, c.loop-j-test.true, c.from-stop.ensures) in
    (record { low = g.low; known = g.known; tabled = g.tabled; remembered = loop.invariant.1.0 }, below)

pub shape_of-memory-then-found : goal.shape_of-memory-then-found
shape_of-memory-then-found c = c.try_place-found.auto.memory ∙ c.loop-j.invariant.1.1.0

pub returns-then-found : goal.returns-then-found
returns-then-found c =
    let past = c in
    let pre = past.requires in
    let loop = c.loop-j in
    let g = pre.0 in
    let p = past.args.part.now in
    let try = c.try_place-found.ensures in
    let hit = place_hit pre.1.0 try.outcome c.if-found.true loop.invariant.0 in
    let named = named-at _ (word_of p) loop.j hit.0 p.placed (word-length g.known) pre.1.1 in
    record { lowest = hit.0.lowest; placed = λ s. rw named hit.0; remembered = rw hit.1 try.remembered; limit = λ e. try.limit (loop.invariant.1.1.1 e) }

pub shape_of-memory-then-left-eq0 : goal.shape_of-memory-then-left-eq0
shape_of-memory-then-left-eq0 c =
    let past = c in
    c.try_place-found.auto.memory ∙ past.loop-j.invariant.1.1.0

pub returns-then-left-eq0 : goal.returns-then-left-eq0
returns-then-left-eq0 c =
    let past = c in
    let try = c.try_place-found.ensures in
    record { lowest = past.requires.1.0.lowest; placed = λ s. absurd (s (omega (arith, c.if-left-eq0.true))); remembered = try.remembered; limit = λ e. try.limit (past.loop-j.invariant.1.1.1 e) }

pub loop-j-preserved : goal.loop-j-preserved
loop-j-preserved c =
    let past = c in
    let a = past.args in
    let loop = past.loop-j in
    let p = a.part.now in
    let try = c.try_place-found in ((
      upto_more _ a.best.end (word_of p) loop.j loop.invariant.0 (try.ensures.outcome.miss c.if-found.false (λ e. omega (arith, c.if-left-eq0.false, e))),
      (try.ensures.remembered, (try.auto.memory ∙ loop.invariant.1.1.0, λ e. try.ensures.limit (loop.invariant.1.1.1 e))),
    ))

pub shape_of-memory : goal.shape_of-memory
shape_of-memory c = c.loop-j.invariant.1.1.0

pub returns : goal.returns
returns c =
    let pre = c.requires in
    let a = c.args in
    let g = pre.0 in
    let h = pre.1.0 in
    let k = a.part.now.placed in
    let order = a.best.order in
    let some = placed_at h k (word-length g.known) pre.1.1 in
    let at : c.loop-j.j ≡ get_or order k 0 = omega (arith, c.loop-j.auto.j-end, c.loop-j-test.false, c.from-stop.ensures) in
    record { lowest = h.lowest; placed = λ s. place_miss h (get_or order k 0) some.0 some.1 (rw at at c.loop-j.invariant.0); remembered = c.loop-j.invariant.1.0; limit = c.loop-j.invariant.1.1.1 }
