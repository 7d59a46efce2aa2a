-- `search::visit` and `search::try_children`, which call each other, meet their contracts.
use mathlib.Core.Path.{◌≡◌, refl, ap, ◌∙◌}
use Prim.Native.Nat.{◌<◌}
use native.Mathlib.Omega.{arith}
use lib.Count.{ones}
use Rattle.tables.specs.Tables.{count_of}
use Rattle.tables.specs.Part.{word_of}
use Rattle.placement.proofs.Parts.{ends_fit}
use Rattle.candidates.proofs.Children.{word_within}
use Rattle.search.proofs.Turns.{visit_leaf, visit_all, visit_remember}
use Rattle.search.proofs.Passing.{passed_cut, choice_placeable, choice_fewer, choice_word, choice_searching, settled_less}
use Rattle.search.proofs.Sweeps.{none_outcome, given_up, found_below, sweep_first, chosen_in, chosen_low, sweep_next, sweep_all, all_tried, trying}
use Prim.Native.Nat.{◌<◌}
use mathlib.Core.Bool.{true}
use mathlib.Core.Logic.{◌⊎◌, inl, inr}
use Rattle.search.proofs.+try_children_visit.Goals as goal
use Rattle.search.proofs.+try_children_visit.Goals.{visit-then-found-via-then-found, visit-then-found-via-else-found+then-left-eq0}

pub try_children-passed_over-requires : goal.try_children-passed_over-requires
try_children-passed_over-requires t c =
    let p = c.requires in
    let known = p.0.going.known in
    let few = known.fit.few in
    let part = c.args.part.now in
    record {
      few = few;
      placed = known.is.figures.profile.few;
      job = omega (arith, p.1.inside);
      jobs = λ k l. omega (arith, word_within known k l);
      short = λ k l. omega (arith, ends_fit _ known.fit part (word_of part) known.is _ (word_within known k l));
    }

pub try_children-none_found-requires : goal.try_children-none_found-requires
try_children-none_found-requires t c = tt

pub try_children-returns-then-passed_over : goal.try_children-returns-then-passed_over
try_children-returns-then-passed_over t c =
    let p = c.requires in
    let cut = passed_cut p.0 p.1 (c.passed_over.ensures c.if-passed_over.true) in
    record { outcome = rw c.none_found.ensures (none_outcome cut); settled = p.0.settled_so; remembered = p.0.going.remembered; size = refl; limit = λ e. e }

pub try_children-offset_bounds-settled-job : goal.try_children-offset_bounds-settled-job
try_children-offset_bounds-settled-job t c =
    let p = c.requires in
    record { fits = omega (arith, p.1.inside, p.0.going.known.fit.few) }

pub try_children-bounds-settled-job : goal.try_children-bounds-settled-job
try_children-bounds-settled-job t c =
    let p = c.requires in
    omega (arith, p.1.inside, p.0.going.known.fit.few)

pub try_children-place-requires : goal.try_children-place-requires
try_children-place-requires t c =
    let p = c.requires in
    choice_placeable p.0 p.1

pub try_children-settled_now-same_now-requires : goal.try_children-settled_now-same_now-requires
try_children-settled_now-same_now-requires t c = tt

pub try_children-visit-requires : goal.try_children-visit-requires
try_children-visit-requires t c =
    let past = c in
    let pre = past.requires in
    let p = pre in
    let child = c.place.ensures in
    (omega (arith, c.decreases, choice_fewer p.0 p.1 child), rw (c.settled_now-same_now.ensures) (choice_searching p.0 p.1 child))

pub try_children-shape_of-memory : goal.try_children-shape_of-memory
try_children-shape_of-memory t c = c.visit.auto.memory

pub try_children-returns : goal.try_children-returns
try_children-returns t c =
    let past = c in
    let far = past in
    let p = far.requires in
    let child = past.place.ensures in
    let visit = c.visit.ensures in
    record {
      outcome = rw (choice_word p.0 p.1 child) at visit.outcome;
      settled = settled_less p.0 p.1 child visit.settled;
      remembered = visit.remembered;
      size = visit.size;
      limit = visit.limit;
    }

pub visit-used_up-requires : goal.visit-used_up-requires
visit-used_up-requires t c = tt

pub visit-none_found-requires : goal.visit-none_found-requires
visit-none_found-requires t c = tt

pub visit-returns-then-used_up : goal.visit-returns-then-used_up
visit-returns-then-used_up t c =
    let p = c.requires in
    let used-up = c.used_up.ensures in
    record { outcome = rw c.none_found.ensures (given_up (used-up.spent c.if-used_up.true)); settled = p.settled_so; remembered = p.going.remembered; size = refl; limit = used-up.limit }

pub visit-count-count-requires : goal.visit-count-count-requires
visit-count-count-requires t c = tt

pub visit-finished-requires : goal.visit-finished-requires
visit-finished-requires t c = omega (arith, c.count-count.ensures, c.requires.going.known.fit.few)

pub visit-returns-then-unplaced-eq0 : goal.visit-returns-then-unplaced-eq0
visit-returns-then-unplaced-eq0 t c =
    let a = c.args in
    let p = c.requires in
    let all : a.part.now.placed ≡ count_of a.jobs.now = omega (arith, p.going.known.is.figures.sizes, c.if-unplaced-eq0.true) in
    let finished = rw c.count-count.ensures at c.finished.ensures in
    record { outcome = visit_leaf p.going.known all finished; settled = p.settled_so; remembered = p.going.remembered; size = refl; limit = c.used_up.ensures.limit }

pub visit-starts_of-starts-requires : goal.visit-starts_of-starts-requires
visit-starts_of-starts-requires t c = c.requires.going.known

pub visit-cut_off-requires : goal.visit-cut_off-requires
visit-cut_off-requires t c =
    let past = c in
    let p = past.requires in
    ((p.going, p.slated), (c.starts_of-starts.ensures, omega (arith, p.going.known.is.figures.sizes, c.if-unplaced-eq0.false)))

pub visit-none_found-requires-then-cut_off : goal.visit-none_found-requires-then-cut_off
visit-none_found-requires-then-cut_off t c = tt

pub visit-shape_of-memory-then-cut_off : goal.visit-shape_of-memory-then-cut_off
visit-shape_of-memory-then-cut_off t c = refl

pub visit-returns-then-cut_off : goal.visit-returns-then-cut_off
visit-returns-then-cut_off t c =
    let past = c in
    let p = past.requires in
    record { outcome = rw c.none_found-then-cut_off.ensures (none_outcome (c.cut_off.ensures.fails c.if-cut_off.true)); settled = p.settled_so; remembered = p.going.remembered; size = c.cut_off.ensures.size; limit = past.used_up.ensures.limit }

pub visit-to_try-untried-requires : goal.visit-to_try-untried-requires
visit-to_try-untried-requires t c =
    let past = c in
    let p = past.requires in
    trying p.going.known c.starts_of-starts.ensures

pub visit-next_choice-c-requires : goal.visit-next_choice-c-requires
visit-next_choice-c-requires t c =
    let past = c in
    let far = past in
    omega (arith, past.count-count.ensures, far.requires.going.known.fit.few)

pub visit-loop-c-init : goal.visit-loop-c-init
visit-loop-c-init t c =
    let past = c in
    let far = past in
    let p = far.requires in
    let choice = rw past.count-count.ensures at c.next_choice-c.ensures in
    (sweep_first p.going.known past.starts_of-starts.ensures choice, (p.settled_so, (p.going.remembered, (refl, (refl, λ e. e)))))

pub visit-try_children-found-requires : goal.visit-try_children-found-requires
visit-try_children-found-requires t c =
    let past = c in
    let far = past in
    let front = far in
    let pre = front.requires in
    let p = pre in
    let g = p.going in
    let loop = c.loop-c in
    let sweep = loop.invariant.0 in
    let low = chosen_low sweep.choice c.loop-c-test.true in
    let chosen = sweep.choice.some low in (
      omega (arith, c.decreases),
      (
        record {
          going = record { low = g.low; known = g.known; tabled = g.tabled; remembered = loop.invariant.1.1.0 };
          slated = loop.invariant.1.1.1.1.0 ∙ past.cut_off.ensures.size ∙ p.slated;
          settled_so = loop.invariant.1.0;
        },
        record {
          inside = chosen.0;
          starts = rw chosen.1.1 at (far.starts_of-starts.ensures.each _ chosen.0);
          may_come = low;
          before = sweep.before;
        },
      ),
    )

pub visit-shape_of-memory-then-found : goal.visit-shape_of-memory-then-found
visit-shape_of-memory-then-found t c =
    let past = c in
    c.try_children-found.auto.memory ∙ past.loop-c.invariant.1.1.1.0

pub visit-returns-then-found : goal.visit-returns-then-found
visit-returns-then-found t c =
    let past = c in
    let far = past in
    let front = far in
    let try = c.try_children-found.ensures in
    let inv = past.loop-c.invariant.1.1.1 in
    let over : (c.try_children-found.result.hit ≡ true) ⊎ (c.try_children-found.new.left ≡ 0) = elim c.then-found.branch [
      | visit-then-found-via-then-found w ↦ inl w.if-found.true
      | visit-then-found-via-else-found+then-left-eq0 w ↦ inr w.if-left-eq0.true
    ] in
    record { outcome = found_below (word_of front.args.part.now) past.loop-c.c.job try.outcome over; settled = try.settled; remembered = try.remembered; size = try.size ∙ inv.1.0 ∙ far.cut_off.ensures.size; limit = λ e. try.limit (inv.1.1 (front.used_up.ensures.limit e)) }

pub visit-without-untried-requires : goal.visit-without-untried-requires
visit-without-untried-requires t c =
    let past = c in
    let far = past in
    let front = far in
    let choice = past.loop-c.invariant.0.choice in
    let chosen = choice.some (chosen_low choice past.loop-c-test.true) in
    omega (arith, chosen.0, front.requires.going.known.fit.few)

pub visit-with-tried-requires : goal.visit-with-tried-requires
visit-with-tried-requires t c =
    let past = c in
    let far = past in
    let front = far in
    let edge = front in
    let choice = past.loop-c.invariant.0.choice in
    let chosen = choice.some (chosen_low choice past.loop-c-test.true) in
    omega (arith, chosen.0, edge.requires.going.known.fit.few)

pub visit-next_choice-c-requires-in-loop-c : goal.visit-next_choice-c-requires-in-loop-c
visit-next_choice-c-requires-in-loop-c t c =
    let past = c in
    let far = past in
    let front = far in
    let edge = front in
    omega (arith, front.count-count.ensures, edge.requires.going.known.fit.few)

pub visit-loop-c-smaller : goal.visit-loop-c-smaller
visit-loop-c-smaller t c =
    let past = c in
    let far = past in
    let choice = far.loop-c.invariant.0.choice in
    let fewer = chosen_in choice (chosen_low choice past.loop-c-test.true) in
    rw c.without-untried.ensures (omega (arith, fewer))

pub visit-loop-c-preserved : goal.visit-loop-c-preserved
visit-loop-c-preserved t c =
    let past = c in
    let far = past in
    let front = far in
    let edge = front in
    let without = c.without-untried in
    let p = edge.requires in
    let loop = far.loop-c in
    let sweep = loop.invariant.0 in
    let low = chosen_low sweep.choice past.loop-c-test.true in
    let try = past.try_children-found in
    let next = rw (without.ensures, front.count-count.ensures) at c.next_choice-c-in-loop-c.ensures in (
      rw (without.ensures, c.with-tried.ensures)
          (sweep_next p.going.known front.starts_of-starts.ensures sweep low (try.ensures.outcome.miss c.if-found.false c.if-left-eq0.false) next),
      (try.ensures.settled, (try.ensures.remembered, (try.auto.memory ∙ loop.invariant.1.1.1.0, (try.ensures.size ∙ loop.invariant.1.1.1.1.0, λ e. try.ensures.limit (loop.invariant.1.1.1.1.1 e))))),
    )

pub visit-remember-requires : goal.visit-remember-requires
visit-remember-requires t c =
    let past = c in
    let far = past in
    omega (arith, far.count-count.ensures, far.requires.going.known.fit.few)

pub visit-none_found-requires-2 : goal.visit-none_found-requires-2
visit-none_found-requires-2 t c = tt

pub visit-shape_of-memory : goal.visit-shape_of-memory
visit-shape_of-memory t c =
    c.remember.auto.memory ∙ c.loop-c.invariant.1.1.1.0

pub visit-returns : goal.visit-returns
visit-returns t c =
    let past = c in
    let far = past in
    let front = far in
    let starts-of = far.starts_of-starts in
    let to-try-place = past.to_try-untried in
    let a = front.args in
    let p = front.requires in
    let g = p.going in
    let loop = c.loop-c in
    let swept = sweep_all g.known starts-of.ensures loop.invariant.0 c.loop-c-test.false in
    let to-try = to-try-place.ensures in
    let all = all_tried g.known starts-of.ensures a.target to-try-place.result a.prepared.now.related g.tabled.related to-try swept in
    let left : 0 < ones a.part.now.unplaced = omega (arith, far.if-unplaced-eq0.false) in
    let cut = visit_all g.known a.target left all in
    let added = rw far.count-count.ensures at c.remember.ensures in
    record { outcome = rw c.none_found-2.ensures (none_outcome cut); settled = loop.invariant.1.0; remembered = visit_remember g.known a.target loop.invariant.1.1.0 cut added; size = loop.invariant.1.1.1.1.0 ∙ past.cut_off.ensures.size; limit = λ e. loop.invariant.1.1.1.1.1 (far.used_up.ensures.limit e) }
