-- `search::least_order` meets its contract.
use mathlib.Core.Path.{◌∙◌}
use native.Mathlib.Omega.{arith}
use lib.ListN.{length}
use Rattle.tables.specs.Tables.{sheet_of}
use Rattle.search.proofs.Recalls.{remembered-none, remembered_less}
use Rattle.search.proofs.least_order.Goals as goal

pub begin-listed-requires : goal.begin-listed-requires
begin-listed-requires c = c.requires

pub lowest-soon-requires : goal.lowest-soon-requires
lowest-soon-requires c =
    let past = c in
    let a = past.args in
    record {
      fit = past.requires.0;
      tabled = c.begin-listed.ensures.tabled;
      best_is = c.begin-listed.ensures.listed;
      remembered = remembered-none (sheet_of a.jobs.now) _ (length a.memory.now) c.begin-listed.result.end past.clear.ensures;
    }

pub shape_of-memory-then-few-gt0 : goal.shape_of-memory-then-few-gt0
shape_of-memory-then-few-gt0 c =
    let past = c in
    c.lowest-soon.auto.memory ∙ past.clear.auto.memory

pub returns-then-few-gt0 : goal.returns-then-few-gt0
returns-then-few-gt0 c =
    let past = c in
    let soon = c.lowest-soon.ensures.lowest in
    let least = soon.least (λ e. omega (arith, c.if-few-gt0.true, e)) in
    record { lowest = record { is = soon.is; least = λ s. least }; tabled = past.begin-listed.ensures.tabled; limit = λ e. e }

pub improved-better-requires : goal.improved-better-requires
improved-better-requires c =
    let past = c in
    let far = past in
    (far.requires.0, c.lowest-soon.ensures.lowest.is)

pub lowest-requires : goal.lowest-requires
lowest-requires c =
    let past = c in
    let far = past in
    record {
      fit = far.requires.0;
      tabled = past.begin-listed.ensures.tabled;
      best_is = c.improved-better.ensures.is;
      remembered = remembered_less _ _ (omega (arith, c.improved-better.ensures.no_later)) c.lowest-soon.ensures.remembered;
    }

pub shape_of-memory : goal.shape_of-memory
shape_of-memory c =
    let past = c in
    let far = past in
    c.lowest.auto.memory ∙ past.lowest-soon.auto.memory ∙ far.clear.auto.memory

pub returns : goal.returns
returns c =
    let past = c in
    let far = past in
    record { lowest = c.lowest.ensures.lowest; tabled = far.begin-listed.ensures.tabled; limit = c.lowest.ensures.limit }
