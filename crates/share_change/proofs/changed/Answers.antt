-- `share_change::changed` meets its contract: test by test it answers what the definition does.
use mathlib.Core.Path.{◌≡◌, sym, ap, ◌∙◌}
use Rattle.checking.specs.Refusals.{number_of}
use Rattle.checking.proofs.Numbers.{number-some}
use borrow.Author.Rules.{rules}
use Rattle.std.specs.Prelude.{Err}
use Rattle.desk.specs.declared.Opened.{Opened}
use Rattle.desk.specs.Calls.{open_refusal, opened, answered}
use Rattle.share_change.specs.Change.{refused_with, taken_over}
use Rattle.share_change.proofs.Cases.{desk_impossible, number-changed, figures-refused, taken-over}
use Rattle.share_change.proofs.changed.Goals as goal

pub returns-then-not-ok : goal.returns-then-not-ok
returns-then-not-ok c = desk_impossible _ _ _ _ (sym c.ok.ensures ∙ c.if-not-ok.true)

pub returns-then-not-same_number : goal.returns-then-not-same_number
returns-then-not-same_number c =
    number-changed _ _ _ _ (sym c.ok.ensures ∙ c.if-not-ok.false) (sym c.same_number.ensures ∙ c.if-not-same_number.true)

pub returns-in_err-new : goal.returns-in_err-new
unfolding opened
returns-in_err-new c =
    let a = c.args in
    let r = c.in_err-new.field-0.0 in
    let e : c.from_residual.result ≡ Err r = search rules in
    let n : number_of r ≡ open_refusal a.limit a.assured.now a.ceilings.now = ap (λ (o : Opened). o.refusal) c.in_err-new.ensures in
    ap (answered a.desk) e
    ∙ ap (refused_with a.desk) n
    ∙ figures-refused _ _ _ _ (sym c.ok.ensures ∙ c.if-not-ok.false) (sym c.same_number.ensures ∙ c.if-not-same_number.false)
    (λ z. number-some r (n ∙ z))

pub returns : goal.returns
unfolding opened
returns c =
    let a = c.args in
    let o = c.in_ok-new.ensures in
    c.taken_over.ensures
    ∙ ap (λ (o : Opened). taken_over a.desk o.desk) o
    ∙ taken-over a.desk a.limit a.assured.now a.ceilings.now (sym c.ok.ensures ∙ c.if-not-ok.false)
    (sym c.same_number.ensures ∙ c.if-not-same_number.false) (sym (ap (λ (o : Opened). o.refusal) o))
