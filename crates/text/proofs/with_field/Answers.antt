-- `text::with_field` meets its contract.
use mathlib.Core.Path.{refl, ap, ◌∙◌}
use mathlib.Core.List.{List, [], ◌∷◌, ◌++◌}
use Prim.Native.Nat.{ℕ}
use native.Mathlib.Omega.{arith}
use lib.ListN.{take, get_or}
use lib.Seq.{take_all}
use Rattle.text.specs.declared.Text.{Text}
use Rattle.text.specs.Texts.{adding}
use Rattle.text.proofs.Adding.{adding_more, adding_next}
use Rattle.text.proofs.with_field.Goals as goal

pub loop-b-init : goal.loop-b-init
unfolding adding
loop-b-init c = refl

pub loop-b-preserved : goal.loop-b-preserved
loop-b-preserved c =
    let a = c.args in
    let loop = c.loop-b in c.with_byte-next.ensures ∙ ap (λ (t : Text). adding t (get_or a.field.now loop.b-index 0 ∷ [])) loop.invariant
    ∙ adding_next a.text a.field.now loop.b-index c.loop-b-test.true

pub returns : goal.returns
returns c =
    let a = c.args in
    let loop = c.loop-b in
    c.with_byte.ensures ∙ ap (λ (t : Text). adding t (a.after ∷ [])) loop.invariant
    ∙ adding_more a.text (take loop.b-index a.field.now) (a.after ∷ [])
    ∙ ap (λ (l : List ℕ). adding a.text (l ++ (a.after ∷ []))) (take_all loop.b-index a.field.now (omega arith))
