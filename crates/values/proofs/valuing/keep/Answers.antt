-- `values::valuing::keep` meets its contract.
use mathlib.Core.Path.{refl}
use mathlib.Core.Logic.{inl, inr}
use Rattle.values.proofs.valuing.keep.Goals as goal

pub returns-then-multiple : goal.returns-then-multiple
returns-then-multiple c =
    let pre = c.requires in
    (pre.1, inr refl)

pub returns : goal.returns
returns c =
    let pre = c.requires in
    (pre.0, inl refl)
