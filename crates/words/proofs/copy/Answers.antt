-- `words::copy` meets its contract: the first i bytes are copied.
use mathlib.Core.Path.{refl, ap, ap₂, ◌∙◌}
use mathlib.Core.List.{List, ◌++◌, append-nil}
use Prim.Native.Nat.{ℕ}
use native.Mathlib.Omega.{arith}
use lib.ListN.{drop_of_length-le, get_or, set, length-set}
use lib.Seq.{take_all}
use Rattle.words.proofs.Parts.{copy_more}
use Rattle.words.proofs.copy.Goals as goal

pub loop-i-init : goal.loop-i-init
loop-i-init c = (refl, refl)

pub loop-i-preserved : goal.loop-i-preserved
loop-i-preserved c =
    let v = c.loop-i in
    let s = c.args.bytes.now in
    let l = c.args.part.now in (
      ap (λ (x : List ℕ). set x v.i (get_or s v.i 0)) v.invariant.0 ∙ copy_more s l v.i (omega arith) (omega arith),
      length-set v.part v.i (get_or s v.i 0) ∙ v.invariant.1,
    )

pub shape_of-part : goal.shape_of-part
shape_of-part c = c.loop-i.invariant.1

pub returns : goal.returns
returns c =
    let v = c.loop-i in
    let s = c.args.bytes.now in
    let l = c.args.part.now in
    v.invariant.0
    ∙ ap₂ (λ (x y : List ℕ). x ++ y) (take_all v.i s (omega arith)) (drop_of_length-le l {i = v.i} (omega arith))
    ∙ append-nil s
