-- `text::with_place` meets its contract.
use mathlib.Core.Path.{refl, ap, ◌∙◌}
use mathlib.Core.List.{[], ◌∷◌}
use Prim.Native.Nat.{ℕ}
use borrow.Author.Tests.{le-leb, lt-leb}
use Rattle.text.specs.Numbers.{place}
use Rattle.text.specs.Texts.{adding}
use Rattle.text.proofs.with_place.Goals as goal

pub returns-then-p-x : goal.returns-then-p-x
unfolding place
returns-then-p-x c =
    let a = c.args in
    rw (le-leb a.p a.x c.if-p-x.true)
    (c.with_byte.ensures ∙ ap (λ (d : ℕ). adding a.text (d ∷ [])) c.digit.ensures)

pub returns-else-p-x : goal.returns-else-p-x
unfolding place adding
returns-else-p-x c = rw (lt-leb c.args.p c.args.x c.if-p-x.false) refl
