-- `values::joined` meets its contract.
use mathlib.Core.Path.{◌≡◌, ◌∙◌}
use Prim.Native.Nat.{ℕ}
use lib.ListN.{length, length-replicate}
use Rattle.weights.specs.Weights.{widths}
use Rattle.values.specs.Values.{steps, lanes_size}
use Rattle.values.proofs.Laws.{joined_of}
use borrow.Author.Rules.{rules}
use Rattle.values.proofs.joined.Goals as goal

pub returns : goal.returns
returns c =
    let put-worth = c.put_worth-lanes in
    let put-list2 = c.put_list-lanes-2 in
    let put-list = c.put_list-lanes in
    let args = c.args in
    let size = put-worth.ensures.size ∙ put-list2.ensures.size ∙ put-list.ensures.size ∙ length-replicate {A = ℕ} lanes_size 0 in
    let all : length args.reach.now ≡ steps = search rules in
    let all' : length args.most.now ≡ widths = search rules in
    rw c.wide.ensures
    (joined_of args.step size (rw all at put-list.ensures) (rw all' at put-list2.ensures) put-worth.ensures)
