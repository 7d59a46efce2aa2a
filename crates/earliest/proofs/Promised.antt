-- What is promised of the end alone: it is the end on planning's card, and the earliest of all valid plans' ends.
use mathlib.Core.Path.{◌≡◌, refl, sym, subst, ◌∙◌}
use mathlib.Core.List.{List}
use Prim.Native.Nat.{ℕ}
use lib.ListN.{length}
use Rattle.schedule.specs.Ends.{EarliestEnd}
use Rattle.schedule.proofs.Theorems.{best_exists}
use Rattle.planable.specs.Planable.{sheet_in, planable_refusal}
use Rattle.planable.proofs.Circles.{ordered_when}
use Rattle.planable.proofs.Tables.{lasting_read}
use Rattle.planable.proofs.Planable.{number_of_answer, passes}
use Rattle.planner.specs.Planned.{our_plan}
use Rattle.planner.proofs.Planning.{front_passes, plan-answered}
use Rattle.earliest.specs.declared.Earliest.{Earliest}
use Rattle.earliest.specs.Earliest.{earliest_end, end_answer, EndOnCard, EndIsEarliest}
use Rattle.earliest.proofs.Ends.{earliest_one, best_earliest_end, earliest_end_is}

-- the number is 1 to 9 and 19's
pub end_number : (s : List ℕ) → (end_answer s).refusal ≡ planable_refusal s
unfolding end_answer
end_number s = number_of_answer (λ (a : Earliest). a.refusal) (planable_refusal s) _ _ refl refl

end_of : (s : List ℕ) → planable_refusal s ≡ 0 → (end_answer s).end ≡ earliest_end (sheet_in s)
unfolding end_answer
end_of s e = rw e refl

-- it is the end of some valid plan, and no valid plan ends earlier
pub end_is_earliest : EndIsEarliest
end_is_earliest s e =
    let passed = sym (end_number s) ∙ e in
    let p = passes s passed in
    let S = sheet_in s in
    let b = best_exists S ((ordered_when S).0 p.ordered) in
    subst (EarliestEnd S) (sym (end_of s passed ∙ earliest_end_is S b.0 b.1))
    (best_earliest_end S p.narrow (lasting_read s p.reads) b.0 b.2)

-- "Its number must equal the end on the full planner's card for every sheet": and for every working memory, of which no definition speaks
pub end_on-card : EndOnCard
end_on-card s card e =
    let passed = front_passes s (length card) e in
    let a = (plan-answered s card e).1 in
    let number = end_number s ∙ passed in
    let ours : EarliestEnd (sheet_in s) _ = record { some = (our_plan s card, a.valid, refl); least = a.earliest } in
    (number, earliest_one (end_is_earliest s number) ours ∙ a.end)
