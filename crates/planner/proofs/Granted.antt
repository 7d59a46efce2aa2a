-- R-3.3, of the plan on the card of an answered call.
use mathlib.Core.Path.{◌≡◌}
use mathlib.Core.Bool.{true}
use mathlib.Core.List.{List}
use Prim.Native.Nat.{ℕ, ◌≤◌}
use lib.ListN.{length}
use Rattle.desk.specs.declared.Desk.{Desk}
use Rattle.desk.specs.Desk.{holding, assured_share}
use Rattle.desk.specs.Calls.{Call}
use Rattle.desk.specs.Reachable.{Reachable}
use Rattle.assurance.specs.Following.{plan_need, FollowsPlan, AllGranted, GrantedWhile, unchanging}
use Rattle.assurance.proofs.Assured.{kept-granted, granted_while}
use Rattle.assurance.proofs.Shares.{unchanging_keeps}
use Rattle.card.specs.Decoding.{plan_on}
use Rattle.planable.specs.Planable.{sheet_in}
use Rattle.planable.proofs.Tables.{lasting_read, needing_read}
use Rattle.planable.proofs.Planable.{passes}
use Rattle.planner.specs.Planning.{plan_refusal, card_after}
use Rattle.planner.proofs.Planning.{front_passes, plan-answered}

module _ (s card : List ℕ) (e : plan_refusal s (length card) ≡ 0) (size : ℕ) (one : 1 ≤ size) (d : Desk) (r : Reachable d) (c : ℕ)
    (z : holding d c ≡ 0) (n : plan_need (sheet_in s) size ≤ assured_share d c) (calls : List Call)
    (f : FollowsPlan (sheet_in s) (plan_on (card_after s card)) size c calls) where
  -- For every list of calls on a desk that calls can leave: where those in controller c's name follow the plan on the card, c held
  -- nothing before them and its assured share covers the cabinet's modules, of whatever size, each of them is granted, whatever stands
  -- between them, as long as no change takes its share below that.
  pub card-granted : GrantedWhile (plan_need (sheet_in s) size) c d calls
  card-granted =
      let r' = (passes s (front_passes s (length card) e)).reads in
      granted_while (sheet_in s) (plan_on (card_after s card)) (plan-answered s card e).1.valid (lasting_read s r') (needing_read s r')
      size one d r c z n calls f

  -- Where no change stands in the list, all of them are granted.
  pub card_all-granted : unchanging calls ≡ true → AllGranted c d calls
  card_all-granted q =
      kept-granted c (plan_need (sheet_in s) size) d calls (unchanging_keeps (plan_need (sheet_in s) size) c calls d q n) card-granted
