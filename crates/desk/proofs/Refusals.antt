-- Which number a call gives: that of a check that fails where none before it in the call's list does, and 0 where none fails.
use mathlib.Core.Path.{◌≡◌, refl}
use mathlib.Core.Logic.{◌↔◌}
use mathlib.Core.List.{List}
use Prim.Native.Nat.{ℕ, ◌<◌}
use Rattle.checking.specs.Checking.{FirstFails, NoneFails}
use Rattle.checking.proofs.Order.{refused_exactly, answered_exactly}
use Rattle.desk.specs.declared.Desk.{Desk}
use Rattle.desk.specs.Checks.{open_checks, claim_checks, hand_back_checks, look_checks, change_checks}
use Rattle.desk.specs.Calls.{open_refusal, opened, claim_refusal, claimed, hand_back_refusal, handed_back, look_refusal, looked}
use Rattle.desk.specs.Calls.{change_refusal, changed}

-- Opening gives n exactly when check n fails and none before it does, and 0 exactly when none fails.
module _ (limit : ℕ) (assured ceilings : List ℕ) where
  pub open-refused : (n : ℕ) → 0 < n → ((opened limit assured ceilings).refusal ≡ n) ↔ FirstFails (open_checks limit assured ceilings) n
  unfolding opened open_refusal
  open-refused n p = refused_exactly (open_checks limit assured ceilings) n p

  pub open-answered : ((opened limit assured ceilings).refusal ≡ 0) ↔ NoneFails (open_checks limit assured ceilings)
  unfolding opened open_refusal
  open-answered = answered_exactly (open_checks limit assured ceilings) refl

-- So do a claim, a hand-back, a look and a change.
module _ (d : Desk) (c k : ℕ) where
  pub claim-refused : (n : ℕ) → 0 < n → ((claimed d c k).refusal ≡ n) ↔ FirstFails (claim_checks d c k) n
  unfolding claimed claim_refusal
  claim-refused n p = refused_exactly (claim_checks d c k) n p

  pub claim-answered : ((claimed d c k).refusal ≡ 0) ↔ NoneFails (claim_checks d c k)
  unfolding claimed claim_refusal
  claim-answered = answered_exactly (claim_checks d c k) refl

  pub hand_back-refused : (n : ℕ) → 0 < n → ((handed_back d c k).refusal ≡ n) ↔ FirstFails (hand_back_checks d c k) n
  unfolding handed_back hand_back_refusal
  hand_back-refused n p = refused_exactly (hand_back_checks d c k) n p

  pub hand_back-answered : ((handed_back d c k).refusal ≡ 0) ↔ NoneFails (hand_back_checks d c k)
  unfolding handed_back hand_back_refusal
  hand_back-answered = answered_exactly (hand_back_checks d c k) refl

module _ (d : Desk) (c : ℕ) where
  pub look-refused : (n : ℕ) → 0 < n → ((looked d c).refusal ≡ n) ↔ FirstFails (look_checks d c) n
  unfolding looked look_refusal
  look-refused n p = refused_exactly (look_checks d c) n p

  pub look-answered : ((looked d c).refusal ≡ 0) ↔ NoneFails (look_checks d c)
  unfolding looked look_refusal
  look-answered = answered_exactly (look_checks d c) refl

module _ (d : Desk) (limit : ℕ) (assured ceilings : List ℕ) where
  pub change-refused : (n : ℕ) → 0 < n
      → ((changed d limit assured ceilings).refusal ≡ n) ↔ FirstFails (change_checks d limit assured ceilings) n
  unfolding changed change_refusal
  change-refused n p = refused_exactly (change_checks d limit assured ceilings) n p

  pub change-answered : ((changed d limit assured ceilings).refusal ≡ 0) ↔ NoneFails (change_checks d limit assured ceilings)
  unfolding changed change_refusal
  change-answered = answered_exactly (change_checks d limit assured ceilings) refl
