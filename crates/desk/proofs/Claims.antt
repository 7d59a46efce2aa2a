-- What a single call guarantees: when it gives 14, when it is granted, and what a look says of claims.
use mathlib.Core.Path.{◌≡◌, refl}
use mathlib.Core.Logic.{◌⊎◌, inl, inr, ◌↔◌}
use mathlib.Core.Bool.{Bool, true, false, not, ◌||◌}
use mathlib.Core.List.{List, []}
use Prim.Native.Nat.{ℕ, ◌+◌, ◌≤◌, ◌<◌}
use native.Mathlib.Omega.{arith}
use lib.Dec.{ltb}
use borrow.Author.Tests.{le-ltb, not-true}
use Rattle.counting.proofs.Tests.{clash, less-or-not}
use Rattle.checking.specs.Checking.{first_failing}
use Rattle.checking.proofs.Order.{first_exactly}
use Rattle.desk.specs.declared.Desk.{Desk}
use Rattle.desk.specs.Desk.{holding, ceiling_of, reserved_for_others, no_desk}
use Rattle.desk.specs.Checks.{desk_ok, not_of_desk, booking_checks, return_checks, figure_checks}
use Rattle.desk.specs.Reachable.{Reachable, Barred}
use Rattle.desk.specs.Calls.{claim_refusal, claimed, hand_back_refusal, handed_back, look_refusal, looked, room, change_refusal, changed}
use Rattle.desk.proofs.Sound.{here, of-desk}
use Rattle.desk.proofs.Grants.{claim_says, claim-granted, hand_back_says, hand_back-granted}
use Rattle.desk.proofs.Reaches.{reached_sound, reachable_when}

-- ---- 14

module _ (d : Desk) (c : ℕ) where
  barred_fails : Barred d c → not_of_desk d c ≡ true
  unfolding not_of_desk
  barred_fails (inl l) = rw (le-ltb c d.count l) refl
  barred_fails (inr n) = go (desk_ok d) refl (ltb c d.count)
    where
      go : (b : Bool) → desk_ok d ≡ b → (t : Bool) → (not t || not (desk_ok d)) ≡ true
      go true q t = absurd (n ((reachable_when d).0 q))
      go false q true = rw q refl
      go false q false = refl

  fails_barred : not_of_desk d c ≡ true → Barred d c
  unfolding not_of_desk
  fails_barred e = go (less-or-not c d.count)
    where
      go : (c < d.count) ⊎ (d.count ≤ c) → Barred d c
      go (inr l) = inl l
      go (inl l) = inr (λ r. clash (not_of_desk d c) e (of-desk d c (reached_sound r) l))

  pub not_of-desk_when : (not_of_desk d c ≡ true) ↔ Barred d c
  not_of-desk_when = (fails_barred, barred_fails)

  -- A claim, a hand-back and a look give 14 exactly then.
  pub claim_14 : (k : ℕ) → ((claimed d c k).refusal ≡ 14) ↔ Barred d c
  unfolding claimed claim_refusal
  claim_14 k =
      let e = first_exactly 14 (omega arith) (not_of_desk d c) (booking_checks d c k) refl in
      ((λ q. fails_barred (e.0 q)), λ b. e.1 (barred_fails b))

  pub hand_back_14 : (k : ℕ) → ((handed_back d c k).refusal ≡ 14) ↔ Barred d c
  unfolding handed_back hand_back_refusal
  hand_back_14 k =
      let e = first_exactly 14 (omega arith) (not_of_desk d c) (return_checks d c k) refl in
      ((λ q. fails_barred (e.0 q)), λ b. e.1 (barred_fails b))

  pub look_14 : ((looked d c).refusal ≡ 14) ↔ Barred d c
  unfolding looked look_refusal
  look_14 =
      let e = first_exactly 14 (omega arith) (not_of_desk d c) [] refl in
      ((λ q. fails_barred (e.0 q)), λ b. e.1 (barred_fails b))

-- A change gives 14 exactly when no answered opening and later calls leave the desk.
pub change_14 : (d : Desk) (limit : ℕ) (assured ceilings : List ℕ)
    → ((changed d limit assured ceilings).refusal ≡ 14) ↔ (Reachable d → ⊥)
unfolding changed change_refusal
change_14 d limit assured ceilings =
    let e = first_exactly 14 (omega arith) (not (desk_ok d)) (figure_checks d limit assured ceilings) refl in (
      (λ q r. clash (desk_ok d) ((reachable_when d).1 r) (not-true (desk_ok d) (e.0 q))),
      λ n. e.1 (go n (desk_ok d) refl),
    )
  where
    go : (Reachable d → ⊥) → (b : Bool) → desk_ok d ≡ b → not (desk_ok d) ≡ true
    go n true q = absurd (n ((reachable_when d).0 q))
    go n false q = rw q refl

-- The desk of zeros that a refused opening answers cannot be, so every call on it gives 14.
pub no-desk_unreachable : Reachable no_desk → ⊥
no-desk_unreachable r = let s = (reached_sound r).controllers in omega (arith, s.least)

-- ---- by a controller of a desk that can be

module _ (d : Desk) (r : Reachable d) (c : ℕ) (l : c < d.count) (k : ℕ) where
  -- A claim of 1 or more is granted exactly when the two sums allow it.
  pub claim-granted_when : 1 ≤ k
      → ((claimed d c k).refusal ≡ 0)
      ↔ ((holding d c + k ≤ ceiling_of d c) × (holding d c + k + reserved_for_others d c ≤ d.limit))
  unfolding claimed
  claim-granted_when one = (
    (λ e. let f = (claim_says d c k e).1 in (f.under, f.beside)),
    λ p. claim-granted d c k (reached_sound r) l (record { one = one; under = p.0; beside = p.1 }),
  )

  -- A hand-back of 1 or more is granted exactly when the controller holds as much.
  pub hand_back-granted_when : 1 ≤ k → ((handed_back d c k).refusal ≡ 0) ↔ (k ≤ holding d c)
  unfolding handed_back
  hand_back-granted_when one = (
    (λ e. (hand_back_says d c k e).1.within),
    λ p. hand_back-granted d c k (reached_sound r) l (record { one = one; within = p }),
  )

  look_shows : (looked d c).power ≡ room d c
  unfolding looked look_refusal first_failing
  look_shows = rw (of-desk d c (reached_sound r) l) refl

  -- A claim is granted exactly when it is for 1 up to what a look shows: the look shows the largest, 0 if there is none.
  pub look_exact : ((claimed d c k).refusal ≡ 0) ↔ ((1 ≤ k) × (k ≤ (looked d c).power))
  unfolding claimed
  look_exact = (
    (λ e.
        let f = (claim_says d c k e).1 in
        let a = f.under in
        let b = f.beside in
        (f.one, omega (arith, look_shows))),
    (λ p.
        let a = p.0 in
        let b = p.1 in
        let h = here d c (reached_sound r) l in
        let s = look_shows in
        claim-granted d c k (reached_sound r) l (record { one = a; under = omega arith; beside = omega arith })),
  )
