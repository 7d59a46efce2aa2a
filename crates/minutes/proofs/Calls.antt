-- Calls made together, one more at a time.
use mathlib.Core.Path.{◌≡◌, refl, sym, ap, ◌∙◌}
use mathlib.Core.Logic.{◌≢◌}
use mathlib.Core.Bool.{Bool, true, false, cond}
use mathlib.Core.List.{List, [], ◌∷◌, ◌++◌}
use Prim.Native.Nat.{ℕ, ◌+◌, ◌*◌, ◌<◌}
use lib.Dec.{eqb}
use borrow.Author.Tests.{eq-eqb, ne_eqb, eqb-true}
use Rattle.counting.specs.Counting.{joined}
use Rattle.counting.proofs.Tests.{clash}
use Rattle.counting.proofs.Joins.{joined_split, joined_more}
use Rattle.desk.specs.declared.Desk.{Desk}
use Rattle.desk.specs.declared.Booked.{Booked}
use Rattle.desk.specs.Calls.{Call, claim, hand_back, refusal_of, desk_after, desk_after_all, granted}
use Rattle.desk.proofs.Lists.{refused_leaves}
use Rattle.assurance.specs.Following.{call_of}
use Rattle.assurance.specs.Minutes.{first_refusal}
use Rattle.assurance.proofs.Minutes.{first-append, after-append}
use Rattle.schedule.specs.Plan.{Sheet}
use Rattle.minutes.specs.Together.{answer_to, together, event}

-- no call
pub none_due : (d : Desk) → record { refusal = 0; desk = d } ≡ together d []
unfolding together
none_due d = refl

-- one call
pub one_due : (d : Desk) (x : Call) → answer_to d x ≡ together d (x ∷ [])
unfolding together
one_due d x = go (granted d x) refl
  where
    go : (b : Bool) → granted d x ≡ b
        → answer_to d x
        ≡ record {
          refusal = cond (granted d x) 0 (refusal_of d x);
          desk = cond (eqb (cond (granted d x) 0 (refusal_of d x)) 0) (desk_after d x) d;
        }
    go true e = rw (e, eqb-true (refusal_of d x) 0 e) refl
    go false e =
        let left = refused_leaves d x (λ z. clash (granted d x) (eq-eqb _ 0 z) e) in
        rw (e, left, e) refl

-- the call of an event
pub event_due : (d : Desk) (S : Sheet) (s c j k : ℕ) (claiming : Bool) → k ≡ S.need j * s
    → answer_to d (cond claiming (claim c k) (hand_back c k)) ≡ together d (call_of S s c (event claiming j) ∷ [])
event_due d S s c j k true e = rw e (one_due d (claim c (S.need j * s)))
event_due d S s c j k false e = rw e (one_due d (hand_back c (S.need j * s)))

-- the first refusal of calls is that of all, whatever stands behind them
pub first_stop : (d : Desk) (l m : List Call) → first_refusal d l ≢ 0 → first_refusal d (l ++ m) ≡ first_refusal d l
first_stop d [] m n = absurd (n refl)
first_stop d (x ∷ l) m n = go (granted d x) refl (first_stop (desk_after d x) l m)
  where
    go : (b : Bool) → granted d x ≡ b → (first_refusal (desk_after d x) l ≢ 0 → first_refusal (desk_after d x) (l ++ m) ≡ first_refusal (desk_after d x) l)
        → cond (granted d x) (first_refusal (desk_after d x) (l ++ m)) (refusal_of d x) ≡ cond (granted d x) (first_refusal (desk_after d x) l) (refusal_of d x)
    go true e rest = rw e (rest (λ z. n (rw e z)))
    go false e rest = rw e refl

-- ---- two lists of calls, one behind the other

module _ (d : Desk) (l m : List Call) where
  front-refused : (k : ℕ) → k ≡ first_refusal d l → k ≢ 0 → record { refusal = k; desk = d } ≡ together d (l ++ m)
  unfolding together
  front-refused k e refused =
      let all : first_refusal d (l ++ m) ≡ k = first_stop d l m (λ z. refused (e ∙ z)) ∙ sym e in
      rw (all, ne_eqb k 0 refused) refl

  module _ (made : first_refusal d l ≡ 0) (e : Desk) (left : e ≡ desk_after_all d l) where
    -- behind the first list the second is asked of the desk that is left
    behind : first_refusal d (l ++ m) ≡ first_refusal e m
    behind = first-append d l m made ∙ ap (λ (x : Desk). first_refusal x m) (sym left)

    pub behind-refused : (k : ℕ) → k ≡ first_refusal e m → k ≢ 0 → record { refusal = k; desk = d } ≡ together d (l ++ m)
    unfolding together
    behind-refused k f refused = rw (behind ∙ sym f, ne_eqb k 0 refused) refl

    both_made : (together e m).refusal ≡ 0 → together e m ≡ together d (l ++ m)
    unfolding together
    both_made z =
        rw (behind, z, after-append d l m) (ap (λ (x : Desk). record { refusal = 0; desk = desk_after_all x m }) left)

-- the first list made together, and the second on the desk that it leaves
module _ (d : Desk) (l m : List Call) (a : Booked) (first : a ≡ together d l) where
  pub first-refused : a.refusal ≢ 0 → record { refusal = a.refusal; desk = d } ≡ together d (l ++ m)
  unfolding together
  first-refused n = front-refused d l m a.refusal (ap (λ (x : Booked). x.refusal) first) n

  module _ (z : a.refusal ≡ 0) where
    made : first_refusal d l ≡ 0
    unfolding together
    made = ap (λ (x : Booked). x.refusal) (sym first) ∙ z

    left : a.desk ≡ desk_after_all d l
    unfolding together
    left = ap (λ (x : Booked). x.desk) first ∙ rw made refl

    module _ (b : Booked) (second : b ≡ together a.desk m) where
      pub second-refused : b.refusal ≢ 0 → record { refusal = b.refusal; desk = d } ≡ together d (l ++ m)
      unfolding together
      second-refused n = behind-refused d l m made a.desk left b.refusal (ap (λ (x : Booked). x.refusal) second) n

      pub both-granted : b.refusal ≡ 0 → b ≡ together d (l ++ m)
      unfolding together
      both-granted y = second ∙ both_made d l m made a.desk left (ap (λ (x : Booked). x.refusal) (sym second) ∙ y)

-- ---- joined lists of calls

module _ (d : Desk) (f : ℕ → List Call) (i : ℕ) (made : first_refusal d (joined i f) ≡ 0) (e : Desk) (left : e ≡ desk_after_all d (joined i f)) where
  -- a call of list i is refused
  pub stopped : (n : ℕ) → i < n → (k : ℕ) → k ≡ first_refusal e (f i) → k ≢ 0 → record { refusal = k; desk = d } ≡ together d (joined n f)
  stopped n l k g refused =
      let split = joined_split n f i l in
      behind-refused d (joined i f) (f i ++ split.0) made e left k (g ∙ sym (first_stop e (f i) split.0 (λ z. refused (g ∙ z)))) refused
      ∙ ap (together d) (sym split.1)

  -- those of list i are granted too
  pub more_made : (together e (f i)).refusal ≡ 0
      → (first_refusal d (joined (i + 1) f) ≡ 0) × ((together e (f i)).desk ≡ desk_after_all d (joined (i + 1) f))
  unfolding together
  more_made z =
      let more = joined_more i f in (
        ap (first_refusal d) (sym more) ∙ behind d (joined i f) (f i) made e left ∙ z,
        rw (eq-eqb _ 0 z)
            (ap (λ (x : Desk). desk_after_all x (f i)) left ∙ sym (after-append d (joined i f) (f i)) ∙ ap (desk_after_all d) more),
      )

-- all are granted
pub all_made : (d e : Desk) (l : List Call) → first_refusal d l ≡ 0 → e ≡ desk_after_all d l → record { refusal = 0; desk = e } ≡ together d l
unfolding together
all_made d e l z left = rw (z, left) refl
