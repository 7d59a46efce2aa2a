-- F-11: the calls that fall due in a minute, made one after another, are granted; what they leave is what the plan has in the next minute.
use mathlib.Core.Path.{◌≡◌, refl, sym, ap, ◌∙◌, subst}
use mathlib.Core.Logic.{◌⊎◌, inl, inr, ⊎_elim, ◌≢◌}
use mathlib.Core.Bool.{Bool, true, false, not, ◌&&◌, cond}
use mathlib.Core.List.{List, [], ◌∷◌, ◌++◌}
use Prim.Native.Nat.{ℕ, zero, suc, ◌+◌, ◌-◌, ◌*◌, ◌≤◌, ◌<◌}
use native.Mathlib.Omega.{arith}
use native.Mathlib.Nat.{add-mul, mul-le-mul_right, one-le-mul, le_refl}
use lib.Dec.{ltb, leb, eqb}
use borrow.Author.Tests.{lt-ltb, le-ltb, le-leb, lt-leb, eq-eqb, ne_eqb}
use Rattle.counting.specs.Counting.{only, sum, joined}
use Rattle.counting.proofs.Tests.{less-or-not, same_or_not, only-mul}
use Rattle.counting.proofs.Sums.{sum_same, sum-add, sum-mul, sum-le}
use Rattle.schedule.specs.Plan.{Sheet, Plan, Valid, Lasting, Needing}
use Rattle.schedule.proofs.Timed.{runs, load}
use Rattle.schedule.proofs.Earliest.{load-le}
use Rattle.desk.specs.declared.Desk.{Desk}
use Rattle.desk.specs.Calls.{Call, claim, hand_back, refusal_of, desk_after, desk_after_all, granted}
use Rattle.assurance.specs.Following.{end, minute, plan_need, Ready}
use Rattle.assurance.specs.Minutes.{hand_backs_due, claims_due, due_calls, held_before, first_refusal}
use Rattle.assurance.proofs.Shares.{own_claim, own_hand_back}

-- ---- calls one after another

pub after-append : (d : Desk) (l m : List Call) → desk_after_all d (l ++ m) ≡ desk_after_all (desk_after_all d l) m
after-append d [] m = refl
after-append d (x ∷ l) m = after-append (desk_after d x) l m

pub first-append : (d : Desk) (l m : List Call) → first_refusal d l ≡ 0 → first_refusal d (l ++ m) ≡ first_refusal (desk_after_all d l) m
first-append d [] m e = refl
first-append d (x ∷ l) m e = go (granted d x) refl (first-append (desk_after d x) l m)
  where
    go : (t : Bool) → granted d x ≡ t
        → (first_refusal (desk_after d x) l ≡ 0 → first_refusal (desk_after d x) (l ++ m) ≡ first_refusal (desk_after_all (desk_after d x) l) m)
        → cond (granted d x) (first_refusal (desk_after d x) (l ++ m)) (refusal_of d x) ≡ first_refusal (desk_after_all (desk_after d x) l) m
    go true q rest = let f : first_refusal (desk_after d x) l ≡ 0 = rw q at e in rw q (rest f)
    go false q rest =
        let f : refusal_of d x ≡ 0 = rw q at e in
        let z : ◌≡◌ {A = Bool} true false = sym (eq-eqb _ 0 f) ∙ q in
        absurd (clash z)
      where
        clash : ◌≡◌ {A = Bool} true false → ⊥
        clash z = let y : ◌≡◌ {A = ℕ} 1 0 = ap (λ (b : Bool). cond b 1 0) z in omega arith

unfoldable pub granted_all : (n c h : ℕ) (d : Desk) (l : List Call) → Type 0
granted_all n c h d l = (first_refusal d l ≡ 0) × Ready n c h (desk_after_all d l)

pub granted_then : (n c h : ℕ) (d : Desk) (l m : List Call) → first_refusal d l ≡ 0 → granted_all n c h (desk_after_all d l) m
    → granted_all n c h d (l ++ m)
unfolding granted_all
granted_then n c h d l m e g = (first-append d l m e ∙ g.0, subst (Ready n c h) (sym (after-append d l m)) g.1)

-- ---- claims, and hand-backs, of some of the jobs in job order

module _ (a c : ℕ) (p : ℕ → Bool) (k : ℕ → ℕ) where
  one_claim : (h : ℕ) (d : Desk) (j : ℕ) → 1 ≤ k j → Ready a c h d → h + only (p j) (k j) ≤ a → (t : Bool) → p j ≡ t
      → granted_all a c (h + only (p j) (k j)) d (cond (p j) (claim c (k j) ∷ []) [])
  unfolding granted_all
  one_claim h d j one r f true q =
      let g = own_claim r (k j) one (rw q at f) in
      rw q (rw (eq-eqb _ 0 g.0) refl, g.1)
  one_claim h d j one r f false q = rw q (refl, subst (λ (x : ℕ). Ready a c x d) (omega arith) r)

  pub claims-granted : (n : ℕ) → ((j : ℕ) → j < n → 1 ≤ k j) → (h : ℕ) (d : Desk) → Ready a c h d
      → h + sum n (λ j. only (p j) (k j)) ≤ a
      → granted_all a c (h + sum n (λ j. only (p j) (k j))) d (joined n (λ j. cond (p j) (claim c (k j) ∷ []) []))
  unfolding granted_all sum joined
  claims-granted zero one h d r f = (refl, subst (λ (x : ℕ). Ready a c x d) (omega arith) r)
  claims-granted (suc n) one h d r f =
      let g = claims-granted n (λ j l. one j (omega arith)) h d r (omega arith) in
      let s = one_claim (h + sum n (λ j. only (p j) (k j))) (desk_after_all d (joined n (λ j. cond (p j) (claim c (k j) ∷ []) []))) n
      (one n (omega arith)) g.1 (omega arith) (p n) refl in
      let e : h + sum n (λ j. only (p j) (k j)) + only (p n) (k n) ≡ h + (sum n (λ j. only (p j) (k j)) + only (p n) (k n)) = omega arith in
      subst (λ (x : ℕ). granted_all a c x d (joined n (λ j. cond (p j) (claim c (k j) ∷ []) []) ++ cond (p n) (claim c (k n) ∷ []) [])) e
      (granted_then a c _ d (joined n (λ j. cond (p j) (claim c (k j) ∷ []) [])) (cond (p n) (claim c (k n) ∷ []) []) g.0 s)

  one_hand_back : (h : ℕ) (d : Desk) (j : ℕ) → 1 ≤ k j → Ready a c (h + only (p j) (k j)) d → (t : Bool) → p j ≡ t
      → granted_all a c h d (cond (p j) (hand_back c (k j) ∷ []) [])
  unfolding granted_all
  one_hand_back h d j one r true q =
      let g = own_hand_back (subst (λ (t : Bool). Ready a c (h + only t (k j)) d) q r) (k j) one (omega arith) in
      rw q (rw (eq-eqb _ 0 g.0) refl, subst (λ (x : ℕ). Ready a c x (desk_after d (hand_back c (k j)))) (omega arith) g.1)
  one_hand_back h d j one r false q =
      let s = subst (λ (t : Bool). Ready a c (h + only t (k j)) d) q r in
      rw q (refl, subst (λ (x : ℕ). Ready a c x d) (omega arith) s)

  pub hand_backs-granted : (n : ℕ) → ((j : ℕ) → j < n → 1 ≤ k j) → (h : ℕ) (d : Desk)
      → Ready a c (h + sum n (λ j. only (p j) (k j))) d
      → granted_all a c h d (joined n (λ j. cond (p j) (hand_back c (k j) ∷ []) []))
  unfolding granted_all sum joined
  hand_backs-granted zero one h d r = (refl, subst (λ (x : ℕ). Ready a c x d) (omega arith) r)
  hand_backs-granted (suc n) one h d r =
      let e : h + (sum n (λ j. only (p j) (k j)) + only (p n) (k n)) ≡ h + only (p n) (k n) + sum n (λ j. only (p j) (k j)) = omega arith in
      let g = hand_backs-granted n (λ j l. one j (omega arith)) (h + only (p n) (k n)) d (subst (λ (x : ℕ). Ready a c x d) e r) in
      let s = one_hand_back h (desk_after_all d (joined n (λ j. cond (p j) (hand_back c (k j) ∷ []) []))) n
      (one n (omega arith)) g.1 (p n) refl in
      granted_then a c h d (joined n (λ j. cond (p j) (hand_back c (k j) ∷ []) [])) (cond (p n) (hand_back c (k n) ∷ []) []) g.0 s

-- ---- what is held

-- n is held from x on up to y: in a minute t of which the minutes before are done, what is held and what is claimed is what is held
-- through the minute and what is handed back
module _ (x y t n : ℕ) (l : x < y) where
  abbrev Turn : Type 0
  Turn = only (ltb x t && not (ltb y t)) n + only (eqb x t) n ≡ only (leb x t && ltb t y) n + only (eqb y t) n

  not_yet : t < x → Turn
  not_yet a = rw (le-ltb x t (omega arith), ne_eqb x t (λ q. omega arith), lt-leb x t a, ne_eqb y t (λ q. omega arith)) refl

  begins_now : x ≡ t → Turn
  begins_now e =
      rw (le-ltb x t (omega arith), eq-eqb x t e, le-leb x t (omega arith), lt-ltb t y (omega arith), ne_eqb y t (λ q. omega arith))
      (omega arith)

  begun : x < t → Turn
  begun a = go (less-or-not y t) (same_or_not y t)
    where
      go : (y < t) ⊎ (t ≤ y) → (y ≡ t) ⊎ (y ≢ t) → Turn
      go (inl b) s =
          rw (lt-ltb x t a, lt-ltb y t b, ne_eqb x t (λ q. omega arith), le-leb x t (omega arith), le-ltb t y (omega arith), ne_eqb y t (λ q. omega arith))
          refl
      go (inr b) (inl e) =
          rw (lt-ltb x t a, le-ltb y t b, ne_eqb x t (λ q. omega arith), le-leb x t (omega arith), le-ltb t y (omega arith), eq-eqb y t e)
          (omega arith)
      go (inr b) (inr d) =
          rw (lt-ltb x t a, le-ltb y t b, ne_eqb x t (λ q. omega arith), le-leb x t (omega arith), lt-ltb t y (omega arith), ne_eqb y t d)
          refl

  turn : Turn
  turn = go (less-or-not t x) (same_or_not x t)
    where
      go : (t < x) ⊎ (x ≤ t) → (x ≡ t) ⊎ (x ≢ t) → Turn
      go (inl a) s = not_yet a
      go (inr a) (inl e) = begins_now e
      go (inr a) (inr d) = begun (omega arith)

module _ (S : Sheet) (P : Plan) (w : Lasting S) (t : ℕ) where
  abbrev before : ℕ → Bool
  before j = ltb (P.start j) t && not (ltb (minute S P (end j)) t)

  one-job : (j : ℕ) → j < S.jobs → only (before j) (S.need j) + only (eqb (P.start j) t) (S.need j)
      ≡ only (runs S P t j) (S.need j) + only (eqb (minute S P (end j)) t) (S.need j)
  one-job j l = turn (P.start j) (minute S P (end j)) t (S.need j) (omega (arith, w j l))

  -- of the jobs that are handed back in this minute each was held
  back_before : (j : ℕ) → j < S.jobs → only (eqb (minute S P (end j)) t) (S.need j) ≤ only (before j) (S.need j)
  back_before j l = ⊎_elim ends goes (same_or_not (minute S P (end j)) t)
    where
      ends : minute S P (end j) ≡ t → only (eqb (minute S P (end j)) t) (S.need j) ≤ only (before j) (S.need j)
      ends q =
          let last = w j l in
          rw (eq-eqb (minute S P (end j)) t q, lt-ltb (P.start j) t (omega arith), le-ltb (minute S P (end j)) t (omega arith)) (le_refl _)

      goes : minute S P (end j) ≢ t → only (eqb (minute S P (end j)) t) (S.need j) ≤ only (before j) (S.need j)
      goes q = rw (ne_eqb (minute S P (end j)) t q) (omega arith)

  -- when the minute is done, what is held is what runs or rests in it
  pub held_next : held_before S P (t + 1) ≡ load S P t
  held_next = sum_same S.jobs _ _ (λ j l. ap (λ (b : Bool). only b (S.need j)) (test j (less-or-not t (P.start j)) (less-or-not t (minute S P (end j)))))
    where
      test : (j : ℕ) → (t < P.start j) ⊎ (P.start j ≤ t) → (t < minute S P (end j)) ⊎ (minute S P (end j) ≤ t)
          → (ltb (P.start j) (t + 1) && not (ltb (minute S P (end j)) (t + 1))) ≡ runs S P t j
      test j (inl a) b = rw (le-ltb (P.start j) (t + 1) (omega arith), lt-leb (P.start j) t a) refl
      test j (inr a) (inl b) =
          rw (
            lt-ltb (P.start j) (t + 1) (omega arith),
            le-ltb (minute S P (end j)) (t + 1) (omega arith),
            le-leb (P.start j) t a,
            lt-ltb t (minute S P (end j)) b,
          ) refl
      test j (inr a) (inr b) =
          rw (
            lt-ltb (P.start j) (t + 1) (omega arith),
            lt-ltb (minute S P (end j)) (t + 1) (omega arith),
            le-leb (P.start j) t a,
            le-ltb t (minute S P (end j)) b,
          ) refl

  abbrev backs : ℕ
  backs = sum S.jobs (λ j. only (eqb (minute S P (end j)) t) (S.need j))

  abbrev begins : ℕ
  begins = sum S.jobs (λ j. only (eqb (P.start j) t) (S.need j))

  minute_sums : held_before S P t + begins ≡ load S P t + backs
  minute_sums =
      sym (sum-add S.jobs (λ j. only (before j) (S.need j)) (λ j. only (eqb (P.start j) t) (S.need j)))
      ∙ sum_same S.jobs _ _ one-job
      ∙ sum-add S.jobs (λ j. only (runs S P t j) (S.need j)) (λ j. only (eqb (minute S P (end j)) t) (S.need j))

  backs_held : backs ≤ held_before S P t
  backs_held = sum-le S.jobs _ _ back_before

-- F-11, one minute: on a desk that calls can leave, where the controller is assured N times s and holds what the plan has in the
-- minutes before, the hand-backs and then the claims that fall due are granted, and it then holds what the plan has in this minute.
module _ (S : Sheet) (P : Plan) (v : Valid S P) (w : Lasting S) (some : Needing S) (s : ℕ) (one : 1 ≤ s) (c t : ℕ) (d : Desk) where
  scaled-sum : (p : ℕ → Bool) → sum S.jobs (λ j. only (p j) (S.need j * s)) ≡ sum S.jobs (λ j. only (p j) (S.need j)) * s
  scaled-sum p =
      sum_same S.jobs _ _ (λ j l. sym (only-mul (p j) (S.need j) s)) ∙ sum-mul S.jobs (λ j. only (p j) (S.need j)) s

  pub minute-granted : Ready (plan_need S s) c (held_before S P t * s) d
      → granted_all (plan_need S s) c (held_before S P (t + 1) * s) d (due_calls S P s c t)
  unfolding granted_all due_calls
  minute-granted r =
      let mid = held_before S P t - backs S P w t in
      let held = backs_held S P w t in
      let sums = minute_sums S P w t in
      let most = load-le S P v t in
      let next = held_next S P w t in
      let each : (j : ℕ) → j < S.jobs → 1 ≤ S.need j * s = λ j l. one-le-mul (some j l) one in
      let p : ℕ → Bool = λ j. eqb (minute S P (end j)) t in
      let q : ℕ → Bool = λ j. eqb (P.start j) t in
      let e : held_before S P t * s ≡ mid * s + sum S.jobs (λ j. only (p j) (S.need j * s)) =
      ap (λ (x : ℕ). x * s) (let y : held_before S P t ≡ mid + backs S P w t = omega arith in y)
      ∙ add-mul mid (backs S P w t) s ∙ ap (λ (x : ℕ). mid * s + x) (sym (scaled-sum p)) in
      let f : mid * s + sum S.jobs (λ j. only (q j) (S.need j * s)) ≡ held_before S P (t + 1) * s =
      ap (λ (x : ℕ). mid * s + x) (scaled-sum q) ∙ sym (add-mul mid (begins S P w t) s)
      ∙ ap (λ (x : ℕ). x * s) (let y : mid + begins S P w t ≡ held_before S P (t + 1) = omega arith in y) in
      let fits : held_before S P (t + 1) * s ≤ plan_need S s = mul-le-mul_right s (let y : held_before S P (t + 1) ≤ S.modules = omega arith in y) in
      let g = hand_backs-granted (plan_need S s) c p (λ j. S.need j * s) S.jobs each (mid * s) d
      (subst (λ (x : ℕ). Ready (plan_need S s) c x d) e r) in
      let h = claims-granted (plan_need S s) c q (λ j. S.need j * s) S.jobs each (mid * s) (desk_after_all d (hand_backs_due S P s c t)) g.1
      (omega arith) in
      granted_then (plan_need S s) c (held_before S P (t + 1) * s) d (hand_backs_due S P s c t) (claims_due S P s c t) g.0
      (subst (λ (x : ℕ). granted_all (plan_need S s) c x (desk_after_all d (hand_backs_due S P s c t)) (claims_due S P s c t)) f h)
