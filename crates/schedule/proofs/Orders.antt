-- The computed list of orders has every order once, in dictionary order, and its first earliest one is the tie rule's.
use mathlib.Core.Path.{◌≡◌, refl, sym, ap, ◌∙◌, subst}
use mathlib.Core.Logic.{◌⊎◌, inl, inr, ⊎_elim}
use mathlib.Core.Bool.{Bool, true, false, cond}
use mathlib.Core.List.{List, [], ◌∷◌, ◌++◌}
use mathlib.Core.Option.{none, some}
use Prim.Native.Nat.{ℕ, zero, suc, ◌≤◌, ◌<◌}
use native.Mathlib.Omega.{arith}
use native.Mathlib.Nat.{le_refl, not-suc-le-zero}
use lib.Dec.{leb}
use lib.ListN.{length}
use borrow.Author.Tests.{leb-true, leb-false}
use Rattle.counting.specs.Counting.{joined}
use Rattle.counting.proofs.Tests.{last-or_below}
use Rattle.schedule.specs.Plan.{Sheet}
use Rattle.schedule.specs.ListPlan.{Order, no_jobs, placing, ready, Follows}
use Rattle.schedule.specs.TieRule.{end_of, DictionaryLe, Best, headed, orders_after, earliest_of, best_order}
use Rattle.schedule.proofs.Starts.{ready_says}
use Rattle.schedule.proofs.Dictionary.{dictionary_refl, best_unique}

-- ---- lists of orders

-- the order stands in the list
abbrev In : List ℕ → List (List ℕ) → Type 0
In o [] = ⊥
In o (p ∷ l) = (o ≡ p) ⊎ In o l

-- each order of l comes no later than each of m
abbrev Before : List (List ℕ) → List (List ℕ) → Type 0
Before l m = (o p : List ℕ) → In o l → In p m → DictionaryLe o p

abbrev Sorted : List (List ℕ) → Type 0
Sorted [] = Unit {0}
Sorted (o ∷ l) = ((p : List ℕ) → In p l → DictionaryLe o p) × Sorted l

in_left : (o : List ℕ) (l m : List (List ℕ)) → In o l → In o (l ++ m)
in_left o [] m i = absurd i
in_left o (p ∷ l) m (inl e) = inl e
in_left o (p ∷ l) m (inr i) = inr (in_left o l m i)

in_right : (o : List ℕ) (l m : List (List ℕ)) → In o m → In o (l ++ m)
in_right o [] m i = i
in_right o (p ∷ l) m i = inr (in_right o l m i)

in_either : (o : List ℕ) (l m : List (List ℕ)) → In o (l ++ m) → In o l ⊎ In o m
in_either o [] m i = inr i
in_either o (p ∷ l) m (inl e) = inl (inl e)
in_either o (p ∷ l) m (inr i) = ⊎_elim (λ x. inl (inr x)) (λ x. inr x) (in_either o l m i)

sorted-append : (l m : List (List ℕ)) → Sorted l → Sorted m → Before l m → Sorted (l ++ m)
sorted-append [] m a b h = b
sorted-append (o ∷ l) m a b h = (
  (λ p i. ⊎_elim (λ x. a.0 p x) (λ x. h o p (inl refl) x) (in_either p l m i)),
  sorted-append l m a.1 b (λ q p x y. h q p (inr x) y),
)

-- ---- with a job in front

in-headed : (j : ℕ) (o : List ℕ) (l : List (List ℕ)) → In o l → In (j ∷ o) (headed j l)
in-headed j o [] i = absurd i
in-headed j o (p ∷ l) (inl e) = inl (ap (λ (x : List ℕ). j ∷ x) e)
in-headed j o (p ∷ l) (inr i) = inr (in-headed j o l i)

headed_in : (j : ℕ) (o : List ℕ) (l : List (List ℕ)) → In o (headed j l) → (p : List ℕ) × (o ≡ (j ∷ p)) × In p l
headed_in j o [] i = absurd i
headed_in j o (p ∷ l) (inl e) = (p, e, inl refl)
headed_in j o (p ∷ l) (inr i) = let r = headed_in j o l i in (r.0, r.1, inr r.2)

sorted-headed : (j : ℕ) (l : List (List ℕ)) → Sorted l → Sorted (headed j l)
sorted-headed j [] h = tt
sorted-headed j (o ∷ l) h = (
  (λ p i. let r = headed_in j p l i in rw r.1 (inr (refl, h.0 r.0 r.2))),
  sorted-headed j l h.1,
)

-- ---- one list behind another

in_joined : (n : ℕ) (f : ℕ → List (List ℕ)) (j : ℕ) → j < n → (o : List ℕ) → In o (f j) → In o (joined n f)
unfolding joined
in_joined zero f j l o i = absurd (not-suc-le-zero l)
in_joined (suc n) f j l o i = go (last-or_below n j l) (λ k. in_joined n f j k o i)
  where
    go : (j ≡ n) ⊎ (j < n) → (j < n → In o (joined n f)) → In o (joined n f ++ f n)
    go (inl e) h = in_right o (joined n f) (f n) (subst (λ (k : ℕ). In o (f k)) e i)
    go (inr k) h = in_left o (joined n f) (f n) (h k)

joined_in : (n : ℕ) (f : ℕ → List (List ℕ)) (o : List ℕ) → In o (joined n f) → (j : ℕ) × (j < n) × In o (f j)
unfolding joined
joined_in zero f o i = absurd i
joined_in (suc n) f o i = ⊎_elim (λ x. let r = joined_in n f o x in (r.0, omega arith, r.2)) (λ x. (n, le_refl _, x))
    (in_either o (joined n f) (f n) i)

sorted_joined : (n : ℕ) (f : ℕ → List (List ℕ)) → ((j : ℕ) → Sorted (f j)) → ((i j : ℕ) → i < j → Before (f i) (f j)) → Sorted (joined n f)
unfolding joined
sorted_joined zero f s b = tt
sorted_joined (suc n) f s b = sorted-append (joined n f) (f n) (sorted_joined n f s b) (s n)
    (λ o p x y. let r = joined_in n f o x in b r.0 n r.1 o p r.2 y)

-- ---- the orders of a sheet

module _ (S : Sheet) where
  -- the orders that go on with job j
  abbrev next : (ℕ → Bool) → ℕ → ℕ → List (List ℕ)
  next d k j = elim (ready S d j) [ true ↦ headed j (orders_after S (placing d j) k) | false ↦ [] ]

  next-ready : (d : ℕ → Bool) (k j : ℕ) → ready S d j ≡ true → next d k j ≡ headed j (orders_after S (placing d j) k)
  next-ready d k j e = rw (e, next)

  next_in : (d : ℕ → Bool) (k j : ℕ) (o : List ℕ) → In o (next d k j)
      → (p : List ℕ) × (ready S d j ≡ true) × (o ≡ (j ∷ p)) × In p (orders_after S (placing d j) k)
  next_in d k j o i = go (ready S d j) refl i
    where
      go : (b : Bool) → ready S d j ≡ b → In o (elim b [ true ↦ headed j (orders_after S (placing d j) k) | false ↦ [] ])
          → (p : List ℕ) × (ready S d j ≡ true) × (o ≡ (j ∷ p)) × In p (orders_after S (placing d j) k)
      go true e x = let r = headed_in j o (orders_after S (placing d j) k) x in (r.0, e, r.1, r.2)
      go false e x = absurd x

  -- each of them follows, and has as many jobs as were asked for
  orders_follow : (k : ℕ) (d : ℕ → Bool) (o : List ℕ) → In o (orders_after S d k) → Follows S d o × (length o ≡ k)
  unfolding orders_after
  orders_follow zero d o (inl e) = rw e (tt, refl)
  orders_follow zero d o (inr i) = absurd i
  orders_follow (suc k) d o i =
      let a = joined_in S.jobs (next d k) o i in
      let b = next_in d k a.0 o a.2 in
      let c = orders_follow k (placing d a.0) b.0 b.3 in
      rw b.2 ((b.1, c.0), ap suc c.1)

  -- none is left out
  follow_orders : (o : List ℕ) (d : ℕ → Bool) → Follows S d o → In o (orders_after S d (length o))
  unfolding orders_after
  follow_orders [] d f = inl refl
  follow_orders (j ∷ o) d f =
      in_joined S.jobs (next d (length o)) j (ready_says S d j f.0).job (j ∷ o)
      (subst (λ (l : List (List ℕ)). In (j ∷ o) l) (sym (next-ready d (length o) j f.0))
      (in-headed j o (orders_after S (placing d j) (length o)) (follow_orders o (placing d j) f.1)))

  orders_sorted : (k : ℕ) (d : ℕ → Bool) → Sorted (orders_after S d k)
  unfolding orders_after
  orders_sorted zero d = ((λ p i. absurd i), tt)
  orders_sorted (suc k) d = sorted_joined S.jobs (next d k) (λ j. one j (ready S d j) (orders_sorted k (placing d j))) two
    where
      one : (j : ℕ) (b : Bool) → Sorted (orders_after S (placing d j) k)
          → Sorted (elim b [ true ↦ headed j (orders_after S (placing d j) k) | false ↦ [] ])
      one j true h = sorted-headed j (orders_after S (placing d j) k) h
      one j false h = tt

      two : (i j : ℕ) → i < j → Before (next d k i) (next d k j)
      two i j l o p x y = let a = next_in d k i o x in let b = next_in d k j p y in rw (a.2, b.2) (inl l)

  -- ---- the first of those that end first

  -- o stands in l, no order of l ends earlier, and o comes no later than those that end with it
  record First (l : List (List ℕ)) (o : List ℕ) : Type 0 where
    one : In o l
    early : (p : List ℕ) → In p l → end_of S o ≤ end_of S p
    first : (p : List ℕ) → In p l → end_of S p ≡ end_of S o → DictionaryLe o p

  -- the list is empty, or its first earliest order is found
  abbrev Found : List (List ℕ) → Type 0
  Found l = ((earliest_of S l ≡ none) × (l ≡ [])) ⊎ ((o : List ℕ) × (earliest_of S l ≡ some o) × First l o)

  first_one : (o : List ℕ) → First (o ∷ []) o
  first_one o = record {
    one = inl refl;
    early = λ p i. ⊎_elim (λ e. rw e (le_refl _)) (λ x. absurd x) i;
    first = λ p i d. ⊎_elim (λ e. rw e (dictionary_refl o)) (λ x. absurd x) i;
  }

  -- o ends no later than the earliest of l
  first_new : (o : List ℕ) (l : List (List ℕ)) → Sorted (o ∷ l) → (p : List ℕ) → First l p → end_of S o ≤ end_of S p → First (o ∷ l) o
  first_new o l s p h e = record {
    one = inl refl;
    early = λ q i. ⊎_elim (λ x. rw x (le_refl _)) (λ x. omega (arith, h.early q x)) i;
    first = λ q i d. ⊎_elim (λ x. rw x (dictionary_refl o)) (λ x. s.0 q x) i;
  }

  -- o ends later
  first_old : (o : List ℕ) (l : List (List ℕ)) (p : List ℕ) → First l p → end_of S p < end_of S o → First (o ∷ l) p
  first_old o l p h e = record {
    one = inr h.one;
    early = λ q i. ⊎_elim (λ x. rw x (omega arith)) (λ x. h.early q x) i;
    first = λ q i d. ⊎_elim (λ x. let y : end_of S q ≡ end_of S o = ap (end_of S) x in absurd (omega arith)) (λ x. h.first q x d) i;
  }

  earliest_found : (l : List (List ℕ)) → Sorted l → Found l
  unfolding earliest_of
  earliest_found [] s = inl (refl, refl)
  earliest_found (o ∷ l) s = go (earliest_found l s.1)
    where
      pick : (p : List ℕ) → First l p → (b : Bool) → leb (end_of S o) (end_of S p) ≡ b
          → (q : List ℕ) × (cond (leb (end_of S o) (end_of S p)) (some o) (some p) ≡ some q) × First (o ∷ l) q
      pick p h true e = (o, rw e, first_new o l s p h (leb-true _ _ e))
      pick p h false e = (p, rw e, first_old o l p h (leb-false _ _ e))

      go : Found l → Found (o ∷ l)
      go (inl (e, z)) = inr (o, rw e, rw z (first_one o))
      go (inr (p, e, h)) = let r = pick p h (leb (end_of S o) (end_of S p)) refl in inr (r.0, rw e r.1, r.2)

  -- Where there is an order, the computed one is the tie rule's.
  pub best_found : (p : List ℕ) → Order S p → (o : List ℕ) × (best_order S ≡ some o) × Best S o
  best_found p h = go (earliest_found all (orders_sorted S.jobs no_jobs))
    where
      all : List (List ℕ)
      all = orders_after S no_jobs S.jobs

      there : (q : List ℕ) → Order S q → In q all
      there q g = subst (λ (k : ℕ). In q (orders_after S no_jobs k)) g.all (follow_orders q no_jobs g.follows)

      go : Found all → (o : List ℕ) × (best_order S ≡ some o) × Best S o
      go (inl (e, z)) = absurd (subst (λ (l : List (List ℕ)). In p l) z (there p h))
      go (inr (o, e, f)) =
          let a = orders_follow S.jobs no_jobs o f.one in (
            o,
            e,
            record {
              order = record { all = a.1; follows = a.0 };
              early = λ q g. f.early q (there q g);
              first = λ q g. f.first q (there q g);
            },
          )

  -- what is computed is an order
  pub best_order_lem : (o : List ℕ) → best_order S ≡ some o → Best S o
  best_order_lem o e = go (earliest_found (orders_after S no_jobs S.jobs) (orders_sorted S.jobs no_jobs))
    where
      go : Found (orders_after S no_jobs S.jobs) → Best S o
      go (inl (z, q)) = absurd (let x : ◌≡◌ {A = ℕ} 0 1 = cc in omega arith)
      go (inr (p, z, f)) =
          let a = orders_follow S.jobs no_jobs p f.one in
          let b = best_found p (record { all = a.1; follows = a.0 }) in
          let b1 = b.1 in
          let x : b.0 ≡ o = cc in
          subst (λ (q : List ℕ). Best S q) x b.2

  -- Whatever finds a best order finds the computed one.
  pub best_is : (o : List ℕ) → Best S o → best_order S ≡ some o
  best_is o b = let f = best_found o b.order in f.1 ∙ ap some (best_unique S f.0 o f.2 b)
