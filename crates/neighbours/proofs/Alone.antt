-- F-13: a controller that keeps to its assured share is answered as if it were alone; mergings of such calls end in the same desk.
use mathlib.Core.Path.{◌≡◌, refl, sym, ap, ◌∙◌, subst}
use mathlib.Core.Logic.{⊎_elim, ◌≢◌}
use mathlib.Core.Bool.{Bool, true, false}
use mathlib.Core.List.{List, [], ◌∷◌}
use Prim.Native.Nat.{ℕ, ◌+◌, ◌≤◌, ◌<◌}
use native.Mathlib.Omega.{arith}
use native.Mathlib.Nat.{le_refl}
use lib.Dec.{eqb}
use lib.ListN.{get_or}
use lib.Seq.{ext_get_or}
use borrow.Author.Tests.{eqb-true, ne_eqb, lt-ltb, le-ltb}
use Rattle.counting.proofs.Tests.{clash, less-or-not, same_or_not}
use Rattle.checking.specs.Checking.{first_failing}
use Rattle.desk.specs.declared.Desk.{Desk}
use Rattle.desk.specs.Desk.{holding, assured_share}
use Rattle.desk.specs.Reachable.{Reachable}
use Rattle.desk.specs.Calls.{Call, claim, hand_back, look, change, is_change, refusal_of, desk_after, desk_after_all}
use Rattle.desk.specs.Calls.{claim_refusal, claimed, hand_back_refusal, handed_back}
use Rattle.desk.proofs.Sound.{of-desk, none-reserved}
use Rattle.desk.proofs.Reaches.{reached_sound}
use Rattle.desk.proofs.Lists.{refused_leaves, reachable-after, reachable-after_all}
use Rattle.desk.specs.Calls.{OnlyHoldings}
use Rattle.desk.proofs.Holdings.{one_only, one-count, same_count}
use Rattle.assurance.specs.Following.{bears, own_calls}
use Rattle.assurance.specs.Following.{Ready}
use Rattle.assurance.proofs.Shares.{other_call, own_claim, own_hand_back}
use Rattle.neighbours.specs.Alone.{alone_number, alone_holding, alone_numbers, alone_after, own_numbers}
use Rattle.neighbours.specs.Alone.{KeepsWithin, WithinShare, Unchanged, MergingOf}

-- ---- one call

module _ {d : Desk} (r : Reachable d) (c : ℕ) (n : c < d.count) where
  ready : Ready (assured_share d c) c (holding d c) d
  ready = record { reachable = r; share = le_refl _; holds = refl }

  pub record Answered (x : Call) : Type 0 where
    pub number : refusal_of d x ≡ alone_number (holding d c) x
    pub holds : holding (desk_after d x) c ≡ alone_holding (holding d c) x

  claim-none : refusal_of d (claim c 0) ≡ 15
  unfolding claimed claim_refusal first_failing
  claim-none = rw (of-desk d c (reached_sound r) n) refl

  hand_back-none : refusal_of d (hand_back c 0) ≡ 15
  unfolding handed_back hand_back_refusal first_failing
  hand_back-none = rw (of-desk d c (reached_sound r) n) refl

  hand_back_more : (k : ℕ) → 1 ≤ k → holding d c < k → refusal_of d (hand_back c k) ≡ 18
  unfolding handed_back hand_back_refusal first_failing
  hand_back_more k one l =
      rw (of-desk d c (reached_sound r) n, ne_eqb k 0 (λ q. omega arith), lt-ltb (holding d c) k l) refl

  -- a refused call leaves the holding
  kept : (x : Call) (m : ℕ) → refusal_of d x ≡ m → 1 ≤ m → holding (desk_after d x) c ≡ holding d c
  kept x m e l = ap (λ (y : Desk). holding y c) (refused_leaves d x (λ q. omega arith))

  own_claim_alone : (k : ℕ) → holding d c + k ≤ assured_share d c → Answered (claim c k)
  own_claim_alone k f = ⊎_elim none some (same_or_not k 0)
    where
      none : k ≡ 0 → Answered (claim c k)
      none q = subst (λ (j : ℕ). Answered (claim c j)) (sym q)
          (record { number = claim-none; holds = kept (claim c 0) 15 claim-none (omega arith) ∙ omega arith })

      some : k ≢ 0 → Answered (claim c k)
      some q =
          let g = own_claim ready k (omega arith) f in
          record { number = rw (ne_eqb k 0 q) g.0; holds = g.1.holds }

  own_hand_back_alone : (k : ℕ) → Answered (hand_back c k)
  own_hand_back_alone k = ⊎_elim none some (same_or_not k 0)
    where
      none : k ≡ 0 → Answered (hand_back c k)
      none q = subst (λ (j : ℕ). Answered (hand_back c j)) (sym q)
          (record {
            number = hand_back-none;
            holds = kept (hand_back c 0) 15 hand_back-none (omega arith) ∙ rw (le-ltb (holding d c) 0 (omega arith)) (omega arith);
          })

      some : k ≢ 0 → Answered (hand_back c k)
      some q = ⊎_elim over within (less-or-not (holding d c) k)
        where
          over : holding d c < k → Answered (hand_back c k)
          over l =
              let e = hand_back_more k (omega arith) l in
              record {
                number = rw (ne_eqb k 0 q, lt-ltb (holding d c) k l) e;
                holds = rw (lt-ltb (holding d c) k l) (kept (hand_back c k) 18 e (omega arith));
              }

          within : k ≤ holding d c → Answered (hand_back c k)
          within l =
              let g = own_hand_back ready k (omega arith) l in
              record {
                number = rw (ne_eqb k 0 q, le-ltb (holding d c) k l) g.0;
                holds = rw (le-ltb (holding d c) k l) g.1.holds;
              }

  -- the controller's own call, within its share, is answered as if it were alone
  pub own_alone : (x : Call) → bears c x ≡ true → KeepsWithin c d x → Answered x
  own_alone (claim b k) q w =
      let e : c ≡ b = sym (eqb-true b c q) in
      subst (λ (b : ℕ). Answered (claim b k)) e (own_claim_alone k (w q))
  own_alone (hand_back b k) q w =
      let e : c ≡ b = sym (eqb-true b c q) in
      subst (λ (b : ℕ). Answered (hand_back b k)) e (own_hand_back_alone k)
  own_alone (look b) q w = clash false q refl
  own_alone (change l a t) q w = clash false q refl

-- ---- what a call that is no granted change leaves as it was

pub unchanged-only : (d : Desk) (x : Call) → (is_change x ≡ true → refusal_of d x ≢ 0) → OnlyHoldings (desk_after d x) d
unchanged-only d (claim b k) q = one_only d (claim b k) refl
unchanged-only d (hand_back b k) q = one_only d (hand_back b k) refl
unchanged-only d (look b) q = one_only d (look b) refl
unchanged-only d (change l a t) q =
    subst (λ (e : Desk). OnlyHoldings e d) (sym (refused_leaves d (change l a t) (q refl)))
    (record { count = refl; limit = refl; assured = refl; ceiling = refl })

pub share-kept : (d : Desk) (x : Call) → (is_change x ≡ true → refusal_of d x ≢ 0) → (c : ℕ) → assured_share (desk_after d x) c ≡ assured_share d c
share-kept d x q c = ap (λ l. get_or {A = ℕ} l c 0) (unchanged-only d x q).assured

-- another's call, whatever it is, leaves the holding
pub other_leaves : {d : Desk} → Reachable d → (c : ℕ) (x : Call) → bears c x ≡ false → (is_change x ≡ true → refusal_of d x ≢ 0)
    → holding (desk_after d x) c ≡ holding d c
other_leaves {d} r c x q u =
    let e = share-kept d x u c in
    (other_call {n = assured_share d c} {c = c} {h = holding d c} {d = d} (record { reachable = r; share = le_refl _; holds = refl }) x q (omega arith)).holds

-- ---- lists of calls

-- "that controller's answers, the desk handed back aside, and its final holding depend on its holding at the outset and its own calls"
pub record Alone (c : ℕ) (d : Desk) (l : List Call) : Type 0 where
  pub numbers : own_numbers c d l ≡ alone_numbers (holding d c) (own_calls c l)
  pub holds : holding (desk_after_all d l) c ≡ alone_after (holding d c) (own_calls c l)

alone-step : {d : Desk} → Reachable d → (c : ℕ) → c < d.count → (x : Call) (l : List Call)
    → KeepsWithin c d x → (is_change x ≡ true → refusal_of d x ≢ 0) → Alone c (desk_after d x) l
    → (t : Bool) → bears c x ≡ t → Alone c d (x ∷ l)
alone-step {d} r c n x l w u rest true q =
    let a = own_alone r c n x q w in
    let h = a.holds in
    record {
      numbers = rw (q, a.number) (ap (λ (m : List ℕ). alone_number (holding d c) x ∷ m)
          (rest.numbers ∙ ap (λ (k : ℕ). alone_numbers k (own_calls c l)) h));
      holds = rw q (rest.holds ∙ ap (λ (k : ℕ). alone_after k (own_calls c l)) h);
    }
alone-step {d} r c n x l w u rest false q =
    let h = other_leaves r c x q u in
    record {
      numbers = rw q (rest.numbers ∙ ap (λ (k : ℕ). alone_numbers k (own_calls c l)) h);
      holds = rw q (rest.holds ∙ ap (λ (k : ℕ). alone_after k (own_calls c l)) h);
    }

-- F-13: the answers and the final holding are those that the holding at the outset and the controller's own calls give alone.
pub alone : (l : List Call) {d : Desk} → Reachable d → (c : ℕ) → c < d.count → WithinShare c d l → Unchanged d l → Alone c d l
alone [] r c n w u = record { numbers = refl; holds = refl }
alone (x ∷ l) {d} r c n w u =
    alone-step r c n x l w.0 u.0 (alone l (reachable-after r x) c (rw (one-count d x) n) w.1 u.1) (bears c x) refl

-- So two desks and two lists with the same holding at the outset and the same own calls give the same answers and the same holding,
-- "however greedy the others are".
pub unnoticed : {d e : Desk} (l m : List Call) → Reachable d → Reachable e → (c : ℕ) → c < d.count → c < e.count
    → WithinShare c d l → WithinShare c e m → Unchanged d l → Unchanged e m → holding d c ≡ holding e c → own_calls c l ≡ own_calls c m
    → (own_numbers c d l ≡ own_numbers c e m) × (holding (desk_after_all d l) c ≡ holding (desk_after_all e m) c)
unnoticed {d} {e} l m r s c n k w v u t h o =
    let a = alone l r c n w u in
    let b = alone m s c k v t in (
      a.numbers ∙ ap (λ (x : ℕ). alone_numbers x (own_calls c l)) h ∙ ap (alone_numbers (holding e c)) o ∙ sym b.numbers,
      a.holds ∙ ap (λ (x : ℕ). alone_after x (own_calls c l)) h ∙ ap (alone_after (holding e c)) o ∙ sym b.holds,
    )

-- ---- mergings

-- keeping to the share, of the holding and the own calls alone
abbrev WithinAlone : ℕ → ℕ → List Call → Type 0
WithinAlone a h [] = Unit {0}
WithinAlone a h (claim b k ∷ l) = (h + k ≤ a) × WithinAlone a (alone_holding h (claim b k)) l
WithinAlone a h (hand_back b k ∷ l) = WithinAlone a (alone_holding h (hand_back b k)) l
WithinAlone a h (look b ∷ l) = WithinAlone a h l
WithinAlone a h (change n x t ∷ l) = WithinAlone a h l

first_within : (a h c : ℕ) (d : Desk) (x : Call) (l : List Call) → holding d c ≡ h → assured_share d c ≡ a → bears c x ≡ true
    → KeepsWithin c d x → WithinAlone a (alone_holding h x) l → WithinAlone a h (x ∷ l)
first_within a h c d (claim b k) l e f q w r = (omega (arith, w q), r)
first_within a h c d (hand_back b k) l e f q w r = r
first_within a h c d (look b) l e f q w r = clash false q refl
first_within a h c d (change n x t) l e f q w r = clash false q refl

within_first : (a h c : ℕ) (d : Desk) (x : Call) (l : List Call) → holding d c ≡ h → assured_share d c ≡ a
    → WithinAlone a h (x ∷ l) → KeepsWithin c d x × WithinAlone a (alone_holding h x) l
within_first a h c d (claim b k) l e f r = let m = r.0 in ((λ q. omega arith), r.1)
within_first a h c d (hand_back b k) l e f r = (tt, r)
within_first a h c d (look b) l e f r = (tt, r)
within_first a h c d (change n x t) l e f r = (tt, r)

other_within : (c : ℕ) (d : Desk) (x : Call) → bears c x ≡ false → KeepsWithin c d x
other_within c d (claim b k) q = λ z. clash (eqb b c) z q
other_within c d (hand_back b k) q = tt
other_within c d (look b) q = tt
other_within c d (change n a t) q = tt

there-step : {d : Desk} → Reachable d → (c : ℕ) → c < d.count → (x : Call) (l : List Call)
    → KeepsWithin c d x → (is_change x ≡ true → refusal_of d x ≢ 0)
    → WithinAlone (assured_share (desk_after d x) c) (holding (desk_after d x) c) (own_calls c l)
    → (t : Bool) → bears c x ≡ t → WithinAlone (assured_share d c) (holding d c) (own_calls c (x ∷ l))
there-step {d} r c n x l w u rest true q =
    let a = own_alone r c n x q w in
    let s = share-kept d x u c in
    rw q (first_within (assured_share d c) (holding d c) c d x (own_calls c l) refl refl q w
    (subst (λ (k : ℕ). WithinAlone (assured_share d c) k (own_calls c l)) a.holds
    (subst (λ (k : ℕ). WithinAlone k (holding (desk_after d x) c) (own_calls c l)) s rest)))
there-step {d} r c n x l w u rest false q =
    let h = other_leaves r c x q u in
    let s = share-kept d x u c in
    rw q (subst (λ (k : ℕ). WithinAlone (assured_share d c) k (own_calls c l)) h
    (subst (λ (k : ℕ). WithinAlone k (holding (desk_after d x) c) (own_calls c l)) s rest))

within_there : (l : List Call) {d : Desk} → Reachable d → (c : ℕ) → c < d.count → WithinShare c d l → Unchanged d l
    → WithinAlone (assured_share d c) (holding d c) (own_calls c l)
within_there [] r c n w u = tt
within_there (x ∷ l) {d} r c n w u =
    there-step r c n x l w.0 u.0 (within_there l (reachable-after r x) c (rw (one-count d x) n) w.1 u.1) (bears c x) refl

back_first : {d : Desk} → Reachable d → (c : ℕ) → c < d.count → (x : Call) (l : List Call) → (is_change x ≡ true → refusal_of d x ≢ 0)
    → WithinAlone (assured_share d c) (holding d c) (own_calls c (x ∷ l)) → (t : Bool) → bears c x ≡ t
    → KeepsWithin c d x × WithinAlone (assured_share (desk_after d x) c) (holding (desk_after d x) c) (own_calls c l)
back_first {d} r c n x l u h true q =
    let g : WithinAlone (assured_share d c) (holding d c) (x ∷ own_calls c l) = rw q at h in
    let f = within_first (assured_share d c) (holding d c) c d x (own_calls c l) refl refl g in
    let a = own_alone r c n x q f.0 in
    let s = share-kept d x u c in (
      f.0,
      subst (λ (k : ℕ). WithinAlone k (holding (desk_after d x) c) (own_calls c l)) (sym s)
          (subst (λ (k : ℕ). WithinAlone (assured_share d c) k (own_calls c l)) (sym a.holds) f.1),
    )
back_first {d} r c n x l u h false q =
    let g : WithinAlone (assured_share d c) (holding d c) (own_calls c l) = rw q at h in
    let e = other_leaves r c x q u in
    let s = share-kept d x u c in (
      other_within c d x q,
      subst (λ (k : ℕ). WithinAlone k (holding (desk_after d x) c) (own_calls c l)) (sym s)
          (subst (λ (k : ℕ). WithinAlone (assured_share d c) k (own_calls c l)) (sym e) g),
    )

within_back : (l : List Call) {d : Desk} → Reachable d → (c : ℕ) → c < d.count → Unchanged d l
    → WithinAlone (assured_share d c) (holding d c) (own_calls c l) → WithinShare c d l
within_back [] r c n u h = tt
within_back (x ∷ l) {d} r c n u h =
    let f = back_first r c n x l u.0 h (bears c x) refl in
    (f.0, within_back l (reachable-after r x) c (rw (one-count d x) n) u.1 f.1)

only_through : (d : Desk) (l : List Call) → Unchanged d l → OnlyHoldings (desk_after_all d l) d
only_through d [] u = record { count = refl; limit = refl; assured = refl; ceiling = refl }
only_through d (x ∷ l) u =
    let a = only_through (desk_after d x) l u.1 in
    let b = unchanged-only d x u.0 in
    record {
      count = a.count ∙ b.count;
      limit = a.limit ∙ b.limit;
      assured = a.assured ∙ b.assured;
      ceiling = a.ceiling ∙ b.ceiling;
    }

-- F-13: "If all keep to that, every merging of the controllers' calls ends in the same desk." Where all keep to it in one merging,
-- they do in every.
module _ {d : Desk} (r : Reachable d) (calls : ℕ → List Call) (l m : List Call) (u : Unchanged d l) (v : Unchanged d m)
    (ml : MergingOf d.count calls l) (mm : MergingOf d.count calls m) (w : (c : ℕ) → c < d.count → WithinShare c d l) where
  pub within-every : (c : ℕ) → c < d.count → WithinShare c d m
  within-every c n =
      within_back m r c n v
      (subst (WithinAlone (assured_share d c) (holding d c)) (ml c n ∙ sym (mm c n)) (within_there l r c n (w c n) u))

  same-holding : (c : ℕ) → holding (desk_after_all d l) c ≡ holding (desk_after_all d m) c
  same-holding c = ⊎_elim inside past (less-or-not c d.count)
    where
      inside : c < d.count → holding (desk_after_all d l) c ≡ holding (desk_after_all d m) c
      inside n =
          (alone l r c n (w c n) u).holds ∙ ap (alone_after (holding d c)) (ml c n ∙ sym (mm c n))
          ∙ sym (alone m r c n (within-every c n) v).holds

      past : d.count ≤ c → holding (desk_after_all d l) c ≡ holding (desk_after_all d m) c
      past n =
          let a = none-reserved (desk_after_all d l) (reached_sound (reachable-after_all r l)) c (omega (arith, same_count d l)) in
          let b = none-reserved (desk_after_all d m) (reached_sound (reachable-after_all r m)) c (omega (arith, same_count d m)) in
          omega arith

  pub same-desk : desk_after_all d l ≡ desk_after_all d m
  same-desk =
      let a = only_through d l u in
      let b = only_through d m v in
      let s = (reached_sound (reachable-after_all r l)).lists.held in
      let t = (reached_sound (reachable-after_all r m)).lists.held in
      let held = ext_get_or 0 (desk_after_all d l).held (desk_after_all d m).held (s ∙ sym t) (λ i k. same-holding i) in
      λ i. record {
        count = (a.count ∙ sym b.count) i;
        limit = (a.limit ∙ sym b.limit) i;
        held = held i;
        assured = (a.assured ∙ sym b.assured) i;
        ceiling = (a.ceiling ∙ sym b.ceiling) i;
      }
