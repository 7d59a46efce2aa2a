-- The calls that fall due minute by minute are a list of calls that follows the plan.
use mathlib.Core.Path.{◌≡◌, refl, sym, ap, ap₂, ◌∙◌}
use mathlib.Core.Logic.{◌⊎◌, inl, inr}
use mathlib.Core.Bool.{Bool, true, false, cond}
use mathlib.Core.List.{List, [], ◌∷◌, ◌++◌, map}
use Prim.Native.Nat.{ℕ, zero, suc, ◌+◌, ◌*◌, ◌≤◌, ◌<◌, zero-le}
use native.Mathlib.Omega.{arith}
use native.Mathlib.Nat.{le_refl, le_trans}
use lib.Dec.{ltb, eqb}
use borrow.Author.Tests.{eqb-true, eq-eqb, lt-ltb, le-ltb}
use Rattle.counting.specs.Counting.{only, sum, joined}
use Rattle.counting.proofs.Tests.{clash, less-or-not, eqb_turned}
use Rattle.counting.proofs.Sums.{sum_same, sum-zero, sum-at}
use Rattle.counting.proofs.Ranges.{le-largest}
use Rattle.counting.proofs.Joins.{joined_same}
use Rattle.schedule.specs.Plan.{Sheet, Plan}
use Rattle.desk.specs.Calls.{Call, claim, hand_back}
use Rattle.assurance.specs.Following.{Event, begin, end, job_of, minute, call_of, same_event, times, MayPrecede, InOrder, own_calls, FollowsPlan}
use Rattle.assurance.specs.Minutes.{due_at, due_calls, last_minute}
use Rattle.assurance.proofs.Turns.{due}

-- ---- lists of events

times-append : (e : Event) (l m : List Event) → times e (l ++ m) ≡ times e l + times e m
times-append e [] m = omega arith
times-append e (f ∷ l) m = omega (arith, times-append e l m)

times_joined : (e : Event) (n : ℕ) (f : ℕ → List Event) → times e (joined n f) ≡ sum n (λ i. times e (f i))
unfolding joined sum
times_joined e zero f = refl
times_joined e (suc n) f = times-append e (joined n f) (f n) ∙ ap (λ (x : ℕ). x + times e (f n)) (times_joined e n f)

map-append : (f : Event → Call) (l m : List Event) → map f (l ++ m) ≡ map f l ++ map f m
map-append f [] m = refl
map-append f (e ∷ l) m = ap (λ (x : List Call). f e ∷ x) (map-append f l m)

map_joined : (f : Event → Call) (n : ℕ) (g : ℕ → List Event) → map f (joined n g) ≡ joined n (λ i. map f (g i))
unfolding joined
map_joined f zero g = refl
map_joined f (suc n) g = map-append f (joined n g) (g n) ∙ ap (λ (x : List Call). x ++ map f (g n)) (map_joined f n g)

module _ (S : Sheet) (P : Plan) where
  -- the event, if it falls due in minute t
  abbrev at : ℕ → Event → List Event
  at t e = cond (eqb (minute S P e) t) (e ∷ []) []

  -- the events of minute t, and of the minutes before t
  abbrev events_at : ℕ → List Event
  events_at t = joined S.jobs (λ j. at t (end j)) ++ joined S.jobs (λ j. at t (begin j))

  abbrev events_before : ℕ → List Event
  events_before t = joined t events_at

  -- ---- in order: the due minutes, doubled, lie between a and b

  abbrev Between : ℕ → ℕ → List Event → Type 0
  Between a b [] = Unit {0}
  Between a b (e ∷ l) = (a ≤ due S P e) × (due S P e ≤ b) × Between a b l

  may_precede : (e f : Event) → due S P e ≤ due S P f → MayPrecede S P e f
  may_precede (begin i) (begin j) l = record { rising = omega arith; hand_backs_first = λ q r. clash false r refl }
  may_precede (end i) (begin j) l = record { rising = omega arith; hand_backs_first = λ q r. refl }
  may_precede (end i) (end j) l = record { rising = omega arith; hand_backs_first = λ q r. refl }
  may_precede (begin i) (end j) l = record { rising = omega arith; hand_backs_first = λ q r. absurd (omega arith) }

  wider : (a b x y : ℕ) (l : List Event) → x ≤ a → b ≤ y → Between a b l → Between x y l
  wider a b x y [] p q h = tt
  wider a b x y (e ∷ l) p q h = (le_trans p h.0, le_trans h.1 q, wider a b x y l p q h.2)

  between-append : (a b : ℕ) (l m : List Event) → Between a b l → Between a b m → Between a b (l ++ m)
  between-append a b [] m h k = k
  between-append a b (e ∷ l) m h k = (h.0, h.1, between-append a b l m h.2 k)

  -- one list behind another that is due no earlier
  order-append : (a k b : ℕ) (l m : List Event) → Between a k l → Between k b m → InOrder S P l → InOrder S P m → InOrder S P (l ++ m)
  order-append a k b [] m h g o p = p
  order-append a k b (e ∷ []) [] h g o p = tt
  order-append a k b (e ∷ []) (f ∷ m) h g o p = (may_precede e f (le_trans h.1 g.0), p)
  order-append a k b (e ∷ f ∷ l) m h g o p = (o.0, order-append a k b (f ∷ l) m h.2 g o.1 p)

  -- events that are due at the same time, of as many jobs as there are
  module _ (k : ℕ) (f : ℕ → List Event) (same : (j : ℕ) → Between k k (f j) × InOrder S P (f j)) where
    alike : (n : ℕ) → Between k k (joined n f) × InOrder S P (joined n f)
    unfolding joined
    alike zero = (tt, tt)
    alike (suc n) =
        let h = alike n in
        let s = same n in
        (between-append k k (joined n f) (f n) h.0 s.0, order-append k k k (joined n f) (f n) h.0 s.0 h.1 s.1)

  one-event : (t : ℕ) (e : Event) (k : ℕ) → (minute S P e ≡ t → due S P e ≡ k) → Between k k (at t e) × InOrder S P (at t e)
  one-event t e k h = go (eqb (minute S P e) t) refl
    where
      go : (b : Bool) → eqb (minute S P e) t ≡ b → Between k k (cond b (e ∷ []) []) × InOrder S P (cond b (e ∷ []) [])
      go true q = let d = h (eqb-true _ t q) in ((omega arith, omega arith, tt), tt)
      go false q = (tt, tt)

  minute_order : (t : ℕ) → Between (t * 2) (t * 2 + 1) (events_at t) × InOrder S P (events_at t)
  minute_order t =
      let l = joined S.jobs (λ j. at t (end j)) in
      let m = joined S.jobs (λ j. at t (begin j)) in
      let h = alike (t * 2) (λ j. at t (end j)) (λ j. one-event t (end j) (t * 2) (λ q. ap (λ (x : ℕ). x * 2) q)) S.jobs in
      let g = alike (t * 2 + 1) (λ j. at t (begin j)) (λ j. one-event t (begin j) (t * 2 + 1) (λ q. ap (λ (x : ℕ). x * 2 + 1) q)) S.jobs in
      let a = wider (t * 2) (t * 2) (t * 2) (t * 2 + 1) l (le_refl _) (omega arith) h.0 in
      let b = wider (t * 2 + 1) (t * 2 + 1) (t * 2) (t * 2 + 1) m (omega arith) (le_refl _) g.0 in (
        between-append (t * 2) (t * 2 + 1) l m a b,
        order-append (t * 2) (t * 2 + 1) (t * 2 + 1) l m a g.0 h.1 g.1,
      )

  before_order : (t : ℕ) → Between 0 (t * 2) (events_before t) × InOrder S P (events_before t)
  unfolding joined
  before_order zero = (tt, tt)
  before_order (suc t) =
      let h = before_order t in
      let g = minute_order t in (
        between-append 0 (suc t * 2) (events_before t) (events_at t) (wider 0 (t * 2) 0 (suc t * 2) (events_before t) zero-le (omega arith) h.0)
            (wider (t * 2) (t * 2 + 1) 0 (suc t * 2) (events_at t) zero-le (omega arith) g.0),
        order-append 0 (t * 2) (t * 2 + 1) (events_before t) (events_at t) h.0 g.0 h.1 g.1,
      )

  -- ---- each event once

  times_one : (t : ℕ) (e f : Event) → times e (at t f) ≡ only (eqb (minute S P f) t) (only (same_event e f) 1)
  times_one t e f = go (eqb (minute S P f) t)
    where
      go : (b : Bool) → times e (cond b (f ∷ []) []) ≡ only b (only (same_event e f) 1)
      go true = omega arith
      go false = refl

  -- of the events f j that are due in minute t, e is one or none
  times_kind : (t : ℕ) (e : Event) (f : ℕ → Event) (i : ℕ) → ((j : ℕ) → same_event e (f j) ≡ eqb j i)
      → times e (joined S.jobs (λ j. at t (f j))) ≡ only (ltb i S.jobs) (only (eqb (minute S P (f i)) t) 1)
  times_kind t e f i same =
      times_joined e S.jobs (λ j. at t (f j))
      ∙ sum_same S.jobs _ (λ j. only (eqb j i) (only (eqb (minute S P (f j)) t) 1))
      (λ j l. times_one t e (f j) ∙ ap (λ (b : Bool). only (eqb (minute S P (f j)) t) (only b 1)) (same j) ∙ turned (eqb (minute S P (f j)) t) (eqb j i))
      ∙ sum-at S.jobs (λ j. only (eqb (minute S P (f j)) t) 1) i
    where
      turned : (a b : Bool) → only a (only b 1) ≡ only b (only a 1)
      turned true b = refl
      turned false true = refl
      turned false false = refl

  -- none of the events f j is e
  times_none : (t : ℕ) (e : Event) (f : ℕ → Event) → ((j : ℕ) → same_event e (f j) ≡ false) → times e (joined S.jobs (λ j. at t (f j))) ≡ 0
  times_none t e f other =
      times_joined e S.jobs (λ j. at t (f j))
      ∙ sum_same S.jobs _ (λ j. 0)
      (λ j l. times_one t e (f j) ∙ ap (λ (b : Bool). only (eqb (minute S P (f j)) t) (only b 1)) (other j) ∙ nothing (eqb (minute S P (f j)) t))
      ∙ sum-zero S.jobs
    where
      nothing : (a : Bool) → only a 0 ≡ 0
      nothing true = refl
      nothing false = refl

  times-minute : (t : ℕ) (e : Event) → times e (events_at t) ≡ only (ltb (job_of e) S.jobs) (only (eqb (minute S P e) t) 1)
  times-minute t (begin i) =
      times-append (begin i) (joined S.jobs (λ j. at t (end j))) (joined S.jobs (λ j. at t (begin j)))
      ∙ ap₂ (λ (a b : ℕ). a + b) (times_none t (begin i) end (λ j. refl)) (times_kind t (begin i) begin i (λ j. eqb_turned i j))
      ∙ omega arith
  times-minute t (end i) =
      times-append (end i) (joined S.jobs (λ j. at t (end j))) (joined S.jobs (λ j. at t (begin j)))
      ∙ ap₂ (λ (a b : ℕ). a + b) (times_kind t (end i) end i (λ j. eqb_turned i j)) (times_none t (end i) begin (λ j. refl))
      ∙ omega arith

  -- every event of a job is before the last minute
  early : (e : Event) → job_of e < S.jobs → minute S P e < last_minute S P
  unfolding last_minute
  early (begin i) l = omega (arith, le-largest S.jobs (λ j. minute S P (end j) + 1) i l)
  early (end i) l = omega (arith, le-largest S.jobs (λ j. minute S P (end j) + 1) i l)

  each_once_lem : (e : Event) → times e (events_before (last_minute S P)) ≡ only (ltb (job_of e) S.jobs) 1
  each_once_lem e =
      times_joined e (last_minute S P) events_at
      ∙ sum_same (last_minute S P) _ _ (λ t l. times-minute t e)
      ∙ go (less-or-not (job_of e) S.jobs)
    where
      go : (job_of e < S.jobs) ⊎ (S.jobs ≤ job_of e)
          → sum (last_minute S P) (λ t. only (ltb (job_of e) S.jobs) (only (eqb (minute S P e) t) 1)) ≡ only (ltb (job_of e) S.jobs) 1
      go (inl l) =
          rw (lt-ltb (job_of e) S.jobs l)
          (sum_same (last_minute S P) _ _ (λ t k. ap (λ (b : Bool). only b 1) (eqb_turned (minute S P e) t))
          ∙ sum-at (last_minute S P) (λ t. 1) (minute S P e)
          ∙ ap (λ (b : Bool). only b 1) (lt-ltb _ _ (early e l)))
      go (inr l) = rw (le-ltb (job_of e) S.jobs l) (sum-zero (last_minute S P))

  -- ---- the calls of the events

  module _ (s c : ℕ) where
    calls_one : (t : ℕ) (e : Event) → due_at S P s c t e ≡ map (call_of S s c) (at t e)
    calls_one t e = go (eqb (minute S P e) t)
      where
        go : (b : Bool) → cond b (call_of S s c e ∷ []) [] ≡ map (call_of S s c) (cond b (e ∷ []) [])
        go true = refl
        go false = refl

    calls_kind : (t : ℕ) (f : ℕ → Event)
        → joined S.jobs (λ j. due_at S P s c t (f j)) ≡ map (call_of S s c) (joined S.jobs (λ j. at t (f j)))
    calls_kind t f =
        joined_same S.jobs _ _ (λ j l. calls_one t (f j)) ∙ sym (map_joined (call_of S s c) S.jobs (λ j. at t (f j)))

    calls-minute : (t : ℕ) → due_calls S P s c t ≡ map (call_of S s c) (events_at t)
    unfolding due_calls
    calls-minute t =
        ap₂ (λ (l m : List Call). l ++ m) (calls_kind t end) (calls_kind t begin)
        ∙ sym (map-append (call_of S s c) (joined S.jobs (λ j. at t (end j))) (joined S.jobs (λ j. at t (begin j))))

    calls_before : (t : ℕ) → joined t (due_calls S P s c) ≡ map (call_of S s c) (events_before t)
    calls_before t = joined_same t _ _ (λ i l. calls-minute i) ∙ sym (map_joined (call_of S s c) t events_at)

    -- all of them bear the controller's number
    all_own : (l : List Event) → own_calls c (map (call_of S s c) l) ≡ map (call_of S s c) l
    all_own [] = refl
    all_own (begin j ∷ l) = rw (eq-eqb c c refl) (ap (λ (x : List Call). claim c (S.need j * s) ∷ x) (all_own l))
    all_own (end j ∷ l) = rw (eq-eqb c c refl) (ap (λ (x : List Call). hand_back c (S.need j * s) ∷ x) (all_own l))

    -- The calls of all minutes, one minute behind the other, are the plan's claims and hand-backs, minutes rising and hand-backs first.
    pub minutes_follow : FollowsPlan S P s c (joined (last_minute S P) (due_calls S P s c))
    minutes_follow = record {
      events = events_before (last_minute S P);
      once = each_once_lem;
      order = (before_order (last_minute S P)).1;
      own = ap (own_calls c) (calls_before (last_minute S P)) ∙ all_own (events_before (last_minute S P)) ∙ refl;
    }
