-- The placed jobs sorted by their ends: the k-th gives back held k modules at minute until k, its end plus the changeover.
use Rattle.std.specs.Prelude.{◌≡◌, List, ℕ, ◌+◌, ◌-◌, ◌*◌, ◌≤◌, ◌<◌, ltb, leb, get_or}
use Rattle.counting.specs.Counting.{only, sum}
use Rattle.figures.specs.Figures.{most_jobs}
use Rattle.tables.specs.declared.Part.{Part}
use Rattle.placement.specs.declared.Ended.{Ended}

-- the modules that are held at minute t
unfoldable pub held_at : List ℕ → List ℕ → ℕ → ℕ → ℕ
held_at until held count t = sum count (λ k. only (ltb t (get_or until k 0)) (get_or held k 0))

-- the module-minutes that are held from minute t on
unfoldable pub held_after : List ℕ → List ℕ → ℕ → ℕ → ℕ
held_after until held count t = sum count (λ k. get_or held k 0 * (get_or until k 0 - t))

-- the modules of the i-th and all later ones
unfoldable pub held_from : List ℕ → ℕ → ℕ → ℕ
held_from held count i = sum count (λ k. only (leb i k) (get_or held k 0))

abbrev pub Sorted : List ℕ → ℕ → Type 0
Sorted until count = (i k : ℕ) → i ≤ k → k < count → get_or until i 0 ≤ get_or until k 0

-- the first of them, `gone` in number, have given theirs back by minute t, and so many modules are free then of `modules`
pub record Profile (until held : List ℕ) (count gone free modules t : ℕ) : Type 0 where
  pub sorted : Sorted until count
  pub few : count ≤ most_jobs
  pub inside : gone ≤ count
  pub ended : (k : ℕ) → k < gone → get_or until k 0 ≤ t
  pub balance : free + held_from held count gone ≡ modules

-- r is the first minute from t on at which `want` modules are free
pub record FirstRoom (until held : List ℕ) (count modules want t r : ℕ) : Type 0 where
  pub from : t ≤ r
  pub room : held_at until held count r + want ≤ modules
  pub first : (u : ℕ) → t ≤ u → held_at until held count u + want ≤ modules → r ≤ u

-- r says how many have given theirs back by minute t, and none of the others has
pub record EndedBy (until held : List ℕ) (count modules t : ℕ) (r : Ended) : Type 0 where
  pub profile : Profile until held count r.gone r.free modules t
  pub live : (k : ℕ) → r.gone ≤ k → k < count → t < get_or until k 0

-- the place of a job that gives its modules back at minute `end` among the others
pub record PlaceOf (until : List ℕ) (count end at : ℕ) : Type 0 where
  pub inside : at ≤ count
  pub lower : (k : ℕ) → k < at → get_or until k 0 ≤ end
  pub upper : (k : ℕ) → at ≤ k → k < count → end < get_or until k 0

-- x is put in at a place of so many numbers, and those from there on stand one place up
pub record PutIn (list list' : List ℕ) (at count x : ℕ) : Type 0 where
  pub below : (k : ℕ) → k < at → get_or list' k 0 ≡ get_or list k 0
  pub here : get_or list' at 0 ≡ x
  pub above : (k : ℕ) → at ≤ k → k < count → get_or list' (k + 1) 0 ≡ get_or list k 0

-- ---- of a part-plan

-- the modules that are held at minute t, and the module-minutes from then on
abbrev pub held_of : Part → ℕ → ℕ
held_of p t = held_at p.until p.held p.placed t

abbrev pub held_since : Part → ℕ → ℕ
held_since p t = held_after p.until p.held p.placed t

abbrev pub ProfileOf : Part → ℕ → ℕ → ℕ → ℕ → Type 0
ProfileOf p gone free modules t = Profile p.until p.held p.placed gone free modules t

abbrev pub FirstRoomOf : Part → ℕ → ℕ → ℕ → ℕ → Type 0
FirstRoomOf p modules want t r = FirstRoom p.until p.held p.placed modules want t r

abbrev pub EndedOf : Part → ℕ → ℕ → Ended → Type 0
EndedOf p modules t r = EndedBy p.until p.held p.placed modules t r

-- a job that gives `width` modules back at minute `end` is put in its place among the others
pub record Inserted (p r : Part) (end width : ℕ) : Type 0 where
  pub at : ℕ
  pub place : PlaceOf p.until p.placed end at
  pub ends : PutIn p.until r.until at p.placed end
  pub holds : PutIn p.held r.held at p.placed width
