-- The jobs that may come next, tried one after another in the order of their starts.
use mathlib.Core.Path.{◌≡◌, refl, sym, ap, ◌∙◌}
use mathlib.Core.Logic.{◌⊎◌, inl, inr}
use mathlib.Core.Bool.{Bool, true, false, not, ◌&&◌, and-true}
use mathlib.Core.List.{List, [], ◌∷◌, ◌++◌, append_assoc}
use Prim.Native.Nat.{ℕ, suc, ◌+◌, ◌≤◌, ◌<◌}
use native.Mathlib.Omega.{arith}
use lib.Dec.{eqb}
use lib.Count.{ones}
use lib.ListN.{get_or, length-replicate}
use borrow.Author.Tests.{eqb-true}
use Rattle.counting.proofs.Tests.{true-or-false, clash, and_left, less-or-not}
use Rattle.bits.specs.Bits.{bit, with_bit, without_bit}
use Rattle.bits.proofs.Digits.{bit-none}
use Rattle.bits.proofs.Members.{bit_with, bit_without}
use Rattle.bits.proofs.Sets.{and-empty}
use Rattle.bits.proofs.Ones.{ones_without}
use Rattle.schedule.specs.Plan.{Sheet}
use Rattle.schedule.specs.ListPlan.{PartPlan, ready, start_of, part_of}
use Rattle.schedule.proofs.Starts.{ready_says}
use Rattle.schedule.proofs.Idle.{idle_cut}
use Rattle.schedule.proofs.Alone.{alone_cut}
use Rattle.tables.specs.declared.Jobs.{Jobs}
use Rattle.tables.specs.Tables.{sheet_of, need_at, count_of, modules_of}
use Rattle.tables.specs.declared.Part.{Part}
use Rattle.tables.specs.Part.{word_of}
use Rattle.placement.proofs.Parts.{start_short}
use Rattle.candidates.specs.declared.Choice.{Choice}
use Rattle.relations.specs.Relations.{row_at, Related}
use Rattle.candidates.specs.Candidates.{Known, JobStarts, ChoiceOf}
use Rattle.branching.specs.Branching.{Alone, ComesBefore, ToTry, Trying}
use Rattle.candidates.proofs.Starting.{started}
use Rattle.listing.specs.declared.Found.{Found}
use Rattle.search.specs.Search.{Fails, Outcome, none_found, TriedSo}

-- no order
pub none_outcome : {S : Sheet} {target : ℕ} {v : List ℕ} {left : ℕ} → Fails S target v → Outcome S target v none_found left
none_outcome h = record { size = length-replicate {A = ℕ} 20 0; hit = λ e. clash false e refl; miss = λ e s. h }

-- none, where the search gave up
pub given_up : {S : Sheet} {target : ℕ} {v : List ℕ} {left : ℕ} → left ≡ 0 → Outcome S target v none_found left
given_up n = record { size = length-replicate {A = ℕ} 20 0; hit = λ e. clash false e refl; miss = λ e s. absurd (s n) }

-- of two reasons, what each shows
pub ended : {A B X Y : Type 0} → A ⊎ B → (A → X) → (B → Y) → X ⊎ Y
ended (inl a) f g = inl (f a)
ended (inr b) f g = inr (g b)

-- an order that begins with v and a job more begins with v
pub found_below : {S : Sheet} {target : ℕ} (v : List ℕ) (j : ℕ) {r : Found} {left : ℕ} → Outcome S target (v ++ (j ∷ [])) r left
    → (r.hit ≡ true) ⊎ (left ≡ 0) → Outcome S target v r left
found_below {S = S} {target = target} v j {r} {left} h ends = record {
  size = h.size;
  hit = λ e. let f = h.hit e in record {
    order = f.order;
    begins = (j ∷ f.begins.0, f.begins.1 ∙ append_assoc v (j ∷ []) f.begins.0);
    end = f.end;
    within = f.within;
  };
  miss = λ z s. either ends z s;
}
  where
    either : (r.hit ≡ true) ⊎ (left ≡ 0) → r.hit ≡ false → ¬ (left ≡ 0) → Fails S target v
    either (inl e) z s = clash r.hit e z
    either (inr n) z s = absurd (s n)

-- those of the first set that are no longer left lead nowhere, and c is the next
pub record Sweep (t : Jobs) (part : Part) (target : ℕ) (at : List ℕ) (first left tried : ℕ) (c : Choice) : Type 0 where
  pub choice : ChoiceOf at left (count_of t) c
  pub before : TriedSo t part target tried c.start
  pub gone : (j : ℕ) → j < count_of t → bit first j ≡ true → bit left j ≡ false
      → ready (sheet_of t) (part_of (sheet_of t)
      (word_of part)).placed j ≡ true
      → Fails (sheet_of t) target (word_of part ++ (j ∷ []))

-- the chosen job is in its set
pub chosen_in : {at : List ℕ} {left jobs : ℕ} {c : Choice} → ChoiceOf at left jobs c → c.start < 65535
    → suc (ones (without_bit left c.job)) ≡ ones left
chosen_in {left = left} {c = c} h l = ones_without left c.job (h.some l).1.0

-- while jobs are left, the choice has a start
pub chosen_low : {at : List ℕ} {left jobs : ℕ} {c : Choice} → ChoiceOf at left jobs c → ¬ (c.start ≡ 65535) → c.start < 65535
chosen_low h n = omega (arith, h.low, n)

module _ {t : Jobs} {part : Part} (known : Known t part)
    {at : List ℕ} {least : ℕ} (starts : JobStarts t part at least) where
  abbrev S : Sheet
  S = sheet_of t

  abbrev jobs : ℕ
  jobs = count_of t

  abbrev w : List ℕ
  w = word_of part

  abbrev P : PartPlan
  P = part_of S w

  abbrev Now : ℕ → ℕ → ℕ → ℕ → Choice → Type 0
  Now target first = Sweep t part target at first

  pub sweep_first : {target first : ℕ} {c : Choice} → ChoiceOf at first jobs c → Now target first first 0 c
  sweep_first {target} {first} h = record {
    choice = h;
    before = λ x m b. clash (bit 0 x) b (bit-none x);
    gone = λ j l a b. clash (bit first j) a b;
  }

  pub sweep_next : {target first left tried : ℕ} {c d : Choice} → Now target first left tried c → c.start < 65535
      → Fails S target (w ++ (c.job ∷ [])) → ChoiceOf at (without_bit left c.job) jobs d
      → Now target first (without_bit left c.job) (with_bit tried c.job) d
  sweep_next {target} {first} {left} {tried} {c} {d} s l f h = record {
    choice = h;
    before = λ x m b. earlier_ones x m b (eqb x c.job) refl;
    gone = λ j m a b. go j m a b (eqb j c.job) refl;
  }
    where
      c-at : get_or at c.job 0 ≡ c.start
      c-at = (s.choice.some l).1.1

      -- the next one starts no earlier
      rising : (d.start < 65535) ⊎ (65535 ≤ d.start) → c.start ≤ d.start
      rising (inr x) = omega arith
      rising (inl x) =
          let z = h.some x in
          let b : bit left d.job ≡ true = and_left (bit left d.job) _ (sym (bit_without left c.job d.job) ∙ z.1.0) in
          omega (arith, s.choice.first d.job z.0 b, z.1.1)

      c-ready : ready S P.placed c.job ≡ true
      c-ready = started (starts.each c.job (s.choice.some l).0) (omega (arith, c-at))

      earlier_ones : (x : ℕ) → x < jobs → bit (with_bit tried c.job) x ≡ true → (e : Bool) → eqb x c.job ≡ e
          → (ready S P.placed x ≡ true) × ((start_of S P x ≤ d.start) × Fails S target (w ++ (x ∷ [])))
      earlier_ones x m b true e = rw (eqb-true x c.job e) (
        c-ready,
        (omega (arith, c-at, (starts.each c.job (s.choice.some l).0).here c-ready, rising (less-or-not d.start 65535)), f),
      )
      earlier_ones x m b false e =
          let was : bit tried x ≡ true = rw e at (sym (bit_with tried c.job x) ∙ b) in
          let r = s.before x m was in
          (r.0, (omega (arith, r.1.0, rising (less-or-not d.start 65535)), r.1.1))

      go : (j : ℕ) → j < jobs → bit first j ≡ true → bit (without_bit left c.job) j ≡ false → (e : Bool) → eqb j c.job ≡ e
          → ready S P.placed j ≡ true → Fails S target (w ++ (j ∷ []))
      go j m a b true e r = rw (eqb-true j c.job e) f
      go j m a b false e r =
          let was : bit left j && true ≡ false = rw e at (sym (bit_without left c.job j) ∙ b) in
          s.gone j m a (sym (and-true (bit left j)) ∙ was) r

  pub sweep_all : {target first left tried : ℕ} {c : Choice} → Now target first left tried c → c.start ≡ 65535
      → (j : ℕ) → j < jobs → bit first j ≡ true → ready S P.placed j ≡ true → Fails S target (w ++ (j ∷ []))
  sweep_all {target} {left = left} s e j l a r = go (true-or-false (bit left j))
    where
      go : (bit left j ≡ true) ⊎ (bit left j ≡ false) → Fails S target (w ++ (j ∷ []))
      go (inr b) = s.gone j l a b r
      go (inl b) =
          let short = start_short t known.fit part w known.is j r in
          absurd (omega (arith, s.choice.first j l b, (starts.each j l).here r))

  -- Where the jobs to be tried lead nowhere, no job does.
  pub all_tried : (target first : ℕ) (related : List ℕ) → Related t related
      → ToTry t related at part.unplaced first
      → ((j : ℕ) → j < jobs → bit first j ≡ true → ready S P.placed j ≡ true → Fails S target (w ++ (j ∷ [])))
      → (j : ℕ) → j < jobs → ready S P.placed j ≡ true → Fails S target (w ++ (j ∷ []))
  all_tried target first related is-related try h j l r = go (try j l (known.is.figures.set j l ∙ ap not (ready_says S P.placed j r).new))
    where
      go : (bit first j ≡ true)
          ⊎ ((i : ℕ) × (i < jobs)
          × ((bit first i ≡ true) × ((get_or at i 0 < 65535) × ComesBefore t related at part.unplaced i j)))
          → Fails S target (w ++ (j ∷ []))
      go (inl b) = h j l b r
      go (inr (i, m, (b, (low, before)))) = which before
        where
          ri : ready S P.placed i ≡ true
          ri = started (starts.each i m) low

          -- the job and another unplaced one need more modules than there are
          apart : Alone related part.unplaced i → (x : ℕ) → x < jobs → P.placed x ≡ false → ¬ (x ≡ i) → modules_of t < need_at t i + need_at t x
          apart alone x y p d =
              let free : bit (row_at related i).beside x ≡ false =
              and-empty part.unplaced (row_at related i).beside alone x (known.is.figures.set x y ∙ ap not p) in
              omega (arith, (is-related i m).beside x y free d)

          which : ComesBefore t related at part.unplaced i j → Fails S target (w ++ (j ∷ []))
          which (inl e) =
              idle_cut S known.fit.lasting known.fit.narrow w known.is.follows i j ri
              (omega (arith, (starts.each i m).here ri, (starts.each j l).here r, known.fit.keeps i m)) (suc target) (h i m b ri)
          which (inr (e, alone)) =
              alone_cut S known.fit.lasting known.fit.narrow w known.is.follows i j ri
              (omega (arith, (starts.each i m).here ri, (starts.each j l).here r))
              (apart alone) (suc target) (h i m b ri)

  -- what is known of the starts
  pub trying : Trying t at least part.unplaced
  trying = record {
    few = known.fit.few;
    low = starts.first;
    top = λ j l. top j l (true-or-false (ready S P.placed j));
    inside = λ j l k. known.is.figures.set j l ∙ ap not (ready_says S P.placed j (started (starts.each j l) k)).new;
    lasting = λ j l. omega (arith, known.fit.lasting j l, known.fit.keeps j l);
  }
    where
      top : (j : ℕ) → (l : j < jobs) → (ready S P.placed j ≡ true) ⊎ (ready S P.placed j ≡ false) → get_or at j 0 ≤ 65535
      top j l (inl r) =
          let short = start_short t known.fit part w known.is j r in
          omega (arith, (starts.each j l).here r)
      top j l (inr r) = omega (arith, (starts.each j l).none r)
