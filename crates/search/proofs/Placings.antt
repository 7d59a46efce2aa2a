-- The tie rule's order, place by place.
use mathlib.Core.Path.{◌≡◌, refl, sym, ap, ◌∙◌, subst}
use mathlib.Core.Logic.{◌⊎◌, inl, inr}
use mathlib.Core.Bool.{true}
use mathlib.Core.List.{List, [], ◌∷◌, ◌++◌, append-nil, append_assoc}
use Prim.Native.Nat.{ℕ, suc, ◌+◌, ◌≤◌, ◌<◌, zero-le}
use native.Mathlib.Omega.{arith}
use native.Mathlib.Nat.{not-suc-le-zero}
use lib.ListN.{length, get_or, take, length-append}
use lib.Seq.{get_or_at, get_or-take}
use Rattle.tables.specs.declared.Jobs.{Jobs}
use Rattle.tables.specs.declared.Prepared.{Prepared}
use Rattle.counting.proofs.Tests.{last-or_below, less-or-not}
use Rattle.schedule.specs.Plan.{Sheet}
use Rattle.schedule.specs.ListPlan.{Order, ready, part_of}
use Rattle.schedule.specs.TieRule.{end_of, DictionaryLe}
use Rattle.schedule.specs.Beginnings.{Begins, Before, Upto, CannotBeat}
use Rattle.schedule.proofs.Starts.{ready_says}
use Rattle.schedule.proofs.Prefixes.{next-ready}
use Rattle.schedule.proofs.Places.{before_upto}
use Rattle.tables.specs.Tables.{sheet_of, count_of, Fit}
use Rattle.tables.specs.declared.Part.{Part}
use Rattle.tables.specs.Part.{word_of}
use Rattle.placement.specs.Part.{FirstPart, Placed}
use Rattle.placement.proofs.Parts.{start_short}
use Rattle.candidates.specs.Candidates.{Known, theory_part, JobStart}
use Rattle.candidates.proofs.Children.{first_known, first_word, word-length, child_known}
use Rattle.preparing.specs.Preparing.{Tabled}
use Rattle.listing.specs.declared.Found.{Found}
use Rattle.search.specs.Search.{Remembered, Fails, Outcome, Lowest, Going, Placing, TieRuled}

-- ---- one job tried at a place

module _ {t : Jobs} {prepared : Prepared} {part : Part} {target : ℕ} {memory : List ℕ}
    (g : Going t prepared part target memory) {j s : ℕ} (l : j < count_of t)
    (start : JobStart t part j s) where
  -- a job that may not come next leads nowhere
  pub not_next : s ≡ 65535 → Fails (sheet_of t) target (word_of part ++ (j ∷ []))
  unfolding CannotBeat
  not_next e o d (p, q) =
      let S = sheet_of t in
      let r = next-ready S (word_of part) j p (subst (λ (x : List ℕ). Order S x) q d) in
      let short = start_short t g.known.fit part (word_of part) g.known.is j r in
      absurd (omega (arith, start.here r))

  pub place_enter : (low : s < 65535) {child : Part} → Placed t part j s child
      → Going t prepared child target memory
  place_enter low {child} placed = record {
    low = g.low;
    known = child_known g.known l start low placed;
    tabled = g.tabled;
    remembered = g.remembered;
  }

-- ---- all jobs below one

-- no order that comes before w, or begins with w and then a job below j, ends by the target
abbrev pub NoneUpto : Sheet → ℕ → List ℕ → ℕ → Type 0
NoneUpto S target w j = (o : List ℕ) → Order S o → Upto w j o → target < end_of S o

pub upto-none : {S : Sheet} {w : List ℕ} {best : Found} → Placing S w best → NoneUpto S best.end w 0
upto-none h o d (inl b) = h.before o d b
upto-none h o d (inr (i, l, b)) = absurd (not-suc-le-zero l)

pub upto_more : (S : Sheet) (target : ℕ) (w : List ℕ) (j : ℕ) → NoneUpto S target w j → Fails S target (w ++ (j ∷ []))
    → NoneUpto S target w (j + 1)
unfolding CannotBeat
upto_more S target w j h f o d (inl b) = h o d (inl b)
upto_more S target w j h f o d (inr (i, l, b)) = go (last-or_below j i (omega (arith, l)))
  where
    go : (i ≡ j) ⊎ (i < j) → target < end_of S o
    go (inl e) = f o d (subst (λ (k : ℕ). Begins (w ++ (k ∷ [])) o) e b)
    go (inr m) = h o d (inr (i, m, b))

module _ {S : Sheet} {w : List ℕ} {best : Found} (h : Placing S w best) where
  -- a lower job in the place
  pub place_hit : {j : ℕ} {r : Found} {left : ℕ} → Outcome S best.end (w ++ (j ∷ [])) r left → r.hit ≡ true → NoneUpto S best.end w j
      → Placing S (w ++ (j ∷ [])) r × (r.end ≡ best.end)
  place_hit {j} {r} o e n =
      let f = o.hit e in
      let same : r.end ≡ best.end = omega (arith, f.within, f.end, h.lowest.least (take S.jobs r.order) f.order) in (
        record {
          lowest = record {
            is = record { size = o.size; order = f.order; end = f.end; low = omega (arith, h.lowest.is.low) };
            least = λ o d. omega (arith, h.lowest.least o d);
          };
          begins = f.begins;
          before = λ o d b. omega (arith, n o d (before_upto w j o b));
        },
        same,
      )

  -- what the order has in the place, where no lower job is found
  pub place_miss : (x : ℕ) (p : List ℕ) → take S.jobs best.order ≡ w ++ (x ∷ p) → NoneUpto S best.end w x
      → Placing S (w ++ (x ∷ [])) best
  place_miss x p e n = record {
    lowest = h.lowest;
    begins = (p, e ∙ sym (append_assoc w (x ∷ []) p));
    before = λ o d b. n o d (before_upto w x o b);
  }

-- ---- what stands in a place

at_place : (xs w : List ℕ) (n k : ℕ) → Begins w (take n xs) → length w ≡ k → k < length (take n xs)
    → (p : List ℕ) × (take n xs ≡ w ++ (get_or (take n xs) k 0 ∷ p))
at_place xs w n k ([], e) l m = absurd (omega (arith, ap length (e ∙ append-nil w)))
at_place xs w n k (x ∷ p, e) l m =
    let g : get_or (take n xs) k 0 ≡ x = ap (λ (y : List ℕ). get_or y k 0) e ∙ get_or_at w x p 0 k l in
    (p, e ∙ ap (λ (y : ℕ). w ++ (y ∷ p)) (sym g))

pub placed_at : {S : Sheet} {w : List ℕ} {r : Found} → Placing S w r → (k : ℕ) → length w ≡ k → k < S.jobs
    → (p : List ℕ) × (take S.jobs r.order ≡ w ++ (get_or r.order k 0 ∷ p))
placed_at {S} {w} {r} h k l m =
    let q = at_place r.order w S.jobs k h.begins l (omega (arith, h.lowest.is.order.all)) in
    (q.0, q.1 ∙ ap (λ (y : ℕ). w ++ (y ∷ q.0)) (get_or-take S.jobs r.order k 0 m))

-- it may come next
pub next_of : {S : Sheet} {w : List ℕ} {r : Found} → Placing S w r → (k : ℕ) → length w ≡ k → k < S.jobs
    → ready S (part_of S w).placed (get_or r.order k 0) ≡ true
next_of {S} {w} {r} h k l m =
    let q = placed_at h k l m in
    next-ready S w (get_or r.order k 0) q.0
    (subst (λ (x : List ℕ). Order S x) (q.1 ∙ sym (append_assoc w (get_or r.order k 0 ∷ []) q.0)) h.lowest.is.order)

pub job_below : {S : Sheet} {w : List ℕ} {r : Found} → Placing S w r → (k : ℕ) → length w ≡ k → k < S.jobs → get_or r.order k 0 < S.jobs
job_below {S} {w} {r} h k l m = (ready_says S (part_of S w).placed (get_or r.order k 0) (next_of h k l m)).job

-- and where the word is longer by that job
pub named-at : (S : Sheet) (w : List ℕ) (j : ℕ) {r : Found} → Placing S (w ++ (j ∷ [])) r → (k : ℕ) → length w ≡ k → k < S.jobs
    → get_or r.order k 0 ≡ j
named-at S w j {r} h k l m =
    let b = h.begins in
    sym (get_or-take S.jobs r.order k 0 m)
    ∙ ap (λ (y : List ℕ). get_or y k 0) (b.1 ∙ append_assoc w (j ∷ []) b.0) ∙ get_or_at w j b.0 0 k l

-- ---- the last place

-- of two lists of one length, one comes first or they are the same
dictionary : (v o : List ℕ) → length v ≡ length o → (Before v o → ⊥) → DictionaryLe v o
dictionary [] o e h = tt
dictionary (b ∷ v) [] e h = absurd (omega arith)
dictionary (b ∷ v) (a ∷ o) e h = go (less-or-not b a) (dictionary v o (omega arith))
  where
    go : (b < a) ⊎ (a ≤ b) → ((Before v o → ⊥) → DictionaryLe v o) → (b < a) ⊎ ((b ≡ a) × DictionaryLe v o)
    go (inl l) r = inl l
    go (inr l) r = again (less-or-not a b)
      where
        again : (a < b) ⊎ (b ≤ a) → (b < a) ⊎ ((b ≡ a) × DictionaryLe v o)
        again (inl m) = absurd (h (inl m))
        again (inr m) = let q : a ≡ b = omega arith in inr (sym q, r (λ x. h (inr (q, x))))

pub placing_best : {S : Sheet} {w : List ℕ} {r : Found} → Placing S w r → length w ≡ S.jobs → TieRuled S r
placing_best {S} {w} {r} h l = record {
  best = record {
    order = h.lowest.is.order;
    early = λ o d. omega (arith, h.lowest.is.end, h.lowest.least o d);
    first = λ o d e. dictionary (take S.jobs r.order) o (omega (arith, h.lowest.is.order.all, d.all))
        (λ b. omega (arith, h.before o d (subst (λ (v : List ℕ). Before v o) same b), h.lowest.is.end, e));
  };
  end = sym h.lowest.is.end;
}
  where
    same : take S.jobs r.order ≡ w
    same = go h.begins
      where
        go : Begins w (take S.jobs r.order) → take S.jobs r.order ≡ w
        go ([], e) = e ∙ append-nil w
        go (x ∷ p, e) = absurd (omega (arith, ap length e, length-append w (x ∷ p), h.lowest.is.order.all))

-- nothing comes before the empty word
pub placing_first : {S : Sheet} {r : Found} → Lowest S r → Placing S [] r
placing_first {S} {r} h = record { lowest = h; begins = (take S.jobs r.order, refl); before = λ o d b. absurd b }

-- ---- a turn of the loop

-- k jobs of the order stand in their places
pub record Standing (t : Jobs) (prepared : Prepared) (part : Part) (best : Found) (memory : List ℕ) (k : ℕ) : Type 0 where
  pub inside : k ≤ count_of t
  pub going : Going t prepared part best.end memory
  pub count : part.placed ≡ k
  pub placing : Placing (sheet_of t) (word_of part) best

pub stands_first : {t : Jobs} {prepared : Prepared} {part : Part} {least : Found} {memory : List ℕ} → Fit t → Tabled t prepared → FirstPart t part
    → Lowest (sheet_of t) least → Remembered (sheet_of t) memory (suc least.end) → Standing t prepared part least memory 0
stands_first {t} {part = part} {least} fit tabled first h m = record {
  inside = zero-le;
  going = record { low = h.is.low; known = first_known t part fit first; tabled = tabled; remembered = m };
  count = first.placed;
  placing = rw (first_word t part fit first) (placing_first h);
}

module _ {t : Jobs} {prepared : Prepared} {part : Part} {best : Found} {memory : List ℕ} {k : ℕ}
    (h : Standing t prepared part best memory k) (l : k < count_of t) where
  pub stands_below : part.placed < count_of t
  stands_below = omega (arith, h.count)

  -- the job that is settled in the place may come next
  pub settled_next : {r : Found}
      → Placing (sheet_of t) (word_of part ++ (get_or r.order part.placed 0 ∷ [])) r
      → ready (sheet_of t) (theory_part t part).placed (get_or r.order k 0) ≡ true
  settled_next {r} q =
      let S = sheet_of t in
      let w = word_of part in
      let b = q.begins in
      subst (λ (n : ℕ). ready S (part_of S w).placed (get_or r.order n 0) ≡ true) h.count
      (next-ready S w (get_or r.order part.placed 0) b.0 (subst (λ (x : List ℕ). Order S x) b.1 q.lowest.is.order))

  pub stands_next : {r : Found} (memory' : List ℕ)
      → Placing (sheet_of t) (word_of part ++ (get_or r.order part.placed 0 ∷ [])) r
      → Remembered (sheet_of t) memory' (suc r.end) → {j : ℕ} → j ≡ get_or r.order k 0 → {next : Part}
      → Known t next → word_of next ≡ word_of part ++ (j ∷ []) → next.placed ≡ part.placed + 1
      → Standing t prepared next r memory' (k + 1)
  stands_next {r} memory' q m {j} e {next} known word placed = record {
    inside = omega arith;
    going = record { low = q.lowest.is.low; known = known; tabled = h.going.tabled; remembered = m };
    count = omega (arith, h.count);
    placing = subst (λ (v : List ℕ). Placing (sheet_of t) v r) same q;
  }
    where
      same : word_of part ++ (get_or r.order part.placed 0 ∷ []) ≡ word_of next
      same = ap (λ (x : ℕ). word_of part ++ (x ∷ [])) (ap (λ (n : ℕ). get_or r.order n 0) h.count ∙ sym e) ∙ sym word

pub stands_all : {t : Jobs} {prepared : Prepared} {part : Part} {best : Found} {memory : List ℕ} {k : ℕ} → Standing t prepared part best memory k
    → count_of t ≤ k → TieRuled (sheet_of t) best
stands_all h e = placing_best h.placing (omega (arith, word-length h.going.known, h.count, h.inside))
