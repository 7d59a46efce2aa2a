-- What a call with a limit answers and leaves in the lent bytes, in each case.
use mathlib.Core.Path.{◌≡◌, refl, sym, ap, ap₂, ◌∙◌}
use mathlib.Core.Bool.{Bool, true, false}
use mathlib.Core.List.{List, ◌++◌}
use Prim.Native.Nat.{ℕ, ◌≤◌}
use native.Mathlib.Omega.{arith}
use lib.Dec.{ltb}
use lib.ListN.{length, drop, take, replicate}
use Rattle.schedule.specs.Plan.{Sheet}
use Rattle.schedule.proofs.Same.{SameJobs, same_back, order_same, end_same, best_same}
use Rattle.tables.specs.declared.Jobs.{Jobs}
use Rattle.tables.specs.Tables.{sheet_of, count_of}
use Rattle.card.specs.Card.{card_size, card_of}
use Rattle.std.specs.Prelude.{Ok}
use Rattle.planable.specs.Planable.{sheet_in, work_after}
use Rattle.planable.specs.Results.{CheckedOf}
use Rattle.planner.specs.Planning.{plan_refusal, memory_after}
use Rattle.planner.proofs.Cards.{card_same}
use Rattle.planner.proofs.Calls.{Given, ready, none}
use Rattle.search.specs.declared.Within.{Within}
use Rattle.search.specs.Search.{no_limit, WithinLimit}
use Rattle.limited.specs.declared.Limited.{Limited}
use Rattle.limited.specs.Limited.{refused_with, mark_of, LimitedCard}

-- what a call gives and leaves
abbrev pub Gives : List ℕ → List ℕ → List ℕ → List ℕ → List ℕ → ℕ → Limited → Type 0
Gives s card work card' work' limit r =
    (¬ (plan_refusal s (length card) ≡ 0) → (r ≡ refused_with (plan_refusal s (length card))) × (card' ≡ card))
    × ((plan_refusal s (length card) ≡ 0 → LimitedCard (sheet_in s) card card' limit r) × (work' ≡ memory_after s (length card) work))

-- ---- refused

-- what the checks say is what planning says
pub refused-gives : (s card work : List ℕ) (k limit : ℕ) {r : Limited} → Given s card work k card work → (k ≡ 0 → ⊥) → r ≡ refused_with k
    → Gives s card work card work limit r
refused-gives s card work k limit g n e = (
  λ m. (e ∙ ap refused_with g.0, refl),
  (λ z. absurd (n (g.0 ∙ z)), g.1.1),
)

-- ---- written

mark_exact : (b : Bool) → mark_of b ≡ 1 → b ≡ true
mark_exact true e = refl
mark_exact false e = absurd (omega (arith, e))

mark_low : (b : Bool) → mark_of b ≤ 1
mark_low true = omega arith
mark_low false = omega arith

-- the card of what the search gives within the limit
pub within-written : {T : Sheet} {card after : List ℕ} {limit : ℕ} (r : Within) → WithinLimit T r → (limit ≡ no_limit → r.exact ≡ true)
    → after ≡ card_of T (take T.jobs r.order) ++ drop (card_size T.jobs) card
    → LimitedCard T card after limit (record { refusal = 0; end = r.end; bound = r.bound; exact = mark_of r.exact })
within-written {T} r h unlimited written = (
  take T.jobs r.order,
  record {
    refusal = refl;
    order = h.order;
    written = written;
    end = sym h.end;
    bound = h.bound;
    exact = λ e. h.exact (mark_exact r.exact e);
    mark = mark_low r.exact;
    unlimited = λ e. ap mark_of (unlimited e);
  },
)

-- of two sheets that say the same of every job
written_same : {S T : Sheet} → SameJobs S T → {card after : List ℕ} {limit : ℕ} {r : Limited} → LimitedCard S card after limit r
    → LimitedCard T card after limit r
written_same {S} {T} h {card} (o, w) = (
  o,
  record {
    refusal = w.refusal;
    order = order_same h o w.order;
    written = w.written
        ∙ ap₂ (λ (c : List ℕ) (n : ℕ). c ++ drop (card_size n) card) (card_same h o w.order) h.jobs;
    end = w.end ∙ end_same h o w.order;
    bound = λ p d. let q = order_same (same_back h) p d in omega (arith, w.bound p q, end_same h p q);
    exact = λ e. best_same h o (w.exact e);
    mark = w.mark;
    unlimited = w.unlimited;
  },
)

-- ---- answered

module _ (s card work : List ℕ) (t : Jobs) (f : CheckedOf s (Ok t))
    (l : ltb (length card) (card_size (count_of t)) ≡ false) where
  pub answered-gives : {card' : List ℕ} (work' : List ℕ) {limit : ℕ} {answer : Limited}
      → LimitedCard (sheet_of t) card card' limit answer → work' ≡ replicate (length work) 0
      → Gives s card work card' work' limit answer
  unfolding work_after
  answered-gives work' w cleared =
      let passes = none s card work t f l in (
        λ m. absurd (m passes),
        (λ e. written_same (ready s card work t f).same w, cleared ∙ rw passes refl),
      )
