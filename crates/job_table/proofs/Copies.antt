-- The jobs of a reading copied into the table, job by job.
use mathlib.Core.Path.{◌≡◌, refl, subst, ◌∙◌}
use mathlib.Core.Logic.{◌⊎◌, inl, inr}
use mathlib.Core.List.{List}
use Prim.Native.Nat.{ℕ, zero, suc, ◌+◌, ◌≤◌, ◌<◌}
use native.Mathlib.Nat.{not-suc-le-zero}
use native.Mathlib.Numerals.{add-one}
use native.Mathlib.Omega.{arith}
use lib.ListN.{length, get_or, set, replicate, length-set, length-replicate}
use lib.Seq.{get_or-set_same, get_or-set_other}
use Rattle.counting.proofs.Tests.{last-or_below}
use Rattle.figures.specs.Figures.{most_jobs}
use Rattle.tables.specs.declared.Jobs.{Jobs}
use Rattle.tables.specs.Tables.{need_at, minutes_at, arrival_at, earlier_at, kept_at, count_of, modules_of, changeover_of}
use Rattle.sheet_format.specs.Format.{jobs_in}
use Rattle.sheet.specs.declared.Reading.{Reading}
use Rattle.job_table.specs.Table.{TableOf}

-- the first k places of a list say what g says
pub record Filled (list : List ℕ) (k : ℕ) (g : ℕ → ℕ) : Type 0 where
  pub size : length list ≡ most_jobs
  pub each : (j : ℕ) → j < k → get_or list j 0 ≡ g j

pub filled-none : (g : ℕ → ℕ) → Filled (replicate most_jobs 0) 0 g
filled-none g = record { size = length-replicate {A = ℕ} 20 0; each = λ j l. absurd (not-suc-le-zero l) }

pub filled_more : {list : List ℕ} {k : ℕ} {g : ℕ → ℕ} → Filled list k g → k < most_jobs → Filled (set list k (g k)) (k + 1) g
filled_more {list} {k} {g} h few = record { size = length-set list k (g k) ∙ h.size; each = λ j m. go j (last-or_below k j (omega (arith, m))) }
  where
    go : (j : ℕ) → (j ≡ k) ⊎ (j < k) → get_or (set list k (g k)) j 0 ≡ g j
    go j (inl e) = rw e (get_or-set_same list k (g k) 0 (omega (arith, h.size)))
    go j (inr b) = get_or-set_other list k j (g k) 0 (λ e. absurd (omega arith)) ∙ h.each j b

-- the table says of the first k jobs what the reading says
pub record Copied (r : Reading) (k : ℕ) (t : Jobs) : Type 0 where
  pub count : count_of t ≡ r.count
  pub modules : modules_of t ≡ r.modules
  pub changeover : changeover_of t ≡ r.changeover
  pub need : Filled t.need k (λ j. (jobs_in r.jobs j).modules)
  pub minutes : Filled t.minutes k (λ j. (jobs_in r.jobs j).minutes)
  pub arrival : Filled t.arrival k (λ j. (jobs_in r.jobs j).arrival)
  pub earlier : Filled t.earlier k (λ j. (jobs_in r.jobs j).earlier)
  pub kept : Filled t.kept k (λ j. (jobs_in r.jobs j).minutes + r.changeover)

-- the table of a reading before its jobs are copied, and with one job more
abbrev pub empty_table : Reading → Jobs
empty_table r = record {
  need = replicate most_jobs 0;
  minutes = replicate most_jobs 0;
  arrival = replicate most_jobs 0;
  earlier = replicate most_jobs 0;
  kept = replicate most_jobs 0;
  count = r.count;
  modules = r.modules;
  changeover = r.changeover;
}

abbrev pub with_job : Reading → ℕ → Jobs → Jobs
with_job r k t = record {
  need = set t.need k (jobs_in r.jobs k).modules;
  minutes = set t.minutes k (jobs_in r.jobs k).minutes;
  arrival = set t.arrival k (jobs_in r.jobs k).arrival;
  earlier = set t.earlier k (jobs_in r.jobs k).earlier;
  kept = set t.kept k ((jobs_in r.jobs k).minutes + r.changeover);
  count = t.count;
  modules = t.modules;
  changeover = t.changeover;
}

pub none_copied : (r : Reading) → Copied r 0 (empty_table r)
none_copied r = record {
  count = refl;
  modules = refl;
  changeover = refl;
  need = filled-none _;
  minutes = filled-none _;
  arrival = filled-none _;
  earlier = filled-none _;
  kept = filled-none _;
}

pub copied_more : {r : Reading} {k : ℕ} {t : Jobs} → Copied r k t → k < most_jobs → Copied r (k + 1) (with_job r k t)
copied_more h few = record {
  count = h.count;
  modules = h.modules;
  changeover = h.changeover;
  need = filled_more h.need few;
  minutes = filled_more h.minutes few;
  arrival = filled_more h.arrival few;
  earlier = filled_more h.earlier few;
  kept = filled_more h.kept few;
}

pub all_copied : {r : Reading} {t : Jobs} → Copied r r.count t → TableOf r t
all_copied h = record {
  count = h.count;
  modules = h.modules;
  changeover = h.changeover;
  need = h.need.each;
  minutes = h.minutes.each;
  arrival = h.arrival.each;
  earlier = h.earlier.each;
  kept = h.kept.each;
}

-- ---- every reading has a table

made : (r : Reading) (k : ℕ) → k ≤ most_jobs → (t : Jobs) × Copied r k t
made r zero l = (empty_table r, none_copied r)
made r (suc k) l =
    let m = made r k (omega arith) in
    (with_job r k m.0, subst (λ (n : ℕ). Copied r n (with_job r k m.0)) (add-one k) (copied_more m.1 (omega arith)))

pub has-table : (r : Reading) → r.count ≤ most_jobs → (t : Jobs) × TableOf r t
has-table r few = let m = made r r.count few in (m.0, all_copied m.1)
