-- Laws of the places of a list of fixed length.
use mathlib.Core.Path.{◌≡◌, refl, sym, ap, ◌∙◌}
use mathlib.Core.List.{List, [], ◌∷◌, ◌++◌, append_assoc}
use Prim.Native.Nat.{ℕ, suc, ◌+◌, ◌-◌, ◌≤◌, ◌<◌}
use native.Mathlib.Numerals.{add-one}
use native.Mathlib.Omega.{arith}
use lib.ListN.{length, get_or, set, replicate, length-append, length-replicate}
use lib.Seq.{set_at, get_or_at}
use Rattle.counting.specs.Counting.{joined}
use Rattle.counting.proofs.Joins.{joined_length, joined_same, joined_split}
use Rattle.sheet_format.specs.declared.Job.{Job}
use Rattle.sheet_format.specs.Figures.{most_jobs}
use Rattle.sheet_format.specs.Format.{no_job, jobs_in, places}

-- one job more in its place
pub place_more : (n : ℕ) (jobs : ℕ → Job) → n < most_jobs → set (places n jobs) n (jobs n) ≡ places (n + 1) jobs
unfolding places joined
place_more n jobs l =
    let len : length (joined n (λ i. jobs i ∷ [])) ≡ n = joined_length n 1 (λ i. jobs i ∷ []) (λ i l. refl) ∙ omega arith in
    let first : most_jobs - n ≡ suc (most_jobs - (n + 1)) = omega arith in
    rw (first, add-one)
    (set_at (joined n (λ i. jobs i ∷ [])) no_job (replicate (most_jobs - suc n) no_job) (jobs n) n len
    ∙ sym (append_assoc (joined n (λ i. jobs i ∷ [])) (jobs n ∷ []) (replicate (most_jobs - suc n) no_job)))

pub length-places : (n : ℕ) (jobs : ℕ → Job) → n ≤ most_jobs → length (places n jobs) ≡ most_jobs
unfolding places
length-places n jobs l =
    length-append (joined n (λ i. jobs i ∷ [])) (replicate (most_jobs - n) no_job)
    ∙ omega (arith, joined_length n 1 (λ i. jobs i ∷ []) (λ i l. refl), length-replicate (most_jobs - n) no_job)

-- the job in place i
pub job_in-place : (n : ℕ) (jobs : ℕ → Job) (i : ℕ) → i < n → jobs_in (places n jobs) i ≡ jobs i
unfolding places
job_in-place n jobs i l =
    let one : ℕ → List Job = λ k. jobs k ∷ [] in
    let r = joined_split n one i l in
    let past : List Job = replicate (most_jobs - n) no_job in
    ap (λ (x : List Job). get_or (x ++ past) i no_job) r.1
    ∙ ap (λ (x : List Job). get_or x i no_job) (append_assoc (joined i one) (jobs i ∷ r.0) past)
    ∙ get_or_at (joined i one) (jobs i) (r.0 ++ past) no_job i (joined_length i 1 one (λ k l. refl) ∙ omega arith)

pub places_same : (n : ℕ) (f g : ℕ → Job) → ((i : ℕ) → i < n → f i ≡ g i) → places n f ≡ places n g
unfolding places
places_same n f g h =
    ap (λ (l : List Job). l ++ replicate (most_jobs - n) no_job)
    (joined_same n (λ i. f i ∷ []) (λ i. g i ∷ []) (λ i l. ap (λ (j : Job). j ∷ []) (h i l)))
