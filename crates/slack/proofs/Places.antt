-- Laws of the entries' places.
use mathlib.Core.Path.{◌≡◌, refl, sym, ap, ◌∙◌}
use mathlib.Core.List.{List, [], ◌∷◌, ◌++◌, append_assoc}
use Prim.Native.Nat.{ℕ, suc, ◌+◌, ◌-◌, ◌<◌}
use native.Mathlib.Numerals.{add-one}
use native.Mathlib.Omega.{arith}
use lib.ListN.{length, get_or, set, replicate}
use lib.Seq.{set_at, get_or_at}
use Rattle.figures.specs.Figures.{most_jobs}
use Rattle.counting.specs.Counting.{joined}
use Rattle.counting.proofs.Joins.{joined_length, joined_same, joined_split}
use Rattle.slack.specs.declared.JobSlack.{JobSlack}
use Rattle.slack.specs.Slack.{no_slack, slack_places}

module _ (entry : ℕ → JobSlack) where
  one : ℕ → List JobSlack
  one j = entry j ∷ []

  front : (n : ℕ) → length (joined n one) ≡ n
  unfolding one
  front n = joined_length n 1 one (λ j l. refl) ∙ omega arith

  pub places-none : replicate most_jobs no_slack ≡ slack_places 0 entry
  unfolding slack_places joined
  places-none = refl

  -- one entry more in its place
  pub places_more : (n : ℕ) → n < most_jobs → set (slack_places n entry) n (entry n) ≡ slack_places (n + 1) entry
  unfolding slack_places joined one
  places_more n l =
      let first : most_jobs - n ≡ suc (most_jobs - (n + 1)) = omega arith in
      rw (first, add-one)
      (set_at (joined n one) no_slack (replicate (most_jobs - suc n) no_slack) (entry n) n (front n)
      ∙ sym (append_assoc (joined n one) (one n) (replicate (most_jobs - suc n) no_slack)))

  -- the entry in place j
  pub place_at : (n j : ℕ) → j < n → get_or (slack_places n entry) j no_slack ≡ entry j
  unfolding slack_places one
  place_at n j l =
      let r = joined_split n one j l in
      let past : List JobSlack = replicate (most_jobs - n) no_slack in
      ap (λ (x : List JobSlack). get_or (x ++ past) j no_slack) r.1
      ∙ ap (λ (x : List JobSlack). get_or x j no_slack) (append_assoc (joined j one) (one j ++ r.0) past)
      ∙ get_or_at (joined j one) (entry j) (r.0 ++ past) no_slack j (front j)

pub places_same : (n : ℕ) (f g : ℕ → JobSlack) → ((j : ℕ) → j < n → f j ≡ g j) → slack_places n f ≡ slack_places n g
unfolding slack_places
places_same n f g h =
    ap (λ (l : List JobSlack). l ++ replicate (most_jobs - n) no_slack)
    (joined_same n (λ j. f j ∷ []) (λ j. g j ∷ []) (λ j l. ap (λ (e : JobSlack). e ∷ []) (h j l)))
