-- `opening::check_opening` meets its contract: the checks in turn.
use mathlib.Core.Path.{refl, sym, ◌∙◌}
use borrow.Author.Tests.{lt-ltb, le-ltb}
use Rattle.checking.specs.Checking.{first_failing}
use Rattle.desk.specs.Checks.{shares_exceed}
use Rattle.desk.specs.Calls.{open_refusal}
use Rattle.desk.proofs.Grants.{lengths_say, figures_small}
use Rattle.opening.proofs.check_opening.Goals as goal

pub returns-then-wrong_lengths : goal.returns-then-wrong_lengths
unfolding open_refusal first_failing
returns-then-wrong_lengths c = rw (← c.wrong_lengths.ensures, c.if-wrong_lengths.true) refl

pub wrong_figures-requires : goal.wrong_figures-requires
wrong_figures-requires c = (lengths_say _ _ (sym c.wrong_lengths.ensures ∙ c.if-wrong_lengths.false)).0

pub returns-then-wrong_figures : goal.returns-then-wrong_figures
unfolding open_refusal first_failing
returns-then-wrong_figures c =
    rw (← c.wrong_lengths.ensures, c.if-wrong_lengths.false, ← c.wrong_figures.ensures, c.if-wrong_figures.true) refl

pub shares_in_all-requires : goal.shares_in_all-requires
shares_in_all-requires c =
    let few = (lengths_say _ _ (sym c.wrong_lengths.ensures ∙ c.if-wrong_lengths.false)).1 in
    (few.most, figures_small _ _ _ (sym c.wrong_figures.ensures ∙ c.if-wrong_figures.false))

pub returns-then-limit-shares_in_all : goal.returns-then-limit-shares_in_all
unfolding open_refusal first_failing shares_exceed
returns-then-limit-shares_in_all c =
    rw (
      ← c.wrong_lengths.ensures,
      c.if-wrong_lengths.false,
      ← c.wrong_figures.ensures,
      c.if-wrong_figures.false,
      ← c.shares_in_all.ensures,
      lt-ltb _ _ c.if-limit-shares_in_all.true,
    ) refl

pub returns : goal.returns
unfolding open_refusal first_failing shares_exceed
returns c =
    rw (
      ← c.wrong_lengths.ensures,
      c.if-wrong_lengths.false,
      ← c.wrong_figures.ensures,
      c.if-wrong_figures.false,
      ← c.shares_in_all.ensures,
      le-ltb _ _ c.if-limit-shares_in_all.false,
    ) refl
