-- `runner::test_kept` meets its contract.
use mathlib.Core.Path.{◌≡◌, sym, ◌∙◌}
use mathlib.Core.Bool.{true, ◌&&◌}
use native.Mathlib.Omega.{arith}
use lib.ListN.{length}
use lib.Seq.{length-take-le}
use Rattle.sheet_format.specs.Figures.{longest_sheet}
use Rattle.runner.specs.Runner.{longest_card, zeros_behind}
use Rattle.runner.proofs.Keeps.{not_whole, sheet-inside, card-inside, not_planable, ready, tested}
use borrow.Author.Rules.{rules}
use Rattle.runner.proofs.test_kept.Goals as goal

pub returns-then-not-places_ok : goal.returns-then-not-places_ok
returns-then-not-places_ok c = not_whole c.args.runner (sym c.places_ok.ensures ∙ c.if-not-places_ok.true)

pub slice_bounds-sheet-end : goal.slice_bounds-sheet-end
slice_bounds-sheet-end c =
    let sheet-places : length c.args.runner.sheet ≡ longest_sheet = search rules in
    let whole : (zeros_behind longest_sheet c.args.runner.sheet_len c.args.runner.sheet
    && zeros_behind longest_card c.args.runner.card_len c.args.runner.card)
    ≡ true = sym c.places_ok.ensures ∙ c.if-not-places_ok.false in
    omega (arith, sheet-places, sheet-inside c.args.runner whole)

pub slice_bounds-front-end : goal.slice_bounds-front-end
slice_bounds-front-end c =
    let sheet-places : length c.args.runner.sheet ≡ longest_sheet = search rules in
    let whole : (zeros_behind longest_sheet c.args.runner.sheet_len c.args.runner.sheet
    && zeros_behind longest_card c.args.runner.card_len c.args.runner.card)
    ≡ true = sym c.places_ok.ensures ∙ c.if-not-places_ok.false in
    sym (length-take-le _ c.args.runner.sheet (omega (arith, sheet-places, sheet-inside c.args.runner whole)))

pub slice_bounds-card-end : goal.slice_bounds-card-end
slice_bounds-card-end c =
    let card-places : length c.args.runner.card ≡ longest_card = search rules in
    let whole : (zeros_behind longest_sheet c.args.runner.sheet_len c.args.runner.sheet
    && zeros_behind longest_card c.args.runner.card_len c.args.runner.card)
    ≡ true = sym c.places_ok.ensures ∙ c.if-not-places_ok.false in
    omega (arith, card-places, card-inside c.args.runner whole)

pub slice_bounds-kept_fits-end : goal.slice_bounds-kept_fits-end
slice_bounds-kept_fits-end c =
    let card-places : length c.args.runner.card ≡ longest_card = search rules in
    let whole : (zeros_behind longest_sheet c.args.runner.sheet_len c.args.runner.sheet
    && zeros_behind longest_card c.args.runner.card_len c.args.runner.card)
    ≡ true = sym c.places_ok.ensures ∙ c.if-not-places_ok.false in
    sym (length-take-le _ c.args.runner.card (omega (arith, card-places, card-inside c.args.runner whole)))

pub kept_fits-requires : goal.kept_fits-requires
kept_fits-requires c =
    let whole : (zeros_behind longest_sheet c.args.runner.sheet_len c.args.runner.sheet
    && zeros_behind longest_card c.args.runner.card_len c.args.runner.card)
    ≡ true = sym c.places_ok.ensures ∙ c.if-not-places_ok.false in
    (ready c.args.runner whole c.in-Ok.jobs c.in-Ok.ensures).fit

pub returns-then-kept_fits : goal.returns-then-kept_fits
returns-then-kept_fits c =
    let whole : (zeros_behind longest_sheet c.args.runner.sheet_len c.args.runner.sheet
    && zeros_behind longest_card c.args.runner.card_len c.args.runner.card)
    ≡ true = sym c.places_ok.ensures ∙ c.if-not-places_ok.false in
    (tested c.args.runner whole c.in-Ok.jobs c.in-Ok.ensures c.kept_fits.result c.kept_fits.ensures ∙ c.if-kept_fits.true, c.in-Ok.ensures.table)

pub returns-else-kept_fits : goal.returns-else-kept_fits
returns-else-kept_fits c =
    let whole : (zeros_behind longest_sheet c.args.runner.sheet_len c.args.runner.sheet
    && zeros_behind longest_card c.args.runner.card_len c.args.runner.card)
    ≡ true = sym c.places_ok.ensures ∙ c.if-not-places_ok.false in
    tested c.args.runner whole c.in-Ok.jobs c.in-Ok.ensures c.kept_fits.result c.kept_fits.ensures ∙ c.if-kept_fits.false

pub returns-in-Err : goal.returns-in-Err
returns-in-Err c =
    let whole : (zeros_behind longest_sheet c.args.runner.sheet_len c.args.runner.sheet
    && zeros_behind longest_card c.args.runner.card_len c.args.runner.card)
    ≡ true = sym c.places_ok.ensures ∙ c.if-not-places_ok.false in
    not_planable c.args.runner whole _ c.in-Err.ensures
