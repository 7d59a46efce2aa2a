-- `runner::check_start` meets its contract: the checks in turn.
use mathlib.Core.Path.{◌≡◌, refl, sym, ap, ◌∙◌}
use mathlib.Core.Bool.{Bool, true, false}
use Rattle.checking.specs.Checking.{first_failing}
use Rattle.desk.specs.declared.Looked.{Looked}
use Rattle.desk.specs.Checks.{in_range, not_of_desk}
use Rattle.desk.proofs.Sound.{range_says, of-desk_says}
use Rattle.runner.specs.Runner.{largest_size}
use Rattle.runner.proofs.Passes.{look-refused, look-granted}
use Rattle.runner.proofs.check_start.Goals as goal

pub returns-then-look-ne0 : goal.returns-then-look-ne0
unfolding first_failing
returns-then-look-ne0 c = rw (look-refused c.args.desk c.args.controller (λ z. c.if-look-ne0.true (ap (λ (r : Looked). r.refusal) c.look.ensures ∙ z))) refl

pub returns-then-not-size_ok : goal.returns-then-not-size_ok
unfolding first_failing
returns-then-not-size_ok c =
    let of-desk : not_of_desk c.args.desk c.args.controller ≡ false = look-granted _ _ (ap (λ (r : Looked). r.refusal) (sym c.look.ensures) ∙ c.if-look-ne0.false) in
    let sized : (b : Bool) → c.size_ok.result ≡ b
    → in_range 1 largest_size c.args.size ≡ b = λ b e. sym c.size_ok.ensures ∙ e in
    rw (of-desk, sized false (c.if-not-size_ok.true)) refl

pub not_ready-requires : goal.not_ready-requires
not_ready-requires c =
    let of-desk : not_of_desk c.args.desk c.args.controller ≡ false = look-granted _ _ (ap (λ (r : Looked). r.refusal) (sym c.look.ensures) ∙ c.if-look-ne0.false) in
    let sized : (b : Bool) → c.size_ok.result ≡ b
    → in_range 1 largest_size c.args.size ≡ b = λ b e. sym c.size_ok.ensures ∙ e in
    let d = of-desk_says _ _ of-desk in
    (c.requires, ((range_says 1 largest_size _ (sized true (c.if-not-size_ok.false))).most, d.inside))

pub returns-then-not_ready : goal.returns-then-not_ready
unfolding first_failing
returns-then-not_ready c =
    let of-desk : not_of_desk c.args.desk c.args.controller ≡ false = look-granted _ _ (ap (λ (r : Looked). r.refusal) (sym c.look.ensures) ∙ c.if-look-ne0.false) in
    let sized : (b : Bool) → c.size_ok.result ≡ b
    → in_range 1 largest_size c.args.size ≡ b = λ b e. sym c.size_ok.ensures ∙ e in
    rw (of-desk, sized true (c.if-not-size_ok.false), sym c.not_ready.ensures ∙ c.if-not_ready.true) refl

pub returns-then-not-fits : goal.returns-then-not-fits
unfolding first_failing
returns-then-not-fits c =
    let of-desk : not_of_desk c.args.desk c.args.controller ≡ false = look-granted _ _ (ap (λ (r : Looked). r.refusal) (sym c.look.ensures) ∙ c.if-look-ne0.false) in
    let sized : (b : Bool) → c.size_ok.result ≡ b
    → in_range 1 largest_size c.args.size ≡ b = λ b e. sym c.size_ok.ensures ∙ e in
    rw (
      of-desk,
      sized true (c.if-not-size_ok.false),
      sym c.not_ready.ensures ∙ c.if-not_ready.false,
      sym c.fits.ensures ∙ c.if-not-fits.true,
    ) refl

pub returns : goal.returns
unfolding first_failing
returns c =
    let of-desk : not_of_desk c.args.desk c.args.controller ≡ false = look-granted _ _ (ap (λ (r : Looked). r.refusal) (sym c.look.ensures) ∙ c.if-look-ne0.false) in
    let sized : (b : Bool) → c.size_ok.result ≡ b
    → in_range 1 largest_size c.args.size ≡ b = λ b e. sym c.size_ok.ensures ∙ e in
    rw (
      of-desk,
      sized true (c.if-not-size_ok.false),
      sym c.not_ready.ensures ∙ c.if-not_ready.false,
      sym c.fits.ensures ∙ c.if-not-fits.false,
    ) refl
