-- `desk::Desk::ok` meets its contract: the parts of the test in turn.
use mathlib.Core.Path.{◌≡◌, refl}
use mathlib.Core.Bool.{true, false}
use borrow.Author.Rules.{rules}
use Rattle.counting.specs.Counting.{every}
use Rattle.desk.specs.Desk.{most_power, fewest_controllers, most_controllers}
use Rattle.desk.specs.Checks.{in_range, full_lists, place_ok_at, desk_ok}
use Rattle.desk.proofs.Sound.{full}
use Rattle.desk.proofs.Desk.ok.Goals.{then-in_range, else-in_range, then-in_range-2, else-in_range-2}
use Rattle.desk.proofs.Desk.ok.Goals as goal

pub returns-then-places_ok : goal.returns-then-places_ok
unfolding desk_ok
returns-then-places_ok c =
    let lists : full_lists c.args.self ≡ true = full c.args.self (record { held = search rules; assured = search rules; ceiling = search rules }) in
    elim c.if-in_range-2.branch [
      | then-in_range-2 w ↦ elim c.if-in_range.branch [
        | then-in_range v ↦
            let a : in_range fewest_controllers most_controllers c.args.self.count ≡ true = cc in
            let b : in_range 1 most_power c.args.self.limit ≡ true = cc in
            let p : every most_controllers (place_ok_at c.args.self) ≡ true = cc in
            rw (lists, a, b, p, c.reserved_in_all.ensures) refl
        | else-in_range v ↦ absurd cc
      ]
      | else-in_range-2 w ↦ absurd cc
    ]

pub returns-else-places_ok : goal.returns-else-places_ok
unfolding desk_ok
returns-else-places_ok c =
    let lists : full_lists c.args.self ≡ true = full c.args.self (record { held = search rules; assured = search rules; ceiling = search rules }) in
    elim c.if-in_range-2.branch [
      | then-in_range-2 w ↦ elim c.if-in_range.branch [
        | then-in_range v ↦
            let a : in_range fewest_controllers most_controllers c.args.self.count ≡ true = cc in
            let b : in_range 1 most_power c.args.self.limit ≡ true = cc in
            let p : every most_controllers (place_ok_at c.args.self) ≡ false = cc in
            rw (lists, a, b, p, c.if-places_ok.false) refl
        | else-in_range v ↦ absurd cc
      ]
      | else-in_range-2 w ↦ elim c.if-in_range.branch [
        | then-in_range v ↦
            let a : in_range fewest_controllers most_controllers c.args.self.count ≡ true = cc in
            let b : in_range 1 most_power c.args.self.limit ≡ false = cc in
            rw (lists, a, b, c.if-places_ok.false) refl
        | else-in_range v ↦
            let a : in_range fewest_controllers most_controllers c.args.self.count ≡ false = cc in
            rw (lists, a, c.if-places_ok.false) refl
      ]
    ]
