use Rattle.std.proofs.Common.{◌≡◌, take, map, length}
use Rattle.bundle_rules.specs.Menus.{place_in}
use Rattle.bundle_rules.specs.Ordinals.{ordinals}
use Rattle.bundle_rules.proofs.place_list.Places.of.Given as goal

abbrev pub invariant-loop-i : goal.invariant-loop-i
invariant-loop-i l = record {
  room : length l.places ≡ 8;
  placed : take l.i l.places ≡ map (place_in l.menu.places) (ordinals (take l.i l.section-items));
}
