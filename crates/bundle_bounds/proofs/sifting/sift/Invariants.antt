use Rattle.std.proofs.Common.{◌≡◌, ◌<◌, ◌≤◌, ◌+◌, ◌++◌, ◌∷◌, [], ℕ, List, true, length, drop}
use Rattle.std.specs.Prelude.{All, filter}
use Rattle.std.specs.List.{AllByRecursion}
use Rattle.bundle_bounds.specs.declared.prospects.Prospect.{Prospect}
use Rattle.bundle_bounds.specs.Views.{data_of}
use Rattle.bundle_bounds.specs.Opens.{is_open, prospects}
use Rattle.bundle_bounds.specs.Modest.{IsModest}
use Rattle.bundle_bounds.proofs.sifting.sift.Given as goal

-- those from this one on that stay open are written
abbrev pub invariant-loop-index : goal.invariant-loop-index
invariant-loop-index l = record {
  whole : length l.room ≡ 60;
  within : l.start ≤ 60;
  space : 60 + l.index ≤ l.start + length l.all.list.now;
  value : (before others : List ℕ) → l.wider.chosen.places.now ≡ before ++ l.wider.last ∷ []
      → AllByRecursion (λ other. is_open (data_of l.wider.chosen.offer.now) before other ≡ true) others
      → l.all.list.now ≡ prospects (data_of l.wider.chosen.offer.now) before others
      → drop l.start l.room
      ≡ prospects (data_of l.wider.chosen.offer.now) l.wider.chosen.places.now (filter (is_open (data_of l.wider.chosen.offer.now) l.wider.chosen.places.now) (drop l.index others));
  modest : All IsModest (drop l.start l.room);
  on_menu : All (λ (other : Prospect). other.place < length l.wider.chosen.offer.now.menu.now.places) (drop l.start l.room);
}
