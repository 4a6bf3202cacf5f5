use Rattle.bundle_rules.proofs.RankedWords.{IsWordTo}
use Rattle.market_menus.proofs.WordBits.{AreToldOf, clash_at}
use Rattle.market_menus.proofs.clashes.clashes_of.Given as goal

abbrev pub invariant-loop-place : goal.invariant-loop-place
invariant-loop-place l =
    AreToldOf (clash_at l.places.catalog.now.sections l.places.rated.now) l.words.items l.place 0

abbrev pub invariant-loop-earlier : goal.invariant-loop-earlier
invariant-loop-earlier l = record {
  words : AreToldOf (clash_at l.places.catalog.now.sections l.places.rated.now) l.words.items l.place l.earlier;
  own : IsWordTo (clash_at l.places.catalog.now.sections l.places.rated.now l.place) l.word l.earlier;
}
