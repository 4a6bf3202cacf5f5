-- Bundles of equal sections.
use Rattle.std.proofs.Common.{◌≡◌, ◌≤◌, ◌-◌, ◌++◌, ◌==◌, ◌∙◌, Bool, List, [], ◌∷◌, length, take, drop, refl, ap, sym}
use Rattle.std.specs.Prelude.{replicate, nat_eq}
use Rattle.std.specs.Cmp.Lexicographic.{pointwise}
use Rattle.std.proofs.lemmas.List.{map-append, take-append-drop}
use Rattle.std.proofs.Props.{props}
use mathlib.Core.HLevel.{is_prop→PathP}
use Rattle.market_units.specs.declared.units.SectionNo.{SectionNo}
use Rattle.bundle_rules.specs.declared.bundle.Bundle.{Bundle}
use Rattle.bundle_rules.specs.Sets.{IsAscending, IsAscending-prop}
use Rattle.bundle_rules.specs.Ordinals.{ordinals}
use Rattle.bundle_rules.specs.Bundles.{sections_of}
use Rattle.bundle_rules.proofs.Bundled.{length-sections_of}

-- to compare sections is to compare their ordinals
pub pointwise-ordinals : (test : SectionNo → SectionNo → Bool) → ((a b : SectionNo) → test a b ≡ (a.0 == b.0)) → (xs ys : List SectionNo)
    → pointwise test xs ys ≡ pointwise nat_eq (ordinals xs) (ordinals ys)
pointwise-ordinals test each [] [] = refl
pointwise-ordinals test each [] (y ∷ ys) = refl
pointwise-ordinals test each (x ∷ xs) [] = refl
pointwise-ordinals test each (x ∷ xs) (y ∷ ys) = rw (each x y, pointwise-ordinals test each xs ys) refl

same_ordinals : (xs ys : List SectionNo) → ordinals xs ≡ ordinals ys → xs ≡ ys
same_ordinals [] [] e = refl
same_ordinals [] (y ∷ ys) e = cc e
same_ordinals (x ∷ xs) [] e = cc e
same_ordinals (x ∷ xs) (y ∷ ys) e =
    let head : x.0 ≡ y.0 = cc in let rest : ordinals xs ≡ ordinals ys = cc in λ i. record { 0 = head i } ∷ same_ordinals xs ys rest i

-- what a bundle's room holds
room_of : (bundle : Bundle) → ordinals bundle.sections ≡ sections_of bundle ++ replicate (8 - bundle.len) 0
unfolding sections_of
room_of bundle =
    ap ordinals (sym (take-append-drop bundle.len bundle.sections))
    ∙ map-append (λ section. section.0) (take bundle.len bundle.sections) (drop bundle.len bundle.sections)
    ∙ ap (λ rest. ordinals (take bundle.len bundle.sections) ++ rest) bundle.padded

-- two bundles of equal sections are equal
pub same_bundle : (a b : Bundle) → sections_of a ≡ sections_of b → a ≡ b
same_bundle a b e =
    let lens : a.len ≡ b.len = sym (length-sections_of a) ∙ ap length e ∙ length-sections_of b in
    let rooms : a.sections ≡ b.sections =
    same_ordinals a.sections b.sections (
    room_of a
    ∙ ap (λ front. front ++ replicate (8 - a.len) 0) e
    ∙ ap (λ len. sections_of b ++ replicate (8 - len) 0) lens
    ∙ sym (room_of b)
    ) in
    λ i. record {
      sections = rooms i;
      len = lens i;
      whole = is_prop→PathP (λ j. length (rooms j) ≡ 8) (λ j. Prim.hlevel props) a.whole b.whole i;
      short = is_prop→PathP (λ j. lens j ≤ 8) (λ j. Prim.hlevel props) a.short b.short i;
      ascending =
          is_prop→PathP (λ j. IsAscending (ordinals (take (lens j) (rooms j)))) (λ j. IsAscending-prop (ordinals (take (lens j) (rooms j)))) a.ascending
          b.ascending i;
      padded = is_prop→PathP (λ j. ordinals (drop (lens j) (rooms j)) ≡ replicate (8 - lens j) 0) (λ j. Prim.hlevel props) a.padded b.padded i;
    }
