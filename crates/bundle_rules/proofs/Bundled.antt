-- Bundles as sets of sections.
use Rattle.std.proofs.Common.{◌≡◌, ◌<◌, ◌≤◌, ◌+◌, ◌-◌, ◌++◌, ℕ, List, [], ◌∷◌, length, take, drop, arith, ap, sym, ◌∙◌}
use Rattle.std.specs.Prelude.{replicate, slice_set}
use Rattle.std.proofs.lemmas.List.{take_more_set, drop-set-lt, map-append, length-take-le, length-map, drop-drop, drop-map, drop-replicate}
use Rattle.market_units.specs.declared.units.SectionNo.{SectionNo}
use Rattle.bundle_rules.specs.declared.bundle.Bundle.{Bundle}
use Rattle.bundle_rules.specs.Ordinals.{ordinals, IsBundle}
use Rattle.bundle_rules.specs.Bundles.{sections_of}

-- a bundle has at most 8 sections, ascending
pub sections_of-IsBundle : (bundle : Bundle) → IsBundle (sections_of bundle)
unfolding sections_of
sections_of-IsBundle bundle =
    let whole : length bundle.sections ≡ 8 = bundle.whole in
    let short : bundle.len ≤ 8 = bundle.short in
    let front : length (take bundle.len bundle.sections) ≡ bundle.len = length-take-le bundle.len bundle.sections (omega arith) in
    let same : length (ordinals (take bundle.len bundle.sections)) ≡ length (take bundle.len bundle.sections) =
    length-map (take bundle.len bundle.sections) (λ section. section.0) in
    record { few = omega arith; ascending = bundle.ascending }

-- how many sections a bundle has
pub length-sections_of : (bundle : Bundle) → length (sections_of bundle) ≡ bundle.len
unfolding sections_of
length-sections_of bundle =
    let whole : length bundle.sections ≡ 8 = bundle.whole in
    let short : bundle.len ≤ 8 = bundle.short in
    length-map (take bundle.len bundle.sections) (λ section. section.0) ∙ length-take-le bundle.len bundle.sections (omega arith)

-- the ordinals after one more section was put in
pub ordinals-put : (sections : List SectionNo) (len i : ℕ) (section : SectionNo) → i ≡ len → len < length sections
    → ordinals (take (len + 1) (slice_set sections i section)) ≡ ordinals (take len sections) ++ section.0 ∷ []
ordinals-put sections len i section at low =
    rw at (ap ordinals (take_more_set sections len section low) ∙ map-append (λ section. section.0) (take len sections) (section ∷ []))

-- and what stands past it
pub padding-put : (sections : List SectionNo) (len i : ℕ) (section : SectionNo) → i ≡ len → len < 8 → ordinals (drop len sections) ≡ replicate (8 - len) 0
    → ordinals (drop (len + 1) (slice_set sections i section)) ≡ replicate (8 - (len + 1)) 0
padding-put sections len i section at low zeros =
    let after : ordinals (drop (len + 1) (slice_set sections i section)) ≡ ordinals (drop (len + 1) sections) =
    ap ordinals (drop-set-lt (len + 1) sections i section (omega arith)) in
    let split : drop (len + 1) sections ≡ drop 1 (drop len sections) = sym (drop-drop 1 len sections) in
    let fewer : (8 - len) - 1 ≡ 8 - (len + 1) = omega arith in
    after
    ∙ ap ordinals split
    ∙ sym (drop-map (λ section. section.0) 1 (drop len sections))
    ∙ ap (λ zs. drop 1 zs) zeros
    ∙ drop-replicate 1 (8 - len) 0
    ∙ ap (λ n. replicate n 0) fewer
