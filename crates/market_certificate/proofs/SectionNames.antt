-- Names of sections in a row, one more of them.
use Rattle.std.proofs.Common.{ℕ, ◌≡◌, ◌==◌, ◌+◌, ◌<◌, List, [], ◌∷◌, ◌++◌, cond, length, map, take, get_or, ap, sym, ◌∙◌}
use Rattle.std.specs.List.{join_with_byte}
use Rattle.std.proofs.lemmas.List.{get_or-map}
use Rattle.course_catalog.specs.Sections.{Section, no_section, section_at, section_names}
use Rattle.market_certificate.specs.Tables.{name_at}
use Rattle.market_certificate.proofs.Joins.{bundle_more}
use Rattle.market_units.specs.declared.units.SectionNo.{SectionNo}

-- the name of a section is that of its place
pub section_name : (sections : List Section) (s : ℕ) → s < length sections → (section_at sections s).name ≡ name_at (section_names sections) s
section_name sections s inside = sym (get_or-map (λ (section : Section). section.name) sections s no_section [] inside)

-- the names of a bundle's sections, one more
pub section_more : (sections : List Section) (items : List SectionNo) (bundle : List ℕ) (k : ℕ) (section : SectionNo) (begun text comma new name : List ℕ)
    → map (λ (s : SectionNo). s.0) items ≡ bundle → k < length items → section ≡ get_or items k section
    → section.0 < length sections → text ≡ begun ++ join_with_byte 44 (map (name_at (section_names sections)) (take k bundle))
    → comma ≡ text ++ cond (k == 0) [] (44 ∷ []) → new ≡ comma ++ name → name ≡ (section_at sections section.0).name
    → new ≡ begun ++ join_with_byte 44 (map (name_at (section_names sections)) (take (k + 1) bundle))
section_more sections items bundle k section begun text comma new name same inside is within so parted put named =
    bundle_more (section_names sections) items bundle k section begun text comma new same inside is so parted
    (put ∙ ap (λ bytes. comma ++ bytes) (named ∙ section_name sections section.0 within))
