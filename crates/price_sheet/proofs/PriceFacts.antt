-- The price that the rows of a sheet give to a section.
use Rattle.std.proofs.Common.{add-one, take, ◌++◌, ◌≡◌, ◌∙◌, ◌<◌, ◌+◌, ℕ, zero, suc, true, false, List, [], ◌∷◌, length, map, Some, None, get_or, refl, sym, ap, arith, inl, inr}
use Rattle.std.specs.Prelude.{position}
use Rattle.std.specs.List.{position_from}
use Rattle.std.specs.Str.{bytes_eq}
use Rattle.std.proofs.lemmas.Bool.{cases_Bool}
use Rattle.std.proofs.lemmas.List.Quantifiers.{position-Some}
use Rattle.std.proofs.Math.Seq.{take-suc}
use Rattle.std.proofs.lemmas.Iterator.Adapters.{position_from-zero}
use Rattle.std.proofs.lemmas.List.{get_or-map, length-map, map-append}
use Rattle.course_catalog.specs.Sections.{Section, section_names}
use Rattle.price_sheet.specs.Sheets.{Priced, price_in}

-- the section's name of each row
abbrev pub sections_of : List Priced → List (List ℕ)
sections_of rows = map (λ row. row.section) rows

at_place : (rows : List Priced) (name : List ℕ) (i : ℕ) (d : Priced) → i < length rows → bytes_eq name (get_or (sections_of rows) i []) ≡ true
    → ((k : ℕ) → k < i → bytes_eq name (get_or (sections_of rows) k []) ≡ false) → price_in rows name ≡ (get_or rows i d).price
at_place [] name i d within is before = absurd (omega arith)
at_place (row ∷ more) name zero d within is before = rw is refl
at_place (row ∷ more) name (suc i) d within is before =
    let other : bytes_eq name row.section ≡ false = before 0 (omega arith) in
    rw other (at_place more name i d (omega arith) is (λ k h. before (suc k) (omega arith)))

-- a section that has a place among the rows has the price there
pub price_in-place : (rows : List Priced) (name : List ℕ) (i : ℕ) (d : Priced) → position (bytes_eq name) (sections_of rows) ≡ Some i
    → price_in rows name ≡ (get_or rows i d).price
price_in-place rows name i d is =
    let found = position-Some (bytes_eq name) (sections_of rows) i [] is in
    at_place rows name i d (omega (arith, length-map rows (λ (row : Priced). row.section))) found.1 found.2

nowhere : (rows : List Priced) (name : List ℕ) (n : ℕ) → position_from (bytes_eq name) n (sections_of rows) ≡ None → price_in rows name ≡ 0
nowhere [] name n is = refl
nowhere (row ∷ more) name n is =
    elim (cases_Bool (bytes_eq name row.section)) [
      | inl t ↦ let h = rw t at is in absurd (cc)
      | inr f ↦ rw f (nowhere more name (n + 1) (rw f at is))
    ]

-- and one that has none has price 0
pub price_in-none : (rows : List Priced) (name : List ℕ) → position (bytes_eq name) (sections_of rows) ≡ None → price_in rows name ≡ 0
price_in-none rows name is = nowhere rows name 0 (sym (position_from-zero (bytes_eq name) (sections_of rows)) ∙ is)

-- the names of the first sections, and of one more
pub prices-more : (rows : List Priced) (sections : List Section) (i : ℕ) (d : Section) → i < length sections
    → map (price_in rows) (take (i + 1) (section_names sections))
    ≡ map (price_in rows) (take i (section_names sections)) ++ price_in rows (get_or sections i d).name ∷ []
prices-more rows sections i d within =
    let many = length-map sections (λ (section : Section). section.name) in
    let last : get_or (section_names sections) i [] ≡ (get_or sections i d).name = get_or-map (λ (section : Section). section.name) sections i d [] within in
    let cut : take (i + 1) (section_names sections) ≡ take i (section_names sections) ++ (get_or sections i d).name ∷ [] =
    rw add-one (take-suc (section_names sections) i [] (omega (arith, many)) ∙ ap (λ (n : List ℕ). take i (section_names sections) ++ n ∷ []) last) in
    ap (map (price_in rows)) cut ∙ map-append (price_in rows) (take i (section_names sections)) ((get_or sections i d).name ∷ [])
