-- Lines behind lines, and fields behind fields.
use Rattle.std.proofs.Common.{ℕ, zero, suc, ◌≡◌, ◌<◌, ◌+◌, ◌++◌, ◌==◌, ◌∙◌, true, false, List, [], ◌∷◌, length, map, take, get_or, arith, refl, sym, ap, append_assoc, append-nil, Some}
use Rattle.std.specs.Prelude.{option_map, slice_get, codes}
use Rattle.std.specs.List.{flat_map, join_with_byte, range_with_len}
use Rattle.std.proofs.lemmas.Bool.{true≢false}
use Rattle.std.proofs.lemmas.Bool.Decides.{nat_tests}
use Rattle.std.proofs.lemmas.List.{map_more, take_more}
use Rattle.std.proofs.lemmas.List.Concat.{flat_map-append}
use Rattle.std.proofs.lemmas.List.FromFn.{map-range_with_len_more}
use Rattle.plain_facts.proofs.Lists.{range_next}
use Rattle.course_catalog.specs.Catalog.{CatalogData}
use Rattle.course_catalog.specs.Sections.{section_at, section_names}
use Rattle.student_roll.specs.Students.{RollData, Student, names_of}
use Rattle.demand_api.specs.Crowds.{holders}
use Rattle.market_certificate.specs.Lines.{joined, spaced}
use Rattle.market_certificate.specs.Tables.{name_at}
use Rattle.market_certificate.specs.Texts.{final_line, used_line}
use Rattle.market_certificate.proofs.Joins.{joined_append, text_more}
use Rattle.dropadd_desk.specs.Lines.{HallStep}
use Rattle.dropadd_desk.specs.declared.shared.HallState.{HallState}
use Rattle.dropadd_desk.specs.Market.{Market, offered}
use Rattle.dropadd_desk.specs.Step.{held_by}
use Rattle.dropadd_hall.specs.Texts.{entry_line, held_line, seats_line, section_name, student_name, wait_line, where_any}
use Rattle.market_certificate.proofs.SectionNames.{section_name as section_name_at}

-- fields behind a first one
pub fields_joined : (first : List ℕ) (fields : List (List ℕ)) → join_with_byte 32 (first ∷ fields) ≡ first ++ flat_map (λ (field : List ℕ). 32 ∷ field) fields
fields_joined first [] = sym (append-nil first)
fields_joined first (field ∷ more) = ap (λ l. first ++ 32 ∷ l) (fields_joined field more)

flat_map-map : {X : Type 0} (f : X → List ℕ) (xs : List X) → flat_map (λ (field : List ℕ). 32 ∷ field) (map f xs) ≡ flat_map (λ x. 32 ∷ f x) xs
flat_map-map f [] = refl
flat_map-map f (x ∷ xs) = ap (λ l. (32 ∷ f x) ++ l) (flat_map-map f xs)

-- the line of a waiting list
pub waiting_joined : (names : List (List ℕ)) (section : List ℕ) (waiting : List ℕ) → spaced (codes "wait" ∷ section ∷ map (name_at names) waiting) ≡ codes "wait" ++ 32 ∷ (section ++ flat_map (λ i. 32 ∷ name_at names i) waiting)
waiting_joined names section waiting =
    fields_joined (codes "wait") (section ∷ map (name_at names) waiting) ∙ ap (λ l. codes "wait" ++ 32 ∷ (section ++ l)) (flat_map-map (name_at names) waiting)

pub waiting_written : (names : List (List ℕ)) (section waiting begun word named listed new : List ℕ) → word ≡ begun ++ codes "wait" → named ≡ word ++ 32 ∷ section → listed ≡ named ++ flat_map (λ i. 32 ∷ name_at names i) waiting → new ≡ listed ++ 10 ∷ []
    → new ≡ (begun ++ spaced (codes "wait" ∷ section ∷ map (name_at names) waiting)) ++ 10 ∷ []
waiting_written names section waiting begun word named listed new a b c d =
    let fields = flat_map (λ i. 32 ∷ name_at names i) waiting in
    d ∙ ap (λ l. l ++ 10 ∷ []) (c ∙ ap (λ l. l ++ fields) (b ∙ ap (λ l. l ++ 32 ∷ section) a) ∙ append_assoc (begun ++ codes "wait") (32 ∷ section) fields ∙ append_assoc begun (codes "wait") (32 ∷ (section ++ fields)) ∙ ap (λ l. begun ++ l) (sym (waiting_joined names section waiting)))

-- one student more in a waiting list
pub student_listed : (names : List (List ℕ)) (waiting : List ℕ) (k : ℕ) (begun text new name : List ℕ) → k < length waiting
    → text ≡ begun ++ flat_map (λ i. 32 ∷ name_at names i) (take k waiting) → new ≡ text ++ 32 ∷ name → name ≡ name_at names (get_or waiting k 0)
    → new ≡ begun ++ flat_map (λ i. 32 ∷ name_at names i) (take (k + 1) waiting)
student_listed names waiting k begun text new name low so put named =
    let fields = flat_map (λ i. 32 ∷ name_at names i) (take k waiting) in
    put ∙ ap (λ l. l ++ 32 ∷ name) so ∙ ap (λ n. (begun ++ fields) ++ 32 ∷ n) named ∙ append_assoc begun fields (32 ∷ name_at names (get_or waiting k 0))
    ∙ ap (λ l. begun ++ l)
    (ap (λ l. fields ++ l) (sym (append-nil (32 ∷ name_at names (get_or waiting k 0))))
    ∙ sym
    (ap (flat_map (λ i. 32 ∷ name_at names i)) (take_more waiting k 0 low)
    ∙ flat_map-append (λ i. 32 ∷ name_at names i) (take k waiting) (get_or waiting k 0 ∷ [])))

-- names by their places
pub student_name_at : (students : List Student) (n : ℕ) (name : List ℕ) → n < length students
    → option_map (λ (student : Student). student.name) (slice_get students n) ≡ Some name → name ≡ name_at (names_of students) n
student_name_at [] n name low named = absurd (omega arith)
student_name_at (x ∷ xs) zero name low named = cc
student_name_at (x ∷ xs) (suc n) name low named = student_name_at xs n name (omega arith) named

-- one line more of those that are made number by number
pub line_more : (line : ℕ → List ℕ) (n : ℕ) (begun text new : List ℕ) → text ≡ begun ++ joined (map line (range_with_len 0 n))
    → new ≡ (text ++ line n) ++ 10 ∷ [] → new ≡ begun ++ joined (map line (range_with_len 0 (n + 1)))
line_more line n begun text new so put =
    text_more begun text new (line n) (map line (range_with_len 0 n)) (map line (range_with_len 0 (n + 1))) (map-range_with_len_more line 0 n n (omega arith))
    so put

pub lines_more : (lines : ℕ → List (List ℕ)) (n : ℕ) (begun text new : List ℕ) → text ≡ begun ++ joined (flat_map lines (range_with_len 0 n))
    → new ≡ text ++ joined (lines n) → new ≡ begun ++ joined (flat_map lines (range_with_len 0 (n + 1)))
lines_more lines n begun text new so put =
    put ∙ ap (λ l. l ++ joined (lines n)) so ∙ append_assoc begun (joined (flat_map lines (range_with_len 0 n))) (joined (lines n))
    ∙ ap (λ l. begun ++ l) (sym (joined_append (flat_map lines (range_with_len 0 n)) (lines n)) ∙ ap joined (ap (λ l. flat_map lines (range_with_len 0 n) ++ l) (sym (append-nil (lines n)))
    ∙ sym (ap (flat_map lines) (range_next n) ∙ flat_map-append lines (range_with_len 0 n) (n ∷ []))))

-- one step's line more
pub entry_more : (market : Market) (history : List HallStep) (k : ℕ) (step : HallStep) (begun text new : List ℕ) → k < length history
    → step ≡ get_or history k step → text ≡ begun ++ joined (map (entry_line market) (take k history)) → new ≡ (text ++ entry_line market step) ++ 10 ∷ []
    → new ≡ begun ++ joined (map (entry_line market) (take (k + 1) history))
entry_more market history k step begun text new low is so put =
    text_more begun text new (entry_line market step) (map (entry_line market) (take k history)) (map (entry_line market) (take (k + 1) history))
    (map_more (entry_line market) history k step low ∙ ap (λ (s : HallStep). map (entry_line market) (take k history) ++ entry_line market s ∷ []) (sym is)) so
    put

-- the parts of the text, one behind the other
pub whole : (entries held waiting seats : List (List ℕ)) (t0 t1 t2 t3 t4 : List ℕ) → t0 ≡ [] → t1 ≡ t0 ++ joined entries → t2 ≡ t1 ++ joined held
    → t3 ≡ t2 ++ joined waiting → t4 ≡ t3 ++ joined seats → t4 ≡ joined (((entries ++ held) ++ waiting) ++ seats)
whole entries held waiting seats t0 t1 t2 t3 t4 a b c d e =
    let one : t1 ≡ joined entries = b ∙ ap (λ l. l ++ joined entries) a in
    let two : t2 ≡ joined (entries ++ held) = c ∙ ap (λ l. l ++ joined held) one ∙ sym (joined_append entries held) in
    let three : t3 ≡ joined ((entries ++ held) ++ waiting) = d ∙ ap (λ l. l ++ joined waiting) two ∙ sym (joined_append (entries ++ held) waiting) in
    e ∙ ap (λ l. l ++ joined seats) three ∙ sym (joined_append ((entries ++ held) ++ waiting) seats)

-- the line of a section's seats, and of what a student holds, from what the tables give
pub seats_put : (market : Market) (state : HallState) (catalog : CatalogData) (n : ℕ) (name : List ℕ) (held seats : ℕ) → market.catalog ≡ catalog
    → n < length catalog.sections → name ≡ (section_at catalog.sections n).name → held ≡ holders n state.held → seats ≡ (section_at catalog.sections n).seats
    → used_line name (held, seats) ≡ seats_line market state n
seats_put market state catalog n name held seats is low a b c =
    let named : name ≡ section_name market n =
    a ∙ section_name_at catalog.sections n low ∙ ap (λ (k : CatalogData). name_at (section_names k.sections) n) (sym is) in
    let given : seats ≡ (offered market n).seats = c ∙ ap (λ (k : CatalogData). (section_at k.sections n).seats) (sym is) in
    ap (λ w. used_line w (held, seats)) named ∙ ap (λ h. used_line (section_name market n) (h, seats)) b
    ∙ ap (λ s. used_line (section_name market n) (holders n state.held, s)) given

pub held_put : (market : Market) (state : HallState) (catalog : CatalogData) (roll : RollData) (n : ℕ) (name set : List ℕ)
    → market ≡ record { catalog = catalog; roll = roll } → n < length roll.students
    → option_map (λ (student : Student). student.name) (slice_get roll.students n) ≡ Some name → set ≡ held_by state n
    → final_line (section_names catalog.sections) name set ≡ held_line market state n
held_put market state catalog roll n name set is low a b =
    let named : name ≡ student_name market n = student_name_at roll.students n name low a ∙ ap (λ (m : Market). student_name m n) (sym is) in
    ap (λ (m : Market). final_line (section_names m.catalog.sections) name set) (sym is)
    ∙ ap (λ w. final_line (section_names market.catalog.sections) w set) named
    ∙ ap (λ l. final_line (section_names market.catalog.sections) (student_name market n) l) b

-- the lines of a list in which somebody waits
pub list_put : (market : Market) (s : ℕ) (waiting begun new name : List ℕ) → (length waiting == 0) ≡ false → name ≡ section_name market s
    → new ≡ (begun ++ spaced (codes "wait" ∷ name ∷ map (name_at (names_of market.roll.students)) waiting)) ++ 10 ∷ [] → new ≡ begun ++ joined (where_any market s waiting)
list_put market s [] begun new name some named put = absurd (true≢false some)
list_put market s (x ∷ xs) begun new name some named put =
    put ∙ ap (λ w. (begun ++ spaced (codes "wait" ∷ w ∷ map (name_at (names_of market.roll.students)) (x ∷ xs))) ++ 10 ∷ []) named ∙ append_assoc begun (wait_line market s (x ∷ xs)) (10 ∷ [])

-- none of a list in which nobody does
is_none : (n : ℕ) → (n == 0) ≡ true → n ≡ 0
is_none n e = grind (arith, nat_tests)

pub list_none : (market : Market) (s : ℕ) (waiting begun : List ℕ) → (length waiting == 0) ≡ true → begun ≡ begun ++ joined (where_any market s waiting)
list_none market s [] begun none = sym (append-nil begun)
list_none market s (x ∷ xs) begun none = let n : ℕ = length xs in let some : suc n ≡ 0 = is_none (suc n) none in absurd (omega arith)
