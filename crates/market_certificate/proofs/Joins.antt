-- Lines and fields in a row, one more of them.
use Rattle.std.proofs.Common.{ℕ, ◌≡◌, ◌==◌, ◌+◌, ◌<◌, List, [], ◌∷◌, ◌++◌, cond, length, length-append, map, take, get_or, ap, sym, refl, subst, arith, ◌∙◌, append_assoc, Bor, ◌≤◌}
use Rattle.std.specs.Prelude.{All, codes, Option, Some}
use Rattle.std.specs.List.{flat_map, join_with_byte}
use Rattle.std.specs.Fmt.{decimal}
use Rattle.std.proofs.lemmas.Bool.{ne_eqb}
use Rattle.std.proofs.lemmas.List.{append-nil, get_or-map, get_or_default, length-map, length-take-le, take_more}
use Rattle.market_units.specs.declared.names.Name.{Name}
use Rattle.market_units.specs.declared.units.SectionNo.{SectionNo}
use Rattle.market_units.specs.Name.{name_bytes}
use Rattle.std.proofs.iter.Yields.{fronts}
use Rattle.std.proofs.lemmas.Iterator.{zips}
use Rattle.std.proofs.lemmas.Slice.Zip.{zip_turn}
use Rattle.std.specs.Iterator.{Yields}
use Rattle.std.specs.Iterator.Adapters.{zip_first, zip_second}
use Rattle.std.specs.declared.iter.Zip.{Zip}
use Rattle.std.specs.declared.slice.Iter.{Iter}
use Rattle.std.specs.Slice.Iter.{iter_rest}
use Rattle.market_certificate.specs.Publications.{ProvedTurn, IsBundleOf}
use Rattle.market_certificate.specs.Lines.{joined}
use Rattle.market_certificate.specs.Tables.{name_at}
use Rattle.market_certificate.specs.Texts.{each_line}

pub joined_append : (xs ys : List (List ℕ)) → joined (xs ++ ys) ≡ joined xs ++ joined ys
joined_append [] ys = refl
joined_append (x ∷ xs) ys = ap (λ text. x ++ 10 ∷ text) (joined_append xs ys) ∙ sym (append_assoc x (10 ∷ joined xs) (joined ys))

join_last : (x : List ℕ) (parts : List (List ℕ)) (p : List ℕ) → join_with_byte 44 (x ∷ (parts ++ p ∷ [])) ≡ join_with_byte 44 (x ∷ parts) ++ 44 ∷ p
join_last x [] p = refl
join_last x (y ∷ parts) p = ap (λ w. x ++ 44 ∷ w) (join_last y parts p) ∙ sym (append_assoc x (44 ∷ join_with_byte 44 (y ∷ parts)) (44 ∷ p))

-- one part more, behind a comma where there are parts
join_more : (parts : List (List ℕ)) (p : List ℕ) (k : ℕ) → length parts ≡ k
    → join_with_byte 44 (parts ++ p ∷ []) ≡ join_with_byte 44 parts ++ (cond (k == 0) [] (44 ∷ []) ++ p)
join_more [] p k e = subst (λ (n : ℕ). p ≡ cond (n == 0) [] (44 ∷ []) ++ p) e refl
join_more (x ∷ parts) p k e =
    join_last x parts p ∙ ap (λ b. join_with_byte 44 (x ∷ parts) ++ (cond b [] (44 ∷ []) ++ p)) (sym (ne_eqb k 0 (λ (z : k ≡ 0). omega (arith, e, z))))

-- numbers behind a word
pub spaced_numbers : (word : List ℕ) (ns : List ℕ) → join_with_byte 32 (word ∷ map decimal ns) ≡ word ++ flat_map (λ n. 32 ∷ decimal n) ns
spaced_numbers word [] = sym (append-nil word)
spaced_numbers word (n ∷ ns) = ap (λ w. word ++ 32 ∷ w) (spaced_numbers (decimal n) ns)

pub each_last : {V : Type 0} (line : List ℕ → V → List ℕ) (names : List (List ℕ)) (values : List V) (name : List ℕ) (value : V) → length names ≡ length values
    → each_line line (names ++ name ∷ []) (values ++ value ∷ []) ≡ each_line line names values ++ line name value ∷ []
each_last line [] [] name value e = refl
each_last line [] (v ∷ values) name value e = absurd (omega arith)
each_last line (n ∷ names) [] name value e = absurd (omega arith)
each_last line (n ∷ names) (v ∷ values) name value e = ap (λ ls. line n v ∷ ls) (each_last line names values name value (omega arith))

-- one line more
pub each_more : {V : Type 0} (line : List ℕ → V → List ℕ) (names : List (List ℕ)) (values : List V) (k : ℕ) (name : List ℕ) (value : V) → k < length names
    → k < length values → name ≡ get_or names k [] → value ≡ get_or values k value
    → each_line line (take (k + 1) names) (take (k + 1) values) ≡ each_line line (take k names) (take k values) ++ line name value ∷ []
each_more line names values k name value inside inside' e e' =
    let long : length (take k names) ≡ length (take k values) = length-take-le k names (omega arith) ∙ sym (length-take-le k values (omega arith)) in
    ap (λ ns. each_line line ns (take (k + 1) values)) (take_more names k [] inside)
    ∙ ap (λ vs. each_line line (take k names ++ get_or names k [] ∷ []) vs) (take_more values k value inside')
    ∙ each_last line (take k names) (take k values) (get_or names k []) (get_or values k value) long
    ∙ ap (λ n. each_line line (take k names) (take k values) ++ line n (get_or values k value) ∷ []) (sym e)
    ∙ ap (λ v. each_line line (take k names) (take k values) ++ line name v ∷ []) (sym e')

-- a text with one line more
pub text_more : (begun text new line : List ℕ) (lines more : List (List ℕ)) → more ≡ lines ++ line ∷ [] → text ≡ begun ++ joined lines
    → new ≡ (text ++ line) ++ 10 ∷ [] → new ≡ begun ++ joined more
text_more begun text new line lines more e so is =
    is
    ∙ append_assoc text line (10 ∷ [])
    ∙ ap (λ t. t ++ (line ++ 10 ∷ [])) so
    ∙ append_assoc begun (joined lines) (line ++ 10 ∷ [])
    ∙ ap (λ t. begun ++ t) (sym (ap joined e ∙ joined_append lines (line ∷ [])))

-- a text with the line of one name more
pub names_more : {V : Type 0} (line : List ℕ → V → List ℕ) (names : List Name) (values : List V) (k next : ℕ) (name : Name) (value : V)
    (begun text new : List ℕ)
    → next ≡ k + 1 → k < length names → k < length values → ((d : Name) → name ≡ get_or names k d) → value ≡ get_or values k value
    → text ≡ begun ++ joined (each_line line (take k (map name_bytes names)) (take k values)) → new ≡ (text ++ line (name_bytes name) value) ++ 10 ∷ []
    → new ≡ begun ++ joined (each_line line (take next (map name_bytes names)) (take next values))
names_more line names values k next name value begun text new e inside inside' named valued so is =
    let here : name_bytes name ≡ get_or (map name_bytes names) k [] = ap name_bytes (named name) ∙ sym (get_or-map name_bytes names k name [] inside) in
    subst (λ (n : ℕ). new ≡ begun ++ joined (each_line line (take n (map name_bytes names)) (take n values))) (sym e) (
    text_more begun text new (line (name_bytes name) value) (each_line line (take k (map name_bytes names)) (take k values)) _
    (each_more line (map name_bytes names) values k (name_bytes name) value (omega (arith, length-map names name_bytes)) inside' here valued)
    so is
    )

-- the element of a list that was mapped
pub value_at : {W V : Type 0} (f : W → V) (ws : List W) (k : ℕ) (w : W) → k < length ws → ((d : W) → w ≡ get_or ws k d) → f w ≡ get_or (map f ws) k (f w)
value_at f ws k w inside is = ap f (is w) ∙ sym (get_or-map f ws k w (f w) inside)

map_last : {A B : Type 0} (f : A → B) (xs : List A) (x : A) → map f (xs ++ x ∷ []) ≡ map f xs ++ f x ∷ []
map_last f [] x = refl
map_last f (y ∷ xs) x = ap (λ l. f y ∷ l) (map_last f xs x)

-- one name more in a bundle
pub bundle_more : (names : List (List ℕ)) (sections : List SectionNo) (bundle : List ℕ) (k : ℕ) (section : SectionNo) (begun text comma new : List ℕ)
    → map (λ (s : SectionNo). s.0) sections ≡ bundle → k < length sections → section ≡ get_or sections k section
    → text ≡ begun ++ join_with_byte 44 (map (name_at names) (take k bundle)) → comma ≡ text ++ cond (k == 0) [] (44 ∷ [])
    → new ≡ comma ++ name_at names section.0
    → new ≡ begun ++ join_with_byte 44 (map (name_at names) (take (k + 1) bundle))
bundle_more names sections bundle k section begun text comma new e inside is so parted named =
    let within : k < length bundle = omega (arith, ap length e, length-map sections (λ (s : SectionNo). s.0)) in
    let here : get_or bundle k 0 ≡ section.0 =
    ap (λ b. get_or b k 0) (sym e) ∙ get_or-map (λ (s : SectionNo). s.0) sections k section 0 inside ∙ ap (λ (s : SectionNo). s.0) (sym is) in
    let front = map (name_at names) (take k bundle) in
    let long : length front ≡ k = length-map (take k bundle) (name_at names) ∙ length-take-le k bundle (omega arith) in
    let last : map (name_at names) (take (k + 1) bundle) ≡ front ++ name_at names section.0 ∷ [] =
    ap (map (name_at names)) (take_more bundle k 0 within) ∙ ap (λ n. map (name_at names) (take k bundle ++ n ∷ [])) here
    ∙ map_last (name_at names) (take k bundle) section.0 in
    named
    ∙ ap (λ t. t ++ name_at names section.0) (parted ∙ ap (λ t. t ++ cond (k == 0) [] (44 ∷ [])) so)
    ∙ ap (λ t. t ++ name_at names section.0) (append_assoc begun (join_with_byte 44 front) (cond (k == 0) [] (44 ∷ [])))
    ∙ append_assoc begun (join_with_byte 44 front ++ cond (k == 0) [] (44 ∷ [])) (name_at names section.0)
    ∙ ap (λ t. begun ++ t)
    (append_assoc (join_with_byte 44 front) (cond (k == 0) [] (44 ∷ [])) (name_at names section.0) ∙ sym (join_more front (name_at names section.0) k long)
    ∙ ap (join_with_byte 44) (sym last))

-- the section of a place is below what all are below
pub section_below : (items : List SectionNo) (bundle : List ℕ) (n k : ℕ) (d : SectionNo) → map (λ (s : SectionNo). s.0) items ≡ bundle → All (λ s. s < n) bundle
    → k < length items → (get_or items k d).0 < n
section_below items bundle n k d e each inside =
    let within : k < length bundle = omega (arith, ap length e, length-map items (λ (s : SectionNo). s.0)) in
    let here : get_or bundle k 0 ≡ (get_or items k d).0 = ap (λ b. get_or b k 0) (sym e) ∙ get_or-map (λ (s : SectionNo). s.0) items k d 0 inside in
    subst (λ (s : ℕ). s < n) here (each k 0 within)

-- one section's name more in a bundle's text
pub section_more : (names : List Name) (items : List SectionNo) (bundle : List ℕ) (k from : ℕ) (d : SectionNo) (e : Name) (name : Name)
    (bytes begun text comma new : List ℕ)
    → map (λ (s : SectionNo). s.0) items ≡ bundle → k < length items
    → from ≡ (get_or items k d).0 → from < length names → name ≡ get_or names from e → bytes ≡ name_bytes name
    → text ≡ begun ++ join_with_byte 44 (map (name_at (map name_bytes names)) (take k bundle))
    → comma ≡ text ++ cond (k == 0) [] (44 ∷ []) → new ≡ comma ++ bytes
    → new ≡ begun ++ join_with_byte 44 (map (name_at (map name_bytes names)) (take (k + 1) bundle))
section_more names items bundle k from d e name bytes begun text comma new same inside is within named spelled so parted put =
    let section = get_or items k d in
    let here : bytes ≡ name_at (map name_bytes names) section.0 =
    spelled ∙ ap name_bytes named ∙ sym (get_or-map name_bytes names from e [] within) ∙ ap (name_at (map name_bytes names)) is in
    bundle_more (map name_bytes names) items bundle k section begun text comma new same inside (get_or_default items k d section inside) so parted
    (put ∙ ap (λ b. comma ++ b) here)

-- what holds of each mapped element
pub value_each : {W V : Type 0} (P : V → Type 0) (f : W → V) (ws : List W) (k : ℕ) (w : W) → All P (map f ws) → k < length ws → ((d : W) → w ≡ get_or ws k d)
    → P (f w)
value_each P f ws k w each inside is = subst P (sym (value_at f ws k w inside is)) (each k (f w) (omega (arith, length-map ws f)))

-- the line of an order
pub order_written : (order text word numbers new : List ℕ) → word ≡ text ++ codes "order" → numbers ≡ word ++ flat_map (λ n. 32 ∷ decimal n) order → new ≡ numbers ++ 10 ∷ [] → new ≡ (text ++ join_with_byte 32 (codes "order" ∷ map decimal order)) ++ 10 ∷ []
order_written order text word numbers new e e' e'' =
    e''
    ∙ ap (λ t. t ++ 10 ∷ []) (e' ∙ ap (λ t. t ++ flat_map (λ n. 32 ∷ decimal n) order) e ∙ append_assoc text (codes "order") (flat_map (λ n. 32 ∷ decimal n) order) ∙ ap (λ t. text ++ t) (sym (spaced_numbers (codes "order") order)))

-- the pair of a turn of a loop over two lists, with the iterator's own facts first
pub pair_of_turn : {A B : Type 0} (ks : List A) (vs : List B) (xs : List (Bor A × Bor B)) (s t u : Zip (Iter A) (Iter B)) (r : Option (Bor A × Bor B))
    → Yields (zips fronts fronts) s xs t → (p : Bor A × Bor B) → r ≡ Some p → zips fronts fronts t r u
    → iter_rest (zip_first s) ≡ ks → iter_rest (zip_second s) ≡ vs
    → (length xs < length ks) × (length xs < length vs) × ((d : A) → p.0.now ≡ get_or ks (length xs) d) × ((d : B) → p.1.now ≡ get_or vs (length xs) d)
pair_of_turn ks vs xs s t u r y p is step first second = zip_turn ks vs xs s t u r first second y p is step

pub one_longer : {A : Type 0} (xs : List A) (x : A) → length (xs ++ x ∷ []) ≡ length xs + 1
one_longer xs x = omega (arith, length-append xs (x ∷ []))

-- sections that are below the number of names
pub below_names : (names : List Name) (bundle : List ℕ) → IsBundleOf (map name_bytes names) bundle → All (λ s. s < length names) bundle
below_names names bundle is = subst (λ (n : ℕ). All (λ s. s < n) bundle) (length-map names name_bytes) is.of_catalog

-- a text with the line of one turn more
pub turn_more : (line : ProvedTurn → List ℕ) (turns : List ProvedTurn) (k next : ℕ) (turn : ProvedTurn) (begun text new : List ℕ) → next ≡ k + 1
    → k < length turns → turn ≡ get_or turns k turn → text ≡ begun ++ joined (map line (take k turns))
    → new ≡ (text ++ line turn) ++ 10 ∷ [] → new ≡ begun ++ joined (map line (take next turns))
turn_more line turns k next turn begun text new e inside here so is =
    subst (λ (n : ℕ). new ≡ begun ++ joined (map line (take n turns))) (sym e) (
    text_more begun text new (line turn) (map line (take k turns)) (map line (take (k + 1) turns))
    (ap (map line) (take_more turns k turn inside ∙ ap (λ t. take k turns ++ t ∷ []) (sym here)) ∙ map_last line (take k turns) turn) so is
    )

-- the same for the element of a loop over a slice
pub each_at : {W V : Type 0} (P : V → Type 0) (f : W → V) (ws : List W) (k : ℕ) (d w : W) → All P (map f ws) → k < length ws → w ≡ get_or ws k d → P (f w)
each_at P f ws k d w each inside is = value_each P f ws k w each inside (λ e. is ∙ get_or_default ws k d e inside)

pub mapped_at : {W V : Type 0} (f : W → V) (ws : List W) (k : ℕ) (d w : W) → k < length ws → w ≡ get_or ws k d → f w ≡ get_or (map f ws) k (f w)
mapped_at f ws k d w inside is = value_at f ws k w inside (λ e. is ∙ get_or_default ws k d e inside)

-- a name is that of its place, by another name of the list
pub name_here : (items names : List Name) (k : ℕ) (d name : Name) → items ≡ names → k < length items → name ≡ get_or items k d
    → name_bytes name ≡ get_or (map name_bytes names) k []
name_here items names k d name e inside is =
    subst (λ (ns : List Name). name_bytes name ≡ get_or (map name_bytes ns) k []) e (ap name_bytes is ∙ sym (get_or-map name_bytes items k d [] inside))

-- and that place is one of the names' texts
pub name_stands : (items names : List Name) (k : ℕ) (d name : Name) → items ≡ names → k < length items → name ≡ get_or items k d
    → (k < length (map name_bytes names)) × (name_bytes name ≡ get_or (map name_bytes names) k [])
name_stands items names k d name e inside is = (omega (arith, length-map names name_bytes, ap length e), name_here items names k d name e inside is)

pub mapped_push : {W V : Type 0} (f : W → V) (ws new : List W) (w : W) → new ≡ ws ++ w ∷ [] → map f new ≡ map f ws ++ f w ∷ []
mapped_push f ws new w e = ap (map f) e ∙ map_last f ws w

-- a text has a byte for each line
pub lines_few : (lines : List (List ℕ)) → length lines ≤ length (joined lines)
lines_few [] = omega arith
lines_few (line ∷ lines) = let rest = lines_few lines in let long = length-append line (10 ∷ joined lines) in omega arith
