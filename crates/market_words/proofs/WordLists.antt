-- Lists of words, by their first items.
use Rattle.std.proofs.Common.{ℕ, suc, ◌≡◌, ◌≤◌, ◌-◌, List, [], ◌∷◌, ◌++◌, length, get_or, take, drop, arith, refl, map, ap, sym, ◌∙◌, Global}
use Rattle.std.proofs.lemmas.List.{length-drop, length-map, map-append, take-append-drop, take_all}
use Rattle.std.specs.Prelude.{String}
use Rattle.std.specs.String.{string_bytes}
use Rattle.plain_facts.proofs.Lists.{first_rest}
use Rattle.market_words.specs.Forms.{AreSessions}

-- the words are the verb and the words behind it
pub verb_first : (words : List (String Global)) (verb : String Global) → 1 ≤ length words → verb ≡ get_or words 0 verb
    → map string_bytes words ≡ string_bytes verb ∷ map string_bytes (take (length words - 1) (drop 1 words))
verb_first words verb some is = ap (λ ws. map string_bytes ws) (first_rest words verb some) ∙ cc

five_items : {X : Type 0} (xs : List X) (a b c d e : X) → length xs ≡ 5
    → xs ≡ get_or xs 0 a ∷ get_or xs 1 b ∷ get_or xs 2 c ∷ get_or xs 3 d ∷ get_or xs 4 e ∷ []
five_items (p ∷ q ∷ r ∷ s ∷ t ∷ []) a b c d e is = refl
five_items xs a b c d e is = absurd (omega arith)

-- the words behind `quote`
pub quote_words : (words : List (String Global)) (name credits courses : String Global) → length words ≡ 5
    → name ≡ get_or words 2 name → credits ≡ get_or words 3 credits → courses ≡ get_or words 4 courses
    → map string_bytes words
    ≡ string_bytes (get_or words 0 name) ∷ string_bytes (get_or words 1 name) ∷ string_bytes name ∷ string_bytes credits ∷ string_bytes courses ∷ []
quote_words words name credits courses is n c k = ap (λ ws. map string_bytes ws) (five_items words name name name credits courses is) ∙ cc

-- the words behind `make`
pub make_words : (words : List (String Global)) (workers seed students sections accept : String Global) → length words ≡ 5
    → workers ≡ get_or words 0 workers → seed ≡ get_or words 1 seed → students ≡ get_or words 2 students → sections ≡ get_or words 3 sections
    → accept ≡ get_or words 4 accept
    → map string_bytes words ≡ string_bytes workers ∷ string_bytes seed ∷ string_bytes students ∷ string_bytes sections ∷ string_bytes accept ∷ []
make_words words w d t s x is f g h i j = ap (λ ws. map string_bytes ws) (five_items words w d t s x is) ∙ cc

-- words with an input and then sessions begin with that input
one_named : (before : ℕ) (words : List (List ℕ)) → AreSessions (drop (suc before) words)
    → (name : List ℕ) × (more : List (List ℕ)) × (words ≡ name ∷ more) × AreSessions (drop before more)
one_named before (name ∷ more) are = (name, more, refl, are)
one_named before [] are = absurd (omega arith)

-- two inputs and then sessions
pub two_named : (words : List (List ℕ)) → AreSessions (drop 2 words)
    → (a b : List ℕ) × (sessions : List (List ℕ)) × (words ≡ a ∷ b ∷ sessions) × AreSessions sessions
two_named words are =
    let a = one_named 1 words are in
    let b = one_named 0 a.1 a.3 in
    (a.0, b.0, b.1, cc, b.3)

-- three inputs and then sessions
pub three_named : (words : List (List ℕ)) → AreSessions (drop 3 words)
    → (a b c : List ℕ) × (sessions : List (List ℕ)) × (words ≡ a ∷ b ∷ c ∷ sessions) × AreSessions sessions
three_named words are =
    let a = one_named 2 words are in
    let more = two_named a.1 a.3 in
    (a.0, more.0, more.1, more.2, cc, more.4)

-- four inputs and then sessions
pub four_named : (words : List (List ℕ)) → AreSessions (drop 4 words)
    → (a b c d : List ℕ) × (sessions : List (List ℕ)) × (words ≡ a ∷ b ∷ c ∷ d ∷ sessions) × AreSessions sessions
four_named words are =
    let a = one_named 3 words are in
    let more = three_named a.1 a.3 in
    (a.0, more.0, more.1, more.2, more.3, cc, more.5)

six_items : {X : Type 0} (xs : List X) (a b : X) → 6 ≤ length xs
    → xs ≡ get_or xs 0 a ∷ get_or xs 1 a ∷ get_or xs 2 a ∷ get_or xs 3 a ∷ get_or xs 4 a ∷ get_or xs 5 b ∷ take (length xs - 6) (drop 6 xs)
six_items (p ∷ q ∷ r ∷ s ∷ t ∷ u ∷ xs) a b some =
    ap (λ more. p ∷ q ∷ r ∷ s ∷ t ∷ u ∷ more) (sym (take_all (length (p ∷ q ∷ r ∷ s ∷ t ∷ u ∷ xs) - 6) xs (omega arith)))
six_items xs a b some = absurd (omega arith)

-- the words behind `explain`
pub explain_words : (words : List (String Global)) (student section : String Global) → 6 ≤ length words → student ≡ get_or words 4 student
    → section ≡ get_or words 5 section
    → map string_bytes words
    ≡ string_bytes (get_or words 0 student) ∷ string_bytes (get_or words 1 student) ∷ string_bytes (get_or words 2 student)
    ∷ string_bytes (get_or words 3 student)
    ∷ string_bytes student ∷ string_bytes section ∷ map string_bytes (take (length words - 6) (drop 6 words))
explain_words words student section some is also = ap (λ ws. map string_bytes ws) (six_items words student section some) ∙ cc

-- words that name sessions behind so many inputs
pub sessions_long : (words : List (String Global)) (before : ℕ) → AreSessions (drop before (map string_bytes words))
    → (suc before ≤ length words) × (length words - before ≤ 64)
sessions_long words before are =
    let long : length (drop before (map string_bytes words)) ≡ length words - before =
    length-drop before (map string_bytes words) ∙ ap (λ n. n - before) (length-map words string_bytes) in
    (omega (arith, long, are.0), omega (arith, long, are.1))

-- words, cut at a place
pub words_cut : (words : List (String Global)) (before : ℕ) → before ≤ length words
    → map string_bytes words ≡ map string_bytes (take before words) ++ map string_bytes (take (length words - before) (drop before words))
words_cut words before within =
    let rest : length (drop before words) ≡ length words - before = length-drop before words in
    ap (map string_bytes) (sym (take-append-drop before words))
    ∙ map-append string_bytes (take before words) (drop before words)
    ∙ ap (λ (more : List (String Global)). map string_bytes (take before words) ++ map string_bytes more)
    (sym (take_all (length words - before) (drop before words) (omega (arith, rest))))

-- the names of `quote` are the first two words behind its own
pub quote_named : (words : List (String Global)) → length words ≡ 5
    → take 2 (map string_bytes words) ≡ map string_bytes (take 1 words) ++ map string_bytes (take 1 (drop 1 words))
quote_named (v ∷ w ∷ more) five = refl
quote_named words five = absurd (omega arith)

-- those of `explain` stand before and behind those of a student and a section
pub explain_named : (words : List (String Global)) → 6 ≤ length words
    → take 4 (map string_bytes words) ++ drop 6 (map string_bytes words)
    ≡ map string_bytes (take 4 words) ++ map string_bytes (take (length words - 6) (drop 6 words))
explain_named (u ∷ v ∷ w ∷ x ∷ y ∷ z ∷ more) some =
    ap (λ (rest : List (String Global)). string_bytes u ∷ string_bytes v ∷ string_bytes w ∷ string_bytes x ∷ map string_bytes rest)
    (sym (take_all (length (u ∷ v ∷ w ∷ x ∷ y ∷ z ∷ more) - 6) more (omega arith)))
explain_named words some = absurd (omega arith)
