-- Words have one form at most.
use Rattle.std.proofs.Common.{ℕ, ◌≡◌, ◌≢◌, ◌≤◌, ◌^◌, ◌-◌, List, [], ◌∷◌, Global, get_or, length, map, refl, sym, ap, ◌∙◌, arith}
use Rattle.std.specs.Fmt.{decimal}
use Rattle.std.specs.Prelude.{codes, String}
use Rattle.std.specs.String.{string_bytes}
use Rattle.std.proofs.lemmas.Fmt.{decimal_injective}
use Rattle.market_units.specs.EqualNames.{same_name}
use Rattle.market_words.specs.declared.words.Form.{Form}
use Rattle.market_words.specs.declared.words.Form.TheVariants.{Audit, Check, Demand, Explain, Hall, Make, Prefer, Quote, Run}
use Rattle.market_words.specs.Forms.{HasForm}
use Rattle.market_words.proofs.WordLists.{make_words}

-- the first byte of a form's first word
byte_of : Form → ℕ
byte_of (Quote name credits courses) = 113
byte_of Prefer = 112
byte_of (Demand workers) = 100
byte_of (Run workers) = 114
byte_of (Make workers seed students sections accept) = 109
byte_of Check = 99
byte_of (Explain student section) = 101
byte_of Hall = 104
byte_of (Audit workers) = 97

first_byte : List (List ℕ) → ℕ
first_byte [] = 0
first_byte (verb ∷ more) = get_or verb 0 0

begins : (words : List (List ℕ)) (form : Form) → HasForm words form → first_byte words ≡ byte_of form
unfolding byte_of first_byte
begins words (Quote name credits courses) has = ap first_byte has.2
begins words Prefer has = ap first_byte has.3
begins words (Demand workers) has = ap first_byte has.5
begins words (Run workers) has = ap first_byte has.4
begins words (Make workers seed students sections accept) has = ap first_byte has.0
begins words Check has = ap first_byte has.5
begins words (Explain student section) has = ap first_byte has.5
begins words Hall has = ap first_byte has.4
begins words (Audit workers) has = ap first_byte has.5

-- forms of the same words begin with the same byte
same_byte : (words : List (List ℕ)) (one other : Form) → HasForm words one → HasForm words other → byte_of one ≡ byte_of other
same_byte words one other a b = sym (begins words one a) ∙ begins words other b

-- forms that begin with different bytes are not of the same words
apart : (words : List (List ℕ)) (one other : Form) → byte_of one ≢ byte_of other → HasForm words one → HasForm words other → ⊥
apart words one other differ a b = differ (same_byte words one other a b)

-- a word that spells a number from the least to the most
abbrev pub Spells : List ℕ → ℕ → ℕ → Type 0
Spells word least most = (n : ℕ) × (least ≤ n) × (n ≤ most) × (word ≡ decimal n)

-- where the words behind `make` have a form, they spell numbers in their ranges
pub make_spells : (words : List (String Global)) (workers seed students sections accept : String Global) → length words ≡ 5
    → workers ≡ get_or words 0 workers → seed ≡ get_or words 1 seed → students ≡ get_or words 2 students → sections ≡ get_or words 3 sections
    → accept ≡ get_or words 4 accept
    → (form : Form) → HasForm (codes "make" ∷ map string_bytes words) form
    → Spells (string_bytes workers) 1 16 × Spells (string_bytes seed) 0 (2 ^ 64 - 1) × Spells (string_bytes students) 1 2000
    × Spells (string_bytes sections) 1 400 × Spells (string_bytes accept) 0 (10 ^ 12)
unfolding byte_of first_byte
make_spells words w d t s x is f g h i j (Make workers seed students sections accept) has =
    let five = make_words words w d t s x is f g h i j in
    let same = has.0 in (
      (workers, omega (arith, has.1), omega (arith, has.1), cc),
      (seed, omega arith, omega (arith, has.2), cc),
      (students, omega (arith, has.3), omega (arith, has.4), cc),
      (sections, omega (arith, has.5), omega (arith, has.6), cc),
      (accept, omega arith, omega (arith, has.7), cc),
    )
make_spells words w d t s x is f g h i j form has = absurd (omega (arith, begins (codes "make" ∷ map string_bytes words) form has))

-- words have one form at most
pub one_form : (words : List (List ℕ)) (one other : Form) → HasForm words one → HasForm words other → one ≡ other
unfolding byte_of
one_form words (Quote name credits courses) (Quote name' credits' courses') a b =
    let e = sym a.2 ∙ b.2 in
    let names : name ≡ name' = same_name name name' cc in
    let caps : credits ≡ credits' = decimal_injective credits credits' (omega (arith, a.3)) (omega (arith, b.3)) cc in
    let counts : courses ≡ courses' = decimal_injective courses courses' (omega (arith, a.4)) (omega (arith, b.4)) cc in
    cc
one_form words Prefer Prefer a b = refl
one_form words (Demand workers) (Demand workers') a b =
    let e = sym a.5 ∙ b.5 in
    let same : workers ≡ workers' = decimal_injective workers workers' (omega (arith, a.6)) (omega (arith, b.6)) cc in
    cc
one_form words (Run workers) (Run workers') a b =
    let e = sym a.4 ∙ b.4 in
    let same : workers ≡ workers' = decimal_injective workers workers' (omega (arith, a.5)) (omega (arith, b.5)) cc in
    cc
one_form words (Make workers seed students sections accept) (Make workers' seed' students' sections' accept') a b =
    let e = sym a.0 ∙ b.0 in
    let w : workers ≡ workers' = decimal_injective workers workers' (omega (arith, a.1)) (omega (arith, b.1)) cc in
    let d : seed ≡ seed' = decimal_injective seed seed' (omega (arith, a.2)) (omega (arith, b.2)) cc in
    let t : students ≡ students' = decimal_injective students students' (omega (arith, a.4)) (omega (arith, b.4)) cc in
    let c : sections ≡ sections' = decimal_injective sections sections' (omega (arith, a.6)) (omega (arith, b.6)) cc in
    let x : accept ≡ accept' = decimal_injective accept accept' (omega (arith, a.7)) (omega (arith, b.7)) cc in
    cc
one_form words Check Check a b = refl
one_form words (Explain student section) (Explain student' section') a b =
    let e = sym a.5 ∙ b.5 in
    let students : student ≡ student' = same_name student student' cc in
    let sections : section ≡ section' = same_name section section' cc in
    cc
one_form words Hall Hall a b = refl
one_form words (Audit workers) (Audit workers') a b =
    let e = sym a.5 ∙ b.5 in
    let same : workers ≡ workers' = decimal_injective workers workers' (omega (arith, a.6)) (omega (arith, b.6)) cc in
    cc
one_form words one other a b = absurd (apart words one other (λ e. omega (arith, e)) a b)
