-- The text of made settings is read as the made settings.
use Rattle.std.proofs.Common.{ℕ, ◌≡◌, ◌-◌, ◌^◌, ◌<◌, ◌≤◌, true, List, [], ◌∷◌, ◌++◌, Ok, Some, refl, ap, ◌∙◌, arith, le-leb, append_assoc}
use Rattle.std.specs.Prelude.{None, codes, if◌then◌else◌, nat_lt}
use Rattle.std.specs.List.{list_all}
use Rattle.std.specs.Fmt.{decimal}
use Rattle.std.specs.Str.{IsAscii, is_utf8}
use Rattle.std.proofs.lemmas.Fmt.{IsAscii-decimal}
use Rattle.std.proofs.lemmas.Str.{IsAscii-append, IsUtf8-from_ascii, is_utf8-from_IsUtf8}
use Rattle.std.proofs.lemmas.Bool.{and_parts, ltb-true}
use Rattle.std.proofs.lemmas.Str.Ascii.{IsAscii-cons, IsAscii-nil}
use Rattle.json.proofs.OnLiterals.{json_on_literals}
use Rattle.json.proofs.Printed.Decimals.{IsNumber-decimal}
use Rattle.json.proofs.Printed.Numbers.{lex-number}
use Rattle.json.specs.Json as json
use Rattle.json.specs.Lex.{Lexeme, between, colon, comma, lex, punctuate, fresh, token}
use Rattle.json.specs.Print.{IsNumber}
use Rattle.json.specs.Token.{Token}
use Rattle.made_run.specs.Settings.{made_settings}
use Rattle.market_maker.proofs.Members.{settings_begin, settings_end, settings_middle, settings_parts}
use Rattle.market_maker.specs.Settings.{settings_text}
use Rattle.market_settings.specs.Settings.{fault_of, settings_of, unless, values_of}
use Rattle.market_settings.specs.Values.{reading}
use Rattle.serde_json.proofs.Numbers.{number_of-decimal}
use Rattle.serde_json.proofs.OnLiterals.{serde_json_on_literals}
use Rattle.serde_json.specs.Data.{Data, number, array, object, item, member, no_items, no_members, unsigned}
use Rattle.serde_json.specs.Read.{max_depth, number_of, of_json, read}

-- the parts grouped to the right
grouped : (p d q a e : List ℕ) → (((p ++ d) ++ q) ++ a) ++ e ≡ p ++ (d ++ (q ++ (a ++ e)))
grouped p d q a e = simp append_assoc

abbrev grouped_text : ℕ → ℕ → List ℕ
grouped_text seed accept = settings_begin ++ (decimal seed ++ (settings_middle ++ (decimal accept ++ settings_end)))

text_is : (seed accept : ℕ) → settings_text seed accept ≡ grouped_text seed accept
text_is seed accept = settings_parts seed accept ∙ grouped settings_begin (decimal seed) settings_middle (decimal accept) settings_end

-- ---- the bytes are text

small_ascii : (bs : List ℕ) → list_all (λ b. nat_lt b 128) bs ≡ true → IsAscii bs
small_ascii [] all = IsAscii-nil
small_ascii (b ∷ bs) all =
    let parts = and_parts (nat_lt b 128) (list_all (λ c. nat_lt c 128) bs) all in IsAscii-cons b bs (ltb-true b 128 parts.0) (small_ascii bs parts.1)

is_text : (seed accept : ℕ) → seed < 2 ^ 64 → accept < 2 ^ 64 → is_utf8 (grouped_text seed accept) ≡ true
is_text seed accept small small' =
    let last = IsAscii-append (decimal accept) settings_end (IsAscii-decimal accept small') (small_ascii settings_end refl) in
    let later = IsAscii-append settings_middle (decimal accept ++ settings_end) (small_ascii settings_middle refl) last in
    let behind = IsAscii-append (decimal seed) (settings_middle ++ (decimal accept ++ settings_end)) (IsAscii-decimal seed small) later in
    let whole =
    IsAscii-append settings_begin (decimal seed ++ (settings_middle ++ (decimal accept ++ settings_end))) (small_ascii settings_begin refl) behind in
    is_utf8-from_IsUtf8 (grouped_text seed accept) (IsUtf8-from_ascii (grouped_text seed accept) whole)

-- ---- the lexemes of each part

begin_lexed : (rest : List ℕ) → lex between (settings_begin ++ rest) ≡ token Token.begin_object ∷ token (Token.string (codes "seed")) ∷ colon ∷ lex between rest
unfolding json_on_literals
begin_lexed rest = refl

spread_lexed : (rest : List ℕ) → lex between (codes ",\"spread\":" ++ rest) ≡ comma ∷ token (Token.string (codes "spread")) ∷ colon ∷ lex between rest
unfolding json_on_literals
spread_lexed rest = refl

ten_is_number : IsNumber (codes "10")
unfolding json_on_literals
ten_is_number = refl

accept_lexed : (rest : List ℕ) → lex between (codes ",\"accept\":" ++ rest) ≡ comma ∷ token (Token.string (codes "accept")) ∷ colon ∷ lex between rest
unfolding json_on_literals
accept_lexed rest = refl

middle_lexed : (rest : List ℕ) → lex between (settings_middle ++ rest)
    ≡ comma ∷ token (Token.string (codes "spread")) ∷ colon ∷ token (Token.number (codes "10")) ∷ comma ∷ token (Token.string (codes "accept")) ∷ colon ∷ lex between rest
middle_lexed rest = rw (spread_lexed (codes "10" ++ (codes ",\"accept\":" ++ rest)), lex-number (codes "10") (codes ",\"accept\":" ++ rest) ten_is_number refl, accept_lexed rest) refl

abbrev end_lexemes : List Lexeme
end_lexemes =
    comma ∷ token (Token.string (codes "turns")) ∷ colon ∷ token (Token.number (codes "25"))
    ∷ comma ∷ token (Token.string (codes "tabu")) ∷ colon ∷ token (Token.number (codes "20"))
    ∷ comma ∷ token (Token.string (codes "patience")) ∷ colon ∷ token (Token.number (codes "10"))
    ∷ comma ∷ token (Token.string (codes "steps")) ∷ colon ∷ token Token.begin_array
    ∷ token (Token.number (codes "1")) ∷ comma ∷ token (Token.number (codes "10")) ∷ comma ∷ token (Token.number (codes "100")) ∷ token Token.end_array
    ∷ comma ∷ token (Token.string (codes "raise")) ∷ colon ∷ token (Token.number (codes "10")) ∷ token Token.end_object ∷ []

end_lexed : lex between settings_end ≡ end_lexemes
unfolding json_on_literals
end_lexed = refl

-- the lexemes around the texts of the two numbers
abbrev lexemes : List ℕ → List ℕ → List Lexeme
lexemes seed accept =
    token Token.begin_object ∷ token (Token.string (codes "seed")) ∷ colon ∷ token (Token.number seed)
    ∷ comma ∷ token (Token.string (codes "spread")) ∷ colon ∷ token (Token.number (codes "10")) ∷ comma ∷ token (Token.string (codes "accept")) ∷ colon ∷ token (Token.number accept)
    ∷ end_lexemes

lexed : (seed accept : ℕ) → seed < 2 ^ 64 → accept < 2 ^ 64 → lex between (grouped_text seed accept) ≡ lexemes (decimal seed) (decimal accept)
lexed seed accept small small' =
    let after = lex-number (decimal accept) settings_end (IsNumber-decimal accept small') refl in
    let before = lex-number (decimal seed) (settings_middle ++ (decimal accept ++ settings_end)) (IsNumber-decimal seed small) refl in
    rw (
      begin_lexed (decimal seed ++ (settings_middle ++ (decimal accept ++ settings_end))),
      before,
      middle_lexed (decimal accept ++ settings_end),
      after,
      end_lexed,
    )
    refl

-- ---- the value that they are

abbrev values : json.Json → json.Json → json.Json
values seed accept =
    json.object (
    json.member (codes "seed") seed (
    json.member (codes "spread") (json.number (codes "10")) (
    json.member (codes "accept") accept (
    json.member (codes "turns") (json.number (codes "25")) (
    json.member (codes "tabu") (json.number (codes "20")) (
    json.member (codes "patience") (json.number (codes "10")) (
    json.member (codes "steps") (json.array (json.item (json.number (codes "1")) (json.item (json.number (codes "10")) (json.item (json.number (codes "100")) json.no_items)))) (
    json.member (codes "raise") (json.number (codes "10")) json.no_members)))))))
    )

valued : (seed accept : List ℕ) → json.value max_depth (punctuate fresh (lexemes seed accept)) ≡ Some (values (json.number seed) (json.number accept), [])
unfolding json_on_literals
valued seed accept = refl

-- ---- the numbers

one_read : number_of (codes "1") ≡ Some (unsigned 1)
unfolding serde_json_on_literals
one_read = refl

ten_read : number_of (codes "10") ≡ Some (unsigned 10)
unfolding serde_json_on_literals
ten_read = refl

twenty_read : number_of (codes "20") ≡ Some (unsigned 20)
unfolding serde_json_on_literals
twenty_read = refl

twenty_five_read : number_of (codes "25") ≡ Some (unsigned 25)
unfolding serde_json_on_literals
twenty_five_read = refl

hundred_read : number_of (codes "100") ≡ Some (unsigned 100)
unfolding serde_json_on_literals
hundred_read = refl

-- the members in the order in which they are kept
abbrev whole : ℕ → Data
whole n = number (unsigned n)

abbrev kept : ℕ → ℕ → Data
kept seed accept =
    object (
    member (codes "accept") (whole accept) (
    member (codes "patience") (whole 10) (
    member (codes "raise") (whole 10) (
    member (codes "seed") (whole seed) (
    member (codes "spread") (whole 10) (
    member (codes "steps") (array (item (whole 1) (item (whole 10) (item (whole 100) no_items)))) (
    member (codes "tabu") (whole 20) (
    member (codes "turns") (whole 25) no_members)))))))
    )

data_of : (seed accept : ℕ) → seed < 2 ^ 64 → accept < 2 ^ 64
    → of_json (values (json.number (decimal seed)) (json.number (decimal accept))) ≡ Some (kept seed accept)
data_of seed accept small small' =
    rw (number_of-decimal seed small, number_of-decimal accept small', one_read, ten_read, twenty_read, twenty_five_read, hundred_read) refl

read_kept : (seed accept : ℕ) → seed < 2 ^ 64 → accept < 2 ^ 64 → read (grouped_text seed accept) ≡ Some (kept seed accept)
read_kept seed accept small small' = rw (lexed seed accept small small', valued (decimal seed) (decimal accept)) (data_of seed accept small small')

-- ---- the settings

settled : (seed accept : ℕ) → seed < 2 ^ 64 → accept ≤ 10 ^ 12
    → unless (fault_of (kept seed accept)) (values_of (kept seed accept)) ≡ Ok (made_settings seed accept)
settled seed accept small few =
    rw (le-leb 0 seed (omega arith), le-leb 0 accept (omega arith), le-leb seed (2 ^ 64 - 1) (omega arith), le-leb accept 1000000000000 (omega arith)) refl

reading_kept : (seed accept : ℕ) → seed < 2 ^ 64 → accept < 2 ^ 64 → reading (grouped_text seed accept) ≡ Some (kept seed accept)
reading_kept seed accept small small' =
    ap (λ b. if b then read (grouped_text seed accept) else None) (is_text seed accept small small') ∙ read_kept seed accept small small'

settings_from : (bytes : List ℕ) (d : Data) → reading bytes ≡ Some d → settings_of bytes ≡ unless (fault_of d) (values_of d)
settings_from bytes d e = rw (e, settings_of) refl

pub settings_read : (seed accept : ℕ) → seed < 2 ^ 64 → accept ≤ 10 ^ 12 → settings_of (settings_text seed accept) ≡ Ok (made_settings seed accept)
settings_read seed accept small few =
    ap settings_of (text_is seed accept) ∙ settings_from (grouped_text seed accept) (kept seed accept) (reading_kept seed accept small (omega arith))
    ∙ settled seed accept small few
