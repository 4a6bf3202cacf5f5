-- Parts of a line of a form.
use Rattle.std.proofs.Common.{ℕ, ◌≡◌, ◌≢◌, ◌==◌, ◌<◌, false, List, [], ◌∷◌, ◌++◌, length, map, get_or, ap, sym, refl, subst, arith, ◌∙◌}
use Rattle.std.specs.Prelude.{All, IfNone, None, Option, Some, codes}
use Rattle.std.specs.List.{AllByRecursion, join_with_byte, slice_split}
use Rattle.std.specs.Fmt.{decimal}
use Rattle.std.proofs.lemmas.List.{append_cancel_left, get_or-map, length-map}
use Rattle.std.proofs.lemmas.List.Elements.{All-cons, All-head, All-nil, All-tail}
use Rattle.market_units.specs.Names.{is_name_byte}
use Rattle.market_certificate.specs.Lines.{Lacks}
use Rattle.market_certificate.specs.Tables.{Tables, AreNames, AreTables, name_at}
use Rattle.market_certificate.specs.Publications.{Proved, ProvedTurn, IsBundleOf, IsProved, IsSession, IsTurn, IsUsed}
use Rattle.market_certificate.specs.Texts.{bundle_text, order_line, proved_text, turn_line}
use Rattle.market_certificate.specs.Due.{OrderForm, HasForm, IsTurnLine}
use Rattle.market_certificate.proofs.Bundles.{name_lacks, named, names_lack}
use Rattle.market_certificate.proofs.Cuts.{cut_once, digits_lack, joined_lack, lacks_more, lacks_not, parts_of}

-- what stands behind a front and a space
pub behind_same : (front line rest other : List ℕ) → line ≡ front ++ 32 ∷ rest → line ≡ front ++ 32 ∷ other → rest ≡ other
behind_same front line rest other e e' = append_cancel_left (32 ∷ []) rest other (append_cancel_left front (32 ∷ rest) (32 ∷ other) (sym e ∙ e'))

pub behind_two : (word name line rest last other : List ℕ) → line ≡ word ++ 32 ∷ rest → rest ≡ name ++ 32 ∷ last → line ≡ word ++ 32 ∷ (name ++ 32 ∷ other)
    → last ≡ other
behind_two word name line rest last other e e' e'' = behind_same name rest last other e' (behind_same word line rest (name ++ 32 ∷ other) e e'')

-- a bundle's text lacks what is in no name, and is no bracket or comma
pub bundle_lacks : (stop : ℕ) (names : List (List ℕ)) (bundle : List ℕ) → is_name_byte stop ≡ false → (91 == stop) ≡ false → (44 == stop) ≡ false
    → (93 == stop) ≡ false → AreNames names → IsBundleOf names bundle → Lacks stop (bundle_text names bundle)
bundle_lacks stop names bundle other begin comma close are is =
    let P : ℕ → Type 0 = λ byte. (byte == stop) ≡ false in
    All-cons P 91 (join_with_byte 44 (map (name_at names) bundle) ++ 93 ∷ []) begin (
    lacks_more stop (join_with_byte 44 (map (name_at names) bundle)) [] 93 close
    (joined_lack 44 stop (map (name_at names) bundle) comma (names_lack stop names bundle other are is.of_catalog)) (All-nil P)
    )

pub no_proved : (names : List (List ℕ)) (bytes : List ℕ) → Lacks 32 bytes → (proved : Proved) → bytes ≢ proved_text names proved
no_proved names bytes lacks proved e = lacks_not 32 (bundle_text names proved.bundle) proved.tree (subst (Lacks 32) e lacks)

pub proved_parts : (names : List (List ℕ)) (bytes front tree : List ℕ) (proved : Proved) → AreNames names → IsProved names proved → bytes ≡ front ++ 32 ∷ tree
    → Lacks 32 front → bytes ≡ proved_text names proved
    → (front ≡ bundle_text names proved.bundle) × (tree ≡ proved.tree)
proved_parts names bytes front tree proved are is e lacks e' =
    cut_once 32 front (bundle_text names proved.bundle) tree proved.tree lacks (bundle_lacks 32 names proved.bundle refl refl refl refl are is.bundle)
    (sym e ∙ e')

-- the parts of a turn's line
pub record AreTurnParts (tables : Tables) (digits name last : List ℕ) (turn : ProvedTurn) : Type 0 where
  pub pass : digits ≡ decimal turn.pass
  pub student : name ≡ name_at tables.students turn.student
  pub proved : last ≡ proved_text tables.sections (record { bundle = turn.bundle; tree = turn.tree })

pub behind_turn : (tables : Tables) (line rest : List ℕ) (turn : ProvedTurn) → line ≡ codes "turn" ++ 32 ∷ rest → line ≡ turn_line tables.students tables.sections turn
    → rest
    ≡ decimal turn.pass ++ 32 ∷ (name_at tables.students turn.student ++ 32 ∷ proved_text tables.sections (record { bundle = turn.bundle; tree = turn.tree }))
behind_turn tables line rest turn e e' = behind_same (codes "turn") line rest _ e e'

pub no_pass : (tables : Tables) (line rest : List ℕ) → line ≡ codes "turn" ++ 32 ∷ rest → Lacks 32 rest → ¬ IsTurnLine tables line
no_pass tables line rest e lacks has = lacks_not 32 (decimal has.0.pass) _ (subst (Lacks 32) (behind_turn tables line rest has.0 e has.2) lacks)

pub pass_parts : (tables : Tables) (line rest digits more : List ℕ) (turn : ProvedTurn) → IsTurn tables.students tables.sections turn → line ≡ codes "turn" ++ 32 ∷ rest → rest ≡ digits ++ 32 ∷ more → Lacks 32 digits
    → line ≡ turn_line tables.students tables.sections turn
    → (digits ≡ decimal turn.pass)
    × (more ≡ name_at tables.students turn.student ++ 32 ∷ proved_text tables.sections (record { bundle = turn.bundle; tree = turn.tree }))
pass_parts tables line rest digits more turn is e e' lacks e'' =
    cut_once 32 digits (decimal turn.pass) more _ lacks (digits_lack 32 turn.pass (omega arith) is.most) (sym e' ∙ behind_turn tables line rest turn e e'')

pub no_name : (tables : Tables) (line rest digits more : List ℕ) → line ≡ codes "turn" ++ 32 ∷ rest → rest ≡ digits ++ 32 ∷ more → Lacks 32 digits → Lacks 32 more → ¬ IsTurnLine tables line
no_name tables line rest digits more e e' lacks lacks' has =
    lacks_not 32 (name_at tables.students has.0.student) _ (subst (Lacks 32) (pass_parts tables line rest digits more has.0 has.1 e e' lacks has.2).1 lacks')

pub turn_parts : (tables : Tables) (line rest digits more name last : List ℕ) (turn : ProvedTurn) → AreTables tables → IsTurn tables.students tables.sections turn → line ≡ codes "turn" ++ 32 ∷ rest → rest ≡ digits ++ 32 ∷ more
    → Lacks 32 digits → more ≡ name ++ 32 ∷ last → Lacks 32 name → line ≡ turn_line tables.students tables.sections turn
    → AreTurnParts tables digits name last turn
turn_parts tables line rest digits more name last turn are is e e' lacks e'' lacks' e''' =
    let begun = pass_parts tables line rest digits more turn is e e' lacks e''' in
    let then =
    cut_once 32 name (name_at tables.students turn.student) last _ lacks'
    (name_lacks 32 (name_at tables.students turn.student) refl (named tables.students turn.student are.students is.student)) (sym e'' ∙ begun.1) in
    record { pass = begun.0; student = then.0; proved = then.1 }

-- two numbers, cut at the space between them
pub seat_parts : (numbers front back : List ℕ) (seats : ℕ × ℕ) → IsUsed seats → numbers ≡ front ++ 32 ∷ back → Lacks 32 front
    → numbers ≡ decimal seats.0 ++ 32 ∷ decimal seats.1 → (front ≡ decimal seats.0) × (back ≡ decimal seats.1)
seat_parts numbers front back seats is e lacks e' =
    cut_once 32 front (decimal seats.0) back (decimal seats.1) lacks (digits_lack 32 seats.0 (omega arith) (omega (arith, is.used))) (sym e ∙ e')

pub no_seats : (numbers : List ℕ) (seats : ℕ × ℕ) → Lacks 32 numbers → numbers ≢ decimal seats.0 ++ 32 ∷ decimal seats.1
no_seats numbers seats lacks e = lacks_not 32 (decimal seats.0) (decimal seats.1) (subst (Lacks 32) e lacks)

-- numbers of sessions, joined by spaces
numbers_lack : (stop : ℕ) (order : List ℕ) → stop < 48 → All IsSession order → AllByRecursion (Lacks stop) (map decimal order)
numbers_lack stop [] low each = tt
numbers_lack stop (n ∷ order) low each =
    (digits_lack stop n low (omega (arith, (All-head IsSession n order each).most)), numbers_lack stop order low (All-tail IsSession n order each))

pub order_parts : (order text : List ℕ) → order ≢ [] → All IsSession order → text ≡ join_with_byte 32 (map decimal order)
    → slice_split (λ b. b == 32) text ≡ map decimal order
order_parts [] text some each e = absurd (some refl)
order_parts (n ∷ order) text some each e =
    ap (slice_split (λ b. b == 32)) e ∙ parts_of 32 (decimal n) (map decimal order) (numbers_lack 32 (n ∷ order) (omega arith) each)

pub session_at : (order text word : List ℕ) (k : ℕ) → order ≢ [] → All IsSession order → text ≡ join_with_byte 32 (map decimal order)
    → k < length (slice_split (λ b. b == 32) text) → word ≡ get_or (slice_split (λ b. b == 32) text) k word
    → (session : ℕ) × IsSession session × (word ≡ decimal session)
session_at order text word k some each e inside here =
    let parts = order_parts order text some each e in
    let within : k < length order = omega (arith, inside, ap length parts, length-map order decimal) in
    (get_or order k 0, each k 0 within, here ∙ ap (λ ps. get_or ps k word) parts ∙ get_or-map decimal order k 0 word within)

pub order_lacks : (order : List ℕ) → All IsSession order → AllByRecursion (Lacks 10) (map decimal order)
order_lacks order each = numbers_lack 10 order (omega arith) each

no_order_of : (line order : List ℕ) → line ≢ codes "order" → ((rest : List ℕ) → line ≢ codes "order" ++ 32 ∷ rest) → line ≢ order_line order
no_order_of line [] other none e = other e
no_order_of line (n ∷ order) other none e = none (join_with_byte 32 (map decimal (n ∷ order))) e

pub no_order : (tables : Tables) (line : List ℕ) → line ≢ codes "order" → ((rest : List ℕ) → line ≢ codes "order" ++ 32 ∷ rest) → ¬ HasForm tables OrderForm line
no_order tables line other none has = no_order_of line has.0 other none has.2

no_sessions_of : (line numbers order : List ℕ) → line ≢ codes "order" → line ≡ codes "order" ++ 32 ∷ numbers → ((order : List ℕ) → order ≢ [] → All IsSession order → numbers ≢ join_with_byte 32 (map decimal order)) → All IsSession order
    → line ≢ order_line order
no_sessions_of line numbers [] other e none each e' = other e'
no_sessions_of line numbers (n ∷ order) other e none each e' =
    none (n ∷ order) (λ empty. absurd (cc empty)) each (behind_same (codes "order") line numbers (join_with_byte 32 (map decimal (n ∷ order))) e e')

pub no_sessions : (tables : Tables) (line numbers : List ℕ) → line ≢ codes "order" → line ≡ codes "order" ++ 32 ∷ numbers → ((order : List ℕ) → order ≢ [] → All IsSession order → numbers ≢ join_with_byte 32 (map decimal order))
    → ¬ HasForm tables OrderForm line
no_sessions tables line numbers other e none has = no_sessions_of line numbers has.0 other e none has.1 has.2

-- the line of an order with numbers
pub order_with : (line numbers order : List ℕ) → order ≢ [] → line ≡ codes "order" ++ 32 ∷ numbers → numbers ≡ join_with_byte 32 (map decimal order) → line ≡ order_line order
order_with line numbers [] some e e' = absurd (some refl)
order_with line numbers (n ∷ order) some e e' = e ∙ ap (λ rest. codes "order" ++ 32 ∷ rest) e'

pub when_none : {A : Type 0} {P : Type 0} (r : Option A) → r ≡ None → IfNone r P → P
when_none None e is = is
when_none (Some a) e is = absurd (cc e)
