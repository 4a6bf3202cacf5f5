-- Two publications of one text are one.
use Rattle.std.proofs.Common.{ℕ, ◌≡◌, ◌<◌, ◌≤◌, ◌^◌, ◌==◌, false, List, [], ◌∷◌, ◌++◌, length, map, get_or, ap, sym, refl, subst, ◌∙◌, arith, length-append}
use Rattle.std.specs.Prelude.{All, IsTrue, codes}
use Rattle.std.specs.List.{AllByRecursion, join_with_byte}
use Rattle.std.specs.Fmt.{decimal}
use Rattle.std.proofs.lemmas.Bool.{ne_eqb}
use Rattle.std.proofs.lemmas.Fmt.{decimal_injective}
use Rattle.std.proofs.lemmas.List.Elements.{All-from_recursion, All-head, All-tail}
use Rattle.market_units.specs.Names.{IsName}
use Rattle.market_certificate.specs.declared.amounts.Amount.{Amount}
use Rattle.market_certificate.specs.declared.amounts.Amount.TheVariants as kinds
use Rattle.market_certificate.specs.Lines.{Lacks, joined}
use Rattle.market_certificate.specs.Tables.{Tables, AreNames, AreTables, name_at}
use Rattle.market_certificate.specs.Publications.{Proved, ProvedTurn, Publication, AreFor, IsBundleOf, IsProved, IsPublication, IsSession, IsTurn, IsUsed}
use Rattle.proof_tree.specs.Alphabets.{AreTreeBytes, is_tree_byte}
use Rattle.market_certificate.specs.Texts.{amount_line, bundle_line, bundle_text, each_line, end_line, error_line, final_line, head_line, lines_of, most_of, order_line, proved_text, turn_line, used_line, word_of}
use Rattle.market_certificate.specs.Due.{AreDue, EndForm, FinalForm, One, StartsTurn, Then, UsedForm, each_due}
use Rattle.market_certificate.specs.Laws.{OnePublicationAText}
use Rattle.market_certificate.proofs.Bundles.{different, name_lacks, named, same_bundle}
use Rattle.market_certificate.proofs.Cuts.{cut_once, digits_lack, joined_lack}
use Rattle.market_certificate.proofs.DueLemmas.{each_to}
use Rattle.market_certificate.proofs.Forms.{no_form_is_turn}
use Rattle.market_certificate.proofs.Unformed.{behind_same, behind_two, bundle_lacks, order_lacks, order_parts, proved_parts, seat_parts, turn_parts}

-- no line has a line feed
word_lacks : (bytes : List ℕ) → AllByRecursion (λ byte. (byte == 10) ≡ false) bytes → Lacks 10 bytes
word_lacks bytes each = All-from_recursion (λ byte. (byte == 10) ≡ false) bytes each

digits : (n : ℕ) → n < 2 ^ 64 → Lacks 10 (decimal n)
digits n small = digits_lack 10 n (omega arith) small

no_feed : (name : List ℕ) → IsName name → Lacks 10 name
no_feed name is = name_lacks 10 name refl is

tree_lacks : (tree : List ℕ) → AreTreeBytes tree → Lacks 10 tree
tree_lacks tree is k d inside =
    ne_eqb (get_or tree k d) 10
    (λ e. let byte : IsTrue (is_tree_byte 10) = subst (λ (b : ℕ). IsTrue (is_tree_byte b)) e (is.each k d inside) in absurd (cc byte))

text_lacks : (sections : List (List ℕ)) (bundle : List ℕ) → AreNames sections → IsBundleOf sections bundle → Lacks 10 (bundle_text sections bundle)
text_lacks sections bundle are is = bundle_lacks 10 sections bundle refl refl refl refl are is

small_most : (kind : Amount) (n : ℕ) → n ≤ most_of kind → n < 2 ^ 64
small_most kinds.Budget n small = omega (arith, small)
small_most kinds.Start n small = omega (arith, small)
small_most kinds.Price n small = omega (arith, small)

kind_lacks : (kind : Amount) → Lacks 10 (word_of kind)
kind_lacks kinds.Budget = word_lacks (codes "budget") (refl, (refl, (refl, (refl, (refl, (refl, tt))))))
kind_lacks kinds.Start = word_lacks (codes "start") (refl, (refl, (refl, (refl, (refl, tt)))))
kind_lacks kinds.Price = word_lacks (codes "price") (refl, (refl, (refl, (refl, (refl, tt)))))

head_lacks : (tables : Tables) → tables.version < 2 ^ 64 → Lacks 10 (head_line tables)
head_lacks tables small =
    joined_lack 32 10 (codes "course-match" ∷ decimal tables.version ∷ []) refl
    (word_lacks (codes "course-match") (refl, (refl, (refl, (refl, (refl, (refl, (refl, (refl, (refl, (refl, (refl, (refl, tt)))))))))))), (digits tables.version small, tt))

order_line_lacks : (order : List ℕ) → All IsSession order → Lacks 10 (order_line order)
order_line_lacks order each = joined_lack 32 10 (codes "order" ∷ map decimal order) refl (word_lacks (codes "order") (refl, (refl, (refl, (refl, (refl, tt))))), order_lacks order each)

amount_lacks : (kind : Amount) (name : List ℕ) (tokens : ℕ) → IsName name → tokens ≤ most_of kind → Lacks 10 (amount_line kind name tokens)
amount_lacks kind name tokens is small =
    joined_lack 32 10 (word_of kind ∷ name ∷ decimal tokens ∷ []) refl (kind_lacks kind, (no_feed name is, (digits tokens (small_most kind tokens small), tt)))

error_lacks : (error : ℕ) → error < 2 ^ 64 → Lacks 10 (error_line error)
error_lacks error small = joined_lack 32 10 (codes "error" ∷ decimal error ∷ []) refl (word_lacks (codes "error") (refl, (refl, (refl, (refl, (refl, tt))))), (digits error small, tt))

bundle_line_lacks : (sections : List (List ℕ)) → AreNames sections → (name : List ℕ) (proved : Proved) → IsName name → IsProved sections proved
    → Lacks 10 (bundle_line sections name proved)
bundle_line_lacks sections are name proved is it =
    joined_lack 32 10 (codes "bundle" ∷ name ∷ bundle_text sections proved.bundle ∷ proved.tree ∷ []) refl
    (word_lacks (codes "bundle") (refl, (refl, (refl, (refl, (refl, (refl, tt)))))), (no_feed name is, (text_lacks sections proved.bundle are it.bundle, (tree_lacks proved.tree it.tree, tt))))

turn_line_lacks : (students sections : List (List ℕ)) → AreNames students → AreNames sections → (turn : ProvedTurn) → IsTurn students sections turn
    → Lacks 10 (turn_line students sections turn)
turn_line_lacks students sections are are' turn it =
    joined_lack 32 10 (codes "turn" ∷ decimal turn.pass ∷ name_at students turn.student ∷ bundle_text sections turn.bundle ∷ turn.tree ∷ []) refl
    (word_lacks (codes "turn") (refl, (refl, (refl, (refl, tt)))), (digits turn.pass it.most, (no_feed (name_at students turn.student) (named students turn.student are it.student), (text_lacks sections turn.bundle are' it.bundle, (tree_lacks turn.tree it.tree, tt)))))

final_lacks : (sections : List (List ℕ)) → AreNames sections → (name bundle : List ℕ) → IsName name → IsBundleOf sections bundle
    → Lacks 10 (final_line sections name bundle)
final_lacks sections are name bundle is it =
    joined_lack 32 10 (codes "final" ∷ name ∷ bundle_text sections bundle ∷ []) refl (word_lacks (codes "final") (refl, (refl, (refl, (refl, (refl, tt))))), (no_feed name is, (text_lacks sections bundle are it, tt)))

used_lacks : (name : List ℕ) (seats : ℕ × ℕ) → IsName name → IsUsed seats → Lacks 10 (used_line name seats)
used_lacks name seats is it =
    joined_lack 32 10 (codes "used" ∷ name ∷ decimal seats.0 ∷ decimal seats.1 ∷ []) refl
    (word_lacks (codes "used") (refl, (refl, (refl, (refl, tt)))), (no_feed name is, (digits seats.0 (omega (arith, it.used)), (digits seats.1 (omega (arith, it.all)), tt))))

both_lack : (xs ys : List (List ℕ)) → AllByRecursion (Lacks 10) xs → AllByRecursion (Lacks 10) ys → AllByRecursion (Lacks 10) (xs ++ ys)
both_lack [] ys each each' = each'
both_lack (x ∷ xs) ys each each' = (each.0, both_lack xs ys each.1 each')

each_lack : {V : Type 0} (line : List ℕ → V → List ℕ) (P : V → Type 0) → ((name : List ℕ) (value : V) → IsName name → P value → Lacks 10 (line name value))
    → (names : List (List ℕ)) (values : List V) → All IsName names → All P values
    → AllByRecursion (Lacks 10) (each_line line names values)
each_lack line P lacks [] values are each = tt
each_lack line P lacks (name ∷ names) [] are each = tt
each_lack line P lacks (name ∷ names) (v ∷ values) are each = (
  lacks name v (All-head IsName name names are) (All-head P v values each),
  each_lack line P lacks names values (All-tail IsName name names are) (All-tail P v values each),
)

turns_lack : (students sections : List (List ℕ)) → AreNames students → AreNames sections → (turns : List ProvedTurn) → All (IsTurn students sections) turns
    → AllByRecursion (Lacks 10) (map (turn_line students sections) turns)
turns_lack students sections are are' [] each = tt
turns_lack students sections are are' (t ∷ turns) each = (
  turn_line_lacks students sections are are' t (All-head (IsTurn students sections) t turns each),
  turns_lack students sections are are' turns (All-tail (IsTurn students sections) t turns each),
)

pub lines_lack : (tables : Tables) → AreTables tables → (p : Publication) → IsPublication tables p → AllByRecursion (Lacks 10) (lines_of tables p)
lines_lack tables are p is = (
  head_lacks tables are.version,
  (
    order_line_lacks p.order is.order,
    both_lack (each_line (amount_line kinds.Budget) tables.students p.budgets) _ (each_lack (amount_line kinds.Budget) (λ tokens. tokens ≤ most_of kinds.Budget) (amount_lacks kinds.Budget) tables.students p.budgets are.students.each is.budgets.each) (
        both_lack (each_line (amount_line kinds.Start) tables.sections p.start) _ (each_lack (amount_line kinds.Start) (λ tokens. tokens ≤ most_of kinds.Start) (amount_lacks kinds.Start) tables.sections p.start are.sections.each is.start.each) (
          error_lacks p.error is.error,
          both_lack (each_line (amount_line kinds.Price) tables.sections p.prices) _ (each_lack (amount_line kinds.Price) (λ tokens. tokens ≤ most_of kinds.Price) (amount_lacks kinds.Price) tables.sections p.prices are.sections.each is.prices.each) (
              both_lack (each_line (bundle_line tables.sections) tables.students p.bundles) _ (each_lack (bundle_line tables.sections) (IsProved tables.sections) (bundle_line_lacks tables.sections are.sections) tables.students p.bundles are.students.each is.bundles.each) (
              both_lack (map (turn_line tables.students tables.sections) p.turns) _ (turns_lack tables.students tables.sections are.students are.sections p.turns is.turns) (
              both_lack (each_line (final_line tables.sections) tables.students p.allocation) _ (each_lack (final_line tables.sections) (IsBundleOf tables.sections) (final_lacks tables.sections are.sections) tables.students p.allocation are.students.each is.allocation.each) (
              both_lack (each_line used_line tables.sections p.used) (end_line ∷ []) (each_lack used_line IsUsed used_lacks tables.sections p.used are.sections.each is.used.each) (word_lacks (codes "end") (refl, (refl, (refl, tt))), tt)
              )
              )
              )
              ),
        )
        ),
  ),
)

-- lines without line feeds are told by their text
pub same_lines : (xs ys : List (List ℕ)) → AllByRecursion (Lacks 10) xs → AllByRecursion (Lacks 10) ys → joined xs ≡ joined ys → xs ≡ ys
same_lines [] [] free free' e = refl
same_lines [] (y ∷ ys) free free' e = absurd (omega (arith, ap length e, length-append y (10 ∷ joined ys)))
same_lines (x ∷ xs) [] free free' e = absurd (omega (arith, ap length e, length-append x (10 ∷ joined xs)))
same_lines (x ∷ xs) (y ∷ ys) free free' e =
    let cut = cut_once 10 x y (joined xs) (joined ys) free.0 free'.0 e in
    ap (λ l. l ∷ xs) cut.0 ∙ ap (λ ls. y ∷ ls) (same_lines xs ys free.1 free'.1 cut.1)

-- a line tells its value
same_amount : (kind : Amount) (name : List ℕ) (a b : ℕ) → a ≤ most_of kind → b ≤ most_of kind → amount_line kind name a ≡ amount_line kind name b → a ≡ b
same_amount kind name a b small small' e =
    decimal_injective a b (small_most kind a small) (small_most kind b small')
    (behind_two (word_of kind) name (amount_line kind name a) (name ++ 32 ∷ decimal a) (decimal a) (decimal b) refl refl e)

same_proved_text : (sections : List (List ℕ)) → AreNames sections → (a b : Proved) → IsProved sections a → IsProved sections b
    → proved_text sections a ≡ proved_text sections b → (a.bundle ≡ b.bundle) × (a.tree ≡ b.tree)
same_proved_text sections are a b is is' e =
    let parts =
    proved_parts sections (proved_text sections a) (bundle_text sections a.bundle) a.tree b are is' refl
    (bundle_lacks 32 sections a.bundle refl refl refl refl are is.bundle) e in
    (same_bundle sections a.bundle b.bundle are is.bundle is'.bundle parts.0, parts.1)

same_proved : (sections : List (List ℕ)) → AreNames sections → (name : List ℕ) (a b : Proved) → IsProved sections a → IsProved sections b
    → bundle_line sections name a ≡ bundle_line sections name b → a ≡ b
same_proved sections are name a b is is' e =
    let parts = same_proved_text sections are a b is is' (behind_two (codes "bundle") name (bundle_line sections name a) (name ++ 32 ∷ proved_text sections a) (proved_text sections a) (proved_text sections b) refl refl e) in
    λ i. record { bundle = parts.0 i; tree = parts.1 i }

same_final : (sections : List (List ℕ)) → AreNames sections → (name a b : List ℕ) → IsBundleOf sections a → IsBundleOf sections b
    → final_line sections name a ≡ final_line sections name b → a ≡ b
same_final sections are name a b is is' e =
    same_bundle sections a b are is is' (behind_two (codes "final") name (final_line sections name a) (name ++ 32 ∷ bundle_text sections a) (bundle_text sections a) (bundle_text sections b) refl refl e)

same_used : (name : List ℕ) (a b : ℕ × ℕ) → IsUsed a → IsUsed b → used_line name a ≡ used_line name b → a ≡ b
same_used name a b is is' e =
    let numbers = behind_two (codes "used") name (used_line name a) (name ++ 32 ∷ (decimal a.0 ++ 32 ∷ decimal a.1)) (decimal a.0 ++ 32 ∷ decimal a.1) (decimal b.0 ++ 32 ∷ decimal b.1) refl refl e in
    let parts =
    seat_parts (decimal a.0 ++ 32 ∷ decimal a.1) (decimal a.0) (decimal a.1) b is' refl (digits_lack 32 a.0 (omega arith) (omega (arith, is.used))) numbers in
    let first = decimal_injective a.0 b.0 (omega (arith, is.used)) (omega (arith, is'.used)) parts.0 in
    let second = decimal_injective a.1 b.1 (omega (arith, is.all)) (omega (arith, is'.all)) parts.1 in
    λ i. (first i, second i)

different_students : (tables : Tables) → AreTables tables → (a b : ℕ) → a < length tables.students → b < length tables.students
    → name_at tables.students a ≡ name_at tables.students b → a ≡ b
different_students tables are a b inside inside' e = different tables.students a b are.students.distinct inside inside' e

same_turn : (tables : Tables) → AreTables tables → (t u : ProvedTurn) → IsTurn tables.students tables.sections t → IsTurn tables.students tables.sections u
    → turn_line tables.students tables.sections t ≡ turn_line tables.students tables.sections u → t ≡ u
same_turn tables are t u is is' e =
    let name = name_at tables.students t.student in
    let last = proved_text tables.sections (record { bundle = t.bundle; tree = t.tree }) in
    let parts =
    turn_parts tables (turn_line tables.students tables.sections t) (decimal t.pass ++ 32 ∷ (name ++ 32 ∷ last)) (decimal t.pass) (name ++ 32 ∷ last) name
    last u are is' refl refl (digits_lack 32 t.pass (omega arith) is.most) refl
    (name_lacks 32 name refl (named tables.students t.student are.students is.student)) e in
    let pass = decimal_injective t.pass u.pass is.most is'.most parts.pass in
    let student = different_students tables are t.student u.student is.student is'.student parts.student in
    let proved =
    same_proved_text tables.sections are.sections (record { bundle = t.bundle; tree = t.tree }) (record { bundle = u.bundle; tree = u.tree })
    (record { bundle = is.bundle; tree = is.tree }) (record { bundle = is'.bundle; tree = is'.tree }) parts.proved in
    λ i. record { pass = pass i; student = student i; bundle = proved.0 i; tree = proved.1 i }

same_numbers : (a b : List ℕ) → All IsSession a → All IsSession b → map decimal a ≡ map decimal b → a ≡ b
same_numbers [] [] each each' e = refl
same_numbers [] (y ∷ b) each each' e = absurd (omega (arith, ap length e))
same_numbers (x ∷ a) [] each each' e = absurd (omega (arith, ap length e))
same_numbers (x ∷ a) (y ∷ b) each each' e =
    let head : decimal x ≡ decimal y = ap (λ l. get_or l 0 []) e in
    let tail : map decimal a ≡ map decimal b = cc e in
    let one = decimal_injective x y (omega (arith, (All-head IsSession x a each).most)) (omega (arith, (All-head IsSession y b each').most)) head in
    ap (λ n. n ∷ a) one ∙ ap (λ ns. y ∷ ns) (same_numbers a b (All-tail IsSession x a each) (All-tail IsSession y b each') tail)

same_order : (a b : List ℕ) → All IsSession a → All IsSession b → order_line a ≡ order_line b → a ≡ b
same_order [] [] each each' e = refl
same_order [] (y ∷ b) each each' e = absurd (omega (arith, ap length e, length-append (codes "order") (32 ∷ join_with_byte 32 (map decimal (y ∷ b)))))
same_order (x ∷ a) [] each each' e = absurd (omega (arith, ap length e, length-append (codes "order") (32 ∷ join_with_byte 32 (map decimal (x ∷ a)))))
same_order (x ∷ a) (y ∷ b) each each' e =
    let text = join_with_byte 32 (map decimal (x ∷ a)) in
    let same = behind_same (codes "order") (order_line (x ∷ a)) text (join_with_byte 32 (map decimal (y ∷ b))) refl e in
    same_numbers (x ∷ a) (y ∷ b) each each'
    (sym (order_parts (x ∷ a) text (λ none. absurd (cc none)) each refl) ∙ order_parts (y ∷ b) text (λ none. absurd (cc none)) each' same)

same_error : (a b : ℕ) → a < 2 ^ 64 → b < 2 ^ 64 → error_line a ≡ error_line b → a ≡ b
same_error a b small small' e = decimal_injective a b small small' (behind_same (codes "error") (error_line a) (decimal a) (decimal b) refl e)

-- values in front of other lines
same_each : {V : Type 0} (line : List ℕ → V → List ℕ) (P : V → Type 0) → ((name : List ℕ) (a b : V) → P a → P b → line name a ≡ line name b → a ≡ b)
    → (names : List (List ℕ)) (a b : List V) (y z : List (List ℕ)) → AreFor names P a → AreFor names P b
    → each_line line names a ++ y ≡ each_line line names b ++ z → (a ≡ b) × (y ≡ z)
same_each line P one [] [] [] y z are are' e = (refl, e)
same_each line P one [] (v ∷ a) b y z are are' e = absurd (omega (arith, are.count))
same_each line P one [] [] (w ∷ b) y z are are' e = absurd (omega (arith, are'.count))
same_each line P one (name ∷ names) [] b y z are are' e = absurd (omega (arith, are.count))
same_each line P one (name ∷ names) (v ∷ a) [] y z are are' e = absurd (omega (arith, are'.count))
same_each line P one (name ∷ names) (v ∷ a) (w ∷ b) y z are are' e =
    let head : line name v ≡ line name w = ap (λ l. get_or l 0 []) e in
    let tail : each_line line names a ++ y ≡ each_line line names b ++ z = cc e in
    let here = one name v w (All-head P v a are.each) (All-head P w b are'.each) head in
    let more =
    same_each line P one names a b y z (record { count = omega (arith, are.count); each = All-tail P v a are.each })
    (record { count = omega (arith, are'.count); each = All-tail P w b are'.each }) tail in
    (ap (λ x. x ∷ a) here ∙ ap (λ xs. w ∷ xs) more.0, more.1)

-- the first line is there, and begins as no turn does
NoTurnFirst : List (List ℕ) → Type 0
NoTurnFirst lines = Then (λ line. ¬ StartsTurn line) (λ _. Unit {0}) lines

no_turn_first : (tables : Tables) (students sections : List (List ℕ)) (lines : List (List ℕ))
    → AreDue tables (each_due FinalForm students ++ (each_due UsedForm sections ++ One EndForm ∷ [])) lines → NoTurnFirst lines
unfolding NoTurnFirst
no_turn_first tables [] [] [] due = absurd due
no_turn_first tables [] [] (line ∷ lines) due = (no_form_is_turn tables EndForm line due.0, tt)
no_turn_first tables [] (section ∷ sections) [] due = absurd due
no_turn_first tables [] (section ∷ sections) (line ∷ lines) due = (no_form_is_turn tables (UsedForm section) line due.0, tt)
no_turn_first tables (student ∷ students) sections [] due = absurd due
no_turn_first tables (student ∷ students) sections (line ∷ lines) due = (no_form_is_turn tables (FinalForm student) line due.0, tt)

not_both : (students sections : List (List ℕ)) (t : ProvedTurn) (y : List (List ℕ)) (more : List (List ℕ)) → NoTurnFirst y
    → y ≡ turn_line students sections t ∷ more → ⊥
unfolding NoTurnFirst
not_both students sections t [] more none e = cc e
not_both students sections t (l ∷ y) more none e = none.0 (_, ap (λ ls. get_or ls 0 []) e)

same_turns : (tables : Tables) → AreTables tables → (ts us : List ProvedTurn) (y z : List (List ℕ)) → NoTurnFirst y → NoTurnFirst z
    → All (IsTurn tables.students tables.sections) ts → All (IsTurn tables.students tables.sections) us
    → map (turn_line tables.students tables.sections) ts ++ y ≡ map (turn_line tables.students tables.sections) us ++ z → (ts ≡ us) × (y ≡ z)
same_turns tables are [] [] y z none none' each each' e = (refl, e)
same_turns tables are [] (u ∷ us) y z none none' each each' e = absurd (not_both tables.students tables.sections u y _ none e)
same_turns tables are (t ∷ ts) [] y z none none' each each' e = absurd (not_both tables.students tables.sections t z _ none' (sym e))
same_turns tables are (t ∷ ts) (u ∷ us) y z none none' each each' e =
    let P = IsTurn tables.students tables.sections in
    let line = turn_line tables.students tables.sections in
    let head : line t ≡ line u = ap (λ l. get_or l 0 []) e in
    let tail : map line ts ++ y ≡ map line us ++ z = cc e in
    let here = same_turn tables are t u (All-head P t ts each) (All-head P u us each') head in
    let more = same_turns tables are ts us y z none none' (All-tail P t ts each) (All-tail P u us each') tail in
    (ap (λ x. x ∷ ts) here ∙ ap (λ xs. u ∷ xs) more.0, more.1)

last_lines : (tables : Tables) (p : Publication) → IsPublication tables p
    → NoTurnFirst (each_line (final_line tables.sections) tables.students p.allocation ++ (each_line used_line tables.sections p.used ++ end_line ∷ []))
last_lines tables p is =
    no_turn_first tables tables.students tables.sections _ (
    each_to tables FinalForm (final_line tables.sections) (IsBundleOf tables.sections) (λ name value is. (value, is, refl)) tables.students p.allocation _ _ is.allocation (
    each_to tables UsedForm used_line IsUsed (λ name value is. (value, is, refl)) tables.sections p.used (One EndForm ∷ []) (end_line ∷ []) is.used (refl, refl)
    )
    )

-- what stands behind the first lines
behind_head : (x y : List ℕ) (xs ys : List (List ℕ)) → x ∷ xs ≡ y ∷ ys → xs ≡ ys
behind_head x y xs ys e = cc e

behind_first : (x y x' y' : List ℕ) (xs ys : List (List ℕ)) → x ∷ x' ∷ xs ≡ y ∷ y' ∷ ys → xs ≡ ys
behind_first x y x' y' xs ys e = cc e

pub one_publication : OnePublicationAText
one_publication tables are p q is is' e =
    let lines = same_lines (lines_of tables p) (lines_of tables q) (lines_lack tables are p is) (lines_lack tables are q is') e in
    let order_lines : order_line p.order ≡ order_line q.order = ap (λ ls. get_or ls 1 []) lines in
    let order = same_order p.order q.order is.order is'.order order_lines in
    let budgets =
    same_each (amount_line kinds.Budget) (λ tokens. tokens ≤ most_of kinds.Budget) (same_amount kinds.Budget) tables.students p.budgets q.budgets _ _
    is.budgets is'.budgets (behind_first _ _ _ _ _ _ lines) in
    let start =
    same_each (amount_line kinds.Start) (λ tokens. tokens ≤ most_of kinds.Start) (same_amount kinds.Start) tables.sections p.start q.start _ _ is.start
    is'.start budgets.1 in
    let error = same_error p.error q.error is.error is'.error (ap (λ ls. get_or ls 0 []) start.1) in
    let prices =
    same_each (amount_line kinds.Price) (λ tokens. tokens ≤ most_of kinds.Price) (same_amount kinds.Price) tables.sections p.prices q.prices _ _ is.prices
    is'.prices (behind_head _ _ _ _ start.1) in
    let bundles =
    same_each (bundle_line tables.sections) (IsProved tables.sections) (same_proved tables.sections are.sections) tables.students p.bundles q.bundles _ _
    is.bundles is'.bundles prices.1 in
    let turns = same_turns tables are p.turns q.turns _ _ (last_lines tables p is) (last_lines tables q is') is.turns is'.turns bundles.1 in
    let finals =
    same_each (final_line tables.sections) (IsBundleOf tables.sections) (same_final tables.sections are.sections) tables.students p.allocation q.allocation _
    _ is.allocation is'.allocation turns.1 in
    let used = same_each used_line IsUsed same_used tables.sections p.used q.used (end_line ∷ []) (end_line ∷ []) is.used is'.used finals.1 in
    λ i. record {
      order = order i;
      budgets = budgets.0 i;
      start = start.0 i;
      error = error i;
      prices = prices.0 i;
      bundles = bundles.0 i;
      turns = turns.0 i;
      allocation = finals.0 i;
      used = used.0 i;
    }
