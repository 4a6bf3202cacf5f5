-- An accepted text has no first finding.
use Rattle.std.proofs.Common.{ℕ, zero, suc, ◌≡◌, ◌<◌, ◌≤◌, ◌+◌, ◌-◌, ◌∙◌, Bool, true, false, cond, nat_eq, List, [], ◌∷◌, length, map, take, get_or, refl, ap, sym, subst, inl, inr, arith}
use Rattle.std.specs.Prelude.{slice_index_or}
use Rattle.std.proofs.lemmas.Bool.Decides.{eqb_tells}
use Rattle.std.proofs.lemmas.List.{get_or-map}
use Rattle.std.proofs.lemmas.List.Elements.{All-nil}
use Rattle.std.proofs.lemmas.List.Sums.{sum_by-cons}
use Rattle.bundle_rules.specs.Menus.{IsMenu}
use Rattle.course_catalog.specs.Catalog.{IsCatalog}
use Rattle.course_catalog.specs.Sections.{Section}
use Rattle.student_roll.specs.Students.{IsRoll, Student}
use Rattle.demand_api.specs.Crowds.{CrowdData, Student as Asked}
use Rattle.market_certificate.specs.Publications.{Publication}
use Rattle.market_certificate.specs.Tables.{AreTables}
use Rattle.market_certificate.proofs.Defects.{no_defect}
use Rattle.market_certificate.proofs.NamesOf.{tables_are}
use Rattle.market_certificate.proofs.OneText.{one_publication}
use Rattle.market_menus.specs.MenusOf.{AreMenusOf}
use Rattle.preference_desk.specs.declared.entry.Entry.{Entry}
use Rattle.preference_desk.specs.DeskNames.{DeskNames}
use Rattle.preference_desk.specs.Journals.{commands_of_session, sessions_of}
use Rattle.preference_desk.specs.StudentPreferences.{StudentPreferences}
use Rattle.proof_tree.proofs.NoDefects.{no_defect_in_a_tree}
use Rattle.utility_language.specs.declared.commands.Command.{Command}
use Rattle.published_parts.specs.Crowds.{IsCrowdAfter}
use Rattle.published_parts.specs.Journals.{IsJournalOf, wanted_in}
use Rattle.published_parts.specs.Markets.{Market, tables_in}
use Rattle.published_parts.proofs.OneCrowds.{one_crowd_after}
use Rattle.certificate_checker.specs.declared.findings.Finding.{Finding}
use Rattle.certificate_checker.specs.declared.findings.Finding.TheVariants.{Allocation, Budget, Infeasible, Journal, NotQuiet, Seats, Text, Tree, Turn, Unaffordable, Used}
use Rattle.certificate_checker.specs.declared.findings.TurnFault.{TurnFault}
use Rattle.certificate_checker.specs.declared.findings.TurnFault.TheVariants as fault
use Rattle.certificate_checker.specs.Certificates.{Holds, HoldsOf, IsAccepted, IsTextOf}
use Rattle.certificate_checker.specs.Findings.{HasTurnFault, IsFirstIn, IsFirstOf}
use Rattle.certificate_checker.specs.Laws.{NoFindingInAccepted}
use Rattle.certificate_checker.specs.Orders.{FailsToMerge, HasCommand, commands_in, said}
use Rattle.certificate_checker.specs.Students.{offer_in, proved_in}
use Rattle.published_parts.specs.Offers.{student_in}
use Rattle.certificate_checker.specs.Terms.{TermsData, terms_in}
use Rattle.certificate_checker.specs.Turns.{IsRightTurn, turn_in, turn_offer}
use Rattle.certificate_checker.proofs.Replaying.{said_own}
use Rattle.published_parts.proofs.OneJournals.{others_none, own_first}

-- what a session says is as many commands as it has entries
said_length : (journal : List Entry) (n : ℕ) → length (commands_of_session n journal) ≡ said n (sessions_of journal)
said_length [] n = refl
said_length (x ∷ xs) n = elim (eqb_tells x.session n) [
  | inl same ↦
      let rest = said_length xs n in
      let mine = ap length (own_first x xs n same.1) in
      let one : said n (sessions_of (x ∷ xs)) ≡ said n (sessions_of xs) + 1 = counted_own x.session (sessions_of xs) n same.0 in
      omega arith
  | inr other ↦
      let rest = said_length xs n in
      let mine = ap length (others_none x xs n other.0) in
      let none : said n (sessions_of (x ∷ xs)) ≡ said n (sessions_of xs) = counted_other x.session (sessions_of xs) n other.0 in
      omega arith
]
  where
    counted_own : (s : ℕ) (more : List ℕ) (m : ℕ) → nat_eq s m ≡ true → said m (s ∷ more) ≡ said m more + 1
    counted_own s more m e =
        let first = sum_by-cons (λ (one : ℕ). cond (nat_eq one m) 1 0) s more in
        let mine : cond {A = ℕ} (nat_eq s m) 1 0 ≡ 1 = ap (λ (b : Bool). cond {A = ℕ} b 1 0) e in omega arith

    counted_other : (s : ℕ) (more : List ℕ) (m : ℕ) → nat_eq s m ≡ false → said m (s ∷ more) ≡ said m more
    counted_other s more m e =
        let first = sum_by-cons (λ (one : ℕ). cond (nat_eq one m) 1 0) s more in
        let mine : cond {A = ℕ} (nat_eq s m) 1 0 ≡ 0 = ap (λ (b : Bool). cond {A = ℕ} b 1 0) e in omega arith

-- the first entries of a session are no more than all
said_front : (n : ℕ) (xs : List ℕ) (m : ℕ) → said m (take n xs) ≤ said m xs
said_front zero xs m = omega arith
said_front (suc n) [] m = omega arith
said_front (suc n) (x ∷ xs) m =
    let rest = said_front n xs m in
    let front = sum_by-cons (λ (one : ℕ). cond (nat_eq one m) 1 0) x (take n xs) in
    let whole = sum_by-cons (λ (one : ℕ). cond (nat_eq one m) 1 0) x xs in
    omega arith

-- an order with a journal merges the streams
module _ (names : DeskNames) (streams : List (List Command)) (order : List ℕ) (journal : List Entry) (is : IsJournalOf names streams order journal) where
  all_said : (k : ℕ) → k < length streams → said (k + 1) order ≡ length (slice_index_or streams k [])
  all_said k low = ap (said (k + 1)) (sym is.sessions) ∙ sym (said_length journal (k + 1)) ∙ ap length (is.merges.whole k low)

  entry_at : (place : ℕ) → place < length order → (1 ≤ get_or order place 0) × (get_or order place 0 ≤ length streams)
  entry_at place low =
      let long : length (sessions_of journal) ≡ length order = ap length is.sessions in
      let same : length (sessions_of journal) ≡ length journal = length_sessions journal in
      let none : Entry = first_or journal (let h = long in omega arith) in
      let mine : get_or order place 0 ≡ (get_or journal place none).session =
      ap (λ all. get_or all place 0) (sym is.sessions) ∙ get_or-map (λ (entry : Entry). entry.session) journal place none 0 (omega arith) in
      subst (λ n. (1 ≤ n) × (n ≤ length streams)) (sym mine) (is.merges.given place none (omega arith))
    where
      length_sessions : (entries : List Entry) → length (sessions_of entries) ≡ length entries
      length_sessions [] = refl
      length_sessions (x ∷ xs) = let rest = length_sessions xs in omega arith

      first_or : (entries : List Entry) → 0 < length entries → Entry
      first_or [] none = absurd (omega arith)
      first_or (x ∷ xs) some = x

  has_command : (place : ℕ) → place < length order → HasCommand streams order place
  has_command place low =
      let given = entry_at place low in
      let session : ℕ = get_or order place 0 in
      let number : (session - 1) + 1 ≡ session = (let one = given.0 in omega arith) in
      let below : session - 1 < length streams = (let one = given.0 in let most = given.1 in omega arith) in
      let all : said session order ≡ commands_in streams session =
      subst (λ n. said n order ≡ commands_in streams session) number (all_said (session - 1) below) in
      let more : said session (take (place + 1) order) ≡ said session (take place order) + 1 = said_own order place session low refl in
      let front : said session (take (place + 1) order) ≤ said session order = said_front (place + 1) order session in
      record { numbered = given.0; given = given.1; left = omega arith }

  pub merges : (at : ℕ) → ¬ FailsToMerge streams order at
  merges at fails = elim fails [
    | inl stops ↦ stops.2.fails (has_command stops.0 stops.2.within)
    | inr left ↦ left.2 (λ k low.
        let number : (k + 1) - 1 ≡ k = omega arith in
        let same : commands_in streams (k + 1) ≡ length (slice_index_or streams k []) = ap (λ n. length (slice_index_or streams n [])) number in
        let all = all_said k low in
        omega arith)
  ]

-- the menu of nobody is one
no_menu : IsMenu (record { places = []; pairs = []; clashes = []; credits = 0; courses = 0 })
no_menu = record {
  places = record { few = omega arith; ascending = tt; each = All-nil _ };
  pairs = record { few = omega arith; each = All-nil _; different = tt };
  clashes = record { words = refl; not_itself = λ a low. absurd (omega arith); each = λ a b low small. absurd (omega arith) };
  caps = record { credits_cap = omega arith; courses_cap = omega arith };
}

-- each student of a crowd has a menu within the limits of menus
menus_sound : (catalog : List Section) (roll : List Student) (wanted : List StudentPreferences) (asked : List Asked) (sections k : ℕ)
    → AreMenusOf catalog roll wanted (map (λ (student : Asked). student.menu) asked)
    → IsMenu (student_in (record { students = asked; sections = sections }) k).menu
menus_sound catalog [] [] [] sections k are = no_menu
menus_sound catalog (s ∷ roll) (w ∷ wanted) (a ∷ asked) sections zero are = are.0.limits
menus_sound catalog (s ∷ roll) (w ∷ wanted) (a ∷ asked) sections (suc k) are = menus_sound catalog roll wanted asked sections k are.1
menus_sound catalog [] [] (a ∷ asked) sections k are = absurd are
menus_sound catalog [] (w ∷ wanted) asked sections k are = absurd are
menus_sound catalog (s ∷ roll) [] asked sections k are = absurd are
menus_sound catalog (s ∷ roll) (w ∷ wanted) [] sections k are = absurd are

pub menu_sound : (market : Market) (streams : List (List Command)) (order : List ℕ) (crowd : CrowdData) (k : ℕ) → IsCrowdAfter market streams order crowd
    → IsMenu (student_in crowd k).menu
menu_sound market streams order crowd k is =
    menus_sound market.catalog.sections market.roll.students (wanted_in market is.journal) crowd.students crowd.sections k is.is_crowd.menus

-- a right turn has no fault
pub no_fault : (terms : TermsData) (p : Publication) (turn : ℕ) (what : TurnFault) → IsMenu (turn_offer terms p turn).menu → IsRightTurn terms p turn
    → ¬ HasTurnFault terms p turn what
no_fault terms p turn fault.Order menu right wrong = wrong right.due
no_fault terms p turn fault.Unaffordable menu right wrong = wrong.1 right.affordable
no_fault terms p turn fault.Infeasible menu right wrong = wrong.2 right.feasible
no_fault terms p turn fault.Taken menu right wrong = wrong.3 right.offered
no_fault terms p turn (fault.Tree defect) menu right wrong =
    no_defect_in_a_tree (turn_offer terms p turn) (turn_in p turn).bundle (turn_in p turn).tree defect menu right.proved wrong.4

-- what is right has no first finding
not_in : (terms : TermsData) (p : Publication) (finding : Finding) → ((k : ℕ) → IsMenu (student_in terms.crowd k).menu) → HoldsOf terms p
    → ¬ IsFirstIn terms p finding
not_in terms p (Text line kind) menus holds is = is.found
not_in terms p (Journal at) menus holds is = is.found
not_in terms p (Budget number) menus holds is = is.found.fails (holds.budgets number.0 is.found.within)
not_in terms p (Unaffordable number) menus holds is = is.found.1 (holds.bundles number.0 is.found.0.within).affordable
not_in terms p (Infeasible number) menus holds is = is.found.2 (holds.bundles number.0 is.found.0.within).feasible
not_in terms p (Tree number defect) menus holds is =
    no_defect_in_a_tree (offer_in terms.crowd p number.0) (proved_in p number.0).bundle (proved_in p number.0).tree defect (menus number.0)
    (holds.bundles number.0 is.found.0.within).proved is.found.3
not_in terms p (Seats section used free) menus holds is = is.found.0.fails (holds.seats section.0 is.found.0.within)
not_in terms p (Turn turn what) menus holds is =
    no_fault terms p is.found.place what (menus (turn_in p is.found.place).student) (holds.turns is.found.place is.found.within) is.found.wrong
not_in terms p (NotQuiet turns) menus holds is = is.found.1 holds.quiet
not_in terms p (Allocation number) menus holds is = is.found.fails (holds.allocation number.0 is.found.within)
not_in terms p (Used section) menus holds is = is.found.fails (holds.used section.0 is.found.within)

same_in : (market : Market) (streams : List (List Command)) (p : Publication) (finding : Finding) → Holds market streams p
    → ¬ ((crowd : CrowdData) × IsCrowdAfter market streams p.order crowd × IsFirstIn (terms_in market crowd) p finding)
same_in market streams p finding holds is =
    let same : is.0 ≡ holds.crowd = one_crowd_after market streams p.order is.0 holds.crowd is.1 holds.is_crowd in
    not_in (terms_in market holds.crowd) p finding (λ k. menu_sound market streams p.order holds.crowd k holds.is_crowd) holds.printed
    (subst (λ crowd. IsFirstIn (terms_in market crowd) p finding) same is.2)

-- nor has a publication of which the certificate holds
not_of : (market : Market) (streams : List (List Command)) (p : Publication) (finding : Finding) → Holds market streams p → ¬ IsFirstOf market streams p finding
not_of market streams p (Text line kind) holds is = is
not_of market streams p (Journal at) holds is = merges _ streams p.order holds.is_crowd.journal holds.is_crowd.is_journal at is
not_of market streams p (Budget number) holds is = same_in market streams p (Budget number) holds is
not_of market streams p (Unaffordable number) holds is = same_in market streams p (Unaffordable number) holds is
not_of market streams p (Infeasible number) holds is = same_in market streams p (Infeasible number) holds is
not_of market streams p (Tree number defect) holds is = same_in market streams p (Tree number defect) holds is
not_of market streams p (Seats section used free) holds is = same_in market streams p (Seats section used free) holds is
not_of market streams p (Turn turn what) holds is = same_in market streams p (Turn turn what) holds is
not_of market streams p (NotQuiet turns) holds is = same_in market streams p (NotQuiet turns) holds is
not_of market streams p (Allocation number) holds is = same_in market streams p (Allocation number) holds is
not_of market streams p (Used section) holds is = same_in market streams p (Used section) holds is

-- the tables of a market as they can be read
pub tables_in_limits : (market : Market) → IsCatalog market.catalog → IsRoll market.roll → AreTables (tables_in market)
tables_in_limits market catalog roll =
    tables_are _ _ _ market.roll market.catalog (let one = catalog.known_version in let two = roll.known_version in omega arith) refl refl roll catalog

one_of : (market : Market) (streams : List (List Command)) (text : List ℕ) (finding : Finding) → IsCatalog market.catalog → IsRoll market.roll
    → IsAccepted market streams text → ¬ ((p : Publication) × IsTextOf market p text × IsFirstOf market streams p finding)
one_of market streams text finding catalog roll accepted is =
    let same : is.0 ≡ accepted.publication =
    one_publication (tables_in market) (tables_in_limits market catalog roll) is.0 accepted.publication is.1.is_publication accepted.is_text.is_publication
    (sym is.1.written ∙ accepted.is_text.written) in
    not_of market streams accepted.publication finding accepted.holds (subst (λ (p : Publication). IsFirstOf market streams p finding) same is.2)

pub no_finding : NoFindingInAccepted
no_finding market streams text (Text line kind) catalog roll accepted is =
    no_defect (tables_in market) (tables_in_limits market catalog roll) text (accepted.publication, accepted.is_text.is_publication, accepted.is_text.written)
    line kind is
no_finding market streams text (Journal at) catalog roll accepted is = one_of market streams text (Journal at) catalog roll accepted is
no_finding market streams text (Budget number) catalog roll accepted is = one_of market streams text (Budget number) catalog roll accepted is
no_finding market streams text (Unaffordable number) catalog roll accepted is = one_of market streams text (Unaffordable number) catalog roll accepted is
no_finding market streams text (Infeasible number) catalog roll accepted is = one_of market streams text (Infeasible number) catalog roll accepted is
no_finding market streams text (Tree number defect) catalog roll accepted is = one_of market streams text (Tree number defect) catalog roll accepted is
no_finding market streams text (Seats section used free) catalog roll accepted is =
    one_of market streams text (Seats section used free) catalog roll accepted is
no_finding market streams text (Turn turn what) catalog roll accepted is = one_of market streams text (Turn turn what) catalog roll accepted is
no_finding market streams text (NotQuiet turns) catalog roll accepted is = one_of market streams text (NotQuiet turns) catalog roll accepted is
no_finding market streams text (Allocation number) catalog roll accepted is = one_of market streams text (Allocation number) catalog roll accepted is
no_finding market streams text (Used section) catalog roll accepted is = one_of market streams text (Used section) catalog roll accepted is
