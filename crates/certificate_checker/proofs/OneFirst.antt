-- A text has one first finding at most.
use Rattle.std.proofs.Common.{ℕ, zero, suc, ◌≡◌, ◌<◌, ◌+◌, ◌⊎◌, ◌∙◌, List, length, refl, ap, sym, subst, inl, inr, arith}
use Rattle.std.specs.Prelude.{⊤, slice_index}
use Rattle.std.proofs.lemmas.Bool.{cases_eq, cases_lt}
use Rattle.bundle_rules.specs.Menus.{IsMenu}
use Rattle.demand_api.specs.Crowds.{CrowdData, holders}
use Rattle.market_certificate.specs.declared.refusals.LineFault.{LineFault}
use Rattle.market_certificate.specs.Finding.{Finds}
use Rattle.market_certificate.specs.Publications.{Publication}
use Rattle.market_certificate.specs.Tables.{AreTables}
use Rattle.market_certificate.specs.Texts.{ArePublished, IsPublished}
use Rattle.market_certificate.proofs.Defects.{no_defect}
use Rattle.market_certificate.proofs.OneText.{one_publication}
use Rattle.market_units.specs.declared.units.SectionNo.{SectionNo}
use Rattle.market_units.specs.declared.units.StudentNo.{StudentNo}
use Rattle.proof_tree.specs.Defects.{IsDefect}
use Rattle.proof_tree.proofs.NoDefects.{no_defect_in_a_tree}
use Rattle.utility_language.specs.declared.commands.Command.{Command}
use Rattle.published_parts.specs.Crowds.{IsCrowdAfter}
use Rattle.published_parts.specs.Holdings.{demanded}
use Rattle.published_parts.specs.Markets.{Market, names_in, tables_in}
use Rattle.published_parts.proofs.OneCrowds.{one_crowd_after}
use Rattle.certificate_checker.specs.declared.findings.Finding.{Finding}
use Rattle.certificate_checker.specs.declared.findings.Finding.TheVariants.{Allocation, Budget, Infeasible, Journal, NotQuiet, Seats, Text, Tree, Turn, Unaffordable, Used}
use Rattle.certificate_checker.specs.declared.findings.TurnFault.{TurnFault}
use Rattle.certificate_checker.specs.declared.findings.TurnFault.TheVariants as fault
use Rattle.certificate_checker.specs.Certificates.{IsAllocated, IsTextOf, IsUseTold, IsWithinSeats}
use Rattle.certificate_checker.specs.Findings.{HasTurnFault, HoldsBefore, IsFirstFinding, IsFirstIn, IsFirstOf, IsFirstStudent, IsFirstTurn, IsFound}
use Rattle.certificate_checker.specs.Firsts.{AllBelow, FailsFirstAt}
use Rattle.certificate_checker.specs.Laws.{OneFirstFinding}
use Rattle.certificate_checker.specs.Orders.{FailsToMerge, HasCommand}
use Rattle.certificate_checker.specs.Students.{HasBudget, IsAffordable, IsProvedBundle, MayTake, offer_in, proved_in}
use Rattle.published_parts.specs.Offers.{student_in}
use Rattle.certificate_checker.specs.Terms.{TermsData, terms_in}
use Rattle.certificate_checker.specs.Turns.{EndsQuietly, IsRightTurn, turn_in, turn_offer}
use Rattle.certificate_checker.proofs.OneDefect.{one_defect}
use Rattle.certificate_checker.proofs.OneLine.{one_line}
use Rattle.certificate_checker.proofs.Refusing.{menu_sound, merges, no_fault, tables_in_limits}

-- the first of numbered things that is not as it should be is one
one_place : (count : ℕ) (Is : ℕ → Type 0) (m n : ℕ) → FailsFirstAt count Is m → FailsFirstAt count Is n → m ≡ n
one_place count Is m n first second = elim (cases_lt m n) [
  | inl less ↦ absurd (first.fails (second.before m less))
  | inr more ↦ elim (cases_lt n m) [
    | inl less ↦ absurd (second.fails (first.before n less))
    | inr less ↦ (let e : m ≡ n = omega (arith, more, less) in e)
  ]
]

same_student : (one other : StudentNo) → one.0 ≡ other.0 → one ≡ other
same_student one other e = λ i. record { 0 = e i }

same_section : (one other : SectionNo) → one.0 ≡ other.0 → one ≡ other
same_section one other e = λ i. record { 0 = e i }

-- an order first fails to merge the streams at one entry
one_merge : (streams : List (List Command)) (order : List ℕ) (at place : ℕ) → FailsToMerge streams order at → FailsToMerge streams order place → at ≡ place
one_merge streams order at place one other = elim one [
  | inl stops ↦ elim other [
    | inl ends ↦ stops.1 ∙ ap (λ n. n + 1) (one_place (length order) (HasCommand streams order) stops.0 ends.0 stops.2 ends.2) ∙ sym ends.1
    | inr left ↦ absurd (stops.2.fails (left.1 stops.0 stops.2.within))
  ]
  | inr all ↦ elim other [
    | inl ends ↦ absurd (ends.2.fails (all.1 ends.0 ends.2.within))
    | inr left ↦ all.0 ∙ sym left.0
  ]
]

-- the faults of a turn, in the order in which they are looked for
abbrev rank : TurnFault → ℕ
rank fault.Order = 0
rank fault.Unaffordable = 1
rank fault.Infeasible = 2
rank fault.Taken = 3
rank (fault.Tree defect) = 4

not_two_faults : (terms : TermsData) (p : Publication) (turn : ℕ) (one other : TurnFault) → rank one < rank other → HasTurnFault terms p turn one
    → ¬ HasTurnFault terms p turn other
not_two_faults terms p turn fault.Order fault.Unaffordable less wrong also = wrong also.0
not_two_faults terms p turn fault.Order fault.Infeasible less wrong also = wrong also.0
not_two_faults terms p turn fault.Order fault.Taken less wrong also = wrong also.0
not_two_faults terms p turn fault.Order (fault.Tree defect) less wrong also = wrong also.0
not_two_faults terms p turn fault.Unaffordable fault.Infeasible less wrong also = wrong.1 also.1
not_two_faults terms p turn fault.Unaffordable fault.Taken less wrong also = wrong.1 also.1
not_two_faults terms p turn fault.Unaffordable (fault.Tree defect) less wrong also = wrong.1 also.1
not_two_faults terms p turn fault.Infeasible fault.Taken less wrong also = wrong.2 also.2
not_two_faults terms p turn fault.Infeasible (fault.Tree defect) less wrong also = wrong.2 also.2
not_two_faults terms p turn fault.Taken (fault.Tree defect) less wrong also = wrong.3 also.3
not_two_faults terms p turn (fault.Tree defect) fault.Order less wrong also = absurd (omega (arith, less))
not_two_faults terms p turn (fault.Tree defect) fault.Unaffordable less wrong also = absurd (omega (arith, less))
not_two_faults terms p turn (fault.Tree defect) fault.Infeasible less wrong also = absurd (omega (arith, less))
not_two_faults terms p turn (fault.Tree defect) fault.Taken less wrong also = absurd (omega (arith, less))
not_two_faults terms p turn (fault.Tree defect) (fault.Tree also_defect) less wrong also = absurd (omega (arith, less))
not_two_faults terms p turn one other less wrong also = absurd (omega (arith, less))

same_fault : (terms : TermsData) (p : Publication) (turn : ℕ) (one other : TurnFault) → rank one ≡ rank other → HasTurnFault terms p turn one
    → HasTurnFault terms p turn other → one ≡ other
same_fault terms p turn fault.Order fault.Order same wrong also = refl
same_fault terms p turn fault.Unaffordable fault.Unaffordable same wrong also = refl
same_fault terms p turn fault.Infeasible fault.Infeasible same wrong also = refl
same_fault terms p turn fault.Taken fault.Taken same wrong also = refl
same_fault terms p turn (fault.Tree defect) (fault.Tree also_defect) same wrong also =
    ap (λ d. fault.Tree d) (one_defect (turn_offer terms p turn) (turn_in p turn).bundle (turn_in p turn).tree defect also_defect wrong.4 also.4)
same_fault terms p turn one other same wrong also = absurd (omega (arith, same))

-- a turn has one fault
one_fault : (terms : TermsData) (p : Publication) (turn : ℕ) (one other : TurnFault) → HasTurnFault terms p turn one → HasTurnFault terms p turn other
    → one ≡ other
one_fault terms p turn one other wrong also = elim (cases_lt (rank one) (rank other)) [
  | inl less ↦ absurd (not_two_faults terms p turn one other less wrong also)
  | inr more ↦ elim (cases_lt (rank other) (rank one)) [
    | inl less ↦ absurd (not_two_faults terms p turn other one less also wrong)
    | inr less ↦ same_fault terms p turn one other (omega (arith, more, less)) wrong also
  ]
]

module _ (terms : TermsData) (p : Publication) (menus : (k : ℕ) → IsMenu (student_in terms.crowd k).menu) where
  -- the parts that are looked at, by number
  abbrev Part : ℕ → Type 0
  Part zero = AllBelow (length terms.crowd.students) (HasBudget terms.crowd p)
  Part (suc zero) = AllBelow (length terms.crowd.students) (IsProvedBundle terms.crowd p)
  Part (suc (suc zero)) = AllBelow terms.crowd.sections (IsWithinSeats terms.seats p)
  Part (suc (suc (suc zero))) = AllBelow (length p.turns) (IsRightTurn terms p)
  Part (suc (suc (suc (suc zero)))) = EndsQuietly terms.crowd p
  Part (suc (suc (suc (suc (suc zero))))) = AllBelow (length terms.crowd.students) (IsAllocated p)
  Part (suc (suc (suc (suc (suc (suc n)))))) = AllBelow terms.crowd.sections (IsUseTold terms.seats p)

  -- all parts before one
  abbrev HoldsTo : ℕ → Type 0
  HoldsTo zero = ⊤
  HoldsTo (suc zero) = Part zero
  HoldsTo (suc (suc n)) = HoldsTo (suc n) × Part (suc n)

  one_part : (n k : ℕ) → k < n → HoldsTo n → Part k
  one_part zero k less holds = absurd (omega arith)
  one_part (suc zero) k less holds = let none : k ≡ 0 = omega arith in subst Part (sym none) holds
  one_part (suc (suc n)) k less holds = elim (cases_eq k (suc n)) [
    | inl same ↦ subst Part (sym same) holds.1
    | inr apart ↦ one_part (suc n) k (omega arith) holds.0
  ]

  -- the part that a finding is of
  abbrev part : Finding → ℕ
  part (Text line kind) = 0
  part (Journal at) = 0
  part (Budget student) = 0
  part (Unaffordable student) = 1
  part (Infeasible student) = 1
  part (Tree student defect) = 1
  part (Seats section used seats) = 2
  part (Turn turn what) = 3
  part (NotQuiet turns) = 4
  part (Allocation student) = 5
  part (Used section) = 6

  holds_to : (finding : Finding) → HoldsBefore terms p finding → HoldsTo (part finding)
  holds_to (Text line kind) before = before
  holds_to (Journal at) before = before
  holds_to (Budget student) before = before
  holds_to (Unaffordable student) before = before
  holds_to (Infeasible student) before = before
  holds_to (Tree student defect) before = before
  holds_to (Seats section used seats) before = before
  holds_to (Turn turn what) before = before
  holds_to (NotQuiet turns) before = before
  holds_to (Allocation student) before = before
  holds_to (Used section) before = before

  -- what is wrong with the bundle of a student
  abbrev Wrong : Finding → ℕ → Type 0
  Wrong (Unaffordable student) k = ¬ IsAffordable (offer_in terms.crowd p k) (proved_in p k).bundle
  Wrong (Infeasible student) k = IsAffordable (offer_in terms.crowd p k) (proved_in p k).bundle × (¬ MayTake (offer_in terms.crowd p k) (proved_in p k).bundle)
  Wrong (Tree student defect) k =
      IsAffordable (offer_in terms.crowd p k) (proved_in p k).bundle × MayTake (offer_in terms.crowd p k) (proved_in p k).bundle
      × IsDefect (offer_in terms.crowd p k) (proved_in p k).bundle (proved_in p k).tree defect
  Wrong finding k = ⊥

  not_proved : (finding : Finding) (k : ℕ) → Wrong finding k → ¬ IsProvedBundle terms.crowd p k
  not_proved (Unaffordable student) k wrong right = wrong right.affordable
  not_proved (Infeasible student) k wrong right = wrong.1 right.feasible
  not_proved (Tree student defect) k wrong right =
      no_defect_in_a_tree (offer_in terms.crowd p k) (proved_in p k).bundle (proved_in p k).tree defect (menus k) right.proved wrong.2
  not_proved finding k wrong right = wrong

  -- the student of such a finding
  abbrev number : Finding → ℕ
  number (Unaffordable student) = student.0
  number (Infeasible student) = student.0
  number (Tree student defect) = student.0
  number finding = 0

  same_wrong : (one other : Finding) (k : ℕ) → number one ≡ number other → Wrong one k → Wrong other k → one ≡ other
  same_wrong (Unaffordable student) (Unaffordable also) k e wrong so = ap (λ s. Unaffordable s) (same_student student also e)
  same_wrong (Unaffordable student) (Infeasible also) k e wrong so = absurd (wrong so.0)
  same_wrong (Unaffordable student) (Tree also defect) k e wrong so = absurd (wrong so.0)
  same_wrong (Infeasible student) (Unaffordable also) k e wrong so = absurd (so wrong.0)
  same_wrong (Infeasible student) (Infeasible also) k e wrong so = ap (λ s. Infeasible s) (same_student student also e)
  same_wrong (Infeasible student) (Tree also defect) k e wrong so = absurd (wrong.1 so.1)
  same_wrong (Tree student defect) (Unaffordable also) k e wrong so = absurd (so wrong.0)
  same_wrong (Tree student defect) (Infeasible also) k e wrong so = absurd (so.1 wrong.1)
  same_wrong (Tree student defect) (Tree also other) k e wrong so =
      let who = same_student student also e in
      let what = one_defect (offer_in terms.crowd p k) (proved_in p k).bundle (proved_in p k).tree defect other wrong.2 so.2 in
      λ i. Tree (who i) (what i)
  same_wrong one (Text line kind) k e wrong so = absurd so
  same_wrong one (Journal at) k e wrong so = absurd so
  same_wrong one (Budget student) k e wrong so = absurd so
  same_wrong one (Seats section used seats) k e wrong so = absurd so
  same_wrong one (Turn turn what) k e wrong so = absurd so
  same_wrong one (NotQuiet turns) k e wrong so = absurd so
  same_wrong one (Allocation student) k e wrong so = absurd so
  same_wrong one (Used section) k e wrong so = absurd so
  same_wrong one other k e wrong so = absurd wrong

  -- the first bundle that is wrong has one finding
  one_bundle : (one other : Finding) → IsFirstStudent terms.crowd p (number one) → Wrong one (number one) → IsFirstStudent terms.crowd p (number other)
      → Wrong other (number other) → one ≡ other
  one_bundle one other first wrong second so =
      let same : number one ≡ number other = one_place (length terms.crowd.students) (IsProvedBundle terms.crowd p) (number one) (number other)
      (record { within = first.within; before = first.before; fails = not_proved one (number one) wrong })
      (record { within = second.within; before = second.before; fails = not_proved other (number other) so }) in
      same_wrong one other (number one) same wrong (subst (Wrong other) (sym same) so)

  turn_fails : (turn : ℕ) (what : TurnFault) (first : IsFirstTurn terms p turn what) → FailsFirstAt (length p.turns) (IsRightTurn terms p) first.place
  turn_fails turn what first = record {
    within = first.within;
    before = first.before;
    fails = λ right. no_fault terms p first.place what (menus (turn_in p first.place).student) right first.wrong;
  }

  -- the first turn that is wrong has one finding
  one_turn : (turn also : ℕ) (what other : TurnFault) → IsFirstTurn terms p turn what → IsFirstTurn terms p also other → Turn turn what ≡ Turn also other
  one_turn turn also what other first second =
      let same : first.place ≡ second.place =
      one_place (length p.turns) (IsRightTurn terms p) first.place second.place (turn_fails turn what first) (turn_fails also other second) in
      let count : turn ≡ also = first.number ∙ ap (λ n. n + 1) same ∙ sym second.number in
      let wrong : what ≡ other = one_fault terms p first.place what other first.wrong (subst (λ k. HasTurnFault terms p k other) (sym same) second.wrong) in
      λ i. Turn (count i) (wrong i)

  -- the part of a finding is not as it should be
  part_fails : (finding : Finding) → IsFound terms p finding → ¬ Part (part finding)
  part_fails (Text line kind) found right = found
  part_fails (Journal at) found right = found
  part_fails (Budget student) found right = found.fails (right student.0 found.within)
  part_fails (Unaffordable student) found right = found.1 (right student.0 found.0.within).affordable
  part_fails (Infeasible student) found right = found.2 (right student.0 found.0.within).feasible
  part_fails (Tree student defect) found right = not_proved (Tree student defect) student.0 (found.1, found.2, found.3) (right student.0 found.0.within)
  part_fails (Seats section used seats) found right = found.0.fails (right section.0 found.0.within)
  part_fails (Turn turn what) found right = (turn_fails turn what found).fails (right found.place found.within)
  part_fails (NotQuiet turns) found right = found.1 right
  part_fails (Allocation student) found right = found.fails (right student.0 found.within)
  part_fails (Used section) found right = found.fails (right section.0 found.within)

  not_two_parts : (one other : Finding) → part one < part other → IsFirstIn terms p one → ¬ IsFirstIn terms p other
  not_two_parts one other less first second = part_fails one first.found (one_part (part other) (part one) less (holds_to other second.before))

  -- two first findings of one part are one
  in_one_part : (one other : Finding) → part one ≡ part other → IsFound terms p one → IsFound terms p other → one ≡ other
  in_one_part (Text line kind) other same first second = absurd first
  in_one_part (Journal at) other same first second = absurd first
  in_one_part one (Text line kind) same first second = absurd second
  in_one_part one (Journal at) same first second = absurd second
  in_one_part (Budget student) (Budget also) same first second =
      ap (λ s. Budget s) (same_student student also (one_place (length terms.crowd.students) (HasBudget terms.crowd p) student.0 also.0 first second))
  in_one_part (Unaffordable student) (Unaffordable also) same first second =
      one_bundle (Unaffordable student) (Unaffordable also) first.0 first.1 second.0 second.1
  in_one_part (Unaffordable student) (Infeasible also) same first second =
      one_bundle (Unaffordable student) (Infeasible also) first.0 first.1 second.0 (second.1, second.2)
  in_one_part (Unaffordable student) (Tree also defect) same first second =
      one_bundle (Unaffordable student) (Tree also defect) first.0 first.1 second.0 (second.1, second.2, second.3)
  in_one_part (Infeasible student) (Unaffordable also) same first second =
      one_bundle (Infeasible student) (Unaffordable also) first.0 (first.1, first.2) second.0 second.1
  in_one_part (Infeasible student) (Infeasible also) same first second =
      one_bundle (Infeasible student) (Infeasible also) first.0 (first.1, first.2) second.0 (second.1, second.2)
  in_one_part (Infeasible student) (Tree also defect) same first second =
      one_bundle (Infeasible student) (Tree also defect) first.0 (first.1, first.2) second.0 (second.1, second.2, second.3)
  in_one_part (Tree student what) (Unaffordable also) same first second =
      one_bundle (Tree student what) (Unaffordable also) first.0 (first.1, first.2, first.3) second.0 second.1
  in_one_part (Tree student what) (Infeasible also) same first second =
      one_bundle (Tree student what) (Infeasible also) first.0 (first.1, first.2, first.3) second.0 (second.1, second.2)
  in_one_part (Tree student what) (Tree also defect) same first second =
      one_bundle (Tree student what) (Tree also defect) first.0 (first.1, first.2, first.3) second.0 (second.1, second.2, second.3)
  in_one_part (Seats section used seats) (Seats also more free) same first second =
      let at : section.0 ≡ also.0 = one_place terms.crowd.sections (IsWithinSeats terms.seats p) section.0 also.0 first.0 second.0 in
      let which = same_section section also at in
      let many : used ≡ more = first.1 ∙ ap (λ s. holders s (demanded p)) at ∙ sym second.1 in
      let room : seats ≡ free = first.2 ∙ ap (slice_index terms.seats) at ∙ sym second.2 in
      λ i. Seats (which i) (many i) (room i)
  in_one_part (Turn turn what) (Turn also other) same first second = one_turn turn also what other first second
  in_one_part (NotQuiet turns) (NotQuiet also) same first second = ap (λ n. NotQuiet n) (first.0 ∙ sym second.0)
  in_one_part (Allocation student) (Allocation also) same first second =
      ap (λ s. Allocation s) (same_student student also (one_place (length terms.crowd.students) (IsAllocated p) student.0 also.0 first second))
  in_one_part (Used section) (Used also) same first second =
      ap (λ s. Used s) (same_section section also (one_place terms.crowd.sections (IsUseTold terms.seats p) section.0 also.0 first second))
  in_one_part one other same first second = absurd (omega (arith, same))

  -- two first findings by these terms are one
  one_in : (one other : Finding) → IsFirstIn terms p one → IsFirstIn terms p other → one ≡ other
  one_in one other first second = elim (cases_lt (part one) (part other)) [
    | inl less ↦ absurd (not_two_parts one other less first second)
    | inr more ↦ elim (cases_lt (part other) (part one)) [
      | inl less ↦ absurd (not_two_parts other one less second first)
      | inr less ↦ in_one_part one other (omega (arith, more, less)) first.found second.found
    ]
  ]

-- the first finding by the crowd after the order's journal
abbrev IsByCrowd : Market → List (List Command) → Publication → Finding → Type 0
IsByCrowd market streams p finding = (crowd : CrowdData) × IsCrowdAfter market streams p.order crowd × IsFirstIn (terms_in market crowd) p finding

one_by_crowd : (market : Market) (streams : List (List Command)) (p : Publication) (one other : Finding) → IsByCrowd market streams p one
    → IsByCrowd market streams p other → one ≡ other
one_by_crowd market streams p one other first second =
    let same : second.0 ≡ first.0 = one_crowd_after market streams p.order second.0 first.0 second.1 first.1 in
    one_in (terms_in market first.0) p (λ k. menu_sound market streams p.order first.0 k first.1) one other first.2
    (subst (λ crowd. IsFirstIn (terms_in market crowd) p other) same second.2)

-- whether a finding is on the order, or by the crowd after it
is_by_crowd : (market : Market) (streams : List (List Command)) (p : Publication) (finding : Finding) → IsFirstOf market streams p finding
    → ((at : ℕ) × (finding ≡ Journal at) × FailsToMerge streams p.order at) ⊎ IsByCrowd market streams p finding
is_by_crowd market streams p (Text line kind) is = absurd is
is_by_crowd market streams p (Journal at) is = inl (at, refl, is)
is_by_crowd market streams p (Budget student) is = inr is
is_by_crowd market streams p (Unaffordable student) is = inr is
is_by_crowd market streams p (Infeasible student) is = inr is
is_by_crowd market streams p (Tree student defect) is = inr is
is_by_crowd market streams p (Seats section used seats) is = inr is
is_by_crowd market streams p (Turn turn what) is = inr is
is_by_crowd market streams p (NotQuiet turns) is = inr is
is_by_crowd market streams p (Allocation student) is = inr is
is_by_crowd market streams p (Used section) is = inr is

-- two first findings on a publication are one
one_of : (market : Market) (streams : List (List Command)) (p : Publication) (one other : Finding) → IsFirstOf market streams p one
    → IsFirstOf market streams p other → one ≡ other
one_of market streams p one other first second = elim (is_by_crowd market streams p one first) [
  | inl order ↦ elim (is_by_crowd market streams p other second) [
    | inl also ↦ order.1 ∙ ap (λ n. Journal n) (one_merge streams p.order order.0 also.0 order.2 also.2) ∙ sym also.1
    | inr crowd ↦ absurd (merges (names_in market) streams p.order crowd.1.journal crowd.1.is_journal order.0 order.2)
  ]
  | inr crowd ↦ elim (is_by_crowd market streams p other second) [
    | inl order ↦ absurd (merges (names_in market) streams p.order crowd.1.journal crowd.1.is_journal order.0 order.2)
    | inr also ↦ one_by_crowd market streams p one other crowd also
  ]
]

-- whether a finding is a defect of the text, or on the publication that it is the text of
abbrev IsOnPublication : Market → List (List Command) → List ℕ → Finding → Type 0
IsOnPublication market streams text finding = (p : Publication) × IsTextOf market p text × IsFirstOf market streams p finding

one_on_publication : (market : Market) (streams : List (List Command)) (text : List ℕ) (one other : Finding) → AreTables (tables_in market)
    → IsOnPublication market streams text one → IsOnPublication market streams text other → one ≡ other
one_on_publication market streams text one other are first second =
    let same : second.0 ≡ first.0 =
    one_publication (tables_in market) are second.0 first.0 second.1.is_publication first.1.is_publication (sym second.1.written ∙ first.1.written) in
    one_of market streams first.0 one other first.2 (subst (λ (p : Publication). IsFirstOf market streams p other) same second.2)

published : (market : Market) (streams : List (List Command)) (text : List ℕ) (finding : Finding) → IsOnPublication market streams text finding
    → IsPublished (tables_in market) text
published market streams text finding is = (is.0, is.1.is_publication, is.1.written)

-- a finding other than a defect of the text is on a publication
is_defect_or : (market : Market) (streams : List (List Command)) (text : List ℕ) (finding : Finding) → IsFirstFinding market streams text finding
    → ((line : ℕ) × ((kind : LineFault) × (finding ≡ Text line kind) × Finds (ArePublished (tables_in market)) 1 text line kind))
    ⊎ IsOnPublication market streams text finding
is_defect_or market streams text (Text line kind) is = inl (line, (kind, refl, is))
is_defect_or market streams text (Journal at) is = inr is
is_defect_or market streams text (Budget student) is = inr is
is_defect_or market streams text (Unaffordable student) is = inr is
is_defect_or market streams text (Infeasible student) is = inr is
is_defect_or market streams text (Tree student defect) is = inr is
is_defect_or market streams text (Seats section used seats) is = inr is
is_defect_or market streams text (Turn turn what) is = inr is
is_defect_or market streams text (NotQuiet turns) is = inr is
is_defect_or market streams text (Allocation student) is = inr is
is_defect_or market streams text (Used section) is = inr is

pub one_first : OneFirstFinding
one_first market streams text one other catalog roll first second =
    let are : AreTables (tables_in market) = tables_in_limits market catalog roll in
    elim (is_defect_or market streams text one first) [
      | inl defect ↦ elim (is_defect_or market streams text other second) [
        | inl also ↦
            let same = one_line (tables_in market) are text defect.0 also.0 defect.1.0 also.1.0 defect.1.2 also.1.2 in
            defect.1.1 ∙ (λ i. Text (same.0 i) (same.1 i)) ∙ sym also.1.1
        | inr on ↦ absurd (no_defect (tables_in market) are text (published market streams text other on) defect.0 defect.1.0 defect.1.2)
      ]
      | inr on ↦ elim (is_defect_or market streams text other second) [
        | inl defect ↦ absurd (no_defect (tables_in market) are text (published market streams text one on) defect.0 defect.1.0 defect.1.2)
        | inr also ↦ one_on_publication market streams text one other are on also
      ]
    ]
