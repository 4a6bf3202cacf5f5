-- A text opens a desk, or has exactly one opening finding.
use Rattle.std.proofs.Common.{ℕ, zero, suc, ◌≡◌, ◌<◌, ◌≤◌, ◌+◌, ◌++◌, ◌==◌, ◌∙◌, ◌⊎◌, false, List, [], ◌∷◌, length, append_assoc, arith, refl, sym, ap, subst, inl, inr}
use Rattle.std.specs.List.{AllByRecursion}
use Rattle.std.proofs.lemmas.Bool.{cases_Bool, cases_eq, cases_lt, eqb-true, true≢false}
use Rattle.std.proofs.lemmas.List.{append-nil}
use Rattle.certificate_checker.specs.declared.findings.Finding.{Finding}
use Rattle.certificate_checker.specs.declared.findings.Finding.TheVariants.{Allocation, Budget, Infeasible, Journal, NotQuiet, Seats, Text, Tree, Turn, Unaffordable, Used}
use Rattle.certificate_checker.proofs.OneLine.{one_line}
use Rattle.demand_api.specs.Crowds.{holders}
use Rattle.dropadd_desk.specs.declared.shared.HallState.{HallState}
use Rattle.dropadd_desk.specs.Fits.{credits_of}
use Rattle.dropadd_desk.specs.Market.{Market, enrolled, offered, section_count, student_count}
use Rattle.dropadd_desk.specs.Openings.{IsAllowed}
use Rattle.dropadd_desk.specs.Step.{held_by}
use Rattle.market_certificate.specs.declared.refusals.LineFault.{LineFault}
use Rattle.market_certificate.specs.declared.refusals.LineFault.TheVariants as faults
use Rattle.market_certificate.specs.Due.{due_of}
use Rattle.market_certificate.specs.Finding.{Begins, Finds, Stops}
use Rattle.market_certificate.specs.Lines.{Lacks, joined}
use Rattle.market_certificate.specs.Publications.{Publication}
use Rattle.market_certificate.specs.Tables.{AreTables, Tables}
use Rattle.market_certificate.specs.Texts.{ArePublished, IsPublished}
use Rattle.market_certificate.proofs.Defects.{no_defect}
use Rattle.market_certificate.proofs.DueLemmas.{published_from}
use Rattle.market_certificate.proofs.Forms.{some_lines}
use Rattle.market_certificate.proofs.Joins.{joined_append}
use Rattle.market_certificate.proofs.OneText.{one_publication}
use Rattle.dropadd_hall.specs.Exactly.{FoundWhereNotOpened, NoFindingWhereOpened, OneOpeningFinding, OpensOrIsFound}
use Rattle.dropadd_hall.specs.Faults.{IsFaultless, IsFirstInfeasible, IsFirstOverfull}
use Rattle.dropadd_hall.specs.Openings.{IsOpeningFinding, IsTextOf, TellsFault, opened, tables_in}
use Rattle.dropadd_hall.proofs.Finals.{opens_alone, tables_in_limits}
use Rattle.dropadd_hall.proofs.Findings.{fault_first, fault_stands}
use Rattle.dropadd_hall.proofs.Openings.{apart, none_clash, two_clash}

-- one of two firsts is not before the other
one_first : (Is Fails : ℕ → Type 0) (m n : ℕ) → ((k : ℕ) → Is k → ¬ Fails k) → Fails m → ((k : ℕ) → k < m → Is k) → Fails n → ((k : ℕ) → k < n → Is k)
    → m ≡ n
one_first Is Fails m n clash fails before also earlier = elim (cases_lt m n) [
  | inl less ↦ absurd (clash m (earlier m less) fails)
  | inr past ↦ elim (cases_lt n m) [
    | inl less ↦ absurd (clash n (before n less) also)
    | inr same ↦ omega (arith, past, same)
  ]
]

-- two first faults of what is held are told by one finding
module _ (market : Market) (state : HallState) where
  abbrev May : ℕ → Type 0
  May i = IsAllowed market i (held_by state i)

  one_infeasible : (m n : ℕ) → IsFirstInfeasible market state m → IsFirstInfeasible market state n → m ≡ n
  one_infeasible m n first second =
      one_first May (λ i. ¬ May i) m n (λ k may not. not may) first.forbidden first.before second.forbidden second.before

  one_overfull : (m n held held' seats seats' : ℕ) → IsFirstOverfull market state m held seats → IsFirstOverfull market state n held' seats'
      → (m ≡ n) × (held ≡ held') × (seats ≡ seats')
  one_overfull m n held held' seats seats' first second =
      let same : m ≡ n =
      one_first (λ s. holders s state.held ≤ (offered market s).seats) (λ s. (offered market s).seats < holders s state.held) m n
      (λ k few many. omega (arith, few, many)) (over m held seats first) first.before (over n held' seats' second) second.before in (
        same,
        first.counted ∙ ap (λ s. holders s state.held) same ∙ sym second.counted,
        first.given ∙ ap (λ s. (offered market s).seats) same ∙ sym second.given,
      )
    where
      over : (s held seats : ℕ) → IsFirstOverfull market state s held seats → (offered market s).seats < holders s state.held
      over s held seats is = subst (λ n. n < holders s state.held) is.given (subst (λ n. seats < n) is.counted is.over)

  one_told : (one other : Finding) → TellsFault market state one → TellsFault market state other → one ≡ other
  one_told (Infeasible student) (Infeasible also) first second = ap (λ n. Infeasible (record { 0 = n })) (one_infeasible student.0 also.0 first second)
  one_told (Infeasible student) (Seats section used seats) first second = absurd (first.forbidden (second.students student.0 first.within))
  one_told (Seats section used seats) (Infeasible student) first second = absurd (second.forbidden (first.students student.0 second.within))
  one_told (Seats section used seats) (Seats also held given) first second =
      let same = one_overfull section.0 also.0 used held seats given first second in
      λ i. Seats (record { 0 = same.0 i }) (same.1 i) (same.2 i)
  one_told (Infeasible student) other first second = absurd second
  one_told (Seats section used seats) other first second = absurd second
  one_told one other first second = absurd first

-- whether a finding is a defect of the text, or a fault of what its publication lets be held
abbrev IsOnFinals : Market → List ℕ → Finding → Type 0
IsOnFinals market text finding = (p : Publication) × IsTextOf market p text × TellsFault market (opened market p) finding

abbrev IsDefect : Market → List ℕ → Finding → Type 0
IsDefect market text finding = (line : ℕ) × (kind : LineFault) × (finding ≡ Text line kind) × Finds (ArePublished (tables_in market)) 1 text line kind

defect_or_fault : (market : Market) (text : List ℕ) (finding : Finding) → IsOpeningFinding market text finding
    → IsDefect market text finding ⊎ IsOnFinals market text finding
defect_or_fault market text (Text line kind) is = inl (line, kind, refl, is)
defect_or_fault market text (Journal at) is = inr is
defect_or_fault market text (Budget student) is = inr is
defect_or_fault market text (Unaffordable student) is = inr is
defect_or_fault market text (Infeasible student) is = inr is
defect_or_fault market text (Tree student defect) is = inr is
defect_or_fault market text (Seats section used seats) is = inr is
defect_or_fault market text (Turn turn what) is = inr is
defect_or_fault market text (NotQuiet turns) is = inr is
defect_or_fault market text (Allocation student) is = inr is
defect_or_fault market text (Used section) is = inr is

-- the text of a publication has no defect
no_defect_in : (market : Market) (text : List ℕ) (p : Publication) (finding : Finding) → AreTables (tables_in market) → IsTextOf market p text
    → ¬ IsDefect market text finding
no_defect_in market text p finding are of defect =
    no_defect (tables_in market) are text (p, of.is_publication, of.written) defect.0 defect.1 defect.3

pub one_finding : OneOpeningFinding
one_finding market text one other catalog roll first second =
    let are : AreTables (tables_in market) = tables_in_limits market catalog roll in
    elim (defect_or_fault market text one first) [
      | inl defect ↦ elim (defect_or_fault market text other second) [
        | inl also ↦
            let same = one_line (tables_in market) are text defect.0 also.0 defect.1 also.1 defect.3 also.3 in
            defect.2 ∙ (λ i. Text (same.0 i) (same.1 i)) ∙ sym also.2
        | inr on ↦ absurd (no_defect_in market text on.0 one are on.1 defect)
      ]
      | inr on ↦ elim (defect_or_fault market text other second) [
        | inl defect ↦ absurd (no_defect_in market text on.0 other are on.1 defect)
        | inr also ↦
            let same : also.0 ≡ on.0 =
            one_publication (tables_in market) are also.0 on.0 also.1.is_publication on.1.is_publication (sym also.1.written ∙ on.1.written) in
            one_told market (opened market on.0) one other on.2 (subst (λ (p : Publication). TellsFault market (opened market p) other) same also.2)
      ]
    ]

pub none_where_opened : NoFindingWhereOpened
none_where_opened market text finding catalog roll can is = elim (defect_or_fault market text finding is) [
  | inl defect ↦ no_defect_in market text can.0 finding (tables_in_limits market catalog roll) can.1.is_text defect
  | inr on ↦ fault_stands market (opened market on.0) finding on.2 (opens_alone market text on.0 catalog roll on.1 can)
]

-- each number below another is so, or there is a first that is not
first_failing : (Is Fails : ℕ → Type 0) (n : ℕ) → ((k : ℕ) → Is k ⊎ Fails k)
    → ((k : ℕ) → k < n → Is k) ⊎ ((k : ℕ) × (k < n) × Fails k × ((j : ℕ) → j < k → Is j))
first_failing Is Fails zero either = inl (λ k low. absurd (omega arith))
first_failing Is Fails (suc n) either = elim (first_failing Is Fails n either) [
  | inl all ↦ elim (either n) [
    | inl is ↦ inl (λ k low. elim (cases_eq k n) [ inl same ↦ subst Is (sym same) is | inr other ↦ all k (omega arith) ])
    | inr fails ↦ inr (n, omega arith, fails, all)
  ]
  | inr found ↦ inr (found.0, (let low = found.1 in omega arith), found.2, found.3)
]

-- whether a student may hold a set
may_or_not : (market : Market) (i : ℕ) (set : List ℕ) → IsAllowed market i set ⊎ (¬ IsAllowed market i set)
may_or_not market i set = elim (cases_lt (enrolled market i).courses (length set)) [
  | inl many ↦ inr (λ is. let few = is.courses in omega (arith, few, many))
  | inr few ↦ elim (cases_lt (enrolled market i).credits (credits_of market set)) [
    | inl dear ↦ inr (λ is. let cheap = is.credits in omega (arith, cheap, dear))
    | inr cheap ↦ elim (cases_Bool (two_clash market.catalog.sections set)) [
      | inl some ↦ inr (λ is. true≢false (sym some ∙ none_clash market.catalog.sections set is.apart))
      | inr none ↦ inl (record { apart = apart market.catalog.sections set none; credits = cheap; courses = few })
    ]
  ]
]

few_or_many : (held seats : ℕ) → (held ≤ seats) ⊎ (seats < held)
few_or_many held seats = elim (cases_lt seats held) [ inl many ↦ inr many | inr few ↦ inl few ]

-- what is held has no fault, or a first one
faultless_or : (market : Market) (state : HallState) → IsFaultless market state ⊎ ((finding : Finding) × TellsFault market state finding)
faultless_or market state =
    elim
    (first_failing (λ i. IsAllowed market i (held_by state i)) (λ i. ¬ IsAllowed market i (held_by state i)) (student_count market)
    (λ i. may_or_not market i (held_by state i))) [
      | inl students ↦
          elim
          (first_failing (λ s. holders s state.held ≤ (offered market s).seats) (λ s. (offered market s).seats < holders s state.held) (section_count market)
          (λ s. few_or_many (holders s state.held) (offered market s).seats)) [
            | inl seats ↦ inl (record { students = students; seats = seats })
            | inr found ↦ inr (
              Seats (record { 0 = found.0 }) (holders found.0 state.held) (offered market found.0).seats,
              record { students = students; within = found.1; counted = refl; given = refl; over = found.2; before = found.3 },
            )
          ]
      | inr found ↦ inr (Infeasible (record { 0 = found.0 }), record { within = found.1; forbidden = found.2; before = found.3 })
    ]

pub opens_or_found : OpensOrIsFound
opens_or_found market text p of = elim (faultless_or market (opened market p)) [
  | inl faultless ↦ inl (p, record { is_text = of; faultless = faultless })
  | inr found ↦ inr (found.0, fault_first market text p found.0 of found.1)
]

-- the lines of a text, and what stands behind the last line feed
record Cut (text : List ℕ) : Type 0 where
  lines : List (List ℕ)
  rest : List ℕ
  whole : AllByRecursion (Lacks 10) lines
  open' : Lacks 10 rest
  ahead : text ≡ joined lines ++ rest

lacks_more : (byte : ℕ) (bytes : List ℕ) → (byte == 10) ≡ false → Lacks 10 bytes → Lacks 10 (byte ∷ bytes)
lacks_more byte bytes other free zero d low = other
lacks_more byte bytes other free (suc k) d low = free k d (omega arith)

cut : (text : List ℕ) → Cut text
cut [] = record { lines = []; rest = []; whole = tt; open' = λ k d low. absurd (omega arith); ahead = refl }
cut (byte ∷ more) = elim (cases_Bool (byte == 10)) [
  | inl ends ↦
      let behind = cut more in record {
        lines = [] ∷ behind.lines;
        rest = behind.rest;
        whole = ((λ k d low. absurd (omega arith)), behind.whole);
        open' = behind.open';
        ahead = (λ i. eqb-true byte 10 ends i ∷ behind.ahead i);
      }
  | inr other ↦ longer other (cut more)
]
  where
    longer : (byte == 10) ≡ false → Cut more → Cut (byte ∷ more)
    longer other behind = by_lines behind.lines behind.whole behind.ahead
      where
        by_lines : (lines : List (List ℕ)) → AllByRecursion (Lacks 10) lines → more ≡ joined lines ++ behind.rest → Cut (byte ∷ more)
        by_lines [] whole ahead = record {
          lines = [];
          rest = byte ∷ behind.rest;
          whole = tt;
          open' = lacks_more byte behind.rest other behind.open';
          ahead = ap (λ l. byte ∷ l) ahead;
        }
        by_lines (line ∷ lines) whole ahead = record {
          lines = (byte ∷ line) ∷ lines;
          rest = behind.rest;
          whole = (lacks_more byte line other whole.0, whole.1);
          open' = behind.open';
          ahead = ap (λ l. byte ∷ l) ahead;
        }

-- lines with which some text of a language begins, and the lines behind them: there is a defect, or the text is of the language
module _ (Is : List (List ℕ) → Type 0) (text : List ℕ) (none : (at : ℕ) (fault : LineFault) → ¬ Finds Is 1 text at fault)
    (other : (lines : List (List ℕ)) → Is lines → ¬ (text ≡ joined lines)) where
  no_stop : (front : List (List ℕ)) (tail : List ℕ) (fault : LineFault) → text ≡ joined front ++ tail → ¬ Stops Is front tail fault
  no_stop front tail fault ahead stop = none (1 + length front) fault (record { front = front; tail = tail; ahead = ahead; line = refl; stop = stop })

  some_tail : (line : List ℕ) (rest : List ℕ) → 0 < length (line ++ 10 ∷ rest)
  some_tail [] rest = omega arith
  some_tail (byte ∷ line) rest = omega arith

  at_end : (front : List (List ℕ)) (rest : List ℕ) → Lacks 10 rest → text ≡ joined front ++ rest → ¬ Begins Is front
  at_end front [] free ahead ([], is) = other front (subst Is (append-nil front) is) (ahead ∙ append-nil (joined front))
  at_end front (byte ∷ rest) free ahead ([], is) =
      no_stop front (byte ∷ rest) faults.Rest ahead (subst Is (append-nil front) is, (let goal : 0 < suc (length rest) = omega arith in goal))
  at_end front rest free ahead (line ∷ lines, is) = no_stop front rest faults.Missing ahead ((line, lines, is), free)

  -- the text goes on with this line behind the front, and no text of the language does
  at_line : (front more : List (List ℕ)) (line rest : List ℕ) → Lacks 10 line → text ≡ joined front ++ ((line ++ 10 ∷ joined more) ++ rest)
      → ¬ Begins Is (front ++ line ∷ []) → ¬ Begins Is front
  at_line front more line rest whole ahead next begins = by_begin begins
    where
      split : (line ++ 10 ∷ joined more) ++ rest ≡ line ++ 10 ∷ (joined more ++ rest)
      split = append_assoc line (10 ∷ joined more) rest

      by_begin : ¬ Begins Is front
      by_begin ([], is) =
          no_stop front ((line ++ 10 ∷ joined more) ++ rest) faults.Rest ahead
          (subst Is (append-nil front) is, subst (λ l. 0 < length l) (sym split) (some_tail line (joined more ++ rest)))
      by_begin (first ∷ lines, is) =
          no_stop front ((line ++ 10 ∷ joined more) ++ rest) faults.Form ahead (
            (first, lines, is),
            record { line = line; rest = joined more ++ rest; next = split; whole = whole; form = next },
          )

  -- the same text, with the line in front
  line_more : (front more : List (List ℕ)) (line rest : List ℕ)
      → joined front ++ ((line ++ 10 ∷ joined more) ++ rest) ≡ joined (front ++ line ∷ []) ++ (joined more ++ rest)
  line_more front more line rest =
      ap (λ l. joined front ++ l) (append_assoc line (10 ∷ joined more) rest ∙ sym (append_assoc line (10 ∷ []) (joined more ++ rest)))
      ∙ sym (append_assoc (joined front) (line ++ 10 ∷ []) (joined more ++ rest))
      ∙ ap (λ l. l ++ (joined more ++ rest)) (sym (joined_append front (line ∷ [])))

  begins_nothing : (front lines : List (List ℕ)) (rest : List ℕ) → AllByRecursion (Lacks 10) lines → Lacks 10 rest → text ≡ joined front ++ (joined lines ++ rest)
      → ¬ Begins Is front
  begins_nothing front [] rest whole free ahead = at_end front rest free ahead
  begins_nothing front (line ∷ more) rest whole free ahead =
      at_line front more line rest whole.0 ahead
      (begins_nothing (front ++ line ∷ []) more rest whole.1 free (ahead ∙ line_more front more line rest))

-- some lines are a publication's
some_published : (tables : Tables) → Begins (ArePublished tables) []
some_published tables = let some = some_lines tables (due_of tables) in (some.lines, published_from tables some.lines some.are_due)

-- no text is without a defect that is no publication's
defect_or_published : (tables : Tables) (text : List ℕ) → ((at : ℕ) (fault : LineFault) → ¬ Finds (ArePublished tables) 1 text at fault)
    → ¬ ¬ IsPublished tables text
defect_or_published tables text none unpublished =
    let parts = cut text in
    begins_nothing (ArePublished tables) text none
    (λ lines is same. unpublished (is.0, is.1, same ∙ ap joined is.2)) [] parts.lines parts.rest parts.whole parts.open' parts.ahead (some_published tables)

pub found_or_opens : FoundWhereNotOpened
found_or_opens market text closed none =
    defect_or_published (tables_in market) text (λ at fault is. none (Text at fault) is) (λ published.
    elim (opens_or_found market text published.0 (record { is_publication = published.1; written = published.2 })) [
      | inl can ↦ closed can
      | inr found ↦ none found.0 found.1
    ])
