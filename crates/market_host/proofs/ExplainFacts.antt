-- What `explain` writes.
use Rattle.std.proofs.Common.{ℕ, ◌≡◌, ◌<◌, ◌≢◌, true, false, true≢false, List, [], ◌∷◌, length, arith, ap, sym, subst, ◌∙◌, inl, inr}
use Rattle.std.specs.Prelude.{◌↔◌, IfNone, IfSome, None, Option, Some, is_some, nat_lt, option_map}
use Rattle.std.specs.List.{position}
use Rattle.std.specs.Str.{bytes_eq}
use Rattle.std.proofs.lemmas.Bool.{cases_Bool, lt-ltb}
use Rattle.bundle_bounds.specs.Offers.{OfferData}
use Rattle.bundle_rules.specs.Given.{SomeHas}
use Rattle.bundle_rules.specs.Menus.{wishes_of}
use Rattle.market_units.specs.Members.{has}
use Rattle.certificate_checker.specs.Students.{offer_in, proved_in}
use Rattle.explain_desk.specs.declared.reasons.Reason.{Reason}
use Rattle.explain_desk.specs.declared.reasons.Reason.TheVariants.{Held, Unrated, Alone, Clash, Beside, Less}
use Rattle.explain_desk.specs.Explanations.{ExplainedData, IsExplained}
use Rattle.explain_desk.specs.Reasons.{stage, tells_best}
use Rattle.explain_desk.specs.Texts.{explained_text}
use Rattle.explain_desk.proofs.Leaving.{reasons_leave_a_bundle}
use Rattle.course_catalog.specs.Sections.{section_names}
use Rattle.market_certificate.specs.Tables.{name_at}
use Rattle.market_certificate.proofs.NamesOf.{found_named, found_none, found_within}
use Rattle.market_units.specs.declared.names.Name.{Name}
use Rattle.market_units.specs.Name.{name_bytes}
use Rattle.market_words.specs.declared.words.Form.TheVariants.{Explain}
use Rattle.published_parts.specs.Markets.{Market}
use Rattle.explain_desk.specs.Told.{IsToldOf}
use Rattle.student_roll.specs.Students.{names_of}
use Rattle.utility_language.specs.declared.commands.Command.{Command}
use Rattle.market_host.specs.declared.status.Status.{Status}
use Rattle.market_host.specs.declared.status.Status.TheVariants.{Done, Usage, ShelfFault, Refused, TooLong, NoPrices, Found, Unknown, SinkFault, OutOfMemory}
use Rattle.market_host.specs.Explains.{IsAmong, IsFirstUnknown, IsNameAt, IsReasonEnd, IsReasonOf}
use Rattle.market_host.specs.Lines.{unknown_line}
use Rattle.market_host.specs.Works.{EndsFor}

-- a reason that leaves a bundle is not that the section is held
not_held : (reason : Reason) → tells_best reason ≡ true → stage Held < stage reason
not_held Held e = absurd (true≢false (sym e))
not_held Unrated e = absurd (true≢false (sym e))
not_held (Alone limit) e = absurd (true≢false (sym e))
not_held (Clash other) e = omega arith
not_held (Beside limit) e = omega arith
not_held Less e = omega arith

-- the best bundle with an offered section is told exactly where the student does not have it and some bundle with it can be had
told_where_had : (offer : OfferData) (bundle : List ℕ) (section : ℕ) (explained : ExplainedData) → offer.allowed section ≡ true
    → IsExplained offer bundle section explained
    → (is_some explained.best ≡ true) ↔ ((has bundle section ≡ false) × SomeHas (wishes_of offer.menu) offer.price offer.budget offer.allowed section)
told_where_had offer bundle section explained offered is = (
  (λ some.
      let tells : tells_best explained.reason ≡ true = sym is.told ∙ some in
      let lacks : has bundle section ≡ false =
      elim (cases_Bool (has bundle section)) [ inl holds ↦ absurd (is.is_reason.first Held (not_held explained.reason tells) holds) | inr lacks ↦ lacks ] in
      (lacks, (reasons_leave_a_bundle offer.menu offer.price offer.budget offer.allowed bundle section explained.reason offered lacks is.is_reason).1 tells)),
  (λ had. is.told
      ∙ (reasons_leave_a_bundle offer.menu offer.price offer.budget offer.allowed bundle section explained.reason offered had.0 is.is_reason).0 had.1),
)

-- a section of the catalogue is among as many as the crowd has
is_offered : (place sections listed : ℕ) → sections ≡ listed → place < listed → nat_lt place sections ≡ true
is_offered place sections listed same low = subst (λ n. nat_lt place n ≡ true) (sym same) (lt-ltb place listed low)

-- what is told of an accepted text is the reason of the student and the section that have these names
pub reason_of : (market : Market) (streams : List (List Command)) (published student section text : List ℕ) (number place : ℕ)
    → IsNameAt (names_of market.roll.students) number student
    → IsNameAt (section_names market.catalog.sections) place section → place < length market.catalog.sections
    → IsToldOf market streams published number place text → IsReasonOf market streams published student section text
reason_of market streams published student section text number place named listed low is = record {
  publication = is.publication;
  is_text = is.is_text;
  crowd = is.crowd;
  holds = is.holds;
  number = number;
  student_of = named;
  place = place;
  section_of = listed;
  explained = is.is_told.0;
  is_explained = is.is_told.1;
  best_told =
      told_where_had (offer_in is.crowd is.publication number) (proved_in is.publication number).bundle place is.is_told.0
      (is_offered place is.crowd.sections (length market.catalog.sections) is.holds.is_crowd.is_crowd.sections low) is.is_told.1;
  told =
      is.is_told.2
      ∙ ap
      (λ (name : List ℕ). explained_text (section_names market.catalog.sections) (offer_in is.crowd is.publication number).menu name place
      (proved_in is.publication number).bundle is.is_told.0)
      named.1;
}

-- what is not found is none of the names
pub not_among : {S : Type 0} (ordinal : S → ℕ) (found : Option S) (name : List ℕ) (names : List (List ℕ))
    → option_map ordinal found ≡ position (bytes_eq name) names → found ≡ None → ¬ IsAmong names name
not_among {S = S} ordinal found name names place none (at, (low, is)) =
    let other : IfNone {T = S} None ((n : ℕ) → n < length names → name_at names n ≢ name) =
    subst (λ o. IfNone o ((n : ℕ) → n < length names → name_at names n ≢ name)) none (found_none ordinal found name names place) in
    other at low is

-- what is found stands at its place
pub found_at : {S : Type 0} (ordinal : S → ℕ) (found : Option S) (s : S) (name : List ℕ) (names : List (List ℕ))
    → option_map ordinal found ≡ position (bytes_eq name) names → found ≡ Some s → IsNameAt names (ordinal s) name
found_at ordinal found s name names place is = (
  subst (λ o. IfSome o (λ t. ordinal t < length names)) is (found_within ordinal found name names place),
  subst (λ o. IfSome o (λ t. name_at names (ordinal t) ≡ name)) is (found_named ordinal found name names place),
)

-- the first word that names nothing was told
pub unknown_end : (market : Market) (streams : List (List Command)) (published student section : List ℕ) (word : ℕ) (status : Status) (line : List ℕ)
    → status ≡ Unknown word → line ≡ unknown_line word → IsFirstUnknown market student section word
    → IsReasonEnd market streams published student section status line
unknown_end market streams published student section word status line is told first =
    subst (λ s. IsReasonEnd market streams published student section s line) (sym is) (first, told)

-- however it ends for a market, its streams and a published text, that is how it ends for the texts that say them
pub explain_ended : (market : Market) (streams : List (List Command)) (published : List ℕ) (student section : Name) (status : Status) (line : List ℕ)
    → IsReasonEnd market streams published (name_bytes student) (name_bytes section) status line
    → EndsFor (Explain student section) market (published ∷ []) streams status line
explain_ended market streams published student section Done line is catalog roll settings sessions say = (market, streams, say, is)
explain_ended market streams published student section (Found finding) line is catalog roll settings sessions say = (market, streams, say, is)
explain_ended market streams published student section (Unknown word) line is catalog roll settings sessions say = (market, streams, say, is)
explain_ended market streams published student section Usage line is catalog roll settings sessions say = absurd is
explain_ended market streams published student section (ShelfFault n) line is catalog roll settings sessions say = absurd is
explain_ended market streams published student section (Refused n row cause) line is catalog roll settings sessions say = absurd is
explain_ended market streams published student section (TooLong n) line is catalog roll settings sessions say = absurd is
explain_ended market streams published student section (NoPrices least) line is catalog roll settings sessions say = absurd is
explain_ended market streams published student section SinkFault line is catalog roll settings sessions say = absurd is
explain_ended market streams published student section OutOfMemory line is catalog roll settings sessions say = absurd is
