-- The student of a number, as the crowd and the publication have it.
use Rattle.std.proofs.Common.{ℕ, ◌≡◌, ◌<◌, List, length, map, get_or, sym, subst, arith}
use Rattle.std.specs.Prelude.{All, nat_lt, slice_index}
use Rattle.std.proofs.lemmas.List.{length-map}
use Rattle.market_units.specs.declared.units.Tokens.{Tokens}
use Rattle.bundle_rules.specs.declared.menu.Rated.{Rated}
use Rattle.bundle_rules.specs.Bundles.{sections_of}
use Rattle.bundle_rules.specs.Demand.{HasPrices, IsBest, price_in}
use Rattle.bundle_rules.specs.Menus.{MenuData, wishes_of}
use Rattle.bundle_bounds.specs.Offers.{OfferData}
use Rattle.course_catalog.specs.Catalog.{CatalogData}
use Rattle.course_catalog.specs.Sections.{Section, section_names}
use Rattle.student_roll.specs.Students.{RollData, Student as Enrolled, names_of}
use Rattle.demand_api.specs.declared.crowd.Crowd.{Crowd}
use Rattle.demand_api.specs.Crowds.{CrowdData, IsWithin}
use Rattle.demand_api.specs.Views.{data_of}
use Rattle.demand_api.proofs.Parts.{menus_within, students_length}
use Rattle.market_certificate.specs.declared.publication.Proved as declared_proved
use Rattle.market_certificate.specs.declared.publication.Publication as declared
use Rattle.market_certificate.specs.Publications.{Proved}
use Rattle.market_certificate.specs.Views.{proved_of, publication_of}
use Rattle.published_parts.specs.declared.market.Market as declared_market
use Rattle.published_parts.specs.Views.{market_in}
use Rattle.published_parts.specs.Markets.{Market}
use Rattle.utility_language.specs.declared.commands.Command.{Command}
use Rattle.certificate_checker.specs.Certificates.{HoldsBy, IsAccepted, IsTextOf}
use Rattle.certificate_checker.specs.Students.{offer_in, proved_in}
use Rattle.published_parts.specs.Offers.{student_in}
use Rattle.certificate_checker.proofs.Composing.{crowd_length}
use Rattle.certificate_checker.proofs.Optimal.{best_in_stage_two}
use Rattle.certificate_checker.proofs.Reading.{proved_is, student_is}
use Rattle.explain_desk.specs.Explanations.{ExplainedData, IsExplained, offer_of_all}
use Rattle.explain_desk.specs.Texts.{explained_text}
use Rattle.market_certificate.specs.Tables.{name_at}
use Rattle.explain_desk.specs.Told.{IsTold}
use Rattle.explain_desk.specs.Checked.{IsChecked}

-- what is known of an accepted text
pub checked : (market : Market) (streams : List (List Command)) (text : List ℕ) (p : _) (crowd : CrowdData) → IsTextOf market p text
    → HoldsBy market streams p crowd → IsChecked market.catalog market.roll p crowd
checked market streams text p crowd is holds =
    let accepted : IsAccepted market streams text = record { publication = p; is_text = is; holds = record { crowd = crowd; is_crowd = holds.is_crowd; printed = holds.printed } } in record {
      is_publication = is.is_publication;
      students = crowd_length market streams p.order crowd holds.is_crowd;
      sections = holds.is_crowd.is_crowd.sections;
      best = λ k low. best_in_stage_two market streams text accepted k low;
    }

-- the same of what the code has
pub checked_by : (market : declared_market.Market) (streams : List (List Command)) (text : List ℕ) (publication : declared.Publication) (crowd : Crowd)
    → IsTextOf (market_in market) (publication_of publication) text → HoldsBy (market_in market) streams (publication_of publication) (data_of crowd)
    → IsChecked market.catalog.now market.roll.now (publication_of publication) (data_of crowd)
checked_by market streams text publication crowd is holds = checked (market_in market) streams text (publication_of publication) (data_of crowd) is holds

-- what stands at the place of a student
pub record StandsAt (crowd : Crowd) (k : ℕ) (publication : declared.Publication) (m : MenuData) (b : Tokens)
    (item : declared_proved.Proved) : Type 0 where
  pub low : k < length crowd.menus.items
  pub printed_low : k < length publication.bundles.items
  pub menu : m ≡ get_or crowd.menus.items k m
  pub budget : b ≡ get_or crowd.budgets.items k b
  pub printed : item ≡ get_or publication.bundles.items k item

-- the places of a student of the roll
pub lows : (catalog : CatalogData) (roll : RollData) (publication : declared.Publication) (crowd : Crowd) (place student : ℕ)
    → IsChecked catalog roll (publication_of publication) (data_of crowd)
    → student < length roll.students → place ≡ student
    → (place < length crowd.menus.items) × (place < length crowd.budgets.items) × (place < length publication.bundles.items)
lows catalog roll publication crowd place student is low same =
    let asked : length (data_of crowd).students ≡ length roll.students = is.students in
    let count : length (data_of crowd).students ≡ length crowd.menus.items = students_length crowd in
    let drawn : length crowd.budgets.items ≡ length crowd.menus.items = crowd.same in
    let printed : length (map proved_of publication.bundles.items) ≡ length (map (λ (student : Enrolled). student.name) roll.students) =
    is.is_publication.bundles.count in
    let names = length-map roll.students (λ (student : Enrolled). student.name) in
    let long = length-map publication.bundles.items proved_of in
    (omega (arith, asked, count, low, same), omega (arith, asked, count, drawn, low, same), omega (arith, printed, names, long, low, same))

pub stands_at : (catalog : CatalogData) (roll : RollData) (publication : declared.Publication) (crowd : Crowd) (place student : ℕ)
    (m : MenuData) (b : Tokens) (item : declared_proved.Proved)
    → IsChecked catalog roll (publication_of publication) (data_of crowd) → student < length roll.students
    → place ≡ student → m ≡ get_or crowd.menus.items place m → b ≡ get_or crowd.budgets.items place b
    → item ≡ get_or publication.bundles.items place item → StandsAt crowd student publication m b item
stands_at catalog roll publication crowd place student m b item is low same first second third =
    let inside = lows catalog roll publication crowd place student is low same in record {
      low = subst (λ k. k < length crowd.menus.items) same inside.0;
      printed_low = subst (λ k. k < length publication.bundles.items) same inside.2;
      menu = subst (λ k. m ≡ get_or crowd.menus.items k m) same first;
      budget = subst (λ k. b ≡ get_or crowd.budgets.items k b) same second;
      printed = subst (λ k. item ≡ get_or publication.bundles.items k item) same third;
    }

module _ (crowd : Crowd) (k : ℕ) (publication : declared.Publication) (m : MenuData) (b : Tokens)
    (item : declared_proved.Proved) (stands : StandsAt crowd k publication m b item) where
  pub this_student : student_in (data_of crowd) k ≡ record { menu = m; budget = b.0 }
  this_student = student_is crowd k m b stands.low stands.menu stands.budget

  pub this_bundle : proved_in (publication_of publication) k ≡ proved_of item
  this_bundle = proved_is publication k item stands.printed_low stands.printed

  pub this_offer : offer_in (data_of crowd) (publication_of publication) k ≡ offer_of_all m publication.prices.items b.0 crowd.sections
  this_offer =
      λ i. record {
        menu = (this_student i).menu;
        price = slice_index (map (λ (t : Tokens). t.0) publication.prices.items);
        budget = (this_student i).budget;
        allowed = λ s. nat_lt s crowd.sections;
      }

  -- a fact of what is offered and printed is one of what stands there
  pub stands_so : (P : OfferData → Proved → Type 0)
      → P (offer_in (data_of crowd) (publication_of publication) k) (proved_in (publication_of publication) k)
      → P (offer_of_all m publication.prices.items b.0 crowd.sections) (proved_of item)
  stands_so P is =
      subst (λ offer. P offer (proved_of item)) this_offer
      (subst (λ proved. P (offer_in (data_of crowd) (publication_of publication) k) proved) this_bundle is)

  -- and the other way round
  pub printed_so : (P : OfferData → Proved → Type 0) → P (offer_of_all m publication.prices.items b.0 crowd.sections) (proved_of item)
      → P (offer_in (data_of crowd) (publication_of publication) k) (proved_in (publication_of publication) k)
  printed_so P is =
      subst (λ offer. P offer (proved_in (publication_of publication) k)) (sym this_offer)
      (subst (λ proved. P (offer_of_all m publication.prices.items b.0 crowd.sections) proved) (sym this_bundle) is)

  -- its sections are among those of the crowd
  pub menu_within : All (λ (rated : Rated). rated.section.0 < crowd.sections) m.places
  menu_within = subst (IsWithin crowd.sections) (sym stands.menu) (menus_within crowd k m stands.low)

  -- and have prices
  pub menu_priced : (catalog : CatalogData) (roll : RollData) → IsChecked catalog roll (publication_of publication) (data_of crowd)
      → HasPrices m publication.prices.items
  menu_priced catalog roll is = λ j d inside.
      let many : length (map (λ (t : Tokens). t.0) publication.prices.items) ≡ length (map (λ (section : Section). section.name) catalog.sections) =
      is.is_publication.prices.count in
      let counted : length (map (λ (section : Section). section.name) catalog.sections) ≡ length catalog.sections =
      length-map catalog.sections (λ (section : Section). section.name) in
      let listed : length (map (λ (t : Tokens). t.0) publication.prices.items) ≡ length publication.prices.items =
      length-map publication.prices.items (λ (t : Tokens). t.0) in
      let all : crowd.sections ≡ length catalog.sections = is.sections in
      let small : (get_or m.places j d).section.0 < crowd.sections = menu_within j d inside in
      record {
        listed = omega (arith, many, counted, listed, all, small);
        high = is.is_publication.prices.each (get_or m.places j d).section.0 0 (omega (arith, many, counted, all, small));
      }

  -- the bundle that is printed is the best
  pub bundle_best : (catalog : CatalogData) (roll : RollData) → IsChecked catalog roll (publication_of publication) (data_of crowd)
      → IsBest (wishes_of m) (price_in publication.prices.items) b.0 (λ s. nat_lt s crowd.sections) (sections_of item.bundle)
  bundle_best catalog roll is =
      let count : length (data_of crowd).students ≡ length crowd.menus.items = students_length crowd in
      let inside = stands.low in
      stands_so (λ offer proved. IsBest (wishes_of offer.menu) offer.price offer.budget offer.allowed proved.bundle) (is.best k (omega (arith, count, inside)))

  -- what is told of what stands there is told of what is printed
  pub told_there : (catalog : CatalogData) (roll : RollData) (section : ℕ) (explained : ExplainedData) (name text : List ℕ)
      → name ≡ name_at (names_of roll.students) k
      → IsExplained (offer_of_all m publication.prices.items b.0 crowd.sections) (sections_of item.bundle) section explained
      → text ≡ explained_text (section_names catalog.sections) m name section (sections_of item.bundle) explained
      → IsTold catalog roll (data_of crowd) (publication_of publication) k section text
  told_there catalog roll section explained name text named is written =
      let whole =
      printed_so
      (λ offer proved. IsExplained offer proved.bundle section explained
      × (text ≡ explained_text (section_names catalog.sections) offer.menu (name_at (names_of roll.students) k) section proved.bundle explained))
      (is, subst (λ (n : List ℕ). text ≡ explained_text (section_names catalog.sections) m n section (sections_of item.bundle) explained) named written) in
      (explained, whole.0, whole.1)
