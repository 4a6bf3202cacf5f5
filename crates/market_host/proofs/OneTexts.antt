-- Two calls that are given the same inputs write one text.
use Rattle.std.proofs.Common.{ℕ, ◌≡◌, ◌∙◌, List, [], ◌∷◌, ◌++◌, drop, ap, sym, subst, arith}
use Rattle.course_catalog.specs.Sections.{section_names}
use Rattle.student_roll.specs.Students.{names_of}
use Rattle.bundle_rules.specs.Menus.{IsMenu}
use Rattle.demand_api.specs.Crowds.{CrowdData}
use Rattle.market_certificate.specs.Publications.{IsPublication, Publication}
use Rattle.market_certificate.specs.Lines.{joined}
use Rattle.market_certificate.specs.Tables.{AreTables}
use Rattle.market_certificate.specs.Texts.{head_line, lines_of, order_line, text_of}
use Rattle.market_certificate.proofs.Bundles.{different}
use Rattle.market_certificate.proofs.Cuts.{cut_once}
use Rattle.market_certificate.proofs.OneText.{lines_lack, one_publication}
use Rattle.market_units.specs.declared.names.Name.{Name}
use Rattle.market_units.specs.Name.{name_bytes}
use Rattle.market_words.specs.declared.words.Form.{Form}
use Rattle.market_words.specs.declared.words.Form.TheVariants.{Audit, Explain, Run}
use Rattle.market_words.specs.Forms.{HasForm, inputs_of}
use Rattle.market_words.proofs.OneForm.{one_form}
use Rattle.published_market.specs.Laws.{OnePublishedText}
use Rattle.published_market.specs.Publishing.{IsPublishedText}
use Rattle.published_parts.specs.Markets.{Market, tables_in}
use Rattle.published_parts.specs.Offers.{student_in}
use Rattle.published_parts.proofs.OneCrowds.{one_crowd_after}
use Rattle.certificate_checker.specs.Certificates.{HoldsBy, IsTextOf}
use Rattle.certificate_checker.specs.Students.{offer_in, proved_in}
use Rattle.certificate_checker.proofs.Refusing.{menu_sound}
use Rattle.explain_desk.specs.Explanations.{ExplainedData, IsExplained}
use Rattle.explain_desk.specs.Texts.{explained_text}
use Rattle.explain_desk.proofs.Telling.{one_explanation}
use Rattle.fairness_audit.specs.Audits.{IsAuditOf, final_in, settled_in}
use Rattle.fairness_audit.specs.Rows.{rows}
use Rattle.fairness_audit.specs.Texts.{audit_text}
use Rattle.utility_language.specs.declared.commands.Command.{Command}
use Rattle.market_host.specs.declared.status.Status.TheVariants.{Done}
use Rattle.market_host.specs.Explains.{IsReasonOf}
use Rattle.market_host.specs.Inputs.{AreRead, AreTold}
use Rattle.market_host.specs.Markets.{IsMarketOf}
use Rattle.market_host.specs.OneTexts.{HasOrderLine, OneAuditTold, OneReasonTold, OneTextAnOrder}
use Rattle.market_host.specs.Outcomes.{IsOutcome, Prints}
use Rattle.market_host.specs.Sights.{Sight}
use Rattle.market_host.proofs.Confirming.{moved_market, same_texts}
use Rattle.market_host.proofs.ReadTables.{catalog_read, roll_read}

-- a call that is done prints what its form prints for the texts that the shelf tells
printed : (form : Form) (words : List (List ℕ)) (seen : Sight) (told : List (List ℕ)) (text : List ℕ) → HasForm words form
    → AreTold seen.held (inputs_of form words) told → IsOutcome words seen Done text → Prints form told text
printed form words seen told text has are (other, have, texts, read, ended, prints) =
    let is : other ≡ form = one_form words other form have has in
    let reads : AreRead form seen.held (inputs_of form words) texts = subst (λ f. AreRead f seen.held (inputs_of f words) texts) is read in
    let same : texts ≡ told = sym (same_texts seen.held (inputs_of form words) told texts are reads.each) in
    subst (λ all. Prints form all text) same (subst (λ f. Prints f texts text) is prints)

-- the tables of a market that was read
tables_read : (catalog roll settings : List ℕ) (sessions : List (List ℕ)) (market : Market) (streams : List (List Command))
    → IsMarketOf catalog roll settings sessions market streams → AreTables (tables_in market)
tables_read catalog roll settings sessions market streams is =
    let sections = catalog_read catalog market.catalog is.catalog_says in
    let students = roll_read roll market.roll is.roll_says in
    record {
      version = (let one = sections.known in let two = students.known in omega arith);
      students = record { each = students.each; distinct = students.distinct };
      few_students = students.few;
      sections = record { each = sections.each; distinct = sections.distinct };
      few_sections = sections.few;
    }

-- the publication with another order
abbrev ordered : Publication → List ℕ → Publication
ordered p order = record p { order = order }

-- what stands behind the line of the order
abbrev behind_order : (market : Market) → Publication → List (List ℕ)
behind_order market p = drop 2 (lines_of (tables_in market) p)

-- publications with one order line have one order
one_order : (market : Market) (p q : Publication) → AreTables (tables_in market) → IsPublication (tables_in market) p
    → IsPublication (tables_in market) q → order_line p.order ≡ order_line q.order → p.order ≡ q.order
one_order market p q are is so same =
    let alike : IsPublication (tables_in market) (ordered p q.order) = record {
      order = so.order;
      budgets = is.budgets;
      start = is.start;
      error = is.error;
      prices = is.prices;
      bundles = is.bundles;
      turns = is.turns;
      allocation = is.allocation;
      used = is.used;
    } in
    let text : text_of (tables_in market) p ≡ text_of (tables_in market) (ordered p q.order) =
    ap (λ (line : List ℕ). joined (head_line (tables_in market) ∷ line ∷ behind_order market p)) same in
    ap (λ (r : Publication). r.order) (one_publication (tables_in market) are p (ordered p q.order) is alike text)

-- the second line of a publication's text is that of its order
line_of_order : (market : Market) (p : Publication) (line text : List ℕ) → AreTables (tables_in market) → IsPublication (tables_in market) p
    → text ≡ text_of (tables_in market) p → HasOrderLine line text → line ≡ order_line p.order
line_of_order market p line text are is written has =
    let lack = lines_lack (tables_in market) are p is in
    let cut =
    cut_once 10 has.first (head_line (tables_in market)) (line ++ 10 ∷ has.rest) (order_line p.order ++ 10 ∷ joined (behind_order market p)) has.first_ends
    lack.0 (sym has.written ∙ written) in
    (cut_once 10 line (order_line p.order) has.rest (joined (behind_order market p)) has.line_ends lack.1.0 cut.1).0

-- what is published for two orders with one line is one text
one_for_line : OnePublishedText → (market : Market) (streams : List (List Command)) (order also line text alike : List ℕ) → AreTables (tables_in market)
    → IsPublishedText market streams order text → IsPublishedText market streams also alike
    → HasOrderLine line text → HasOrderLine line alike → text ≡ alike
one_for_line law market streams order also line text alike are (p, is, range, written) (q, so, ranges, spelt) has have =
    let lines : order_line p.order ≡ order_line q.order =
    sym (line_of_order market p line text are range written has) ∙ line_of_order market q line alike are ranges spelt have in
    let orders : p.order ≡ q.order = one_order market p q are range ranges lines in
    let same : order ≡ also =
    sym (is.publication.order ∙ is.is_journal.sessions) ∙ orders ∙ so.publication.order ∙ so.is_journal.sessions in
    law market streams also text alike (subst (λ (o : List ℕ). IsPublishedText market streams o text) same (p, is, range, written)) (q, so, ranges, spelt)

-- what `run` prints for texts is one text for an order
runs_alike : OnePublishedText → (workers also : ℕ) (texts : List (List ℕ)) (line text alike : List ℕ) → Prints (Run workers) texts text
    → Prints (Run also) texts alike → HasOrderLine line text → HasOrderLine line alike → text ≡ alike
runs_alike law workers also (catalog ∷ roll ∷ settings ∷ sessions) line text alike (market, streams, read, order, published) so has have =
    let moved : IsPublishedText so.0 so.1 order text =
    moved_market catalog roll settings sessions market so.0 streams so.1 (λ m s. IsPublishedText m s order text) read so.2 published in
    one_for_line law so.0 so.1 order so.3 line text alike (tables_read catalog roll settings sessions so.0 so.1 so.2) moved so.4 has have
runs_alike law workers also (catalog ∷ roll ∷ []) line text alike is so has have = absurd is
runs_alike law workers also (catalog ∷ []) line text alike is so has have = absurd is
runs_alike law workers also [] line text alike is so has have = absurd is

pub one_text_an_order : OnePublishedText → OneTextAnOrder
one_text_an_order law one other at_one at_other workers also line text alike same first second has have =
    runs_alike law workers also same.texts line text alike (printed (Run workers) one at_one same.texts text same.is_one same.told_to_one first)
    (printed (Run also) other at_other same.texts alike same.is_other same.told_to_other second) has have

-- two readings of one accepted text
module _ (market : Market) (streams : List (List Command)) (published : List ℕ) (are : AreTables (tables_in market)) where
  -- are of one publication
  one_read : (p q : Publication) → IsTextOf market p published → IsTextOf market q published → p ≡ q
  one_read p q is so = one_publication (tables_in market) are p q is.is_publication so.is_publication (sym is.written ∙ so.written)

  -- and by one crowd
  one_crowd_read : (p q : Publication) (crowd also : CrowdData) → p ≡ q → HoldsBy market streams p crowd → HoldsBy market streams q also → crowd ≡ also
  one_crowd_read p q crowd also same holds hold =
      one_crowd_after market streams q.order crowd also (subst (λ (r : Publication). HoldsBy market streams r crowd) same holds).is_crowd hold.is_crowd

  -- one reason is told
  one_reason_of : (student section text alike : List ℕ) → IsReasonOf market streams published student section text
      → IsReasonOf market streams published student section alike → text ≡ alike
  one_reason_of student section text alike is so =
      let p : is.publication ≡ so.publication = one_read is.publication so.publication is.is_text so.is_text in
      let crowd : is.crowd ≡ so.crowd = one_crowd_read is.publication so.publication is.crowd so.crowd p is.holds so.holds in
      let number : is.number ≡ so.number =
      different (names_of market.roll.students) is.number so.number are.students.distinct is.student_of.0 so.student_of.0
      (is.student_of.1 ∙ sym so.student_of.1) in
      let place : is.place ≡ so.place =
      different (section_names market.catalog.sections) is.place so.place are.sections.distinct is.section_of.0 so.section_of.0
      (is.section_of.1 ∙ sym so.section_of.1) in
      let menu : IsMenu (student_in so.crowd so.number).menu = menu_sound market streams so.publication.order so.crowd so.number so.holds.is_crowd in
      let explained : is.explained ≡ so.explained =
      one_explanation (offer_in so.crowd so.publication so.number) (proved_in so.publication so.number).bundle so.place is.explained so.explained menu
      (subst (λ (s : ℕ). IsExplained (offer_in so.crowd so.publication so.number) (proved_in so.publication so.number).bundle s is.explained) place
      (subst (λ (n : ℕ). IsExplained (offer_in so.crowd so.publication n) (proved_in so.publication n).bundle is.place is.explained) number
      (subst (λ (c : CrowdData). IsExplained (offer_in c so.publication is.number) (proved_in so.publication is.number).bundle is.place is.explained) crowd
      (subst (λ (r : Publication). IsExplained (offer_in is.crowd r is.number) (proved_in r is.number).bundle is.place is.explained) p is.is_explained))))
      so.is_explained in
      is.told
      ∙ ap
      (λ (r : Publication). explained_text (section_names market.catalog.sections) (student_in is.crowd is.number).menu student is.place
      (proved_in r is.number).bundle is.explained)
      p
      ∙ ap
      (λ (c : CrowdData). explained_text (section_names market.catalog.sections) (student_in c is.number).menu student is.place
      (proved_in so.publication is.number).bundle is.explained)
      crowd
      ∙ ap
      (λ (n : ℕ). explained_text (section_names market.catalog.sections) (student_in so.crowd n).menu student is.place
      (proved_in so.publication n).bundle is.explained)
      number
      ∙ ap
      (λ (s : ℕ). explained_text (section_names market.catalog.sections) (student_in so.crowd so.number).menu student s
      (proved_in so.publication so.number).bundle is.explained)
      place
      ∙ ap
      (λ (e : ExplainedData). explained_text (section_names market.catalog.sections) (student_in so.crowd so.number).menu student so.place
      (proved_in so.publication so.number).bundle e)
      explained
      ∙ sym so.told

  -- one audit is told
  one_audit_of : (text alike : List ℕ) → IsAuditOf market streams published text → IsAuditOf market streams published alike → text ≡ alike
  one_audit_of text alike is so =
      let p : is.publication ≡ so.publication = one_read is.publication so.publication is.is_text so.is_text in
      let crowd : is.crowd ≡ so.crowd = one_crowd_read is.publication so.publication is.crowd so.crowd p is.holds so.holds in
      is.is_audited
      ∙ ap
      (λ (r : Publication). audit_text (names_of market.roll.students) (section_names market.catalog.sections) (rows (settled_in is.crowd r))
      (rows (final_in is.crowd r)))
      p
      ∙ ap
      (λ (c : CrowdData). audit_text (names_of market.roll.students) (section_names market.catalog.sections) (rows (settled_in c so.publication))
      (rows (final_in c so.publication)))
      crowd
      ∙ sym so.is_audited

-- what `explain` prints for texts is one text
reasons_alike : (student section : Name) (texts : List (List ℕ)) (text alike : List ℕ) → Prints (Explain student section) texts text
    → Prints (Explain student section) texts alike → text ≡ alike
reasons_alike student section (catalog ∷ roll ∷ settings ∷ published ∷ sessions) text alike (market, streams, read, is) so =
    let moved : IsReasonOf so.0 so.1 published (name_bytes student) (name_bytes section) text =
    moved_market catalog roll settings sessions market so.0 streams so.1
    (λ m s. IsReasonOf m s published (name_bytes student) (name_bytes section) text) read so.2 is in
    one_reason_of so.0 so.1 published (tables_read catalog roll settings sessions so.0 so.1 so.2) (name_bytes student) (name_bytes section) text alike moved
    so.3
reasons_alike student section (catalog ∷ roll ∷ settings ∷ []) text alike is so = absurd is
reasons_alike student section (catalog ∷ roll ∷ []) text alike is so = absurd is
reasons_alike student section (catalog ∷ []) text alike is so = absurd is
reasons_alike student section [] text alike is so = absurd is

pub one_reason_told : OneReasonTold
one_reason_told one other at_one at_other student section text alike same first second =
    reasons_alike student section same.texts text alike
    (printed (Explain student section) one at_one same.texts text same.is_one same.told_to_one first)
    (printed (Explain student section) other at_other same.texts alike same.is_other same.told_to_other second)

-- what `audit` prints for texts is one text
audits_alike : (workers also : ℕ) (texts : List (List ℕ)) (text alike : List ℕ) → Prints (Audit workers) texts text → Prints (Audit also) texts alike
    → text ≡ alike
audits_alike workers also (catalog ∷ roll ∷ settings ∷ published ∷ sessions) text alike (market, streams, read, is) so =
    let moved : IsAuditOf so.0 so.1 published text =
    moved_market catalog roll settings sessions market so.0 streams so.1 (λ m s. IsAuditOf m s published text) read so.2 is in
    one_audit_of so.0 so.1 published (tables_read catalog roll settings sessions so.0 so.1 so.2) text alike moved so.3
audits_alike workers also (catalog ∷ roll ∷ settings ∷ []) text alike is so = absurd is
audits_alike workers also (catalog ∷ roll ∷ []) text alike is so = absurd is
audits_alike workers also (catalog ∷ []) text alike is so = absurd is
audits_alike workers also [] text alike is so = absurd is

pub one_audit_told : OneAuditTold
one_audit_told one other at_one at_other workers also text alike same first second =
    audits_alike workers also same.texts text alike (printed (Audit workers) one at_one same.texts text same.is_one same.told_to_one first)
    (printed (Audit also) other at_other same.texts alike same.is_other same.told_to_other second)
