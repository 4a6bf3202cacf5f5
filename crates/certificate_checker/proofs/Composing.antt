-- The parts of a check put together.
use Rattle.std.proofs.Common.{ℕ, suc, ◌≡◌, ◌<◌, ◌≤◌, ◌∙◌, List, [], ◌∷◌, length, map, get_or, refl, ap, sym, subst, arith}
use Rattle.std.specs.Prelude.{Result, Ok, Err, IfErr, IfOk, IsErrAnd, OnOk}
use Rattle.std.proofs.lemmas.List.{length-map}
use Rattle.course_catalog.specs.Sections.{Section}
use Rattle.student_roll.specs.Students.{Student}
use Rattle.demand_api.specs.Crowds.{CrowdData, Student as Asked}
use Rattle.demand_api.proofs.Parts.{students_length}
use Rattle.market_certificate.specs.Publications.{IsBundleOf, IsPublication, Publication}
use Rattle.market_certificate.specs.Tables.{Tables}
use Rattle.market_crowd.proofs.CrowdFacts.{menus_length}
use Rattle.utility_language.specs.declared.commands.Command.{Command}
use Rattle.published_parts.specs.Crowds.{IsCrowdAfter}
use Rattle.published_parts.specs.Journals.{wanted_in}
use Rattle.published_parts.specs.Holdings.{demanded, held_after}
use Rattle.published_parts.specs.Markets.{Market, tables_in}
use Rattle.certificate_checker.specs.declared.findings.CheckEnd.{CheckEnd}
use Rattle.certificate_checker.specs.declared.findings.CheckEnd.TheVariants as end
use Rattle.certificate_checker.specs.declared.findings.Finding.{Finding}
use Rattle.certificate_checker.specs.declared.findings.Finding.TheVariants.{Journal, Text}
use Rattle.certificate_checker.specs.declared.terms.Terms.{Terms}
use Rattle.certificate_checker.specs.Certificates.{IsAllocated, IsTextOf}
use Rattle.certificate_checker.specs.Findings.{IsFirstFinding, IsFirstIn, IsFirstOf, OnFound}
use Rattle.certificate_checker.specs.Firsts.{AllBelow}
use Rattle.certificate_checker.specs.Orders.{IsOrderFinding}
use Rattle.certificate_checker.specs.Parts.{CanCheck, nameless}
use Rattle.certificate_checker.specs.Terms.{TermsData, terms_in}
use Rattle.certificate_checker.specs.Views.{terms_of}
use Rattle.certificate_checker.proofs.Reading.{nameless_sections, nameless_students}
pub use Rattle.proof_tree.proofs.Following.{err_from}

-- as many students as the roll has
pub crowd_length : (market : Market) (streams : List (List Command)) (order : List ℕ) (crowd : CrowdData) → IsCrowdAfter market streams order crowd
    → length crowd.students ≡ length market.roll.students
crowd_length market streams order crowd is =
    sym (length-map crowd.students (λ (student : Asked). student.menu))
    ∙ menus_length market.catalog.sections market.roll.students (wanted_in market is.journal) (map (λ (student : Asked). student.menu) crowd.students)
    is.is_crowd.menus

-- what students and sections are called plays no part in the ranges of a publication
bundle_renamed : (one other : List (List ℕ)) (bundle : List ℕ) → length one ≡ length other → IsBundleOf one bundle → IsBundleOf other bundle
bundle_renamed one other bundle same is = record {
  is_bundle = is.is_bundle;
  of_catalog = λ k d low. subst (λ n. get_or bundle k d < n) same (is.of_catalog k d low);
}

renamed : (one other : Tables) (p : Publication) → length one.students ≡ length other.students → length one.sections ≡ length other.sections
    → IsPublication one p → IsPublication other p
renamed one other p students sections is = record {
  order = is.order;
  budgets = record { count = is.budgets.count ∙ students; each = is.budgets.each };
  start = record { count = is.start.count ∙ sections; each = is.start.each };
  error = is.error;
  prices = record { count = is.prices.count ∙ sections; each = is.prices.each };
  bundles = record {
    count = is.bundles.count ∙ students;
    each = λ k d low. record {
      bundle = bundle_renamed one.sections other.sections (get_or p.bundles k d).bundle sections (is.bundles.each k d low).bundle;
      tree = (is.bundles.each k d low).tree;
    };
  };
  turns = λ k d low. record {
    least = (is.turns k d low).least;
    most = (is.turns k d low).most;
    student = subst (λ n. (get_or p.turns k d).student < n) students (is.turns k d low).student;
    bundle = bundle_renamed one.sections other.sections (get_or p.turns k d).bundle sections (is.turns k d low).bundle;
    tree = (is.turns k d low).tree;
  };
  allocation = record {
    count = is.allocation.count ∙ students;
    each = λ k d low. bundle_renamed one.sections other.sections (get_or p.allocation k d) sections (is.allocation.each k d low);
  };
  used = record { count = is.used.count ∙ sections; each = is.used.each };
}

-- a publication may be looked at by the terms of its market
pub can_check : (market : Market) (streams : List (List Command)) (terms : Terms) (p : Publication) → IsPublication (tables_in market) p
    → IsCrowdAfter market streams p.order (terms_of terms).crowd → terms_of terms ≡ terms_in market (terms_of terms).crowd
    → market.settings.raise ≤ 50 → CanCheck terms p
can_check market streams terms p is crowd same low = record {
  is_publication =
      renamed (tables_in market) (nameless terms) p
      (length-map market.roll.students (λ (student : Student). student.name) ∙ sym (crowd_length market streams p.order (terms_of terms).crowd crowd)
      ∙ students_length terms.crowd ∙ sym (nameless_students terms))
      (length-map market.catalog.sections (λ (section : Section). section.name) ∙ sym crowd.is_crowd.sections ∙ sym (nameless_sections terms)) is;
  seats = ap (λ (t : TermsData). length t.seats) same ∙ length-map market.catalog.sections (λ (section : Section). section.seats) ∙ sym crowd.is_crowd.sections;
  raise = subst (λ n. n ≤ 50) (sym (ap (λ (t : TermsData). t.raise) same)) low;
}

-- a finding on the order is the first on the publication
pub order_first : (market : Market) (streams : List (List Command)) (p : Publication) (finding : Finding) → IsOrderFinding streams p.order finding
    → IsFirstOf market streams p finding
order_first market streams p (Journal at) is = is
order_first market streams p finding is = absurd is

-- and so is one on what is printed
pub printed_first : (market : Market) (streams : List (List Command)) (p : Publication) (crowd : CrowdData) (finding : Finding)
    → IsCrowdAfter market streams p.order crowd → IsFirstIn (terms_in market crowd) p finding → IsFirstOf market streams p finding
printed_first market streams p crowd (Journal at) after is = absurd is.found
printed_first market streams p crowd (Text line kind) after is = absurd is.found
printed_first market streams p crowd finding after is = (crowd, after, is)

-- the first finding on the publication of a text is the first on the text
pub text_first : (market : Market) (streams : List (List Command)) (p : Publication) (text : List ℕ) (finding : Finding) → IsTextOf market p text
    → IsFirstOf market streams p finding → IsFirstFinding market streams text finding
text_first market streams p text (Text line kind) of is = absurd is
text_first market streams p text finding of is = (p, of, is)

-- what is so of each finding is so where a check ends with one
pub on_found : (P Q : Finding → Type 0) (e : CheckEnd) → ((finding : Finding) → P finding → Q finding) → OnFound e P → OnFound e Q
on_found P Q (end.Found finding) then is = then finding is
on_found P Q end.NoMemory then is = tt

-- what is so of a success, and of the finding that a failure tells
pub ok_then : {A E : Type 0} {P Q : A → Type 0} (r : Result A E) → ((a : A) → P a → Q a) → IfOk r P → IfOk r Q
ok_then (Ok a) then is = then a is
ok_then (Err e) then is = tt

pub ok_both : {A E : Type 0} {P Q R : A → Type 0} (r : Result A E) → ((a : A) → P a → Q a → R a) → IfOk r P → IfOk r Q → IfOk r R
ok_both (Ok a) then is so = then a is so
ok_both (Err e) then is so = tt

pub err_found : {A : Type 0} {P Q : Finding → Type 0} (r : Result A CheckEnd) → ((finding : Finding) → P finding → Q finding) → IfErr r (λ e. OnFound e P)
    → IfErr r (λ e. OnFound e Q)
err_found (Ok x) then is = tt
err_found {A} {P} {Q} (Err e) then is = on_found P Q e then is

-- what a failed part of a check answers
pub answered_wrong : {A : Type 0} (X : Type 0) (P : Finding → Type 0) (r : Result A Finding) (e : Finding) → IsErrAnd r (λ x. x ≡ e) → P e
    → OnOk r X × IfErr r P
answered_wrong X P (Ok a) e is p = absurd is
answered_wrong X P (Err x) e is p = (tt, subst P (sym is) p)

-- lists with the same items are one
same_items : (xs ys : List (List ℕ)) → length xs ≡ length ys → ((k : ℕ) → k < length xs → get_or xs k [] ≡ get_or ys k []) → xs ≡ ys
same_items [] [] long same = refl
same_items [] (y ∷ ys) long same = absurd (omega arith)
same_items (x ∷ xs) [] long same = absurd (omega arith)
same_items (x ∷ xs) (y ∷ ys) long same =
    let first : x ≡ y = same 0 (omega arith) in
    let rest : xs ≡ ys = same_items xs ys (omega arith) (λ k low. same (suc k) (omega arith)) in
    cc

-- final bundles that are each the held one are the held ones
pub allocation_is : (p : Publication) (students : ℕ) → length p.allocation ≡ students → length (held_after (demanded p) p.turns) ≡ students
    → AllBelow students (IsAllocated p) → p.allocation ≡ held_after (demanded p) p.turns
allocation_is p students long held each = same_items p.allocation (held_after (demanded p) p.turns) (long ∙ sym held) (λ k low. each k (omega arith))
