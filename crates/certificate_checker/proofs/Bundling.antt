-- What is found on a student's bundle of the second stage.
use Rattle.std.proofs.Common.{ℕ, ◌≡◌, ◌<◌, ◌≤◌, ◌∙◌, List, length, map, get_or, refl, ap, sym, subst, arith}
use Rattle.std.specs.Prelude.{All, None, nat_lt}
use Rattle.std.specs.FinSet as set
use Rattle.std.specs.Ordering.{nat_cmp}
use Rattle.std.proofs.lemmas.Bool.{lt-ltb}
use Rattle.market_units.specs.Totals.{total}
use Rattle.market_units.specs.declared.units.Tokens.{Tokens}
use Rattle.bundle_bounds.specs.Laws.{IsTakable}
use Rattle.bundle_bounds.specs.Offers.{OfferData, offer_of}
use Rattle.bundle_rules.specs.Bundles.{sections_of}
use Rattle.bundle_rules.specs.Demand.{IsPriced, price_in}
use Rattle.bundle_rules.specs.Menus.{MenuData, wishes_of}
use Rattle.bundle_rules.specs.Wishes.{IsFeasible}
use Rattle.market_certificate.specs.declared.publication.Proved as declared_proved
use Rattle.market_certificate.specs.declared.publication.Publication as declared
use Rattle.market_certificate.specs.Publications.{Proved, Publication}
use Rattle.market_certificate.specs.Views.{proved_of, publication_of}
use Rattle.proof_tree.specs.declared.defects.TreeDefect.{TreeDefect}
use Rattle.proof_tree.specs.Defects.{IsDefect}
use Rattle.proof_tree.specs.Texts.{IsTreeText}
use Rattle.certificate_checker.specs.declared.findings.Finding.{Finding}
use Rattle.certificate_checker.specs.declared.findings.Finding.TheVariants.{Allocation, Budget, Infeasible, Journal, NotQuiet, Seats, Text, Tree, Turn, Unaffordable, Used}
use Rattle.certificate_checker.specs.declared.terms.Terms.{Terms}
use Rattle.certificate_checker.specs.Findings.{HoldsToBudgets, IsBundleFinding, IsFirstIn, IsFirstStudent}
use Rattle.certificate_checker.specs.Firsts.{AllBelow}
use Rattle.certificate_checker.specs.Terms.{TermsData}
use Rattle.certificate_checker.specs.Parts.{CanCheck}
use Rattle.certificate_checker.specs.Students.{IsAffordable, IsProvedBundle, MayTake, offer_in, proved_in}
use Rattle.certificate_checker.specs.Views.{terms_of}
use Rattle.certificate_checker.proofs.Reading.{HasLengths, lengths, moved, offer_is, proved_is, so_of_has, stage_two_below, nameless_sections}

-- what is read of a student in the second stage: its menu, its budget, the prices, all sections,
-- and its bundle with the tree
pub record IsRead (terms : Terms) (publication : declared.Publication) (k : ℕ) (m : MenuData) (b : Tokens) (prices : List Tokens) (all : set.FinSet nat_cmp)
    (item : declared_proved.Proved) : Type 0 where
  pub can : CanCheck terms (publication_of publication)
  pub student : k < length terms.crowd.menus.items
  pub menu : m ≡ get_or terms.crowd.menus.items k m
  pub budget : b ≡ get_or terms.crowd.budgets.items k b
  pub prices_are : prices ≡ publication.prices.items
  pub told : (s : ℕ) → set.contains all s ≡ nat_lt s terms.crowd.sections
  pub printed : item ≡ get_or publication.bundles.items k item

-- each price is one of at most 1,000,001
pub all_priced : (terms : Terms) (publication : declared.Publication) (prices : List Tokens) (bundle : List ℕ) → CanCheck terms (publication_of publication)
    → prices ≡ publication.prices.items → All (λ s. s < terms.crowd.sections) bundle → All (IsPriced prices) bundle
all_priced terms publication prices bundle is same below = λ j d low.
    let long : HasLengths terms publication = lengths terms publication is in
    let size : length prices ≡ length publication.prices.items = ap length same in
    let small : get_or bundle j d < terms.crowd.sections = below j d low in
    record {
      listed = omega arith;
      high = subst (λ (all : List Tokens). get_or (map (λ (t : Tokens). t.0) all) (get_or bundle j d) 0 ≤ 1000001) (sym same)
          (is.is_publication.prices.each (get_or bundle j d) 0 (let many = is.is_publication.prices.count in let sections = nameless_sections terms in omega arith));
    }

module _ (terms : Terms) (publication : declared.Publication) (k : ℕ) (m : MenuData) (b : Tokens) (prices : List Tokens) (all : set.FinSet nat_cmp)
    (item : declared_proved.Proved) (read : IsRead terms publication k m b prices all item) where
  low : k < length publication.bundles.items
  low = let long : HasLengths terms publication = lengths terms publication read.can in let student = read.student in omega arith

  offer_read : offer_of m prices b.0 all ≡ offer_in (terms_of terms).crowd (publication_of publication) k
  offer_read =
      ap (λ (list : List Tokens). offer_of m list b.0 all) read.prices_are
      ∙ sym
      (offer_is terms.crowd k publication m b all read.student read.menu read.budget read.told)

  proved_read : proved_of item ≡ proved_in (publication_of publication) k
  proved_read = sym (proved_is publication k item low read.printed)

  -- a fact of what is read is one of what is printed
  pub told_of : (P : OfferData → Proved → Type 0) → P (offer_of m prices b.0 all) (proved_of item)
      → P (offer_in (terms_of terms).crowd (publication_of publication) k) (proved_in (publication_of publication) k)
  told_of P is =
      moved P (offer_of m prices b.0 all) (offer_in (terms_of terms).crowd (publication_of publication) k) (proved_of item)
      (proved_in (publication_of publication) k) offer_read proved_read is

  pub priced_bundle : All (IsPriced prices) (sections_of item.bundle)
  priced_bundle =
      all_priced terms publication prices (sections_of item.bundle) read.can read.prices_are
      (stage_two_below terms publication k item read.can low read.printed)

  pub takable : IsFeasible (wishes_of m) (sections_of item.bundle) → total (price_in prices) (sections_of item.bundle) ≤ b.0
      → IsTakable (offer_of m prices b.0 all) (sections_of item.bundle)
  takable feasible affordable = record {
    feasible = feasible;
    affordable = affordable;
    within =
        λ s is. read.told s
        ∙ lt-ltb s terms.crowd.sections
        (so_of_has (λ t. t < terms.crowd.sections) (sections_of item.bundle) (stage_two_below terms publication k item read.can low read.printed) s is);
  }

  pub unaffordable : ¬ (total (price_in prices) (sections_of item.bundle) ≤ b.0)
      → IsBundleFinding (terms_of terms).crowd (publication_of publication) k (Unaffordable (record { 0 = k }))
  unaffordable high = (refl, told_of (λ offer proved. ¬ IsAffordable offer proved.bundle) high)

  pub infeasible : total (price_in prices) (sections_of item.bundle) ≤ b.0 → ¬ IsFeasible (wishes_of m) (sections_of item.bundle)
      → IsBundleFinding (terms_of terms).crowd (publication_of publication) k (Infeasible (record { 0 = k }))
  infeasible affordable not =
      (refl, told_of (λ offer proved. IsAffordable offer proved.bundle) affordable, told_of (λ offer proved. ¬ MayTake offer proved.bundle) not)

  pub wrong_tree : (tree : List ℕ) (defect : TreeDefect) → tree ≡ item.tree.items → total (price_in prices) (sections_of item.bundle) ≤ b.0
      → IsFeasible (wishes_of m) (sections_of item.bundle) → IsDefect (offer_of m prices b.0 all) (sections_of item.bundle) tree defect
      → IsBundleFinding (terms_of terms).crowd (publication_of publication) k (Tree (record { 0 = k }) defect)
  wrong_tree tree defect same affordable feasible is = (
    refl,
    told_of (λ offer proved. IsAffordable offer proved.bundle) affordable,
    told_of (λ offer proved. MayTake offer proved.bundle) feasible,
    told_of (λ offer proved. IsDefect offer proved.bundle proved.tree defect)
        (subst (λ t. IsDefect (offer_of m prices b.0 all) (sections_of item.bundle) t defect) same is),
  )

  pub right_bundle : (tree : List ℕ) → tree ≡ item.tree.items → total (price_in prices) (sections_of item.bundle) ≤ b.0
      → IsFeasible (wishes_of m) (sections_of item.bundle) → IsTreeText (offer_of m prices b.0 all) None (sections_of item.bundle) tree
      → IsProvedBundle (terms_of terms).crowd (publication_of publication) k
  right_bundle tree same affordable feasible is = record {
    affordable = told_of (λ offer proved. IsAffordable offer proved.bundle) affordable;
    feasible = told_of (λ offer proved. MayTake offer proved.bundle) feasible;
    proved =
        told_of (λ offer proved. IsTreeText offer None proved.bundle proved.tree)
        (subst (λ t. IsTreeText (offer_of m prices b.0 all) None (sections_of item.bundle) t) same is);
  }

-- what is found on a student is the first finding, where the budgets and the students before are right
pub first_bundle : (terms : TermsData) (p : Publication) (student : ℕ) (finding : Finding) → HoldsToBudgets terms p → student < length terms.crowd.students
    → AllBelow student (IsProvedBundle terms.crowd p) → IsBundleFinding terms.crowd p student finding → IsFirstIn terms p finding
first_bundle terms p student (Unaffordable number) budgets inside before is = record {
  before = budgets;
  found =
      subst (λ s. IsFirstStudent terms.crowd p s × (¬ IsAffordable (offer_in terms.crowd p s) (proved_in p s).bundle)) (sym is.0)
      (record { within = inside; before = before }, is.1);
}
first_bundle terms p student (Infeasible number) budgets inside before is = record {
  before = budgets;
  found =
      subst
      (λ s. IsFirstStudent terms.crowd p s × IsAffordable (offer_in terms.crowd p s) (proved_in p s).bundle
      × (¬ MayTake (offer_in terms.crowd p s) (proved_in p s).bundle))
      (sym is.0) (record { within = inside; before = before }, is.1, is.2);
}
first_bundle terms p student (Tree number defect) budgets inside before is = record {
  before = budgets;
  found =
      subst
      (λ s. IsFirstStudent terms.crowd p s × IsAffordable (offer_in terms.crowd p s) (proved_in p s).bundle
      × MayTake (offer_in terms.crowd p s) (proved_in p s).bundle
      × IsDefect (offer_in terms.crowd p s) (proved_in p s).bundle (proved_in p s).tree defect)
      (sym is.0)
      (record { within = inside; before = before }, is.1, is.2, is.3);
}
first_bundle terms p student (Text line kind) budgets inside before is = absurd is
first_bundle terms p student (Journal at) budgets inside before is = absurd is
first_bundle terms p student (Budget number) budgets inside before is = absurd is
first_bundle terms p student (Seats section used seats) budgets inside before is = absurd is
first_bundle terms p student (Turn turn fault) budgets inside before is = absurd is
first_bundle terms p student (NotQuiet turns) budgets inside before is = absurd is
first_bundle terms p student (Allocation number) budgets inside before is = absurd is
first_bundle terms p student (Used section) budgets inside before is = absurd is
