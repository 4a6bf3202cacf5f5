-- The tree that is told of an accepted text is the only one.
use Rattle.std.proofs.Common.{ℕ, ◌≡◌, ◌<◌, Bool, List, length, ap, sym, subst, arith}
use Rattle.std.specs.Prelude.{IfSome, slice_index}
use Rattle.bundle_bounds.specs.Laws.{IsTakable}
use Rattle.bundle_bounds.specs.Offers.{OfferData}
use Rattle.bundle_rules.specs.Agreement.{Agrees}
use Rattle.bundle_rules.specs.Demand.{IsChoice}
use Rattle.bundle_rules.specs.Menus.{IsMenu, wishes_of}
use Rattle.bundle_rules.specs.Wishes.{Wishes}
use Rattle.bundle_rules.proofs.Agreements.{agrees_back, choice_agrees}
use Rattle.certificate_checker.specs.Students.{offer_in}
use Rattle.certificate_checker.proofs.Composing.{crowd_length}
use Rattle.certificate_checker.proofs.Refusing.{menu_sound}
use Rattle.demand_api.specs.Crowds.{CrowdData}
use Rattle.market_certificate.specs.Publications.{Proved, Publication}
use Rattle.preference_desk.specs.declared.entry.Entry.{Entry}
use Rattle.published_parts.specs.Journals.{wishes_in}
use Rattle.published_parts.specs.Offers.{all_sections}
use Rattle.published_parts.proofs.Asked.{menu_says}
use Rattle.explain_desk.specs.Explanations.{IsProvedWith}
use Rattle.explain_desk.specs.ToldTrees.{ToldTreeIsTheOnlyOne}
use Rattle.explain_desk.proofs.Telling.{forced_trees_prove_the_best, one_proved}

-- a choice by wishes that agree, and by the same budget and sections
choice_moved : (a b : Wishes) → Agrees a b → (price : ℕ → ℕ) (m n : ℕ) (allowed among : ℕ → Bool) (bundle : List ℕ) → m ≡ n → allowed ≡ among
    → IsChoice a price m allowed bundle → IsChoice b price n among bundle
choice_moved a b is price m n allowed among bundle budget sections choice =
    subst (λ k. IsChoice b price k among bundle) budget
    (subst (λ f. IsChoice b price m f bundle) sections (choice_agrees a b is price m allowed bundle choice))

pub told_tree_is_the_only_one : ToldTreeIsTheOnlyOne
told_tree_is_the_only_one market streams published student section text told_of low told named =
    let p : Publication = told_of.publication in
    let crowd : CrowdData = told_of.crowd in
    let after = told_of.holds.is_crowd in
    let journal : List Entry = after.journal in
    let offer : OfferData = offer_in crowd p student in
    let wants : Wishes = wishes_in market journal student in
    let many : length crowd.students ≡ length market.roll.students = crowd_length market streams p.order crowd after in
    let inside : student < length crowd.students = omega (arith, many, low) in
    let agrees : Agrees (wishes_of offer.menu) wants = menu_says market journal crowd student after.is_crowd low in
    let budget : slice_index p.budgets student ≡ offer.budget = told_of.holds.printed.budgets student inside in
    let sections : all_sections crowd.sections ≡ all_sections (length market.catalog.sections) = ap all_sections after.is_crowd.sections in
    let menu : IsMenu offer.menu = menu_sound market streams p.order crowd student after in
    let proved : IsProvedWith offer section told = subst (λ best. IfSome best (IsProvedWith offer section)) named told_of.is_told.1.is_best in
    record {
      journal = journal;
      is_journal = after.is_journal;
      can_have = record {
        choice =
            choice_moved (wishes_of offer.menu) wants agrees offer.price offer.budget (slice_index p.budgets student) offer.allowed
            (all_sections (length market.catalog.sections)) told.bundle (sym budget) sections proved.best.choice;
        member = proved.best.is_wanted;
      };
      tree = proved.tree;
      only = λ bundle tree can is_tree.
          let takable : IsTakable offer bundle =
          choice_moved wants (wishes_of offer.menu) (agrees_back (wishes_of offer.menu) wants agrees) offer.price (slice_index p.budgets student) offer.budget
          (all_sections (length market.catalog.sections)) offer.allowed bundle budget (sym sections) can.choice in
          let also : IsProvedWith offer section (record { bundle = bundle; tree = tree }) =
          record { best = (forced_trees_prove_the_best offer bundle section menu takable can.member).0 (tree, is_tree); tree = is_tree } in
          let same = one_proved offer section (record { bundle = bundle; tree = tree }) told also proved in
          (ap (λ (one : Proved). one.bundle) same, ap (λ (one : Proved). one.tree) same);
    }
