use Rattle.std.proofs.Common.{◌≡◌, ◌+◌, ◌∙◌, true, false, ap, arith, get_or, length, refl, subst, sym}
use Rattle.std.proofs.lemmas.Bool.{le-ltb, lt-ltb}
use Rattle.plain_facts.proofs.Lists.{read_at}
use Rattle.bundle_rules.proofs.PlaceLists.{none_more}
use Rattle.bundle_rules.specs.Bundles.{sections_of}
use Rattle.course_catalog.specs.Sections.{sections_clash}
use Rattle.student_roll.specs.Students.{Student, no_student}
use Rattle.dropadd_desk.specs.Fits.{credits_of, exceeds_courses, exceeds_credits, lowest_clash}
use Rattle.dropadd_desk.specs.Market.{IsMarket, Market, enrolled, offered, section_count}
use Rattle.dropadd_desk.proofs.DeskLemmas.{against_clash, against_courses, against_credits, against_none}
use Rattle.dropadd_desk.proofs.RuleLemmas.{all_below, all_looked, credits_more, few_credits, found_first}
use Rattle.dropadd_desk.proofs.rules.MarketRules.obstacle.Goals as goal

pub clash-requires-clause-second : goal.clash-requires-clause-second
clash-requires-clause-second c =
    let within = subst (λ (m : Market). section_count c.args.self.now ≡ section_count m) (sym c.self.view_is) refl in
    let low =
    all_below (section_count c.args.self.now) c.sections-sections.result.now (sections_of c.args.held.now) c.sections-sections.ensures.value
    c.requires.within c.held.other-index (record { 0 = 0 }) c.held-test.true in
    omega (arith, low, within)

pub credits-credits-requires-in-held : goal.credits-credits-requires-in-held
credits-credits-requires-in-held c =
    let within = subst (λ (m : Market). section_count c.args.self.now ≡ section_count m) (sym c.self.view_is) refl in
    let low =
    all_below (section_count c.args.self.now) c.sections-sections.result.now (sections_of c.args.held.now) c.sections-sections.ensures.value
    c.requires.within c.held.other-index (record { 0 = 0 }) c.held-test.true in
    omega (arith, low, within)

pub returns-then-clash-clause-obstacle : goal.returns-then-clash-clause-obstacle
returns-then-clash-clause-obstacle c =
    let market = c.args.self.now in
    let s = c.args.section.0 in
    let set = sections_of c.args.held.now in
    let items = c.sections-sections.result.now in
    let other = get_or items c.held.other-index (record { 0 = 0 }) in
    let clash : sections_clash market.catalog.sections s other.0 ≡ true =
    subst (λ (m : Market). sections_clash m.catalog.sections s other.0 ≡ true) c.self.view_is (sym c.clash.ensures.test ∙ c.if-clash.true) in
    against_clash (lowest_clash market s set) (exceeds_credits market c.args.student.0 s set) (exceeds_courses market c.args.student.0 set) other
    (sym
    (found_first (λ t. sections_clash market.catalog.sections s t) items c.held.other-index (record { 0 = 0 }) c.held-test.true c.held.invariant.none
    clash
    ∙ ap (lowest_clash market s) c.sections-sections.ensures.value))

pub held-preserved : goal.held-preserved
held-preserved c =
    let market = c.args.self.now in
    let s = c.args.section.0 in
    let items = c.sections-sections.result.now in
    let other = get_or items c.held.other-index (record { 0 = 0 }) in
    let low =
    all_below (section_count market) items (sections_of c.args.held.now) c.sections-sections.ensures.value c.requires.within c.held.other-index
    (record { 0 = 0 }) c.held-test.true in
    let credit : c.credits-credits-in-held.result ≡ (offered market other.0).credits =
    c.credits-credits-in-held.ensures ∙ ap (λ (m : Market). (offered m other.0).credits) c.self.view_is in
    let few = few_credits market other.0 c.credits-credits-in-held.result (subst IsMarket c.self.view_is c.self.invariant) low credit in
    let more = credits_more market items c.held.other-index (record { 0 = 0 }) c.credits-credits-in-held.result c.held-test.true credit in
    let apart : sections_clash market.catalog.sections s other.0 ≡ false =
    subst (λ (m : Market). sections_clash m.catalog.sections s other.0 ≡ false) c.self.view_is (sym c.clash.ensures.test ∙ c.if-clash.false) in
    record {
      none =
          none_more (λ t. sections_clash market.catalog.sections s t) items c.held.other-index (record { 0 = 0 }) c.held-test.true c.held.invariant.none
          apart;
      sum = omega (arith, more, c.held.invariant.sum);
      few = omega (arith, few, c.held.invariant.few);
    }

pub returns-then-credits-clause-obstacle : goal.returns-then-credits-clause-obstacle
returns-then-credits-clause-obstacle c =
    let market = c.args.self.now in
    let i = c.args.student.0 in
    let s = c.args.section.0 in
    let set = sections_of c.args.held.now in
    let looked =
    all_looked market s set c.sections-sections.result.now c.held.other-index c.held.credits c.sections-sections.ensures.value
    (omega (arith, c.held-test.false)) c.held.invariant.none c.held.invariant.sum in
    let cap : c.credits.result ≡ (enrolled market i).credits =
    read_at (λ (student : Student). student.credits) c.self.inside.roll.students i c.credits.result no_student c.credits.ensures.credits
    ∙ ap (λ (m : Market). (enrolled m i).credits) c.self.view_is in
    against_credits (lowest_clash market s set) (exceeds_credits market i s set) (exceeds_courses market i set) looked.none
    (lt-ltb (enrolled market i).credits (credits_of market set + (offered market s).credits) (omega (arith, cap, looked.sum, c.if-credits.true)))

pub returns-then-sections-from-clause-obstacle : goal.returns-then-sections-from-clause-obstacle
returns-then-sections-from-clause-obstacle c =
    let market = c.args.self.now in
    let i = c.args.student.0 in
    let s = c.args.section.0 in
    let set = sections_of c.args.held.now in
    let looked =
    all_looked market s set c.sections-sections.result.now c.held.other-index c.held.credits c.sections-sections.ensures.value
    (omega (arith, c.held-test.false)) c.held.invariant.none c.held.invariant.sum in
    let cap : c.credits.result ≡ (enrolled market i).credits =
    read_at (λ (student : Student). student.credits) c.self.inside.roll.students i c.credits.result no_student c.credits.ensures.credits
    ∙ ap (λ (m : Market). (enrolled m i).credits) c.self.view_is in
    let most : c.courses.result ≡ (enrolled market i).courses =
    read_at (λ (student : Student). student.courses) c.self.inside.roll.students i c.courses.result no_student c.courses.ensures.courses
    ∙ ap (λ (m : Market). (enrolled m i).courses) c.self.view_is in
    against_courses (lowest_clash market s set) (exceeds_credits market i s set) (exceeds_courses market i set) looked.none
    (le-ltb (enrolled market i).credits (credits_of market set + (offered market s).credits) (omega (arith, cap, looked.sum, c.if-credits.false)))
    (lt-ltb (enrolled market i).courses (length set + 1) (omega (arith, most, looked.size, c.from.ensures, c.if-sections-from.true)))

pub returns-clause-obstacle : goal.returns-clause-obstacle
returns-clause-obstacle c =
    let market = c.args.self.now in
    let i = c.args.student.0 in
    let s = c.args.section.0 in
    let set = sections_of c.args.held.now in
    let looked =
    all_looked market s set c.sections-sections.result.now c.held.other-index c.held.credits c.sections-sections.ensures.value
    (omega (arith, c.held-test.false)) c.held.invariant.none c.held.invariant.sum in
    let cap : c.credits.result ≡ (enrolled market i).credits =
    read_at (λ (student : Student). student.credits) c.self.inside.roll.students i c.credits.result no_student c.credits.ensures.credits
    ∙ ap (λ (m : Market). (enrolled m i).credits) c.self.view_is in
    let most : c.courses.result ≡ (enrolled market i).courses =
    read_at (λ (student : Student). student.courses) c.self.inside.roll.students i c.courses.result no_student c.courses.ensures.courses
    ∙ ap (λ (m : Market). (enrolled m i).courses) c.self.view_is in
    against_none (lowest_clash market s set) (exceeds_credits market i s set) (exceeds_courses market i set) looked.none
    (le-ltb (enrolled market i).credits (credits_of market set + (offered market s).credits) (omega (arith, cap, looked.sum, c.if-credits.false)))
    (le-ltb (enrolled market i).courses (length set + 1) (omega (arith, most, looked.size, c.from.ensures, c.if-sections-from.false)))
