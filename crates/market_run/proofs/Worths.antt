-- The last bundles are of rated sections, and what they are worth.
use Rattle.std.proofs.Common.{ℕ, zero, suc, ◌≡◌, ◌<◌, List, [], ◌∷◌, map, length, get_or, refl, ap, sym, subst, arith}
use Rattle.std.specs.Prelude.{◌+ℤ◌, slice_set}
use Rattle.std.specs.List.{AllZip}
use Rattle.std.proofs.lemmas.Option.{get_or_from_slice_get, slice_get_within}
use Rattle.market_units.specs.declared.units.Tokens.{Tokens}
use Rattle.bundle_rules.specs.Demand.{price_in}
use Rattle.bundle_rules.specs.Menus.{MenuData, wishes_of}
use Rattle.bundle_rules.specs.Wishes.{AllRated, utility}
use Rattle.demand_api.specs.declared.crowd.Crowd.{Crowd}
use Rattle.demand_api.specs.Crowds.{CrowdData, Student}
use Rattle.demand_api.specs.Parts.{students_of}
use Rattle.demand_api.specs.Views.{data_of}
use Rattle.aftermarket_stage.specs.Turns.{TurnData}
use Rattle.market_settings.specs.declared.reader.Settings.{Settings}
use Rattle.market_certificate.specs.Publications.{Proved, ProvedTurn, Publication}
use Rattle.published_parts.specs.Holdings.{demanded, held_after, tokens}
use Rattle.published_parts.specs.Offers.{IsProvedDemand}
use Rattle.published_market.specs.Publishing.{IsOutcome, Lengths}
use Rattle.published_market.specs.Turns.{IsPublishedTurn}
use Rattle.market_run.specs.Summaries.{worth_of}
use Rattle.market_run.specs.Sums.{AreRatedBy, worth_by_menus}

-- a bundle of sections that the student rates
abbrev IsRatedBy : Student → List ℕ → Type 0
IsRatedBy student bundle = AllRated (wishes_of student.menu) bundle

zip_set : {A B : Type 0} (R : A → B → Type 0) (xs : List A) (ys : List B) (i : ℕ) (d : A) (y : B) → AllZip R xs ys → i < length xs → R (get_or xs i d) y
    → AllZip R xs (slice_set ys i y)
zip_set R (x ∷ xs) (b ∷ ys) zero d y are inside is = (is, are.1)
zip_set R (x ∷ xs) (b ∷ ys) (suc i) d y are inside is = (are.0, zip_set R xs ys i d y are.1 (omega arith) is)
zip_set R [] ys i d y are inside is = absurd (omega arith)
zip_set R (x ∷ xs) [] i d y are inside is = absurd are

demanded_rated : (sections : ℕ) (price : ℕ → ℕ) (students : List Student) (bundles : List Proved) → AllZip (IsProvedDemand sections price) students bundles
    → AllZip IsRatedBy students (map (λ (proved : Proved). proved.bundle) bundles)
demanded_rated sections price [] [] are = tt
demanded_rated sections price (student ∷ students) (proved ∷ bundles) are =
    (are.0.best.choice.feasible.rated, demanded_rated sections price students bundles are.1)
demanded_rated sections price [] (proved ∷ bundles) are = absurd are
demanded_rated sections price (student ∷ students) [] are = absurd are

turned_rated : (crowd : CrowdData) (prices : List Tokens) (raise : ℕ) (held : List (List ℕ)) (turns : List TurnData) (published : List ProvedTurn)
    → AllZip IsRatedBy crowd.students held → AllZip (IsPublishedTurn crowd prices raise) turns published
    → AllZip IsRatedBy crowd.students (held_after held published)
turned_rated crowd prices raise held [] [] rated are = rated
turned_rated crowd prices raise held (turn ∷ turns) (proved ∷ published) rated are =
    let who : Student = are.0.who in
    let inside : turn.student < length crowd.students = slice_get_within crowd.students turn.student are.0.who are.0.listed in
    let at : get_or crowd.students turn.student are.0.who ≡ are.0.who = get_or_from_slice_get crowd.students turn.student are.0.who are.0.who are.0.listed in
    let place : proved.student ≡ turn.student = are.0.student in
    let there : IsRatedBy (get_or crowd.students turn.student are.0.who) proved.bundle =
    subst (λ (student : Student). IsRatedBy student proved.bundle) (sym at) are.0.proved.best.choice.feasible.rated in
    let next : AllZip IsRatedBy crowd.students (slice_set held turn.student proved.bundle) =
    zip_set IsRatedBy crowd.students held turn.student are.0.who proved.bundle rated inside there in
    turned_rated crowd prices raise (slice_set held proved.student proved.bundle) turns published
    (subst (λ s. AllZip IsRatedBy crowd.students (slice_set held s proved.bundle)) (sym place) next) are.1
turned_rated crowd prices raise held [] (proved ∷ published) rated are = absurd are
turned_rated crowd prices raise held (turn ∷ turns) [] rated are = absurd are

-- the last bundles are of sections that their students rate
allocation_rated : (crowd : CrowdData) (seats : List ℕ) (settings : Settings) (lengths : Lengths) (p : Publication) → IsOutcome crowd seats settings lengths p
    → AllZip IsRatedBy crowd.students p.allocation
allocation_rated crowd seats settings lengths p is =
    subst (AllZip IsRatedBy crowd.students) (sym is.allocation)
    (turned_rated crowd (tokens p.prices) settings.raise (demanded p) is.turns.turns p.turns
    (demanded_rated crowd.sections (price_in (tokens p.prices)) crowd.students p.bundles is.bundles) is.turns.published)

by_menus : (menus : List MenuData) (budgets : List Tokens) (bundles : List (List ℕ)) → length budgets ≡ length menus
    → AllZip IsRatedBy (students_of menus budgets) bundles → AreRatedBy menus bundles
by_menus [] [] [] same are = tt
by_menus [] [] (bundle ∷ bundles) same are = absurd are
by_menus [] (budget ∷ budgets) bundles same are = absurd (omega arith)
by_menus (menu ∷ menus) [] bundles same are = absurd (omega arith)
by_menus (menu ∷ menus) (budget ∷ budgets) [] same are = absurd are
by_menus (menu ∷ menus) (budget ∷ budgets) (bundle ∷ bundles) same are = (are.0, by_menus menus budgets bundles (omega arith) are.1)

pub rated_last : (crowd : Crowd) (seats : List ℕ) (settings : Settings) (lengths : Lengths) (p : Publication)
    → IsOutcome (data_of crowd) seats settings lengths p → AreRatedBy crowd.menus.items p.allocation
rated_last crowd seats settings lengths p is =
    by_menus crowd.menus.items crowd.budgets.items p.allocation crowd.same (allocation_rated (data_of crowd) seats settings lengths p is)

-- what they are worth, by the menus
pub worth_told : (menus : List MenuData) (budgets : List Tokens) (bundles : List (List ℕ)) → length budgets ≡ length menus
    → worth_by_menus menus bundles ≡ worth_of (students_of menus budgets) bundles
worth_told [] [] bundles same = refl
worth_told [] (budget ∷ budgets) bundles same = absurd (omega arith)
worth_told (menu ∷ menus) [] bundles same = absurd (omega arith)
worth_told (menu ∷ menus) (budget ∷ budgets) [] same = refl
worth_told (menu ∷ menus) (budget ∷ budgets) (bundle ∷ bundles) same =
    ap (λ n. utility (wishes_of menu) bundle +ℤ n) (worth_told menus budgets bundles (omega arith))
