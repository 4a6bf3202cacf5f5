-- A round and the seats of its board.
use Rattle.std.proofs.Common.{ℕ, zero, suc, Option, None, Some, ◌≡◌, ◌<◌, ◌≤◌, ◌∙◌, ◌↔◌, List, [], ◌∷◌, Vec, Global, All, length, slice_index_or, refl, ap, sym, subst, arith}
use Rattle.std.specs.Arc.{arc_value}
use Rattle.std.specs.Prelude.{IsSome}
use Rattle.std.proofs.lemmas.Bool.{false≢true}
use Rattle.std.proofs.lemmas.List.{get_or-map, length-map}
use Rattle.std.proofs.lemmas.List.Elements.{All-map}
use Rattle.market_units.specs.declared.units.Tokens.{Tokens}
use Rattle.demand_api.specs.declared.crowd.Crowd.{Crowd}
use Rattle.demand_api.specs.Crowds.{CrowdData, top}
use Rattle.demand_api.specs.Asking.{ArePricesFor, AreSectionPrices}
use Rattle.demand_api.specs.Views.{data_of}
use Rattle.demand_api.proofs.Parts.{top_high}
use Rattle.price_board.specs.declared.round.Ask.{Ask}
use Rattle.price_board.specs.declared.round.Round.{Round}
use Rattle.price_board.specs.declared.round.Task.{Task}
use Rattle.price_board.specs.declared.terms.Terms.{Terms}
use Rattle.price_board.specs.Asked.{task_in}
use Rattle.price_board.specs.Openings.{AreAsked, IsAskOf, IsRound, list_of, terms_of}
use Rattle.price_board.specs.Tasks.{IsTask}
use Rattle.price_board.specs.Terms.{count_in, demand_at}
use Rattle.bundle_rules.specs.declared.bundle.Bundle.{Bundle}
use Rattle.demand_workers.specs.declared.inquiry.Inquiries.{Inquiries}
use Rattle.demand_workers.specs.Found.{AreFound, AreRead}
use Rattle.demand_workers.specs.Inquiries.{listed_in, tasks_in}
use Rattle.demand_workers.specs.Rounds.{prices_of, AreVersionsFor}

-- prices for a crowd, and what is asked at them, are a round of it
pub one_is_round : (crowd : Crowd) (prices : List Tokens) (ask : Ask) → ArePricesFor (data_of crowd) prices → IsAskOf crowd.sections ask
    → IsRound (record { crowd = data_of crowd; versions = prices ∷ []; asks = ask ∷ []; list = None })
one_is_round crowd prices ask are its =
    let most : top (data_of crowd) ≤ 1000001 = top_high crowd in
    record {
      prices = only (AreSectionPrices crowd.sections) prices
          (record {
            same = are.same;
            high =
                λ i e below. (let h : (slice_index_or prices i e).0 ≤ top (data_of crowd) = are.high i e below in
                let goal : (slice_index_or prices i e).0 ≤ 1000001 = omega arith in goal);
          });
      sections = only (IsAskOf crowd.sections) ask its;
      asked = ((let goal : 1 ≤ 1 = omega arith in goal), (let goal : 1 ≤ 16 = omega arith in goal), refl);
    }
  where
    only : {A : Type 0} (P : A → Type 0) (x : A) → P x → All P (x ∷ [])
    only P x is zero d low = is
    only P x is (suc k) d low = absurd (omega (arith, low))

-- the prices of a version
pub version_prices : (versions : List (Vec Tokens Global)) (v : ℕ) (version : Vec Tokens Global) (prices : List Tokens) → v < length versions
    → version ≡ slice_index_or versions v version → prices ≡ version.items → slice_index_or (prices_of versions) v [] ≡ prices
version_prices versions v version prices low at are =
    get_or-map (λ (w : Vec Tokens Global). w.items) versions v version [] low ∙ ap (λ (w : Vec Tokens Global). w.items) (sym at) ∙ sym are

-- two versions are the same where their prices are
pub versions_same : (versions batch : List (Vec Tokens Global)) (i j : ℕ) (one other : Vec Tokens Global) (p q : List Tokens) → i < length versions
    → one ≡ slice_index_or versions i one → p ≡ one.items → j < length batch → other ≡ slice_index_or batch j other → q ≡ other.items
    → (p ≡ q) ↔ (slice_index_or (prices_of versions) i [] ≡ slice_index_or (prices_of batch) j [])
versions_same versions batch i j one other p q low at are low' at' are' =
    let first = version_prices versions i one p low at are in
    let second = version_prices batch j other q low' at' are' in
    ((λ same. first ∙ same ∙ sym second), (λ same. sym first ∙ same ∙ second))

-- copies of versions are versions
pub copies_priced : (crowd : CrowdData) (versions copies : List (Vec Tokens Global)) → prices_of copies ≡ prices_of versions → AreVersionsFor crowd versions
    → AreVersionsFor crowd copies
copies_priced crowd versions copies same are k d low =
    let n : ℕ = length copies in
    let m : ℕ = length versions in
    let many : n ≡ m =
    sym (length-map copies (λ (w : Vec Tokens Global). w.items)) ∙ ap length same ∙ length-map versions (λ (w : Vec Tokens Global). w.items) in
    let inside : k < m = (let h : k < n = low in omega arith) in
    let there : (slice_index_or versions k d).items ≡ (slice_index_or copies k d).items =
    sym (get_or-map (λ (w : Vec Tokens Global). w.items) versions k d [] inside) ∙ ap (λ l. slice_index_or l k []) (sym same)
    ∙ get_or-map (λ (w : Vec Tokens Global). w.items) copies k d [] low in
    subst (ArePricesFor crowd) there (are k d inside)

-- ---- rounds with a list

-- a list that is there is that of the tasks
pub list_is : (list : Option (Vec Task Global)) → IsSome list → list_of list ≡ Some (listed_in list)
list_is None some = absurd (false≢true some)
list_is (Some list) some = refl

-- versions for a crowd and a list of its tasks are a round of it
pub listed_is_round : (crowd : Crowd) (round : Round) → AreVersionsFor (data_of crowd) round.versions.items
    → All (IsTask (data_of crowd) (length round.versions.items)) (tasks_in round) → IsSome round.list → round.asks.items ≡ [] → IsRound (terms_of crowd round)
listed_is_round crowd round are tasks some plain =
    let versions = round.versions.items in
    let most : top (data_of crowd) ≤ 1000001 = top_high crowd in
    record {
      prices =
          All-map (AreSectionPrices crowd.sections) (λ (version : Vec Tokens Global). version.items) versions (λ k d low. record {
            same = (are k d low).same;
            high =
                λ i e below. (let h : (slice_index_or (slice_index_or versions k d).items i e).0 ≤ top (data_of crowd) = (are k d low).high i e below in
                let goal : (slice_index_or (slice_index_or versions k d).items i e).0 ≤ 1000001 = omega arith in goal);
          });
      sections = subst (All (IsAskOf crowd.sections)) (sym plain) (λ k d low. absurd (omega (arith, low)));
      asked =
          subst (λ l. AreAsked l (terms_of crowd round)) (sym (list_is round.list some))
          (subst (λ n. All (IsTask (data_of crowd) n) (tasks_in round)) (sym (length-map versions (λ (version : Vec Tokens Global). version.items))) tasks, plain);
    }

-- as many tasks as the list has
pub listed_count : (crowd : Crowd) (round : Round) (terms : Terms) → terms ≡ terms_of crowd round → IsSome round.list
    → count_in terms.list terms ≡ length (tasks_in round)
listed_count crowd round terms is some =
    ap (λ (t : Terms). count_in t.list t) is ∙ ap (λ l. count_in l (terms_of crowd round)) (list_is round.list some)

-- the board of such a round has a list
pub listed_there : (crowd : Crowd) (round : Round) (terms : Terms) → terms ≡ terms_of crowd round → IsSome round.list → IsSome terms.list
listed_there crowd round terms is some =
    subst (λ (t : Terms). IsSome t.list) (sym is) (subst (λ (l : Option (List Task)). IsSome l) (sym (list_is round.list some)) refl)

-- what was read of the board was found for the inquiries
pub read_found : (inquiries : Inquiries) (terms : Terms) (bundles : List Bundle)
    → terms ≡ terms_of (arc_value (arc_value inquiries.remembered).crowd) (arc_value inquiries.round) → AreRead terms bundles → AreFound inquiries bundles
read_found inquiries terms bundles is read =
    let there : Terms = terms_of (arc_value (arc_value inquiries.remembered).crowd) (arc_value inquiries.round) in
    let known = list_is (arc_value inquiries.round).list inquiries.listed in
    let was : AreRead there bundles = subst (λ (t : Terms). AreRead t bundles) is read in
    record {
      each = was.each ∙ ap (λ l. count_in l there) known;
      right = λ k d low. was.right k d low ∙ ap (λ l. demand_at there (task_in l there k)) known;
    }
