-- What rooms hold, and what is shown of the trees that are copied out of them.
use Rattle.std.proofs.Common.{ℕ, suc, ◌≡◌, ◌<◌, ◌+◌, ◌∙◌, List, [], ◌∷◌, ◌++◌, map, length, get_or, ap, refl, sym, subst, length-append, arith, inl, inr}
use Rattle.std.specs.List.{AllZip}
use Rattle.std.proofs.lemmas.Bool.{cases_lt}
use Rattle.std.proofs.lemmas.List.{get_or-map, get_or_append_left, get_or_push, length-map}
use Rattle.std.proofs.lemmas.Option.{slice_get-get_or}
use Rattle.market_units.specs.declared.units.Tokens.{Tokens}
use Rattle.bundle_rules.specs.Bundles.{sections_of}
use Rattle.bundle_rules.specs.Demand.{price_in}
use Rattle.bundle_rules.specs.Menus.{MenuData}
use Rattle.bundle_bounds.specs.Offers.{OfferData}
use Rattle.budget_draw.specs.Budgets.{raised_by}
use Rattle.demand_api.specs.Crowds.{Student}
use Rattle.demand_api.specs.Views.{data_of}
use Rattle.demand_api.proofs.Parts.{students_length}
use Rattle.aftermarket_stage.specs.declared.turns.Turn.{Turn}
use Rattle.aftermarket_stage.specs.After.{turn_of, turns_of}
use Rattle.aftermarket_stage.specs.Turns.{TurnData}
use Rattle.market_certificate.specs.declared.publication.Proved as proved
use Rattle.market_certificate.specs.Publications.{ProvedTurn}
use Rattle.published_parts.specs.Offers.{IsProvedBest, nobody, offer_to}
use Rattle.published_market.specs.declared.chosen.Chosen.{Chosen}
use Rattle.published_market.specs.declared.rooms.Room.{Room}
use Rattle.published_market.specs.declared.taken.Taken.{Taken}
use Rattle.published_market.specs.Asked.{offer_chosen, turn_chosen}
use Rattle.published_market.specs.Making.{IsBestTurn}
use Rattle.published_market.specs.Rooms.{IsRoomOf}
use Rattle.published_market.specs.Shown.{AreShown}
use Rattle.published_market.specs.Turns.{IsPublishedTurn, no_turn, offer_at, offer_for}
use Rattle.published_market.proofs.Showing.{asked, asked_at, taken_count}

-- a room of the same bundle in the same offer
pub room_for : {offer other : OfferData} {bundle same : List ℕ} (room : Room) → offer ≡ other → bundle ≡ same → IsRoomOf offer bundle room
    → IsRoomOf other same room
room_for {offer} {other} {bundle} {same} room is too holds =
    subst (λ (o : OfferData). IsRoomOf o same room) is (subst (λ (b : List ℕ). IsRoomOf offer b room) too holds)

-- what the room at a place holds
pub room_at : (IsRoom : ℕ → Room → Type 0) (first k place : ℕ) (rooms : List Room) (room : Room)
    → ((n : ℕ) (d : Room) → n < length rooms → IsRoom (first + n) (get_or rooms n d)) → k < length rooms → room ≡ get_or rooms k room → place ≡ first + k
    → IsRoom place room
room_at IsRoom first k place rooms room are low room_is at =
    subst (IsRoom place) (sym room_is) (subst (λ n. IsRoom n (get_or rooms k room)) (sym at) (are k room low))

-- a student that takes something has a menu
pub taken_inside : (taken : Taken) (place : ℕ) → place < length taken.bundles.now → place < length taken.crowd.now.menus.items
taken_inside taken place low =
    let count : length taken.bundles.now ≡ length taken.crowd.now.menus.items = taken_count taken.crowd.now taken.prices.now taken.bundles.now taken.taken in
    omega arith

-- the turn at a place, as plain data
pub turn_at : (turns : List Turn) (i : ℕ) (turn : Turn) → i < length turns → turn ≡ get_or turns i turn
    → get_or (turns_of turns) i (turn_of turn) ≡ turn_of turn
turn_at turns i turn low is = get_or-map turn_of turns i turn (turn_of turn) low ∙ ap turn_of (sym is)

-- the same, where another turn stands for none
pub chosen_at : (chosen : Chosen) (i : ℕ) (turn : Turn) → i < length chosen.turns.now → turn ≡ get_or chosen.turns.now i turn
    → turn_chosen chosen i ≡ turn_of turn
chosen_at chosen i turn low is = get_or-map turn_of chosen.turns.now i turn no_turn low ∙ ap turn_of (sym is)

-- it is to the best of what is offered
pub turn_best : (chosen : Chosen) (i : ℕ) (turn : Turn) → i < length chosen.turns.now → turn ≡ get_or chosen.turns.now i turn
    → IsBestTurn (data_of chosen.crowd.now) chosen.prices.now chosen.raise (turn_of turn)
turn_best chosen i turn low is =
    subst (IsBestTurn (data_of chosen.crowd.now) chosen.prices.now chosen.raise) (turn_at chosen.turns.now i turn low is)
    (chosen.best i (turn_of turn) (rw (length-map chosen.turns.now turn_of) low))

-- its student has a menu
pub turn_inside : (chosen : Chosen) (i n : ℕ) (turn : Turn) → i < length chosen.turns.now → turn ≡ get_or chosen.turns.now i turn → n ≡ turn.student.0
    → n < length chosen.crowd.now.menus.items
turn_inside chosen i n turn low is at =
    let within : turn.student.0 < length (data_of chosen.crowd.now).students = (turn_best chosen i turn low is).within in
    let count : length (data_of chosen.crowd.now).students ≡ length chosen.crowd.now.menus.items = students_length chosen.crowd.now in
    omega arith

-- what is offered to it: its menu at the prices, within its raised budget
pub offer_turned : (chosen : Chosen) (n : ℕ) (turn : TurnData) (menu : MenuData) (budget : Tokens) (more : ℕ) → n ≡ turn.student
    → n < length chosen.crowd.now.menus.items → menu ≡ get_or chosen.crowd.now.menus.items n menu → budget ≡ get_or chosen.crowd.now.budgets.items n budget
    → more ≡ raised_by chosen.raise budget.0
    → offer_to (asked menu budget) (price_in chosen.prices.now) more turn.allowed
    ≡ offer_for (data_of chosen.crowd.now) chosen.prices.now chosen.raise turn
offer_turned chosen n turn menu budget more at low is has_it raised =
    let crowd = chosen.crowd.now in
    let who : get_or (data_of crowd).students n nobody ≡ asked menu budget =
    asked_at crowd.menus.items crowd.budgets.items n nobody menu budget crowd.same low is has_it in
    ap (λ (b : ℕ). offer_to (asked menu budget) (price_in chosen.prices.now) b turn.allowed) raised
    ∙ ap (λ (student : Student). offer_at chosen.prices.now chosen.raise student turn) (sym who)
    ∙ ap (λ (k : ℕ). offer_at chosen.prices.now chosen.raise (get_or (data_of crowd).students k nobody) turn) at

-- a turn with the tree of its bundle is as it is published
pub turn_shown : (chosen : Chosen) (i : ℕ) (turn : Turn) (one : proved.Proved) (published : ProvedTurn)
    → i < length chosen.turns.now → turn ≡ get_or chosen.turns.now i turn
    → IsProvedBest (offer_chosen chosen i) (sections_of one.bundle) one.tree.items → sections_of one.bundle ≡ (turn_chosen chosen i).bundle
    → published ≡ record { pass = turn.pass; student = turn.student.0; bundle = sections_of one.bundle; tree = one.tree.items }
    → IsPublishedTurn (data_of chosen.crowd.now) chosen.prices.now chosen.raise (turn_chosen chosen i) published
turn_shown chosen i turn one published low is proved bundle told =
    let crowd = data_of chosen.crowd.now in
    let at : turn_chosen chosen i ≡ turn_of turn = chosen_at chosen i turn low is in
    let within : (turn_chosen chosen i).student < length crowd.students =
    subst (λ (t : TurnData). t.student < length crowd.students) (sym at) (turn_best chosen i turn low is).within in
    let shown : ProvedTurn = record { pass = turn.pass; student = turn.student.0; bundle = sections_of one.bundle; tree = one.tree.items } in
    let made : IsPublishedTurn crowd chosen.prices.now chosen.raise (turn_chosen chosen i) shown = record {
      pass = ap (λ (t : TurnData). t.pass) (sym at);
      student = ap (λ (t : TurnData). t.student) (sym at);
      bundle = bundle;
      who = get_or crowd.students (turn_chosen chosen i).student nobody;
      listed = slice_get-get_or crowd.students (turn_chosen chosen i).student nobody within;
      proved = proved;
    } in
    subst (IsPublishedTurn crowd chosen.prices.now chosen.raise (turn_chosen chosen i)) (sym told) made

-- one more is published of a bundle
pub shown_more : {S : Type 0} (is_shown : ℕ → S → Type 0) (all : List S) (one : S) (later : List S) → AreShown is_shown all → is_shown (length all) one
    → later ≡ all ++ one ∷ [] → AreShown is_shown later
shown_more {S} is_shown all one later are is more =
    subst (AreShown is_shown) (sym more)
    (λ k d low. elim (cases_lt k (length all)) [
      | inl before ↦ subst (is_shown k) (sym (get_or_append_left all (one ∷ []) d k before)) (are k d before)
      | inr after ↦
          let at : k ≡ length all = omega (arith, after, low, length-append all (one ∷ [])) in
          subst (λ n. is_shown n (get_or (all ++ one ∷ []) n d)) (sym at) (subst (is_shown (length all)) (sym (get_or_push all one d (length all) refl)) is)
    ])

-- all of them, beside what they are published of
pub shown_beside : {A B S : Type 0} (R : A → B → Type 0) (f : S → B) (xs : List A) (d : A) (all : List S) → length all ≡ length xs
    → ((k : ℕ) (e : S) → k < length all → R (get_or xs k d) (f (get_or all k e)))
    → AllZip R xs (map f all)
shown_beside R f [] d [] same each = tt
shown_beside R f [] d (y ∷ ys) same each = absurd (omega arith)
shown_beside R f (x ∷ xs) d [] same each = absurd (omega arith)
shown_beside R f (x ∷ xs) d (y ∷ ys) same each =
    (each 0 y (omega arith), shown_beside R f xs d ys (omega arith) (λ k e low. each (suc k) e (omega arith)))
