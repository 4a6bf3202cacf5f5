-- What is visited, turn by turn.
use Rattle.std.proofs.Common.{ℕ, zero, suc, ◌+◌, ◌<◌, ◌≤◌, ◌%◌, ◌≡◌, ◌++◌, ◌∷◌, [], Bool, true, false, not, List, get_or, refl, sym, subst, inl, inr, arith}
use Rattle.std.specs.Prelude.{if◌then◌else◌, All, find, nat_le, Option, Some, None}
use Rattle.std.specs.List.{range_with_len}
use Rattle.std.proofs.lemmas.Bool.{cases_Bool, cases_lt}
use Rattle.std.proofs.lemmas.List.{length-replicate}
use Rattle.std.proofs.lemmas.List.FromFn.{length-map-range_with_len}
use Rattle.std.proofs.lemmas.List.Elements.{All-nil, All-cons, All-push, All-filter, All-map, All-replicate}
use Rattle.market_units.specs.declared.units.Tokens.{Tokens}
use Rattle.demand_api.specs.Crowds.{CrowdData, top}
use Rattle.demand_api.specs.Asking.{ArePricesFor}
use Rattle.demand_api.proofs.Counts.{top_some}
use Rattle.market_settings.specs.declared.reader.Settings.{Settings}
use Rattle.seed_words.specs.Streams.{stream_word}
use Rattle.price_neighbours.specs.Neighbours.{neighbours}
use Rattle.price_neighbours.proofs.Neighbourhoods.{neighbours_are_prices}
use Rattle.tabu_search.specs.Visits.{error_at, first_of_least, drawn, Visits, is_tabu, is_better, candidates, chosen, moved, restarted, after_turn, zero_prices, after_turns}
use Rattle.tabu_search.proofs.LeastFirst.{IsFirstOfLeast, first_alone, first_then, first_still}

-- what is found is of the list
pub find_holds : {A : Type 0} (P : A → Type 0) (p : A → Bool) (xs : List A) (x : A) → find p xs ≡ Some x → All P xs → P x
find_holds P p [] x found all = absurd cc
find_holds P p (y ∷ ys) x found all = elim (cases_Bool (p y)) [
  | inl t ↦ let here : Some y ≡ Some x = rw t at found in let same : y ≡ x = cc in subst P same (all 0 y (omega arith))
  | inr f ↦ let later : find p ys ≡ Some x = rw f at found in find_holds P p ys x later (λ k d within. all (suc k) d (omega arith))
]

-- the prices of a restart
pub drawn_are : (crowd : CrowdData) (seed restart : ℕ) → ArePricesFor crowd (drawn crowd seed restart)
drawn_are crowd seed restart = record {
  same = length-map-range_with_len (λ s. record { 0 = stream_word seed restart s % top crowd }) 0 crowd.sections;
  high = All-map (λ (price : Tokens). price.0 ≤ top crowd) (λ s. record { 0 = stream_word seed restart s % top crowd }) (range_with_len 0 crowd.sections)
      (λ k d within. let some : 1
      ≤ top crowd = top_some crowd in let least : stream_word seed restart (get_or (range_with_len 0 crowd.sections) k d) % top crowd
      < top crowd = omega arith in omega arith);
}

pub zero_are : (crowd : CrowdData) → ArePricesFor crowd (zero_prices crowd)
zero_are crowd = record {
  same = length-replicate crowd.sections (record { 0 = 0 });
  high = All-replicate (λ (price : Tokens). price.0 ≤ top crowd) crowd.sections (record { 0 = 0 }) (omega arith);
}

stale_few : (better : Bool) (stale : ℕ) → (if better then 0 else stale + 1) ≤ stale + 1
stale_few true stale = omega arith
stale_few false stale = omega arith

module _ (crowd : CrowdData) (seats : List ℕ) (settings : Settings) where
  -- a chosen vector has prices
  pub chosen_are : (visits : Visits) (prices : List Tokens) → ArePricesFor crowd visits.current → chosen crowd seats settings visits ≡ Some prices
      → ArePricesFor crowd prices
  chosen_are visits prices are is = elim (cases_Bool (nat_le settings.patience visits.stale)) [
    | inl t ↦ let none : None ≡ Some prices = rw t at is in absurd cc
    | inr f ↦
        let found : first_of_least crowd seats (candidates crowd seats settings visits) ≡ Some prices = rw f at is in
        find_holds (ArePricesFor crowd) _ (candidates crowd seats settings visits) prices found
        (All-filter (λ other. not (is_tabu crowd settings.tabu visits.visited other)) (ArePricesFor crowd)
        (neighbours crowd seats settings.steps visits.current) (neighbours_are_prices crowd seats settings.steps visits.current are))
  ]

  -- where a turn goes
  pub turned_some : (visits : Visits) (prices : List Tokens) → chosen crowd seats settings visits ≡ Some prices
      → after_turn crowd seats settings visits ≡ moved crowd seats visits prices
  unfolding after_turn
  turned_some visits prices is = rw (is, after_turn) refl

  pub turned_none : (visits : Visits) → chosen crowd seats settings visits ≡ None → after_turn crowd seats settings visits ≡ restarted crowd settings visits
  unfolding after_turn
  turned_none visits is = rw (is, after_turn) refl

  -- the first vector, and one turn more
  pub turns_zero : after_turns crowd seats settings 0 ≡ record { visited = zero_prices crowd ∷ []; current = zero_prices crowd; stale = 0; restarts = 0 }
  unfolding after_turns
  turns_zero = refl

  pub turns_more : (turns : ℕ) → after_turns crowd seats settings (turns + 1) ≡ after_turn crowd seats settings (after_turns crowd seats settings turns)
  unfolding after_turns
  turns_more turns = let e : turns + 1 ≡ suc turns = omega arith in rw e refl

  -- a turn visits its new vector
  pub record IsTurned (before after : Visits) : Type 0 where
    pub visited : after.visited ≡ before.visited ++ after.current ∷ []
    pub prices : ArePricesFor crowd before.current → ArePricesFor crowd after.current
    pub stale : after.stale ≤ before.stale + 1
    pub restarts : after.restarts ≤ before.restarts + 1

  turned_by : (visits : Visits) (next : Option (List Tokens)) → chosen crowd seats settings visits ≡ next
      → IsTurned visits (after_turn crowd seats settings visits)
  turned_by visits None is =
      rw (turned_none visits is)
      record { visited = refl; prices = λ are. drawn_are crowd settings.seed (visits.restarts + 1); stale = omega arith; restarts = omega arith }
  turned_by visits (Some prices) is =
      rw (turned_some visits prices is)
      record {
        visited = refl;
        prices = λ are. chosen_are visits prices are is;
        stale = stale_few (is_better crowd seats visits.visited prices) visits.stale;
        restarts = omega arith;
      }

  pub turned : (visits : Visits) → IsTurned visits (after_turn crowd seats settings visits)
  turned visits = turned_by visits (chosen crowd seats settings visits) refl

  -- what holds after each number of turns
  pub record IsCourse (turns : ℕ) (visits : Visits) : Type 0 where
    pub current : ArePricesFor crowd visits.current
    pub visited : All (ArePricesFor crowd) visits.visited
    pub stale : visits.stale ≤ turns
    pub restarts : visits.restarts ≤ turns
    pub best : (best : List Tokens) × IsFirstOfLeast (error_at crowd seats) visits.visited best

  best_more : (visited : List (List Tokens)) (best next : List Tokens) → IsFirstOfLeast (error_at crowd seats) visited best
      → (best : List Tokens) × IsFirstOfLeast (error_at crowd seats) (visited ++ next ∷ []) best
  best_more visited best next is = elim (cases_lt (error_at crowd seats next) (error_at crowd seats best)) [
    | inl less ↦ (next, first_then (error_at crowd seats) visited best next is less)
    | inr more ↦ (best, first_still (error_at crowd seats) visited best next is more)
  ]

  course_more : (turns : ℕ) (before after : Visits) → IsCourse turns before → IsTurned before after → IsCourse (suc turns) after
  course_more turns before after is turn = record {
    current = turn.prices is.current;
    visited = rw turn.visited (All-push (ArePricesFor crowd) before.visited after.current is.visited (turn.prices is.current));
    stale = let one : after.stale ≤ before.stale + 1 = turn.stale in let few : before.stale ≤ turns = is.stale in omega arith;
    restarts = let one : after.restarts ≤ before.restarts + 1 = turn.restarts in let few : before.restarts ≤ turns = is.restarts in omega arith;
    best =
        subst (λ l. (best : List Tokens) × IsFirstOfLeast (error_at crowd seats) l best) (sym turn.visited)
        (best_more before.visited is.best.0 after.current is.best.1);
  }

  pub course : (turns : ℕ) → IsCourse turns (after_turns crowd seats settings turns)
  unfolding after_turns
  course zero = record {
    current = zero_are crowd;
    visited = All-cons (ArePricesFor crowd) (zero_prices crowd) [] (zero_are crowd) (All-nil (ArePricesFor crowd));
    stale = omega arith;
    restarts = omega arith;
    best = (zero_prices crowd, first_alone (error_at crowd seats) (zero_prices crowd));
  }
  course (suc turns) =
      course_more turns (after_turns crowd seats settings turns) (after_turn crowd seats settings (after_turns crowd seats settings turns)) (course turns)
      (turned (after_turns crowd seats settings turns))

pub visited_are_prices : (crowd : CrowdData) (seats : List ℕ) (settings : Settings) (turns : ℕ)
    → All (ArePricesFor crowd) (after_turns crowd seats settings turns).visited
visited_are_prices crowd seats settings turns = (course crowd seats settings turns).visited
