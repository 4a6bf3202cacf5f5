-- What a search keeps, turn by turn.
use Rattle.std.proofs.Common.{ℕ, ◌+◌, ◌%◌, ◌<◌, ◌≤◌, ◌≡◌, ◌∙◌, ◌++◌, ◌∷◌, [], Bool, false, List, length, map, refl, sym, ap, subst, inl, inr, arith}
use Rattle.std.specs.Prelude.{if◌then◌else◌, nat_lt, nat_le, filter, Result, Ok, Err, IfOk, Some, None}
use Rattle.std.specs.List.{range_with_len}
use Rattle.std.proofs.lemmas.Bool.{cases_lt}
use Rattle.std.proofs.lemmas.Bool.Decides.{nat_tests}
use Rattle.std.proofs.lemmas.List.{map-append}
use Rattle.market_units.specs.declared.units.Tokens.{Tokens}
use Rattle.market_units.specs.declared.units.NoMemory.{NoMemory}
use Rattle.demand_api.specs.Crowds.{CrowdData, IsCrowd, top}
use Rattle.market_settings.specs.declared.reader.Settings.{Settings}
use Rattle.seed_words.specs.Streams.{stream_words, stream_word}
use Rattle.price_neighbours.specs.Neighbours.{neighbours}
use Rattle.tabu_search.specs.declared.visiting.Visit.{Visit}
use Rattle.tabu_search.specs.declared.walking.Walk.{Walk}
use Rattle.tabu_search.specs.Visits.{counts_at, error_at, first_of_least, drawn, Visits, last_of, is_better, candidates, chosen, moved, restarted, after_turn, zero_prices, after_turns}
use Rattle.tabu_search.specs.Search.{IsEnd, IsBest}
use Rattle.tabu_search.specs.Walks.{IsVisit, counts_in, IsWalk, IsEntered}
use Rattle.tabu_search.proofs.LeastFirst.{IsFirstOfLeast, first_alone, first_then, first_still, first_found, found_first}
use Rattle.tabu_search.proofs.Candidates.{is_allowed}
use Rattle.tabu_search.proofs.Courses.{turned_some, turned_none, turns_zero, turns_more, course}
use Rattle.tabu_search.proofs.Windows.{last_more, lower_than_best}

map-map : {A B C : Type 0} (g : B → C) (f : A → B) (xs : List A) → map g (map f xs) ≡ map (λ x. g (f x)) xs
map-map g f [] = refl
map-map g f (x ∷ xs) = ap (λ l. g (f x) ∷ l) (map-map g f xs)

-- the drawn prices of a restart
pub drawn_is : (crowd : CrowdData) (seed restart sections high : ℕ) (prices : List Tokens) → sections ≡ crowd.sections → high ≡ top crowd
    → prices ≡ map (λ word. record { 0 = word % high }) (stream_words seed restart sections) → prices ≡ drawn crowd seed restart
drawn_is crowd seed restart sections high prices same at_top is =
    rw (is, same, at_top) (map-map (λ word. record { 0 = word % top crowd }) (stream_word seed restart) (range_with_len 0 crowd.sections))

module _ (crowd : CrowdData) (seats : List ℕ) (settings : Settings) where
  -- before the first turn
  pub walk_begins : (walk : Walk) → IsCrowd crowd → length seats ≡ crowd.sections → IsVisit crowd seats walk.current
      → walk.current.prices.items ≡ zero_prices crowd → walk.best.prices.items ≡ walk.current.prices.items
      → walk.best.error ≡ walk.current.error → walk.stale ≡ 0 → walk.restarts ≡ 0 → walk.turns ≡ 0
      → counts_in walk ≡ last_of settings.tabu (walk.current.counts.items ∷ []) → walk.window.capacity ≡ settings.tabu → walk.top.0 ≡ top crowd
      → IsWalk crowd seats settings walk
  walk_begins walk known seated visit zero best least stale restarts turns window capacity high =
      let at : after_turns crowd seats settings walk.turns ≡ record { visited = zero_prices crowd ∷ []; current = zero_prices crowd; stale = 0; restarts = 0 } =
      ap (after_turns crowd seats settings) turns ∙ turns_zero crowd seats settings in
      record {
        seated = record { known = known; each = seated };
        visit = visit;
        current = zero ∙ sym (ap (λ (v : Visits). v.current) at);
        best =
            ap (λ (v : Visits). first_of_least crowd seats v.visited) at
            ∙ first_found (error_at crowd seats) (zero_prices crowd ∷ []) (zero_prices crowd) (first_alone (error_at crowd seats) (zero_prices crowd))
            ∙ ap (λ (ps : List Tokens). Some ps) (sym (best ∙ zero));
        least = least ∙ visit.error ∙ ap (error_at crowd seats) (sym best);
        stale = stale ∙ sym (ap (λ (v : Visits). v.stale) at);
        restarts = restarts ∙ sym (ap (λ (v : Visits). v.restarts) at);
        window =
            window ∙ ap (λ cs. last_of settings.tabu (cs ∷ [])) (visit.counts ∙ ap (counts_at crowd) zero)
            ∙ sym (ap (λ (v : Visits). last_of settings.tabu (map (counts_at crowd) v.visited)) at);
        capacity = capacity;
        top = high;
      }

  -- one visit more
  module _ (before after : Walk) (visit : Visit) (stale restarts : ℕ) (is : IsWalk crowd seats settings before) (is_visit : IsVisit crowd seats visit)
      (entered : IsEntered before visit stale restarts after) where
    abbrev so_far : Visits
    so_far = after_turns crowd seats settings before.turns

    first : IsFirstOfLeast (error_at crowd seats) so_far.visited before.best.prices.items
    first = found_first (error_at crowd seats) so_far.visited before.best.prices.items is.best

    -- the best of all visited ones
    best_then : first_of_least crowd seats (so_far.visited ++ visit.prices.items ∷ []) ≡ Some after.best.prices.items
    best_then = elim (cases_lt visit.error before.best.error) [
      | inl less ↦
          let lower : error_at crowd seats visit.prices.items < error_at crowd seats before.best.prices.items = rw (← is_visit.error, ← is.least) less in
          first_found (error_at crowd seats) (so_far.visited ++ visit.prices.items ∷ []) visit.prices.items
          (first_then (error_at crowd seats) so_far.visited before.best.prices.items visit.prices.items first lower)
          ∙ ap (λ (ps : List Tokens). Some ps) (sym (entered.lower less).0)
      | inr more ↦
          let most : error_at crowd seats before.best.prices.items ≤ error_at crowd seats visit.prices.items = rw (← is_visit.error, ← is.least) more in
          first_found (error_at crowd seats) (so_far.visited ++ visit.prices.items ∷ []) before.best.prices.items
          (first_still (error_at crowd seats) so_far.visited before.best.prices.items visit.prices.items first most)
          ∙ ap (λ b. Some b.prices.items) (sym (entered.kept more))
    ]

    least_then : after.best.error ≡ error_at crowd seats after.best.prices.items
    least_then = elim (cases_lt visit.error before.best.error) [
      | inl less ↦ (entered.lower less).1 ∙ is_visit.error ∙ ap (error_at crowd seats) (sym (entered.lower less).0)
      | inr more ↦ ap (λ b. b.error) (entered.kept more) ∙ is.least ∙ ap (λ b. error_at crowd seats b.prices.items) (sym (entered.kept more))
    ]

    -- the walk after a turn that visits it
    pub walk_more : (next : Visits) → after_turn crowd seats settings so_far ≡ next → next.visited ≡ so_far.visited ++ visit.prices.items ∷ []
        → next.current ≡ visit.prices.items → next.stale ≡ stale → next.restarts ≡ restarts → IsWalk crowd seats settings after
    walk_more next turn visited current is_stale has_restarts =
        let at : after_turns crowd seats settings after.turns ≡ next =
        ap (after_turns crowd seats settings) entered.turns ∙ turns_more crowd seats settings before.turns ∙ turn in
        record {
          seated = is.seated;
          visit = subst (IsVisit crowd seats) (sym entered.current) is_visit;
          current = ap (λ (v : Visit). v.prices.items) entered.current ∙ sym current ∙ sym (ap (λ (v : Visits). v.current) at);
          best = ap (λ (v : Visits). first_of_least crowd seats v.visited) at ∙ ap (first_of_least crowd seats) visited ∙ best_then;
          least = least_then;
          stale = entered.is_stale ∙ sym is_stale ∙ sym (ap (λ (v : Visits). v.stale) at);
          restarts = entered.has_restarts ∙ sym has_restarts ∙ sym (ap (λ (v : Visits). v.restarts) at);
          window =
              let counted : map (counts_at crowd) (so_far.visited ++ visit.prices.items ∷ [])
              ≡ map (counts_at crowd) so_far.visited ++ counts_at crowd visit.prices.items ∷ [] =
              map-append (counts_at crowd) so_far.visited (visit.prices.items ∷ []) in
              entered.window
              ∙ ap (λ n. last_of n (counts_in before ++ visit.counts.items ∷ [])) is.capacity
              ∙ ap (λ l. last_of settings.tabu (l ++ visit.counts.items ∷ [])) is.window
              ∙ ap (λ cs. last_of settings.tabu (last_of settings.tabu (map (counts_at crowd) so_far.visited) ++ cs ∷ [])) is_visit.counts
              ∙ last_more settings.tabu (map (counts_at crowd) so_far.visited) (counts_at crowd visit.prices.items)
              ∙ ap (last_of settings.tabu) (sym counted)
              ∙ sym (ap (λ l. last_of settings.tabu (map (counts_at crowd) l)) visited)
              ∙ sym (ap (λ (v : Visits). last_of settings.tabu (map (counts_at crowd) v.visited)) at);
          capacity = entered.capacity ∙ is.capacity;
          top = ap (λ (t : Tokens). t.0) entered.top ∙ is.top;
        }

    -- after a move
    pub walk_moves : chosen crowd seats settings so_far ≡ Some visit.prices.items
        → stale ≡ (if nat_lt visit.error before.best.error then 0 else before.stale + 1) → restarts ≡ before.restarts → IsWalk crowd seats settings after
    walk_moves is_chosen is_stale has_restarts =
        let same : is_better crowd seats so_far.visited visit.prices.items ≡ nat_lt visit.error before.best.error =
        lower_than_best (error_at crowd seats) so_far.visited before.best.prices.items (error_at crowd seats visit.prices.items) first
        ∙ rw (← is_visit.error, ← is.least) refl in
        walk_more (moved crowd seats so_far visit.prices.items) (turned_some crowd seats settings so_far visit.prices.items is_chosen) refl refl
        (ap (λ b. if b then 0 else so_far.stale + 1) same ∙ ap (λ n. if nat_lt visit.error before.best.error then 0 else n + 1) (sym is.stale) ∙ sym is_stale)
        (sym is.restarts ∙ sym has_restarts)

    -- after a restart
    pub walk_restarts : chosen crowd seats settings so_far ≡ None → visit.prices.items ≡ drawn crowd settings.seed (before.restarts + 1) → stale ≡ 0
        → restarts ≡ before.restarts + 1 → IsWalk crowd seats settings after
    walk_restarts is_none are_drawn is_stale has_restarts =
        let here : drawn crowd settings.seed (so_far.restarts + 1) ≡ visit.prices.items =
        ap (λ n. drawn crowd settings.seed (n + 1)) (sym is.restarts) ∙ sym are_drawn in
        walk_more (restarted crowd settings so_far) (turned_none crowd seats settings so_far is_none) (ap (λ ps. so_far.visited ++ ps ∷ []) here) here
        (sym is_stale) (ap (λ n. n + 1) (sym is.restarts) ∙ sym has_restarts)

-- what the first candidate is sought among
pub chosen_is : (crowd : CrowdData) (seats : List ℕ) (settings : Settings) (walk : Walk) (steps : List ℕ) (vectors : List (List Tokens))
    → IsWalk crowd seats settings walk → walk.stale < settings.patience → steps ≡ settings.steps
    → vectors ≡ neighbours crowd seats steps walk.current.prices.items
    → first_of_least crowd seats (filter (is_allowed crowd (counts_in walk)) vectors)
    ≡ chosen crowd seats settings (after_turns crowd seats settings walk.turns)
chosen_is crowd seats settings walk steps vectors is fresh same are =
    let v : Visits = after_turns crowd seats settings walk.turns in
    let stale : walk.stale ≡ (after_turns crowd seats settings walk.turns).stale = is.stale in
    let f : nat_le settings.patience (after_turns crowd seats settings walk.turns).stale ≡ false = grind (arith, nat_tests) in
    let vectors_are : vectors ≡ neighbours crowd seats settings.steps (after_turns crowd seats settings walk.turns).current =
    are ∙ ap (λ ss. neighbours crowd seats ss walk.current.prices.items) same ∙ ap (neighbours crowd seats settings.steps) is.current in
    let found : first_of_least crowd seats (filter (is_allowed crowd (counts_in walk)) vectors)
    ≡ first_of_least crowd seats (candidates crowd seats settings (after_turns crowd seats settings walk.turns)) =
    ap (λ window. first_of_least crowd seats (filter (is_allowed crowd window) vectors)) is.window
    ∙ ap
    (λ vs. first_of_least crowd seats
    (filter (is_allowed crowd (last_of settings.tabu (map (counts_at crowd) (after_turns crowd seats settings walk.turns).visited))) vs))
    vectors_are in
    found ∙ chosen_fresh (nat_le settings.patience (after_turns crowd seats settings walk.turns).stale) f
  where
    chosen_fresh : (b : Bool) → b ≡ false
        → first_of_least crowd seats (candidates crowd seats settings (after_turns crowd seats settings walk.turns))
        ≡ (if b then None else first_of_least crowd seats (candidates crowd seats settings (after_turns crowd seats settings walk.turns)))
    chosen_fresh b f = rw f refl

-- an answer that enters a visit answers the next walk
pub walk_answer : (crowd : CrowdData) (seats : List ℕ) (settings : Settings) (before : Walk) (visit : Visit) (stale restarts : ℕ)
    (answer : Result Walk NoMemory)
    → ((after : Walk) → IsEntered before visit stale restarts after → IsWalk crowd seats settings after) → IfOk answer (IsEntered before visit stale restarts)
    → IfOk answer (IsWalk crowd seats settings)
walk_answer crowd seats settings before visit stale restarts (Err none) next is = tt
walk_answer crowd seats settings before visit stale restarts (Ok after) next is = next after is

-- how often the search turned, at most
pub walk_few : (crowd : CrowdData) (seats : List ℕ) (settings : Settings) (walk : Walk) → IsWalk crowd seats settings walk
    → (walk.stale ≤ walk.turns) × (walk.restarts ≤ walk.turns)
walk_few crowd seats settings walk is =
    let on = course crowd seats settings walk.turns in
    (subst (λ n. n ≤ walk.turns) (sym is.stale) on.stale, subst (λ n. n ≤ walk.turns) (sym is.restarts) on.restarts)

-- where the search ends, the walk has its result
pub end_of : (crowd : CrowdData) (seats : List ℕ) (settings : Settings) (walk : Walk) → IsWalk crowd seats settings walk → walk.turns ≤ settings.turns
    → ((n : ℕ) → n < walk.turns → settings.accept < error_at crowd seats (after_turns crowd seats settings n).current)
    → ¬ ((settings.accept < walk.current.error) × (walk.turns < settings.turns)) → IsEnd crowd seats settings walk.turns
end_of crowd seats settings walk is few before ended =
    let same : walk.current.error ≡ error_at crowd seats (after_turns crowd seats settings walk.turns).current =
    is.visit.error ∙ ap (error_at crowd seats) is.current in
    record {
      few = few;
      before = before;
      ends = elim (cases_lt settings.accept walk.current.error) [
        | inl more ↦ elim (cases_lt walk.turns settings.turns) [
          | inl less ↦ absurd (ended (more, less))
          | inr all ↦ inr (omega arith)
        ]
        | inr accepted ↦ inl (omega arith)
      ];
    }

pub best_of : (crowd : CrowdData) (seats : List ℕ) (settings : Settings) (walk : Walk) → IsWalk crowd seats settings walk
    → IsEnd crowd seats settings walk.turns → IsBest crowd seats settings walk.best.prices.items walk.best.error walk.turns
best_of crowd seats settings walk is end = record { end = end; best = is.best; least = sym is.least }

-- one turn more was not the end
pub before_more : (crowd : CrowdData) (seats : List ℕ) (settings : Settings) (walk : Walk) (turns : ℕ) → IsWalk crowd seats settings walk
    → ((n : ℕ) → n < walk.turns → settings.accept < error_at crowd seats (after_turns crowd seats settings n).current) → settings.accept < walk.current.error
    → turns ≡ walk.turns + 1
    → (n : ℕ) → n < turns → settings.accept < error_at crowd seats (after_turns crowd seats settings n).current
before_more crowd seats settings walk turns is before more one n below = elim (cases_lt n walk.turns) [
  | inl less ↦ before n less
  | inr here ↦
      let e : n ≡ walk.turns = omega arith in
      let same : walk.current.error ≡ error_at crowd seats (after_turns crowd seats settings walk.turns).current =
      is.visit.error ∙ ap (error_at crowd seats) is.current in
      rw (e, ← same) more
]
