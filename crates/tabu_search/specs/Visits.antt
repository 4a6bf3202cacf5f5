-- Visits to vectors of prices, in order. Every count is one over all students.
use Rattle.std.specs.Prelude.{ℕ, ◌+◌, ◌-◌, ◌%◌, zero, suc, Bool, not, nat_eq, nat_lt, nat_le, if◌then◌else◌, List, [], ◌∷◌, ◌++◌, length, map, filter, find, drop, replicate, Option, Some, None}
use Rattle.std.specs.List.{range_with_len, list_any, list_all}
use Rattle.std.specs.Cmp.Lexicographic.{pointwise}
use Rattle.market_units.specs.declared.units.Tokens.{Tokens}
use Rattle.bundle_rules.specs.Demand.{price_in}
use Rattle.clearing_error.specs.Errors.{error}
use Rattle.demand_api.specs.Crowds.{CrowdData, top, counts}
use Rattle.market_settings.specs.declared.reader.Settings.{Settings}
use Rattle.seed_words.specs.Streams.{stream_word}
use Rattle.price_neighbours.specs.Neighbours.{neighbours}

-- the counts of all sections at a vector
abbrev pub counts_at : CrowdData → List Tokens → List ℕ
counts_at crowd prices = counts crowd (price_in prices)

-- the clearing error at a vector
abbrev pub error_at : CrowdData → List ℕ → List Tokens → ℕ
error_at crowd seats prices = error (counts_at crowd prices) seats prices

-- the first of least error
abbrev pub first_of_least : CrowdData → List ℕ → List (List Tokens) → Option (List Tokens)
first_of_least crowd seats vectors =
    find
    (λ prices. list_all (λ other. nat_le (error_at crowd seats prices) (error_at crowd seats other))
    vectors)
    vectors

-- the vector of a restart, by its number from 1: a section's price is the seed's word at its
-- ordinal, in the stream of that number, modulo the top
abbrev pub drawn : CrowdData → ℕ → ℕ → List Tokens
drawn crowd seed restart =
    map (λ s. record { 0 = stream_word seed restart s % top crowd })
    (range_with_len 0 crowd.sections)

-- where the search is: the visited vectors in order, the last of which is the current one; the
-- turns since a vector was better than all before it or a restart was made; the number of restarts
pub record Visits : Type 0 where
  pub visited : List (List Tokens)
  pub current : List Tokens
  pub stale : ℕ
  pub restarts : ℕ

-- the last so many of a list
abbrev pub last_of : {A : Type 0} → ℕ → List A → List A
last_of n xs = drop (length xs - n) xs

-- the counts at a vector are among those of the last visited ones, the current one included
abbrev pub is_tabu : CrowdData → ℕ → List (List Tokens) → List Tokens → Bool
is_tabu crowd tabu visited prices =
    list_any (pointwise nat_eq (counts_at crowd prices))
    (last_of tabu (map (counts_at crowd) visited))

-- the vector is better than all visited ones
abbrev pub is_better : CrowdData → List ℕ → List (List Tokens) → List Tokens → Bool
is_better crowd seats visited prices =
    list_all (λ other. nat_lt (error_at crowd seats prices) (error_at crowd seats other)) visited

-- the neighbours of the current vector that are not tabu
abbrev pub candidates : CrowdData → List ℕ → Settings → Visits → List (List Tokens)
candidates crowd seats settings visits =
    filter (λ prices. not (is_tabu crowd settings.tabu visits.visited prices))
    (neighbours crowd seats settings.steps visits.current)

-- where a turn moves to: the first candidate of least error. Nowhere, where there is no candidate,
-- or the turns since a better vector or a restart are as many as the patience
abbrev pub chosen : CrowdData → List ℕ → Settings → Visits → Option (List Tokens)
chosen crowd seats settings visits =
    if nat_le settings.patience visits.stale then None
    else first_of_least crowd seats (candidates crowd seats settings visits)

-- after a move to a vector
abbrev pub moved : CrowdData → List ℕ → Visits → List Tokens → Visits
moved crowd seats visits prices = record {
  visited = visits.visited ++ prices ∷ [];
  current = prices;
  stale = if is_better crowd seats visits.visited prices then 0 else visits.stale + 1;
  restarts = visits.restarts;
}

-- after a restart, which visits the vector of its number whether or not it is tabu
abbrev pub restarted : CrowdData → Settings → Visits → Visits
restarted crowd settings visits = record {
  visited = visits.visited ++ drawn crowd settings.seed (visits.restarts + 1) ∷ [];
  current = drawn crowd settings.seed (visits.restarts + 1);
  stale = 0;
  restarts = visits.restarts + 1;
}

-- a turn moves to the chosen vector, or is a restart
unfoldable pub after_turn : CrowdData → List ℕ → Settings → Visits → Visits
after_turn crowd seats settings visits =
    elim (chosen crowd seats settings visits)
    [ None ↦ restarted crowd settings visits | Some prices ↦ moved crowd seats visits prices ]

-- the price 0 for each section
abbrev pub zero_prices : CrowdData → List Tokens
zero_prices crowd = replicate crowd.sections (record { 0 = 0 })

-- after so many turns; before the first the zero vector was visited
unfoldable pub after_turns : CrowdData → List ℕ → Settings → ℕ → Visits
after_turns crowd seats settings zero =
    record {
      visited = zero_prices crowd ∷ [];
      current = zero_prices crowd;
      stale = 0;
      restarts = 0;
    }
after_turns crowd seats settings (suc turns) =
    after_turn crowd seats settings (after_turns crowd seats settings turns)
