-- The end of the search is one, and its result.
use Rattle.std.proofs.Common.{ℕ, zero, suc, ◌+◌, ◌<◌, ◌≤◌, ◌≡◌, ◌∙◌, ◌⊎◌, List, refl, sym, ap, subst, inl, inr, arith}
use Rattle.std.specs.Prelude.{Some}
use Rattle.std.proofs.lemmas.Bool.{cases_lt}
use Rattle.market_units.specs.declared.units.Tokens.{Tokens}
use Rattle.demand_api.specs.Crowds.{CrowdData}
use Rattle.market_settings.specs.declared.reader.Settings.{Settings}
use Rattle.tabu_search.specs.Visits.{error_at, first_of_least, after_turns}
use Rattle.tabu_search.specs.Search.{IsEnd, IsBest, IsFound, FindsNone}
use Rattle.tabu_search.proofs.LeastFirst.{first_found}
use Rattle.tabu_search.proofs.Courses.{course}

module _ (crowd : CrowdData) (seats : List ℕ) (settings : Settings) where
  -- no end comes before an end
  not_before : (turns later : ℕ) → IsEnd crowd seats settings turns → IsEnd crowd seats settings later → turns < later → ⊥
  not_before turns later is is' less =
      let more : settings.accept < error_at crowd seats (after_turns crowd seats settings turns).current = is'.before turns less in
      let few : later ≤ settings.turns = is'.few in
      elim is.ends [ inl accepted ↦ omega arith | inr all ↦ omega arith ]

  one_end : (turns turns' : ℕ) → IsEnd crowd seats settings turns → IsEnd crowd seats settings turns' → turns ≡ turns'
  one_end turns turns' is is' = elim (cases_lt turns turns') [
    | inl less ↦ absurd (not_before turns turns' is is' less)
    | inr more ↦ elim (cases_lt turns' turns) [
      | inl less ↦ absurd (not_before turns' turns is' is less)
      | inr more' ↦ omega arith
    ]
  ]

  one_best : (one other : List Tokens) (error error' turns turns' : ℕ) → IsBest crowd seats settings one error turns
      → IsBest crowd seats settings other error' turns' → (one ≡ other) × (error ≡ error') × (turns ≡ turns')
  one_best one other error error' turns turns' is is' =
      let e : turns ≡ turns' = one_end turns turns' is.end is'.end in
      let found : first_of_least crowd seats (after_turns crowd seats settings turns').visited ≡ Some one =
      subst (λ n. first_of_least crowd seats (after_turns crowd seats settings n).visited ≡ Some one) e is.best in
      let same : Some one ≡ Some other = sym found ∙ is'.best in
      let prices : one ≡ other = cc in
      (prices, sym is.least ∙ ap (error_at crowd seats) prices ∙ is'.least, e)

  -- the search goes on until it ends
  end_from : (left n : ℕ) → n + left ≡ settings.turns → ((m : ℕ) → m < n → settings.accept < error_at crowd seats (after_turns crowd seats settings m).current)
      → (turns : ℕ) × IsEnd crowd seats settings turns
  end_from zero n all before = (n, record { few = omega arith; before = before; ends = inr (omega arith) })
  end_from (suc left) n all before = elim (cases_lt settings.accept (error_at crowd seats (after_turns crowd seats settings n).current)) [
    | inl more ↦
        end_from left (n + 1) (omega arith) (λ m below. elim (cases_lt m n) [ inl less ↦ before m less | inr here ↦ let e : m ≡ n = omega arith in rw e more ])
    | inr accepted ↦ (n, record { few = omega arith; before = before; ends = inl accepted })
  ]

pub not_both_are_searched : (crowd : CrowdData) (seats : List ℕ) (settings : Settings) (prices : List Tokens) (error turns least : ℕ)
    → IsFound crowd seats settings prices error turns → ¬ (FindsNone crowd seats settings least)
not_both_are_searched crowd seats settings prices error turns least is (other, turns', best, more) =
    let same = one_best crowd seats settings prices other error least turns turns' is.best best in
    let accepted : error ≤ settings.accept = is.accepted in
    omega (arith, same.1)

pub one_is_found : (crowd : CrowdData) (seats : List ℕ) (settings : Settings) (one other : List Tokens) (error error' turns turns' : ℕ)
    → IsFound crowd seats settings one error turns → IsFound crowd seats settings other error' turns' → (one ≡ other) × (error ≡ error') × (turns ≡ turns')
one_is_found crowd seats settings one other error error' turns turns' is is' =
    one_best crowd seats settings one other error error' turns turns' is.best is'.best

pub one_least_error : (crowd : CrowdData) (seats : List ℕ) (settings : Settings) (least least' : ℕ) → FindsNone crowd seats settings least
    → FindsNone crowd seats settings least' → least ≡ least'
one_least_error crowd seats settings least least' (one, turns, best, more) (other, turns', best', more') =
    (one_best crowd seats settings one other least least' turns turns' best best').1

pub search_ends : (crowd : CrowdData) (seats : List ℕ) (settings : Settings)
    → ((prices : List Tokens) × (error : ℕ) × (turns : ℕ) × IsFound crowd seats settings prices error turns)
    ⊎ ((least : ℕ) × FindsNone crowd seats settings least)
search_ends crowd seats settings =
    let end = end_from crowd seats settings settings.turns 0 (omega arith) (λ m below. absurd (omega arith)) in
    let best = (course crowd seats settings end.0).best in
    let is : IsBest crowd seats settings best.0 (error_at crowd seats best.0) end.0 =
    record { end = end.1; best = first_found (error_at crowd seats) (after_turns crowd seats settings end.0).visited best.0 best.1; least = refl } in
    elim (cases_lt settings.accept (error_at crowd seats best.0)) [
      | inl more ↦ inr (error_at crowd seats best.0, (best.0, end.0, is, more))
      | inr accepted ↦ inl (best.0, error_at crowd seats best.0, end.0, record { best = is; accepted = accepted })
    ]
