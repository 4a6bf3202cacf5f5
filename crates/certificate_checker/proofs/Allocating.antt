-- Final bundles and used seats against what is held.
use Rattle.std.proofs.Common.{ℕ, ◌≡◌, ◌<◌, ◌∙◌, true, false, true≢false, List, [], length, map, get_or, ap, sym, arith}
use Rattle.std.specs.Prelude.{◌↔◌, nat_eq, not, slice_index, slice_index_or}
use Rattle.std.specs.Cmp.Lexicographic.{pointwise}
use Rattle.plain_facts.proofs.Truths.{not_false, not_true}
use Rattle.bundle_rules.specs.Bundles.{sections_of}
use Rattle.bundle_rules.specs.declared.bundle.Bundle.{Bundle}
use Rattle.demand_api.specs.Counting.{AreCounts}
use Rattle.demand_api.specs.Crowds.{holders}
use Rattle.held_seats.proofs.Holding.{equal_lists, listed_at, same_lists}
use Rattle.certificate_checker.proofs.ByPass.{any_default}

-- two bundles at a place, by the test of their sections
pub are_equal : (final held : List Bundle) (after : List (List ℕ)) (k : ℕ) (a b : Bundle) → k < length final → k < length held → a ≡ get_or final k a
    → b ≡ get_or held k b → map sections_of held ≡ after → not (pointwise nat_eq (sections_of a) (sections_of b)) ≡ false
    → slice_index_or (map sections_of final) k [] ≡ slice_index_or after k []
are_equal final held after k a b low small is so holds same =
    sym (listed_at final k a low is) ∙ same_lists (sections_of a) (sections_of b) (not_false (pointwise nat_eq (sections_of a) (sections_of b)) same)
    ∙ listed_at held k b small so ∙ ap (λ all. slice_index_or all k []) holds

pub are_unequal : (final held : List Bundle) (after : List (List ℕ)) (k : ℕ) (a b : Bundle) → k < length final → k < length held → a ≡ get_or final k a
    → b ≡ get_or held k b → map sections_of held ≡ after → not (pointwise nat_eq (sections_of a) (sections_of b)) ≡ true
    → ¬ (slice_index_or (map sections_of final) k [] ≡ slice_index_or after k [])
are_unequal final held after k a b low small is so holds apart = λ e.
    let same : sections_of a ≡ sections_of b =
    listed_at final k a low is ∙ e ∙ ap (λ all. slice_index_or all k []) (sym holds) ∙ sym (listed_at held k b small so) in
    true≢false
    (sym (equal_lists (sections_of b)) ∙ ap (λ sections. pointwise nat_eq sections (sections_of b)) (sym same)
    ∙ not_true (pointwise nat_eq (sections_of a) (sections_of b)) apart)

-- the seats that are told of a section are those that are counted and those that there are, as the test of the three numbers says
pub use_is : (used : List (ℕ × ℕ)) (seats counts : List ℕ) (held allocation : List (List ℕ)) (k : ℕ) (told : ℕ × ℕ) (count seat : ℕ)
    → length used ≡ length seats → AreCounts (length seats) held counts → held ≡ allocation → k < length seats
    → told ≡ get_or used k told → count ≡ get_or counts k count → seat ≡ get_or seats k seat
    → (told ≡ (count, seat)) ↔ (slice_index_or used k (0, 0) ≡ (holders k allocation, slice_index seats k))
use_is used seats counts held allocation k told count seat long are same low is has_it so =
    let counted : length counts ≡ length seats = are.len in
    let one : get_or used k (0, 0) ≡ told = any_default used k (0, 0) told (omega arith) ∙ sym is in
    let two : count ≡ holders k allocation = has_it ∙ any_default counts k count 0 (omega arith) ∙ are.each k low ∙ ap (holders k) same in
    let three : seat ≡ slice_index seats k = so ∙ any_default seats k seat 0 low in
    (λ e. one ∙ e ∙ (λ i. (two i, three i)), λ e. sym one ∙ e ∙ sym (λ i. (two i, three i)))
