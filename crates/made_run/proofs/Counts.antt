-- How many commands two sessions say.
use Rattle.std.proofs.Common.{ℕ, ◌≡◌, ◌≤◌, ◌+◌, ◌∙◌, Bool, true, false, nat_eq, List, [], ◌∷◌, length, map, refl, ap, sym, arith}
use Rattle.std.specs.Prelude.{All, slice_index_or}
use Rattle.std.proofs.lemmas.Bool.Decides.{nat_tests}
use Rattle.std.proofs.lemmas.List.Elements.{All-head, All-tail}
use Rattle.utility_language.specs.declared.commands.Command.{Command}
use Rattle.preference_desk.specs.declared.entry.Entry.{Entry}
use Rattle.preference_desk.specs.Journals.{MergesStreams, commands_of_session}
use Rattle.published_parts.proofs.OneJournals.{others_none, own_first}

abbrev IsOfTwo : Entry → Type 0
IsOfTwo entry = (1 ≤ entry.session) × (entry.session ≤ 2)

both_said : (journal : List Entry) → All IsOfTwo journal → length journal ≡ length (commands_of_session 1 journal) + length (commands_of_session 2 journal)
both_said [] of = refl
both_said (x ∷ more) of =
    let here : IsOfTwo x = All-head IsOfTwo x more of in
    let rest : length more ≡ length (commands_of_session 1 more) + length (commands_of_session 2 more) = both_said more (All-tail IsOfTwo x more of) in
    elim (nat_eq x.session 1) as (λ t. nat_eq x.session 1 ≡ t → length (x ∷ more) ≡ length (commands_of_session 1 (x ∷ more)) + length (commands_of_session 2 (x ∷ more))) [
      | true ↦ λ test.
          let own : x.session ≡ 1 = grind (arith, nat_tests) in
          let not_two : nat_eq x.session 2 ≡ false = grind (arith, nat_tests) in
          let first : length (commands_of_session 1 (x ∷ more)) ≡ length (x.command ∷ commands_of_session 1 more) = ap length (own_first x more 1 own) in
          let second : length (commands_of_session 2 (x ∷ more)) ≡ length (commands_of_session 2 more) = ap length (others_none x more 2 not_two) in
          omega arith
      | false ↦ λ test.
          let not_one : x.session ≡ 1 → ⊥ = grind (arith, nat_tests) in
          let own : x.session ≡ 2 = omega (arith, here.0, here.1) in
          let first : length (commands_of_session 1 (x ∷ more)) ≡ length (commands_of_session 1 more) = ap length (others_none x more 1 test) in
          let second : length (commands_of_session 2 (x ∷ more)) ≡ length (x.command ∷ commands_of_session 2 more) = ap length (own_first x more 2 own) in
          omega arith
    ] refl

-- a journal that merges two streams has as many entries as they have commands
count_merged : (first second : List Command) (journal : List Entry) → MergesStreams (first ∷ second ∷ []) journal
    → length journal ≡ length first + length second
count_merged first second journal merges =
    let says : length (commands_of_session 1 journal) ≡ length first = ap length (merges.whole 0 (omega arith)) in
    let adds : length (commands_of_session 2 journal) ≡ length second = ap length (merges.whole 1 (omega arith)) in
    both_said journal merges.given ∙ omega arith

-- two journals that merge the same two streams have as many entries
pub same_count : (first second : List Command) (one other : List Entry) → MergesStreams (first ∷ second ∷ []) one → MergesStreams (first ∷ second ∷ []) other
    → length one ≡ length other
same_count first second one other merges does = count_merged first second one merges ∙ sym (count_merged first second other does)
