-- An order has one journal.
use Rattle.std.proofs.Common.{ℕ, ◌≡◌, ◌<◌, ◌≤◌, ◌+◌, ◌-◌, ◌∙◌, true, false, cond, nat_eq, List, [], ◌∷◌, length, map, refl, ap, sym, subst, arith}
use Rattle.std.specs.Prelude.{All}
use Rattle.std.proofs.lemmas.Bool.Decides.{nat_tests}
use Rattle.std.proofs.lemmas.List.Elements.{All-head, All-tail}
use Rattle.market_units.specs.Merges.{part_of}
use Rattle.utility_language.specs.declared.commands.Command.{Command}
use Rattle.preference_desk.specs.declared.entry.Entry.{Entry}
use Rattle.preference_desk.specs.DeskNames.{DeskNames}
use Rattle.preference_desk.specs.DeskStep.{DeskState, reply_to, state_after}
use Rattle.preference_desk.specs.Journals.{commands_of_session, IsLegalFrom, opening, sessions_of}
use Rattle.published_parts.specs.Journals.{IsJournalOf}

-- an entry is of one of so many sessions
abbrev IsOf : ℕ → Entry → Type 0
IsOf count entry = (1 ≤ entry.session) × (entry.session ≤ count)

-- an entry's own session says its command first
pub own_first : (x : Entry) (more : List Entry) (n : ℕ) → x.session ≡ n → commands_of_session n (x ∷ more) ≡ x.command ∷ commands_of_session n more
own_first x more n own =
    let test : nat_eq x.session n ≡ true = grind (arith, nat_tests) in
    ap
    (λ t. map (λ (entry : Entry). entry.command)
    (cond t (x ∷ part_of (λ (entry : Entry). entry.session) n more) (part_of (λ (entry : Entry). entry.session) n more)))
    test

-- and any other says nothing
pub others_none : (x : Entry) (more : List Entry) (n : ℕ) → nat_eq x.session n ≡ false → commands_of_session n (x ∷ more) ≡ commands_of_session n more
others_none x more n test =
    ap
    (λ t. map (λ (entry : Entry). entry.command)
    (cond t (x ∷ part_of (λ (entry : Entry). entry.session) n more) (part_of (λ (entry : Entry). entry.session) n more)))
    test

-- what is left to say behind entries of one session
same_rest : (x y : Entry) (as' bs : List Entry) (n : ℕ) → x.session ≡ y.session → commands_of_session n (x ∷ as') ≡ commands_of_session n (y ∷ bs)
    → commands_of_session n as' ≡ commands_of_session n bs
same_rest x y as' bs n one so =
    elim (nat_eq x.session n) as (λ t. nat_eq x.session n ≡ t → commands_of_session n as' ≡ commands_of_session n bs) [
      | true ↦ λ test.
          let own : x.session ≡ n = grind (arith, nat_tests) in
          let both : x.command ∷ commands_of_session n as' ≡ y.command ∷ commands_of_session n bs =
          sym (own_first x as' n own) ∙ so ∙ own_first y bs n (sym one ∙ own) in
          cc
      | false ↦ λ test. sym (others_none x as' n test) ∙ so ∙ others_none y bs n (ap (λ s. nat_eq s n) (sym one) ∙ test)
    ] refl

-- legal entries of the same sessions and the same commands are the same
same_entries : (names : DeskNames) (state : DeskState) (count : ℕ) (as' bs : List Entry) → sessions_of as' ≡ sessions_of bs → All (IsOf count) as'
    → ((n : ℕ) → 1 ≤ n → n ≤ count → commands_of_session n as' ≡ commands_of_session n bs) → IsLegalFrom names state as' → IsLegalFrom names state bs → as' ≡ bs
same_entries names state count [] [] order are so legal lawful = refl
same_entries names state count [] (y ∷ bs) order are so legal lawful = cc
same_entries names state count (x ∷ as') [] order are so legal lawful = cc
same_entries names state count (x ∷ as') (y ∷ bs) order are so legal lawful =
    let one : x.session ≡ y.session = cc in
    let orders : sessions_of as' ≡ sessions_of bs = cc in
    let of : IsOf count x = All-head (IsOf count) x as' are in
    let said : x.command ∷ commands_of_session x.session as' ≡ y.command ∷ commands_of_session x.session bs =
    sym (own_first x as' x.session refl) ∙ so x.session of.0 of.1 ∙ own_first y bs x.session (sym one) in
    let command : x.command ≡ y.command = cc in
    let reply : x.reply ≡ y.reply = legal.0 ∙ ap (reply_to names state) command ∙ sym lawful.0 in
    let entry : x ≡ y = λ i. record { session = one i; command = command i; reply = reply i } in
    let rest : as' ≡ bs =
    same_entries names (state_after names state x.command) count as' bs orders (All-tail (IsOf count) x as' are)
    (λ n low high. same_rest x y as' bs n one (so n low high)) legal.1
    (subst (λ c. IsLegalFrom names (state_after names state c) bs) (sym command) lawful.1) in
    cc

pub one_journal : (names : DeskNames) (streams : List (List Command)) (order : List ℕ) (one other : List Entry) → IsJournalOf names streams order one
    → IsJournalOf names streams order other → one ≡ other
one_journal names streams order one other is so =
    same_entries names (opening names) (length streams) one other (is.sessions ∙ sym so.sessions) is.merges.given
    (λ n low high.
    let below : n - 1 < length streams = omega arith in
    let number : (n - 1) + 1 ≡ n = omega arith in
    subst (λ k. commands_of_session k one ≡ commands_of_session k other) number (is.merges.whole (n - 1) below ∙ sym (so.merges.whole (n - 1) below))) is.legal so.legal
