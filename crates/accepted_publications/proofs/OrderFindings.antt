-- An order has a journal that merges the streams, or a first entry at which it fails to.
use Rattle.std.proofs.Common.{ℕ, zero, suc, ◌≡◌, ◌<◌, ◌+◌, ◌-◌, ◌++◌, List, [], ◌∷◌, length, get_or, replicate, refl, subst, inl, inr, arith}
use Rattle.std.specs.Prelude.{slice_index, slice_index_or, slice_set}
use Rattle.std.proofs.lemmas.Option.{slice_get-get_or}
use Rattle.preference_desk.specs.DeskNames.{DeskNames}
use Rattle.preference_desk.specs.DeskStep.{reply_to}
use Rattle.preference_desk.specs.Entries.{entry_of}
use Rattle.preference_desk.specs.Journals.{IsLegalJournal, opening, state_after_all}
use Rattle.preference_desk.specs.declared.entry.Entry.{Entry}
use Rattle.preference_desk.specs.declared.reply.Reply.{Reply}
use Rattle.preference_desk.proofs.JournalLemmas.{legal_with_one_more}
use Rattle.utility_language.specs.declared.commands.Command.{Command}
use Rattle.utility_language.specs.declared.commands.Command.TheVariants.{Close}
use Rattle.published_parts.specs.Journals.{IsJournalOf}
use Rattle.certificate_checker.specs.Orders.{FailsToMerge, HasNext, IsNextCommand, SaidAll}
use Rattle.certificate_checker.proofs.Replaying.{HasReplayed, replayed_all, replayed_fails, replayed_left, replayed_more, replayed_none}
use Rattle.accepted_publications.proofs.Cases.{by_cases}

module _ (names : DeskNames) (streams : List (List Command)) (order : List ℕ) (merges : (journal : List Entry) → IsJournalOf names streams order journal → ⊥)
    (fails : (at : ℕ) → FailsToMerge streams order at → ⊥) where
  -- all entries are made
  ended : (entries : List Entry) (counts : List ℕ) → HasReplayed streams order (length order) entries counts → IsLegalJournal names entries → ⊥
  ended entries counts is legal =
      by_cases {A = SaidAll streams counts}
      (λ all. let both = replayed_all streams order entries counts is all in
      merges entries (record { sessions = both.0; legal = legal; merges = both.1 }))
      (λ left. fails (length order + 1) (inr (refl, is.before, replayed_left streams order entries counts is left)))

  -- an entry more, as long as its session has a command left
  entered : (left place : ℕ) (entries : List Entry) (counts : List ℕ) → place + left ≡ length order → HasReplayed streams order place entries counts
      → IsLegalJournal names entries → ⊥
  entered zero place entries counts end is legal =
      let all : place ≡ length order = omega (arith, end) in
      ended entries counts (subst (λ n. HasReplayed streams order n entries counts) all is) legal
  entered (suc left) place entries counts end is legal =
      let session : ℕ = get_or order place 0 in
      let low : place < length order = omega (arith, end) in
      by_cases {A = HasNext streams counts (get_or order place 0)}
      (λ has. let stream : List Command = slice_index_or streams (get_or order place 0 - 1) [] in
      let said : ℕ = slice_index counts (get_or order place 0 - 1) in
      let command : Command = get_or (slice_index_or streams (get_or order place 0 - 1) []) (slice_index counts (get_or order place 0 - 1)) Close in
      let reply : Reply = reply_to names (state_after_all names (opening names) entries) command in
      let after : List ℕ = slice_set counts (get_or order place 0 - 1) (slice_index counts (get_or order place 0 - 1) + 1) in
      let next : IsNextCommand streams counts (get_or order place 0) after command =
      record { has = has; next = slice_get-get_or stream said Close has.left; counted = refl } in
      entered left (place + 1) (entries ++ entry_of session command reply ∷ []) after (omega (arith, end))
      (replayed_more streams order place session entries counts after command reply is low refl next)
      (legal_with_one_more names (opening names) entries (entry_of session command reply) legal refl))
      (λ none. fails (place + 1) (inl (place, refl, replayed_fails streams order place entries counts is low none)))

  pub order_or_finding : ⊥
  order_or_finding = entered (length order) 0 [] (replicate (length streams) 0) (omega arith) (replayed_none streams order) tt
