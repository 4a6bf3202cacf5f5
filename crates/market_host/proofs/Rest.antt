-- Streams that are read one behind another.
use Rattle.std.proofs.Common.{ℕ, ◌≡◌, ◌≤◌, ◌+◌, List, [], ◌∷◌, ◌++◌, length, arith, refl, subst, sym, ◌∙◌, append_assoc, Global}
use Rattle.std.specs.Prelude.{Vec}
use Rattle.std.specs.List.{AllZip}
use Rattle.std.proofs.lemmas.List.{append-nil, length-append}
use Rattle.market_edge.specs.declared.shelf.Shelf as Shelf
use Rattle.market_units.specs.Totals.{total}
use Rattle.market_units.proofs.Sums.{total-append}
use Rattle.market_words.specs.declared.words.Form.{Form}
use Rattle.market_words.specs.Kinds.{front_of}
use Rattle.utility_language.specs.Commands.{command_lines}
use Rattle.market_host.specs.declared.inputs.Inputs.{Inputs}
use Rattle.market_host.specs.Inputs.{commands_among}
use Rattle.market_host.specs.Sessions.{AreItemsOf, command_count, session_text}
use Rattle.market_host.specs.Taking.{HasRead}
use Rattle.market_host.proofs.SessionsRead.{commands_behind, no_commands}
use Rattle.market_host.proofs.StreamFacts.{count_of_session, streams_more}

-- Behind the inputs that have these texts, streams were read: these are their items, and they leave room for so many more.
abbrev pub AreReadSoFar : {H A : Type 0} → Shelf.Ghosts H → Form → List (List ℕ) → List (List ℕ) → (List (List ℕ) → A → Type 0) → Inputs
    → List (Vec A Global) → ℕ → H → H → Type 0
AreReadSoFar shelf form names texts IsItemOf inputs lists room start now =
    (sessions : List (List ℕ)) × HasRead shelf form names inputs (texts ++ sessions) start now × AreItemsOf IsItemOf sessions lists
    × (total command_count sessions + room ≡ 200000)

module _ {H A : Type 0} (shelf : Shelf.Ghosts H) (form : Form) (names texts : List (List ℕ)) (IsItemOf : List (List ℕ) → A → Type 0) (start : H) where
  -- none was read yet
  pub none_so_far : (inputs : Inputs) (now : H) → HasRead shelf form names inputs texts start now
      → AreReadSoFar shelf form names texts IsItemOf inputs [] 200000 start now
  none_so_far inputs now has =
      ([], subst (λ (all : List (List ℕ)). HasRead shelf form names inputs all start now) (sym (append-nil texts)) has, tt, refl)

  module _ (inputs : Inputs) (lists : List (Vec A Global)) (room : ℕ) (now : H) (so_far : AreReadSoFar shelf form names texts IsItemOf inputs lists room start now)
      (front : length texts ≡ length (front_of form)) where
    -- the next one stands behind them
    pub stands_behind : length (front_of form) ≤ length (texts ++ so_far.0)
    stands_behind = omega (arith, front, length-append texts so_far.0)

    -- and they leave it room
    pub room_left : commands_among form (texts ++ so_far.0) + room ≡ 200000
    room_left = omega (arith, commands_behind form texts so_far.0 (omega (arith, front)), no_commands form texts front, so_far.3)

    -- it was read too
    pub one_more : (after : Inputs) (stream : Vec A Global) (left : ℕ) (new : H)
        → ((text : List ℕ) × HasRead shelf form names after ((texts ++ so_far.0) ++ text ∷ []) start new
        × AllZip IsItemOf (command_lines (session_text text)) stream.items)
        → left + length stream.items ≡ room
        → AreReadSoFar shelf form names texts IsItemOf after (lists ++ stream ∷ []) left start new
    one_more after stream left new (text, has, says) fewer =
        let many : length stream.items ≡ command_count text = count_of_session IsItemOf text stream.items says in
        let all : total command_count (so_far.0 ++ text ∷ []) ≡ total command_count so_far.0 + command_count text =
        total-append command_count so_far.0 (text ∷ []) ∙ omega arith in (
          so_far.0 ++ text ∷ [],
          subst (λ (whole : List (List ℕ)). HasRead shelf form names after whole start new) (append_assoc texts so_far.0 (text ∷ [])) has,
          streams_more IsItemOf so_far.0 lists text stream so_far.2 says,
          omega (arith, so_far.3, all, many, fewer),
        )
