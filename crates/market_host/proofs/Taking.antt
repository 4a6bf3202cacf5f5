-- Inputs that are taken one behind another.
use Rattle.std.proofs.Common.{ℕ, ◌≡◌, ◌<◌, ◌≤◌, ◌+◌, List, [], ◌∷◌, ◌++◌, length, arith, subst, ◌∙◌, refl, sym, inr}
use Rattle.std.specs.Prelude.{◌⊎◌}
use Rattle.market_edge.specs.declared.shelf.Shelf as Shelf
use Rattle.market_edge.specs.Holdings.{IsTextOf}
use Rattle.market_units.specs.declared.limits.TheConstants.{MAX_COMMANDS}
use Rattle.market_words.specs.declared.words.Form.{Form}
use Rattle.market_words.specs.Kinds.{Kind, kind_of, limit_of}
use Rattle.market_host.specs.declared.cause.Cause.{Cause}
use Rattle.market_host.specs.declared.trouble.Trouble.{Trouble}
use Rattle.market_host.specs.declared.trouble.Trouble.TheVariants.{OutOfMemory, Refused, TooLong}
use Rattle.market_host.specs.Inputs.{AreRead, HasFault, IsInOrder, commands_among}
use Rattle.market_host.specs.Sights.{sight}
use Rattle.market_host.specs.Taking.{AreTaken, InputStops, IsReadWhole, Keeps, OneStops}
use Rattle.market_host.specs.Traces.{AreReadUntil, trace}
use Rattle.market_host.specs.Troubles.{HasSurplus, HasTrouble, IsFaulty, IsPastLimit}
use Rattle.market_host.proofs.InputTroubles.{at_input, none_read, read_more, trouble_before, trouble_of_unread}
use Rattle.market_host.proofs.ReadOut.{added_at_end, none_at_end}
use Rattle.market_host.proofs.Shelves.{end_from}
use Rattle.market_host.proofs.TraceFacts.{none_used, read_behind, until_before, until_behind, until_memory, until_refused, until_surplus}

module _ {H : Type 0} (shelf : Shelf.Ghosts H) where
  kept_still : (a : H) → Keeps shelf a a
  kept_still a = record { holds = refl; later = λ other. omega arith }

  kept_over : (a b c : H) → Keeps shelf a b → Keeps shelf b c → Keeps shelf a c
  kept_over a b c p q = record { holds = q.holds ∙ p.holds; later = λ other. omega (arith, p.later other, q.later other) }

  -- no input is taken yet
  pub none_taken : (form : Form) (a : H) → AreTaken shelf form [] [] a a
  none_taken form a = record { read = none_read form (shelf.shows a).holds; ended = none_at_end (sight shelf a a); used = none_used shelf a; kept = kept_still a }

  -- inputs are taken, and memory is wanted
  pub memory_stops : (form : Form) (names texts : List (List ℕ)) (a b : H) → AreTaken shelf form names texts a b → OneStops shelf form names a b OutOfMemory
  memory_stops form names texts a b taken = record { trouble = tt; used = until_memory shelf a b names 1 taken.used; kept = taken.kept }

  -- inputs of a form that are taken, and the next one behind them
  module _ (form : Form) (a b c : H) (earlier texts : List (List ℕ)) (taken : AreTaken shelf form earlier texts a b) (name : List ℕ) where
    read_there : AreRead form (shelf.shows b).holds earlier texts
    read_there = subst (λ held. AreRead form held earlier texts) (sym taken.kept.holds) taken.read

    -- it is read to its end, and in order
    pub next_taken : (limit : ℕ) (text : List ℕ) → IsReadWhole shelf limit name b c text → IsInOrder form texts text
        → AreTaken shelf form (earlier ++ name ∷ []) (texts ++ text ∷ []) a c
    next_taken limit text one order = record {
      read = read_more form (shelf.shows a).holds earlier texts name text taken.read (subst (λ held. IsTextOf held name text) taken.kept.holds one.whole) order;
      ended =
          added_at_end (sight shelf a c) (earlier ++ name ∷ []) earlier name refl
          (end_from (shelf.shows a).holds (shelf.shows a).faults (sight shelf b c) name taken.kept.holds one.ended);
      used = read_behind shelf a b c earlier (name ∷ []) taken.used one.used;
      kept = kept_over a b c taken.kept one.kept;
    }

    -- or it stops the call, before any behind it
    module _ (number : ℕ) (later : List (List ℕ)) (is : number ≡ length earlier + 1) where
      stops : (stop : Trouble) → HasTrouble form (sight shelf b c) (earlier ++ name ∷ later) stop → AreReadUntil (trace shelf b c) (name ∷ []) number stop
          → Keeps shelf b c → OneStops shelf form (earlier ++ name ∷ later) a c stop
      stops stop trouble used kept =
          let place : number ≡ 1 + length earlier = omega (arith, is) in
          let until : AreReadUntil (trace shelf b c) (name ∷ later) (1 + length earlier) stop =
          until_before shelf b c (name ∷ []) later (1 + length earlier) stop (subst (λ n. AreReadUntil (trace shelf b c) (name ∷ []) n stop) place used) in
          record {
            trouble =
                trouble_before form (shelf.shows a).holds (shelf.shows a).faults (sight shelf b c) (earlier ++ name ∷ later) stop taken.kept.holds
                taken.kept.later trouble;
            used = until_behind shelf a b c earlier (name ∷ later) 1 stop taken.used until;
            kept = kept_over a b c taken.kept kept;
          }

      -- it is not read
      pub next_unread : (kind : Kind) (stop : Trouble) → kind_of form (length earlier) ≡ kind → InputStops shelf (limit_of kind) name number b c stop
          → OneStops shelf form (earlier ++ name ∷ later) a c stop
      next_unread kind stop of said =
          stops stop (trouble_of_unread form (sight shelf b c) earlier texts later name number read_there is kind stop of said.unread) said.used said.kept

      -- it is read to its end
      module _ (limit : ℕ) (text : List ℕ) (one : IsReadWhole shelf limit name b c text) (within : length text ≤ limit_of (kind_of form (length texts))) where
        -- it is not of its grammar
        pub next_refused : (row : ℕ) (cause : Cause) → HasFault (kind_of form (length texts)) texts row cause text
            → OneStops shelf form (earlier ++ name ∷ later) a c (Refused number row cause)
        next_refused row cause fault =
            stops (Refused number row cause)
            (at_input form (sight shelf b c) earlier texts later name number read_there is number (IsFaulty form (sight shelf b c) row cause) refl
            (one.ended, text, one.whole, within, fault))
            (until_refused shelf b c name number row cause one.used) one.kept

        -- it brings the commands above what there is room for
        pub next_surplus : MAX_COMMANDS < commands_among form (texts ++ text ∷ []) → OneStops shelf form (earlier ++ name ∷ later) a c (TooLong number)
        next_surplus more =
            stops (TooLong number)
            (at_input form (sight shelf b c) earlier texts later name number read_there is number
            (λ all input. IsPastLimit form (sight shelf b c) all input ⊎ HasSurplus form (sight shelf b c) all input) refl
            (inr (one.ended, text, one.whole, within, more)))
            (until_surplus shelf b c name number one.used) one.kept

        -- there is no memory for what it says
        pub next_no_memory : OneStops shelf form (earlier ++ name ∷ later) a c OutOfMemory
        next_no_memory = stops OutOfMemory tt (until_memory shelf b c (name ∷ []) number one.used) one.kept
