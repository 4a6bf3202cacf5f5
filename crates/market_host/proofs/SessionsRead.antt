-- Sessions, which stand behind the other inputs.
use Rattle.std.proofs.Common.{ℕ, zero, suc, ◌≡◌, ◌≤◌, ◌+◌, List, [], ◌∷◌, ◌++◌, length, drop, arith, ap, sym, subst, ◌∙◌, refl}
use Rattle.std.proofs.Math.ListN.{drop_of_length-le}
use Rattle.std.proofs.lemmas.List.{drop-append-le}
use Rattle.market_units.specs.Totals.{total}
use Rattle.market_units.specs.declared.limits.TheConstants.{MAX_COMMANDS}
use Rattle.market_units.proofs.Sums.{total-append}
use Rattle.market_words.specs.declared.words.Form.{Form}
use Rattle.market_words.specs.declared.words.Form.TheVariants.{Audit, Check, Demand, Explain, Hall, Make, Prefer, Quote, Run}
use Rattle.market_words.specs.Kinds.{Kind, Session, front_of, kind_behind, kind_of, limit_of, streams_of}
use Rattle.market_host.specs.Inputs.{IsInOrder, IsOfGrammar, commands_among, commands_in}
use Rattle.market_host.specs.Sessions.{command_count}

-- the streams of each form are sessions
are_sessions : (form : Form) → streams_of form ≡ Session
are_sessions (Quote name credits courses) = refl
are_sessions Prefer = refl
are_sessions (Demand workers) = refl
are_sessions (Run workers) = refl
are_sessions (Make workers seed students sections accept) = refl
are_sessions Check = refl
are_sessions (Explain student section) = refl
are_sessions Hall = refl
are_sessions (Audit workers) = refl

stream_behind : (kinds : List Kind) (streams : Kind) (count : ℕ) → length kinds ≤ count → kind_behind kinds streams count ≡ streams
stream_behind [] streams count behind = refl
stream_behind (kind ∷ kinds) streams zero behind = absurd (omega arith)
stream_behind (kind ∷ kinds) streams (suc count) behind = stream_behind kinds streams count (omega arith)

-- behind the inputs in front of the sessions, each input is a session
pub is_session : (form : Form) (count : ℕ) → length (front_of form) ≤ count → kind_of form count ≡ Session
is_session form count behind = stream_behind (front_of form) (streams_of form) count behind ∙ are_sessions form

-- the commands of the texts behind the front are those of sessions
among_sessions : (form : Form) (texts : List (List ℕ)) → commands_among form texts ≡ total command_count (drop (length (front_of form)) texts)
among_sessions form texts = ap (λ kind. total (commands_in kind) (drop (length (front_of form)) texts)) (are_sessions form)

-- the commands of the sessions, with more sessions behind them
pub commands_behind : (form : Form) (texts sessions : List (List ℕ)) → length (front_of form) ≤ length texts
    → commands_among form (texts ++ sessions) ≡ commands_among form texts + total command_count sessions
commands_behind form texts sessions behind =
    among_sessions form (texts ++ sessions) ∙ ap (total command_count) (drop-append-le (length (front_of form)) texts sessions behind)
    ∙ total-append command_count (drop (length (front_of form)) texts) sessions
    ∙ ap (λ n. n + total command_count sessions) (sym (among_sessions form texts))

-- the same with one session more
pub commands_more : (form : Form) (texts : List (List ℕ)) (text : List ℕ) → length (front_of form) ≤ length texts
    → commands_among form (texts ++ text ∷ []) ≡ commands_among form texts + command_count text
commands_more form texts text behind = commands_behind form texts (text ∷ []) behind ∙ omega arith

-- where no session was read yet, there is no command
pub no_commands : (form : Form) (texts : List (List ℕ)) → length texts ≡ length (front_of form) → commands_among form texts ≡ 0
no_commands form texts all = ap (total (commands_in (streams_of form))) (drop_of_length-le texts (omega arith))

-- a session that is within the limits is in order
pub session_in_order : (form : Form) (texts : List (List ℕ)) (text : List ℕ) → length (front_of form) ≤ length texts
    → length text ≤ limit_of (kind_of form (length texts)) → commands_among form (texts ++ text ∷ []) ≤ MAX_COMMANDS → IsInOrder form texts text
session_in_order form texts text behind within room = record {
  within = within;
  room = room;
  grammar = subst (λ kind. IsOfGrammar kind texts text) (sym (is_session form (length texts) behind)) tt;
}
