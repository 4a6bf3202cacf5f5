-- The commands of an order, entered one after another.
use Rattle.std.proofs.Common.{ℕ, ◌≡◌, ◌≢◌, ◌<◌, ◌≤◌, ◌+◌, ◌-◌, ◌∙◌, false, nat_eq, List, [], ◌∷◌, ◌++◌, length, take, get_or, replicate, refl, ap, sym, subst, inl, inr, arith}
use Rattle.std.specs.Prelude.{All, slice_index_or}
use Rattle.std.proofs.lemmas.Bool.Decides.{eqb_tells, nat_tests}
use Rattle.std.proofs.lemmas.List.{get_or-replicate, get_or-set_other, get_or-set_same, length-replicate, length-set, map-append, take_all, take_more}
use Rattle.std.proofs.lemmas.List.Elements.{All-append, All-cons, All-nil}
use Rattle.std.proofs.lemmas.List.Sums.{count_by_more_no, count_by_more_yes}
use Rattle.std.proofs.lemmas.Option.{get_or_from_slice_get}
use Rattle.utility_language.specs.declared.commands.Command.{Command}
use Rattle.preference_desk.specs.declared.entry.Entry.{Entry}
use Rattle.preference_desk.specs.declared.reply.Reply.{Reply}
use Rattle.preference_desk.specs.Entries.{entry_of}
use Rattle.preference_desk.specs.Journals.{commands_of_session, MergesStreams, sessions_of}
use Rattle.published_parts.proofs.OneJournals.{others_none, own_first}
use Rattle.certificate_checker.specs.Firsts.{AllBelow, FailsFirstAt}
use Rattle.certificate_checker.specs.Orders.{HasCommand, HasNext, IsNextCommand, SaidAll, SaysAll, commands_in, said}

-- what is entered after the first places of an order, where so many commands of each stream are said
pub record HasReplayed (streams : List (List Command)) (order : List ℕ) (place : ℕ) (entries : List Entry) (counts : List ℕ) : Type 0 where
  pub sessions : sessions_of entries ≡ take place order
  pub given : All (λ (entry : Entry). (1 ≤ entry.session) × (entry.session ≤ length streams)) entries
  pub long : length counts ≡ length streams
  pub counted : (k : ℕ) → k < length streams → get_or counts k 0 ≡ said (k + 1) (take place order)
  pub within : (k : ℕ) → k < length streams → get_or counts k 0 ≤ length (slice_index_or streams k [])
  pub commands : (k : ℕ) → k < length streams → commands_of_session (k + 1) entries ≡ take (get_or counts k 0) (slice_index_or streams k [])
  pub before : AllBelow place (HasCommand streams order)

pub replayed_none : (streams : List (List Command)) (order : List ℕ) → HasReplayed streams order 0 [] (replicate (length streams) 0)
replayed_none streams order = record {
  sessions = refl;
  given = All-nil (λ (entry : Entry). (1 ≤ entry.session) × (entry.session ≤ length streams));
  long = length-replicate (length streams) 0;
  counted = λ k low. get_or-replicate (length streams) k 0 0 low;
  within = λ k low. let none : get_or (replicate {A = ℕ} (length streams) 0) k 0 ≡ 0 = get_or-replicate (length streams) k 0 0 low in omega arith;
  commands = λ k low. ap (λ n. take n (slice_index_or streams k [])) (sym (get_or-replicate (length streams) k 0 0 low));
  before = λ n low. absurd (omega arith);
}

-- the commands of a session with one entry more: its own, or another's
own_last : (xs : List Entry) (e : Entry) (n : ℕ) → e.session ≡ n → commands_of_session n (xs ++ e ∷ []) ≡ commands_of_session n xs ++ e.command ∷ []
own_last [] e n own = own_first e [] n own
own_last (x ∷ xs) e n own = elim (eqb_tells x.session n) [
  | inl same ↦
      own_first x (xs ++ e ∷ []) n same.1 ∙ ap (λ rest. x.command ∷ rest) (own_last xs e n own)
      ∙ ap (λ all. all ++ e.command ∷ []) (sym (own_first x xs n same.1))
  | inr other ↦ others_none x (xs ++ e ∷ []) n other.0 ∙ own_last xs e n own ∙ ap (λ all. all ++ e.command ∷ []) (sym (others_none x xs n other.0))
]

other_last : (xs : List Entry) (e : Entry) (n : ℕ) → nat_eq e.session n ≡ false → commands_of_session n (xs ++ e ∷ []) ≡ commands_of_session n xs
other_last [] e n other = others_none e [] n other
other_last (x ∷ xs) e n away = elim (eqb_tells x.session n) [
  | inl same ↦ own_first x (xs ++ e ∷ []) n same.1 ∙ ap (λ rest. x.command ∷ rest) (other_last xs e n away) ∙ sym (own_first x xs n same.1)
  | inr other ↦ others_none x (xs ++ e ∷ []) n other.0 ∙ other_last xs e n away ∙ sym (others_none x xs n other.0)
]

-- a session that is given has said as many commands as are counted
counted_of : (streams : List (List Command)) (order : List ℕ) (place session : ℕ) (entries : List Entry) (counts : List ℕ)
    → HasReplayed streams order place entries counts → 1 ≤ session → session ≤ length streams
    → get_or counts (session - 1) 0 ≡ said session (take place order)
counted_of streams order place session entries counts is low high =
    let number : (session - 1) + 1 ≡ session = omega arith in
    let below : session - 1 < length streams = omega arith in
    subst (λ n. get_or counts (session - 1) 0 ≡ said n (take place order)) number (is.counted (session - 1) below)

-- the next entry has a command where its session has one left
has_command : (streams : List (List Command)) (order : List ℕ) (place : ℕ) (entries : List Entry) (counts : List ℕ)
    → HasReplayed streams order place entries counts → HasNext streams counts (get_or order place 0) → HasCommand streams order place
has_command streams order place entries counts is has = record {
  numbered = has.numbered;
  given = has.given;
  left =
      subst (λ n. n < commands_in streams (get_or order place 0))
      (counted_of streams order place (get_or order place 0) entries counts is has.numbered has.given)
      has.left;
}

pub replayed_fails : (streams : List (List Command)) (order : List ℕ) (place : ℕ) (entries : List Entry) (counts : List ℕ)
    → HasReplayed streams order place entries counts → place < length order → ¬ HasNext streams counts (get_or order place 0)
    → FailsFirstAt (length order) (HasCommand streams order) place
replayed_fails streams order place entries counts is low none = record {
  within = low;
  before = is.before;
  fails = λ has. none (record {
    numbered = has.numbered;
    given = has.given;
    left =
        subst (λ n. n < commands_in streams (get_or order place 0))
        (sym (counted_of streams order place (get_or order place 0) entries counts is has.numbered has.given)) has.left;
  });
}

-- the count of one session goes up, and the others stay
pub said_own : (order : List ℕ) (place n : ℕ) → place < length order → get_or order place 0 ≡ n
    → said n (take (place + 1) order) ≡ said n (take place order) + 1
said_own order place n low own = count_by_more_yes (λ (one : ℕ). nat_eq one n) order place 0 low (let at = own in grind (arith, nat_tests))

said_other : (order : List ℕ) (place n : ℕ) → place < length order → get_or order place 0 ≢ n → said n (take (place + 1) order) ≡ said n (take place order)
said_other order place n low other = count_by_more_no (λ (one : ℕ). nat_eq one n) order place 0 low (let at = other in grind (arith, nat_tests))

-- one entry more: by the session of the next place, with its next command
pub replayed_more : (streams : List (List Command)) (order : List ℕ) (place session : ℕ) (entries : List Entry) (counts after : List ℕ) (command : Command)
    (reply : Reply)
    → HasReplayed streams order place entries counts → place < length order → session ≡ get_or order place 0
    → IsNextCommand streams counts session after command
    → HasReplayed streams order (place + 1) (entries ++ entry_of session command reply ∷ []) after
replayed_more streams order place session entries counts after command reply is low own next = record {
  sessions =
      map-append (λ (entry : Entry). entry.session) entries (entry_of session command reply ∷ []) ∙ ap (λ all. all ++ session ∷ []) is.sessions
      ∙ ap (λ s. take place order ++ s ∷ []) own ∙ sym (take_more order place 0 low);
  given = All-append (λ (entry : Entry). (1 ≤ entry.session) × (entry.session ≤ length streams)) entries (entry_of session command reply ∷ []) is.given
      (All-cons (λ (entry : Entry). (1 ≤ entry.session) × (entry.session ≤ length streams)) (entry_of session command reply) []
      (next.has.numbered, next.has.given) (All-nil (λ (entry : Entry). (1 ≤ entry.session) × (entry.session ≤ length streams))));
  long = ap length next.counted ∙ length-set counts (session - 1) (get_or counts (session - 1) 0 + 1) ∙ is.long;
  counted = λ k below. elim (eqb_tells k (session - 1)) [
    | inl same ↦
        at_own k below same.1 ∙ ap (λ n. n + 1) (is.counted k below)
        ∙ sym
        (said_own order place (k + 1) low
        (let e : k ≡ session - 1 = same.1 in let o : session ≡ get_or order place 0 = own in let h : 1
        ≤ session = next.has.numbered in omega arith))
    | inr other ↦
        at_other k other.1 ∙ is.counted k below
        ∙ sym (said_other order place (k + 1) low (λ e. other.1 (let o : session ≡ get_or order place 0 = own in omega arith)))
  ];
  within = λ k below. elim (eqb_tells k (session - 1)) [
    | inl same ↦ let now = at_own k below same.1 in let left = left_at k same.1 in omega arith
    | inr other ↦ let now = at_other k other.1 in let old = is.within k below in omega arith
  ];
  commands = λ k below. elim (eqb_tells k (session - 1)) [
    | inl same ↦
        own_last entries (entry_of session command reply) (k + 1) (let e : k ≡ session - 1 = same.1 in let h : 1 ≤ session = next.has.numbered in omega arith)
        ∙ ap (λ all. all ++ command ∷ []) (is.commands k below)
        ∙ ap (λ c. take (get_or counts k 0) (slice_index_or streams k []) ++ c ∷ []) (sym (said_next k same.1))
        ∙ sym (take_more (slice_index_or streams k []) (get_or counts k 0) command (left_at k same.1))
        ∙ ap (λ n. take n (slice_index_or streams k [])) (sym (at_own k below same.1))
    | inr other ↦
        other_last entries (entry_of session command reply) (k + 1) (let e = other.1 in let h : 1 ≤ session = next.has.numbered in away k e)
        ∙ is.commands k below ∙ ap (λ n. take n (slice_index_or streams k [])) (sym (at_other k other.1))
  ];
  before = λ n small. elim (eqb_tells n place) [
    | inl same ↦ subst (HasCommand streams order) (sym same.1) (has_command streams order place entries counts is (subst (HasNext streams counts) own next.has))
    | inr other ↦ is.before n (let e = other.1 in omega arith)
  ];
}
  where
    at_own : (k : ℕ) → k < length streams → k ≡ session - 1 → get_or after k 0 ≡ get_or counts k 0 + 1
    at_own k below same =
        let inside : session - 1 < length counts = let long = is.long in omega arith in
        ap (λ n. get_or after n 0) same ∙ ap (λ all. get_or all (session - 1) 0) next.counted
        ∙ get_or-set_same counts (session - 1) (get_or counts (session - 1) 0 + 1) 0 inside ∙ ap (λ n. get_or counts n 0 + 1) (sym same)

    at_other : (k : ℕ) → k ≢ session - 1 → get_or after k 0 ≡ get_or counts k 0
    at_other k other = ap (λ all. get_or all k 0) next.counted ∙ get_or-set_other counts (session - 1) k (get_or counts (session - 1) 0 + 1) 0 other

    left_at : (k : ℕ) → k ≡ session - 1 → get_or counts k 0 < length (slice_index_or streams k [])
    left_at k same = subst (λ n. get_or counts n 0 < length (slice_index_or streams n [])) (sym same) next.has.left

    said_next : (k : ℕ) → k ≡ session - 1 → get_or (slice_index_or streams k []) (get_or counts k 0) command ≡ command
    said_next k same = subst (λ n. get_or (slice_index_or streams n []) (get_or counts n 0) command ≡ command) (sym same)
        (get_or_from_slice_get (slice_index_or streams (session - 1) []) (get_or counts (session - 1) 0) command command next.next)

    away : (k : ℕ) → k ≢ session - 1 → nat_eq session (k + 1) ≡ false
    away k other = let apart : session ≢ k + 1 = λ e. other (omega arith) in grind (arith, nat_tests)

-- where all is said, the entries merge the streams
pub replayed_all : (streams : List (List Command)) (order : List ℕ) (entries : List Entry) (counts : List ℕ)
    → HasReplayed streams order (length order) entries counts → SaidAll streams counts
    → (sessions_of entries ≡ order) × MergesStreams streams entries
replayed_all streams order entries counts is all = (
  is.sessions ∙ take_all (length order) order (omega arith),
  record {
    given = is.given;
    whole = λ k below. is.commands k below ∙ take_all (get_or counts k 0) (slice_index_or streams k []) (all k below);
  },
)

-- where something is left, not all sessions say all their commands
pub replayed_left : (streams : List (List Command)) (order : List ℕ) (entries : List Entry) (counts : List ℕ)
    → HasReplayed streams order (length order) entries counts → ¬ SaidAll streams counts → ¬ SaysAll streams order
replayed_left streams order entries counts is left says = left (λ k below.
    let same : get_or counts k 0 ≡ said (k + 1) order = is.counted k below ∙ ap (said (k + 1)) (take_all (length order) order (omega arith)) in
    let number : (k + 1) - 1 ≡ k = omega arith in
    let here : length (slice_index_or streams k []) ≤ said (k + 1) order =
    subst (λ n. length (slice_index_or streams n []) ≤ said (k + 1) order) number (says k below) in
    omega arith)
