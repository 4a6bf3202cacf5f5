-- A cursor over the inputs of a call, and the input that it comes to.
use Rattle.std.proofs.Common.{ℕ, zero, suc, ◌≡◌, ◌<◌, ◌≤◌, ◌+◌, ◌-◌, List, [], ◌∷◌, ◌++◌, length, take, drop, get_or, map, arith, ap, subst, sym, ◌∙◌, refl, Global}
use Rattle.std.specs.Prelude.{Err, IfErr, IfOk, MatchResult, Ok, Result, String, Vec}
use Rattle.std.specs.List.{AllZip}
use Rattle.std.specs.String.{string_bytes}
use Rattle.std.proofs.Math.Seq.{drop-cons}
use Rattle.std.proofs.lemmas.List.{length-append, length-map, length-take-le, take-append-drop, take_all, take_more}
use Rattle.market_edge.specs.declared.shelf.Shelf as Shelf
use Rattle.market_words.specs.declared.call.Call.{Call}
use Rattle.market_words.specs.declared.words.Form.{Form}
use Rattle.market_words.specs.Inputs.{IsCall, names_in}
use Rattle.market_words.specs.Kinds.{Catalog, Kind, OpensPublished, OpensWith, Published, Roll, Settings, front_of, kind_behind, kind_of, limit_of, streams_of}
use Rattle.published_parts.specs.Markets.{Market}
use Rattle.utility_language.specs.Commands.{command_lines}
use Rattle.utility_language.specs.declared.commands.Command.{Command}
use Rattle.market_host.specs.declared.cause.Cause.{Cause}
use Rattle.market_host.specs.declared.inputs.Inputs.{Inputs}
use Rattle.market_host.specs.declared.trouble.Trouble.{Trouble}
use Rattle.market_host.specs.declared.trouble.Trouble.TheVariants.{OutOfMemory, Refused, ShelfFault, TooLong}
use Rattle.market_host.specs.Inputs.{HasFault, IsOfGrammar, commands_among}
use Rattle.market_host.specs.Markets.{IsMarketOf, SayMarket}
use Rattle.market_host.specs.Reading.{IsRefusal, IsSurplus}
use Rattle.market_host.specs.Sessions.{AreStreams, command_count, session_text}
use Rattle.market_host.specs.Taking.{AreTaken, HasMore, HasRead, InputStops, IsNext, IsReadWhole, OneStops, Reads, behind, unread}
use Rattle.market_host.specs.Traces.{AreReadUntil, trace}
use Rattle.market_host.proofs.InputTroubles.{front_in_order, texts_long}
use Rattle.market_host.proofs.SessionsRead.{commands_more, session_in_order}
use Rattle.market_host.proofs.StreamFacts.{count_of_session}
use Rattle.market_host.proofs.TraceFacts.{until_before, until_memory}
use Rattle.market_host.proofs.Taking.{next_no_memory, next_refused, next_surplus, next_taken, next_unread, none_taken}

-- as many inputs as names
pub names_long : (call : Call) → length (names_in call) ≡ length call.front.now + length call.streams.now
names_long call =
    length-append (map string_bytes call.front.now) (map string_bytes call.streams.now)
    ∙ ap (λ n. n + length (map string_bytes call.streams.now)) (length-map call.front.now string_bytes)
    ∙ ap (λ n. length call.front.now + n) (length-map call.streams.now string_bytes)

name_in_streams : (streams : List (String Global)) (place : ℕ) (name : String Global) → place < length streams → name ≡ get_or streams place name
    → string_bytes name ≡ get_or (map string_bytes streams) place (string_bytes name)
name_in_streams [] place name below is = absurd (omega arith)
name_in_streams (first ∷ streams) zero name below is = ap string_bytes is
name_in_streams (first ∷ streams) (suc place) name below is = name_in_streams streams place name (omega arith) is

-- the name of an input in front of the streams
pub name_in_front : (front streams : List (String Global)) (place : ℕ) (name : String Global) → place < length front → name ≡ get_or front place name
    → string_bytes name ≡ get_or (map string_bytes front ++ map string_bytes streams) place (string_bytes name)
name_in_front [] streams place name below is = absurd (omega arith)
name_in_front (first ∷ front) streams zero name below is = ap string_bytes is
name_in_front (first ∷ front) streams (suc place) name below is = name_in_front front streams place name (omega arith) is

-- the name of a stream
pub name_behind : (front streams : List (String Global)) (place : ℕ) (name : String Global) → length front ≤ place
    → place - length front < length streams → name ≡ get_or streams (place - length front) name
    → string_bytes name ≡ get_or (map string_bytes front ++ map string_bytes streams) place (string_bytes name)
name_behind [] streams place name from below is =
    let same : place - 0 ≡ place = omega arith in
    name_in_streams streams place name (omega (arith, below)) (is ∙ ap (λ n. get_or streams n name) same)
name_behind (first ∷ front) streams zero name from below is = absurd (omega arith)
name_behind (first ∷ front) streams (suc place) name from below is =
    let same : suc place - length (first ∷ front) ≡ place - length front = omega arith in
    name_behind front streams place name (omega (arith, from)) (omega (arith, below)) (is ∙ ap (λ n. get_or streams n name) same)

-- a form whose first inputs have these kinds has at least as many in front of its streams
pub front_long : (form : Form) (kinds : List Kind) → OpensWith kinds form → length kinds ≤ length (front_of form)
front_long form kinds opens = omega (arith, ap length opens.1, length-append kinds opens.0)

-- the kind of an input is that at its place
pub kind_in : (form : Form) (kinds : List Kind) → (opens : OpensWith kinds form) → (count : ℕ)
    → kind_of form count ≡ kind_behind (kinds ++ opens.0) (streams_of form) count
kind_in form kinds opens count = ap (λ front. kind_behind front (streams_of form) count) opens.1

-- the inputs in front of the sessions of a form that looks at a published text are these, and no others
pub all_published : (form : Form) → OpensPublished form → OpensWith (Catalog ∷ Roll ∷ Settings ∷ Published ∷ []) form
all_published form opens = ([], opens.0)

module _ {H : Type 0} (shelf : Shelf.Ghosts H) (form : Form) where
  -- nothing is read yet
  pub none_read_yet : (words : List (List ℕ)) (call : Call) (a : H) → IsCall words form call → HasRead shelf form (names_in call) (unread call) [] a a
  none_read_yet words call a is = record { named = refl; front_long = is.front_long; count = refl; taken = none_taken shelf form a }

  -- memory is wanted behind what is read
  pub memory_behind : (names texts : List (List ℕ)) (inputs : Inputs) (a b : H) → HasRead shelf form names inputs texts a b
      → OneStops shelf form names a b OutOfMemory
  memory_behind names texts inputs a b has =
      let until : AreReadUntil (trace shelf a b) (take inputs.read names ++ drop inputs.read names) 1 OutOfMemory =
      until_before shelf a b (take inputs.read names) (drop inputs.read names) 1 OutOfMemory (until_memory shelf a b (take inputs.read names) 1 has.taken.used) in
      record {
        trouble = tt;
        used = subst (λ (all : List (List ℕ)). AreReadUntil (trace shelf a b) all 1 OutOfMemory) (take-append-drop inputs.read names) until;
        kept = has.taken.kept;
      }

  -- all is read
  pub all_read : (names texts : List (List ℕ)) (inputs : Inputs) (a b : H) → HasRead shelf form names inputs texts a b
      → inputs.read ≡ length inputs.call.front.now + length inputs.call.streams.now → AreTaken shelf form names texts a b
  all_read names texts inputs a b has all =
      let whole : take inputs.read names ≡ names = take_all inputs.read names (omega (arith, ap length has.named, names_long inputs.call, all)) in
      subst (λ (taken : List (List ℕ)). AreTaken shelf form taken texts a b) whole has.taken

  module _ (names texts : List (List ℕ)) (start b c : H) (inputs : Inputs) (name : List ℕ) (more : HasMore inputs 1)
      (is : name ≡ get_or (names_in inputs.call) inputs.read name) (has : HasRead shelf form names inputs texts start b) where
    below : inputs.read < length names
    below = omega (arith, more, ap length has.named, names_long inputs.call)

    here : name ≡ get_or names inputs.read name
    here = is ∙ ap (λ (all : List (List ℕ)). get_or all inputs.read name) (sym has.named)

    split : names ≡ take inputs.read names ++ name ∷ drop (suc inputs.read) names
    split =
        sym (take-append-drop inputs.read names) ∙ ap (λ rest. take inputs.read names ++ rest) (drop-cons names inputs.read name below)
        ∙ ap (λ (n : List ℕ). take inputs.read names ++ n ∷ drop (suc inputs.read) names) (sym here)

    further : take (inputs.read + 1) names ≡ take inputs.read names ++ name ∷ []
    further = take_more names inputs.read name below ∙ ap (λ (n : List ℕ). take inputs.read names ++ n ∷ []) (sym here)

    long : length (take inputs.read names) ≡ inputs.read
    long = length-take-le inputs.read names (omega (arith, below))

    known : length (take inputs.read names) ≡ length texts
    known = sym (texts_long form (shelf.shows start).holds (take inputs.read names) texts has.taken.read)

    number : inputs.read + 1 ≡ length (take inputs.read names) + 1
    number = omega (arith, long)

    whole : (stop : Trouble) → OneStops shelf form (take inputs.read names ++ name ∷ drop (suc inputs.read) names) start c stop
        → OneStops shelf form names start c stop
    whole stop stops = subst (λ (all : List (List ℕ)). OneStops shelf form all start c stop) (sym split) stops

    is_next : (limit : ℕ) (text : List ℕ) → limit_of (kind_of form (length texts)) ≡ limit → IsReadWhole shelf limit name b c text
        → IsNext shelf form names (behind inputs 1) texts start c text
    is_next limit text of one =
        let within : length text ≤ limit_of (kind_of form (length texts)) = subst (λ n. length text ≤ n) (sym of) one.within in
        record {
          within = within;
          taken = λ order. record {
            named = has.named;
            front_long = has.front_long;
            count = omega (arith, has.count, length-append texts (text ∷ []));
            taken =
                subst (λ (taken : List (List ℕ)). AreTaken shelf form taken (texts ++ text ∷ []) start c) (sym further)
                (next_taken shelf form start b c (take inputs.read names) texts has.taken name limit text one order);
          };
          refused = λ row cause fault.
              whole (Refused (inputs.read + 1) row cause)
              (next_refused shelf form start b c (take inputs.read names) texts has.taken name (inputs.read + 1) (drop (suc inputs.read) names) number limit
              text one within row cause fault);
          surplus = λ surplus.
              whole (TooLong (inputs.read + 1))
              (next_surplus shelf form start b c (take inputs.read names) texts has.taken name (inputs.read + 1) (drop (suc inputs.read) names) number limit
              text one within surplus);
          no_memory =
              whole OutOfMemory
              (next_no_memory shelf form start b c (take inputs.read names) texts has.taken name (inputs.read + 1) (drop (suc inputs.read) names) number limit
              text one within);
        }

    -- the next input is read, or it stops the call
    pub reads_next : (limit : ℕ) (result : Result (Vec ℕ Global) Trouble) → limit_of (kind_of form (length texts)) ≡ limit
        → Reads shelf limit name (inputs.read + 1) b c result
        → MatchResult result (λ bytes. IsNext shelf form names (behind inputs 1) texts start c bytes.items) (OneStops shelf form names start c)
    reads_next limit (Ok bytes) of one = is_next limit bytes.items of one
    reads_next limit (Err stop) of said =
        whole stop
        (next_unread shelf form start b c (take inputs.read names) texts has.taken name (inputs.read + 1) (drop (suc inputs.read) names) number
        (kind_of form (length texts)) stop (ap (kind_of form) known)
        (subst (λ n. InputStops shelf n name (inputs.read + 1) b c stop) (sym of) said))

  -- what the text of the next input says is had, or it stops the call
  module _ (names texts : List (List ℕ)) (start c : H) (inputs : Inputs) (text : List ℕ) (next : IsNext shelf form names inputs texts start c text) where
    pub takes_next : {A : Type 0} (kind : Kind) (P : List ℕ → A → Type 0) (IsSo : ℕ → Cause → Type 0) (result : Result A Trouble)
        → kind_of form (length texts) ≡ kind → length texts < length (front_of form) → ((said : A) → P text said → IsOfGrammar kind texts text)
        → ((row : ℕ) (cause : Cause) → IsSo row cause → HasFault kind texts row cause text)
        → IfOk result (P text) → IfErr result (IsRefusal IsSo inputs.read)
        → MatchResult result (λ said. (t : List ℕ) × HasRead shelf form names inputs (texts ++ t ∷ []) start c × P t said) (OneStops shelf form names start c)
    takes_next kind P IsSo (Ok said) of front grammar fault says refused =
        (text, next.taken (front_in_order form kind texts text of front next.within (grammar said says)), says)
    takes_next kind P IsSo (Err (Refused n row cause)) of front grammar fault says refused =
        subst (λ m. OneStops shelf form names start c (Refused m row cause)) (sym refused.0)
        (next.refused row cause (subst (λ k. HasFault k texts row cause text) (sym of) (fault row cause refused.1)))
    takes_next kind P IsSo (Err OutOfMemory) of front grammar fault says refused = next.no_memory
    takes_next kind P IsSo (Err (ShelfFault n)) of front grammar fault says refused = absurd refused
    takes_next kind P IsSo (Err (TooLong n)) of front grammar fault says refused = absurd refused

    pub takes_stream : {A : Type 0} (IsItemOf : List (List ℕ) → A → Type 0) (room : ℕ) (result : Result (Vec A Global) Trouble)
        → length (front_of form) ≤ length texts → commands_among form texts + room ≡ 200000
        → IfOk result (λ items. AllZip IsItemOf (command_lines (session_text text)) items.items × (command_count text ≤ room))
        → IfErr result (IsSurplus text room inputs.read)
        → MatchResult result
        (λ stream. (t : List ℕ) × HasRead shelf form names inputs (texts ++ t ∷ []) start c
        × AllZip IsItemOf (command_lines (session_text t)) stream.items)
        (OneStops shelf form names start c)
    takes_stream IsItemOf room (Ok stream) behind left says surplus = (
      text,
      next.taken (session_in_order form texts text behind next.within (omega (arith, commands_more form texts text behind, left, says.1))),
      says.0,
    )
    takes_stream IsItemOf room (Err (TooLong n)) behind left says surplus =
        subst (λ m. OneStops shelf form names start c (TooLong m)) (sym surplus.0)
        (next.surplus (omega (arith, commands_more form texts text behind, left, surplus.1)))
    takes_stream IsItemOf room (Err OutOfMemory) behind left says surplus = next.no_memory
    takes_stream IsItemOf room (Err (ShelfFault n)) behind left says surplus = absurd surplus
    takes_stream IsItemOf room (Err (Refused n row cause)) behind left says surplus = absurd surplus

  pub takes_text : (names texts : List (List ℕ)) (start c : H) (inputs : Inputs) (result : Result (Vec ℕ Global) Trouble)
      → kind_of form (length texts) ≡ Published → length texts < length (front_of form)
      → MatchResult result (λ bytes. IsNext shelf form names inputs texts start c bytes.items) (OneStops shelf form names start c)
      → MatchResult result (λ said. (t : List ℕ) × HasRead shelf form names inputs (texts ++ t ∷ []) start c × (t ≡ said.items)) (OneStops shelf form names start c)
  takes_text names texts start c inputs (Ok bytes) of front next =
      (bytes.items, next.taken (front_in_order form Published texts bytes.items of front next.within tt), refl)
  takes_text names texts start c inputs (Err stop) of front stops = stops

-- what is read is within its limit
pub reads_within : {H : Type 0} (shelf : Shelf.Ghosts H) (limit : ℕ) (name : List ℕ) (number : ℕ) (a b : H) (result : Result (Vec ℕ Global) Trouble)
    → Reads shelf limit name number a b result → IfOk result (λ text. length text.items ≤ limit)
reads_within shelf limit name place a b (Ok text) one = one.within
reads_within shelf limit name place a b (Err stop) said = tt

-- there are as many items as there is room for
pub items_few : {A : Type 0} (IsItemOf : List (List ℕ) → A → Type 0) (text : List ℕ) (room : ℕ) (result : Result (Vec A Global) Trouble)
    → IfOk result (λ items. AllZip IsItemOf (command_lines (session_text text)) items.items × (command_count text ≤ room))
    → IfOk result (λ items. length items.items ≤ room)
items_few IsItemOf text room (Ok items) says = omega (arith, count_of_session IsItemOf text items.items says.0, says.1)
items_few IsItemOf text room (Err stop) says = tt

-- a market, and what its sessions say
pub with_sessions : (catalog roll settings : List ℕ) (sessions : List (List ℕ)) (market : Market) (streams : List (List Command))
    → SayMarket catalog roll settings market → AreStreams sessions streams → IsMarketOf catalog roll settings sessions market streams
with_sessions catalog roll settings sessions market streams say are =
    record { catalog_says = say.catalog_says; roll_says = say.roll_says; settings_say = say.settings_say; sessions_say = are }
