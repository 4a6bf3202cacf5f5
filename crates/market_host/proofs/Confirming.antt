-- `check` confirms what `run` wrote.
use Rattle.std.proofs.Common.{ℕ, ◌≡◌, ◌<◌, ◌≤◌, ◌+◌, List, [], ◌∷◌, ◌++◌, length, arith, sym, subst, refl, inl, inr}
use Rattle.std.specs.Prelude.{◌⊎◌, Option}
use Rattle.std.specs.List.{AllZip}
use Rattle.std.proofs.lemmas.Bool.{cases_lt}
use Rattle.std.proofs.lemmas.Slice.Zip.{AllZip-long}
use Rattle.plain_facts.proofs.Outcomes.{one_answer}
use Rattle.accepted_publications.proofs.Accepting.{published_accepted}
use Rattle.certificate_checker.specs.Certificates.{IsAccepted}
use Rattle.market_edge.specs.Holdings.{Holding, IsTextOf}
use Rattle.market_words.specs.declared.words.Form.TheVariants.{Check, Run}
use Rattle.market_words.specs.Forms.{HasForm, inputs_of}
use Rattle.market_words.proofs.OneForm.{one_form}
use Rattle.published_parts.specs.Markets.{Market, market_of}
use Rattle.utility_language.specs.declared.commands.Command.{Command}
use Rattle.utility_language.proofs.StreamLemmas.{one_list_a_text_law}
use Rattle.certificate_checker.specs.declared.findings.Finding.{Finding}
use Rattle.market_host.specs.declared.cause.Cause.{Cause}
use Rattle.market_host.specs.declared.status.Status.{Status}
use Rattle.market_host.specs.declared.status.Status.TheVariants.{Done, Usage, ShelfFault, Refused, TooLong, NoPrices, Found, Unknown, SinkFault, OutOfMemory}
use Rattle.market_host.specs.declared.trouble.Trouble.{Trouble}
use Rattle.market_host.specs.declared.trouble.Trouble.TheVariants as stops
use Rattle.market_host.specs.Confirmations.{Confirms, RunIsConfirmed}
use Rattle.market_host.specs.Inputs.{AreInOrder, AreRead, AreTold, HasFault}
use Rattle.market_words.specs.Kinds.{kind_of}
use Rattle.market_host.specs.Outcomes.{IsOutcome, IsStopped, Prints, TellsFinding, TellsNoName, TellsNoPrices}
use Rattle.market_host.specs.Markets.{IsMarketOf}
use Rattle.market_host.specs.Sessions.{AreStreams, session_text}
use Rattle.market_host.specs.Sights.{Sight}
use Rattle.market_host.specs.Statuses.{status_of}
use Rattle.market_host.specs.Troubles.{HasSurplus, HasTrouble, IsFaulty, IsPastLimit}
use Rattle.market_host.proofs.Completions.{no_excess, not_faulty, same_text}

-- inputs that are told were read as they are told
pub same_texts : (held : Option Holding) (names told texts : List (List ℕ)) → AreTold held names told → AllZip (IsTextOf held) names texts → told ≡ texts
same_texts held [] [] [] are each = refl
same_texts held [] [] (x ∷ texts) are each = absurd each
same_texts held [] (t ∷ told) texts are each = absurd are
same_texts held (n ∷ names) [] texts are each = absurd are
same_texts held (n ∷ names) (t ∷ told) [] are each = absurd each
same_texts held (n ∷ names) (t ∷ told) (x ∷ texts) are each =
    let first : t ≡ x = same_text held n t x are.0 each.0 in
    let rest : told ≡ texts = same_texts held names told texts are.1 each.1 in
    cc

-- the streams of sessions are one list
one_list : (sessions : List (List ℕ)) (one other : List (List Command)) → AreStreams sessions one → AreStreams sessions other → one ≡ other
one_list [] [] [] are also = refl
one_list [] [] (y ∷ other) are also = absurd also
one_list [] (x ∷ one) other are also = absurd are
one_list (s ∷ sessions) [] other are also = absurd are
one_list (s ∷ sessions) (x ∷ one) [] are also = absurd also
one_list (s ∷ sessions) (x ∷ one) (y ∷ other) are also =
    let first : x ≡ y = one_list_a_text_law (session_text s) x y are.0 also.0 in
    let rest : one ≡ other = one_list sessions one other are.1 also.1 in
    cc

-- what is so of the market and the streams that texts stand for is so of those that they also stand for
pub moved_market : (catalog roll settings : List ℕ) (sessions : List (List ℕ)) (one other : Market) (streams also : List (List Command))
    (P : Market → List (List Command) → Type 0)
    → IsMarketOf catalog roll settings sessions one streams
    → IsMarketOf catalog roll settings sessions other also → P one streams → P other also
moved_market catalog roll settings sessions one other streams also P is so holds =
    let offered : one.catalog ≡ other.catalog = one_answer _ one.catalog other.catalog is.catalog_says so.catalog_says in
    let enrolled : one.roll ≡ other.roll = one_answer _ one.roll other.roll is.roll_says so.roll_says in
    let rules : one.settings ≡ other.settings = one_answer _ one.settings other.settings is.settings_say so.settings_say in
    let said : streams ≡ also = one_list sessions streams also is.sessions_say so.sessions_say in
    subst (P other) said (subst (λ (market : Market). P market streams) (λ i. market_of (offered i) (enrolled i) (rules i)) holds)

-- sessions that are in order behind the inputs of `run` are so behind those of `check`
sessions_in_order : (workers : ℕ) (a b c d : List ℕ) (done sessions : List (List ℕ)) → AreInOrder (Run workers) (a ∷ b ∷ c ∷ done) sessions
    → AreInOrder Check (a ∷ b ∷ c ∷ d ∷ done) sessions
sessions_in_order workers a b c d done [] order = tt
sessions_in_order workers a b c d done (session ∷ sessions) order = (
  record { within = order.0.within; room = order.0.room; grammar = order.0.grammar },
  sessions_in_order workers a b c d (done ++ session ∷ []) sessions order.1,
)

module _ (workers : ℕ) (a b c d : List ℕ) (sessions : List (List ℕ)) (order : AreInOrder (Run workers) [] (a ∷ b ∷ c ∷ sessions)) where
  -- the first three inputs are in order for `check`
  front_order : AreInOrder Check [] (a ∷ b ∷ c ∷ [])
  front_order = (
    record { within = order.0.within; room = omega arith; grammar = order.0.grammar },
    (
      record { within = order.1.0.within; room = omega arith; grammar = order.1.0.grammar },
      (record { within = order.1.1.0.within; room = omega arith; grammar = order.1.1.0.grammar }, tt),
    ),
  )

  -- and all are, where the published text is within its limit
  whole_order : length d ≤ 67108864 → AreInOrder Check [] (a ∷ b ∷ c ∷ d ∷ sessions)
  whole_order short = (
    front_order.0,
    (
      front_order.1.0,
      (front_order.1.1.0, (record { within = short; room = omega arith; grammar = tt }, sessions_in_order workers a b c d [] sessions order.1.1.1)),
    ),
  )

-- a published text that was read as the fourth input is within its limit
far_within : (held : Option Holding) (a b c d : List ℕ) (sessions : List (List ℕ)) (e f g h : List ℕ) (more : List (List ℕ)) (name : List ℕ)
    (later texts : List (List ℕ))
    → AreTold held ((e ∷ f ∷ g ∷ h ∷ more) ++ name ∷ later) (a ∷ b ∷ c ∷ d ∷ sessions)
    → AreRead Check held (e ∷ f ∷ g ∷ h ∷ more) texts → length d ≤ 67108864
far_within held a b c d sessions e f g h more name later (t ∷ u ∷ v ∷ w ∷ texts) told read =
    subst (λ (text : List ℕ). length text ≤ 67108864) (sym (same_text held h d w told.1.1.1.0 read.each.1.1.1.0)) read.order.1.1.1.0.within
far_within held a b c d sessions e f g h more name later (t ∷ u ∷ v ∷ []) told read = absurd read.each.1.1.1
far_within held a b c d sessions e f g h more name later (t ∷ u ∷ []) told read = absurd read.each.1.1
far_within held a b c d sessions e f g h more name later (t ∷ []) told read = absurd read.each.1
far_within held a b c d sessions e f g h more name later [] told read = absurd read.each

-- `check` with the inputs of a `run` that was done, and a published text
module _ (seen : Sight) (workers : ℕ) (a b c d : List ℕ) (sessions : List (List ℕ)) (order : AreInOrder (Run workers) [] (a ∷ b ∷ c ∷ sessions)) where
  abbrev front : AreInOrder Check [] (a ∷ b ∷ c ∷ [])
  front = front_order workers a b c d sessions order

  -- no input is refused
  not_refused : (earlier later texts : List (List ℕ)) (name : List ℕ) (row : ℕ) (cause : Cause)
      → AreTold seen.held (earlier ++ name ∷ later) (a ∷ b ∷ c ∷ d ∷ sessions) → AreRead Check seen.held earlier texts
      → IsFaulty Check seen row cause texts name → ⊥
  not_refused [] later texts name row cause told read faulty =
      not_faulty Check seen (name ∷ []) (a ∷ []) (told.0, tt) (front.0, tt) [] [] texts name refl read.each row cause faulty
  not_refused (e ∷ []) later texts name row cause told read faulty =
      not_faulty Check seen (e ∷ name ∷ []) (a ∷ b ∷ []) (told.0, (told.1.0, tt)) (front.0, (front.1.0, tt)) (e ∷ []) [] texts name refl read.each row cause
      faulty
  not_refused (e ∷ f ∷ []) later texts name row cause told read faulty =
      not_faulty Check seen (e ∷ f ∷ name ∷ []) (a ∷ b ∷ c ∷ []) (told.0, (told.1.0, (told.1.1.0, tt))) front (e ∷ f ∷ []) [] texts name refl read.each row
      cause faulty
  not_refused (e ∷ f ∷ g ∷ []) later texts name row cause told read faulty =
      subst (λ n. HasFault (kind_of Check n) texts row cause faulty.1) (AllZip-long (IsTextOf seen.held) (e ∷ f ∷ g ∷ []) texts read.each) faulty.4
  not_refused (e ∷ f ∷ g ∷ h ∷ more) later texts name row cause told read faulty =
      not_faulty Check seen ((e ∷ f ∷ g ∷ h ∷ more) ++ name ∷ later) (a ∷ b ∷ c ∷ d ∷ sessions) told
      (whole_order workers a b c d sessions order (far_within seen.held a b c d sessions e f g h more name later texts told read)) (e ∷ f ∷ g ∷ h ∷ more) later
      texts name refl read.each row cause faulty

  -- no input is too long, but the published text where it is above its limit
  not_too_long : (earlier later texts : List (List ℕ)) (name : List ℕ) (number : ℕ) → AreTold seen.held (earlier ++ name ∷ later) (a ∷ b ∷ c ∷ d ∷ sessions)
      → AreRead Check seen.held earlier texts → number ≡ length earlier + 1
      → (IsPastLimit Check seen texts name ⊎ HasSurplus Check seen texts name) → (number ≡ 4) × (67108864 < length d)
  not_too_long [] later texts name number told read is excess =
      absurd (no_excess Check seen (name ∷ []) (a ∷ []) (told.0, tt) (front.0, tt) [] [] texts name refl read.each excess)
  not_too_long (e ∷ []) later texts name number told read is excess =
      absurd
      (no_excess Check seen (e ∷ name ∷ []) (a ∷ b ∷ []) (told.0, (told.1.0, tt)) (front.0, (front.1.0, tt)) (e ∷ []) [] texts name refl read.each excess)
  not_too_long (e ∷ f ∷ []) later texts name number told read is excess =
      absurd
      (no_excess Check seen (e ∷ f ∷ name ∷ []) (a ∷ b ∷ c ∷ []) (told.0, (told.1.0, (told.1.1.0, tt))) front (e ∷ f ∷ []) [] texts name refl read.each
      excess)
  not_too_long (e ∷ f ∷ g ∷ []) later texts name number told read is excess = (
    is,
    elim (cases_lt 67108864 (length d)) [
      | inl more ↦ more
      | inr within ↦
          absurd (no_excess Check seen (e ∷ f ∷ g ∷ name ∷ []) (a ∷ b ∷ c ∷ d ∷ []) (told.0, (told.1.0, (told.1.1.0, (told.1.1.1.0, tt))))
          (front.0, (front.1.0, (front.1.1.0, (record { within = (let h = within in omega arith); room = omega arith; grammar = tt }, tt)))) (e ∷ f ∷ g ∷ []) [] texts name refl read.each excess)
    ],
  )
  not_too_long (e ∷ f ∷ g ∷ h ∷ more) later texts name number told read is excess =
      absurd (no_excess Check seen ((e ∷ f ∷ g ∷ h ∷ more) ++ name ∷ later) (a ∷ b ∷ c ∷ d ∷ sessions) told
      (whole_order workers a b c d sessions order (far_within seen.held a b c d sessions e f g h more name later texts told read)) (e ∷ f ∷ g ∷ h ∷ more) later texts name refl read.each excess)

-- what `run` was given is in order, and the text that it printed is accepted
pub record IsRunRead (workers : ℕ) (a b c : List ℕ) (sessions : List (List ℕ)) (text : List ℕ) : Type 0 where
  pub order : AreInOrder (Run workers) [] (a ∷ b ∷ c ∷ sessions)
  pub market : Market
  pub streams : List (List Command)
  pub is_market : IsMarketOf a b c sessions market streams
  pub accepted : IsAccepted market streams text

run_read : (run : List (List ℕ)) (workers : ℕ) (seen : Sight) (a b c : List ℕ) (sessions : List (List ℕ)) (text : List ℕ) → HasForm run (Run workers)
    → AreTold seen.held (inputs_of (Run workers) run) (a ∷ b ∷ c ∷ sessions)
    → IsOutcome run seen Done text → IsRunRead workers a b c sessions text
run_read run workers seen a b c sessions text has told (form, have, texts, read, ended, prints) =
    let is : form ≡ Run workers = one_form run form (Run workers) have has in
    let reads : AreRead (Run workers) seen.held (inputs_of (Run workers) run) texts = subst (λ f. AreRead f seen.held (inputs_of f run) texts) is read in
    let same : texts ≡ a ∷ b ∷ c ∷ sessions = sym (same_texts seen.held (inputs_of (Run workers) run) (a ∷ b ∷ c ∷ sessions) texts told reads.each) in
    let printed : Prints (Run workers) (a ∷ b ∷ c ∷ sessions) text =
    subst (λ all. Prints (Run workers) all text) same (subst (λ f. Prints f texts text) is prints) in
    record {
      order = subst (AreInOrder (Run workers) []) same reads.order;
      market = printed.0;
      streams = printed.1;
      is_market = printed.2;
      accepted = published_accepted printed.0 printed.1 printed.3 text printed.4;
    }

-- what stops `check` is confirmed
stop_confirmed : (check : List (List ℕ)) (seen : Sight) (workers : ℕ) (a b c d : List ℕ) (sessions : List (List ℕ)) (stop : Trouble) (line : List ℕ)
    → AreInOrder (Run workers) [] (a ∷ b ∷ c ∷ sessions) → HasForm check Check
    → AreTold seen.held (inputs_of Check check) (a ∷ b ∷ c ∷ d ∷ sessions) → IsStopped check seen stop line → Confirms check seen d (status_of stop)
stop_confirmed check seen workers a b c d sessions stop line order has told (form, have, trouble, written) =
    confirmed stop (subst (λ f. HasTrouble f seen (inputs_of f check) stop) (one_form check form Check have has) trouble)
  where
    confirmed : (stop : Trouble) → HasTrouble Check seen (inputs_of Check check) stop → Confirms check seen d (status_of stop)
    confirmed (stops.ShelfFault n) (earlier, name, later, texts, split, number, read, failed) = (earlier, name, later, split, failed.0)
    confirmed (stops.Refused n row cause) (earlier, name, later, texts, split, number, read, faulty) =
        not_refused seen workers a b c d sessions order earlier later texts name row cause
        (subst (λ names. AreTold seen.held names (a ∷ b ∷ c ∷ d ∷ sessions)) split told) read faulty
    confirmed (stops.TooLong n) (earlier, name, later, texts, split, number, read, excess) =
        not_too_long seen workers a b c d sessions order earlier later texts name n
        (subst (λ names. AreTold seen.held names (a ∷ b ∷ c ∷ d ∷ sessions)) split told) read number excess
    confirmed stops.OutOfMemory has_it = tt

-- no finding is told of it
not_found : (check : List (List ℕ)) (seen : Sight) (workers : ℕ) (a b c : List ℕ) (sessions : List (List ℕ)) (text line : List ℕ) (finding : Finding)
    → IsRunRead workers a b c sessions text → HasForm check Check
    → AreTold seen.held (inputs_of Check check) (a ∷ b ∷ c ∷ text ∷ sessions) → IsOutcome check seen (Found finding) line → ⊥
not_found check seen workers a b c sessions text line finding run has told (form, have, texts, read, ended, tells) =
    let is : form ≡ Check = one_form check form Check have has in
    let reads : AreRead Check seen.held (inputs_of Check check) texts = subst (λ f. AreRead f seen.held (inputs_of f check) texts) is read in
    let same : texts ≡ a ∷ b ∷ c ∷ text ∷ sessions = sym (same_texts seen.held (inputs_of Check check) (a ∷ b ∷ c ∷ text ∷ sessions) texts told reads.each) in
    let found : TellsFinding Check (a ∷ b ∷ c ∷ text ∷ sessions) finding line =
    subst (λ all. TellsFinding Check all finding line) same (subst (λ f. TellsFinding f texts finding line) is tells) in
    found.3
    (moved_market a b c sessions run.market found.0 run.streams found.1 (λ market streams. IsAccepted market streams text) run.is_market found.2
    run.accepted)

-- `check` finds no want of prices
not_unpriced : (check : List (List ℕ)) (seen : Sight) (least : ℕ) (line : List ℕ) → HasForm check Check → IsOutcome check seen (NoPrices least) line → ⊥
not_unpriced check seen least line has (form, have, texts, read, ended, tells) =
    subst (λ f. TellsNoPrices f texts least line) (one_form check form Check have has) tells

-- `check` tells of no name
not_unknown : (check : List (List ℕ)) (seen : Sight) (word : ℕ) (line : List ℕ) → HasForm check Check → IsOutcome check seen (Unknown word) line → ⊥
not_unknown check seen word line has (form, have, texts, read, ended, tells) =
    subst (λ f. TellsNoName f texts word line) (one_form check form Check have has) tells

confirm : (check : List (List ℕ)) (seen : Sight) (workers : ℕ) (a b c : List ℕ) (sessions : List (List ℕ)) (text line : List ℕ) (status : Status)
    → IsRunRead workers a b c sessions text → HasForm check Check
    → AreTold seen.held (inputs_of Check check) (a ∷ b ∷ c ∷ text ∷ sessions) → IsOutcome check seen status line → Confirms check seen text status
confirm check seen workers a b c sessions text line Done run has told outcome = tt
confirm check seen workers a b c sessions text line Usage run has told outcome = outcome.0 Check has
confirm check seen workers a b c sessions text line (ShelfFault n) run has told outcome =
    stop_confirmed check seen workers a b c text sessions (stops.ShelfFault n) line run.order has told outcome
confirm check seen workers a b c sessions text line (Refused n row cause) run has told outcome =
    stop_confirmed check seen workers a b c text sessions (stops.Refused n row cause) line run.order has told outcome
confirm check seen workers a b c sessions text line (TooLong n) run has told outcome =
    stop_confirmed check seen workers a b c text sessions (stops.TooLong n) line run.order has told outcome
confirm check seen workers a b c sessions text line (NoPrices least) run has told outcome = not_unpriced check seen least line has outcome
confirm check seen workers a b c sessions text line (Found finding) run has told outcome =
    not_found check seen workers a b c sessions text line finding run has told outcome
confirm check seen workers a b c sessions text line (Unknown word) run has told outcome = not_unknown check seen word line has outcome
confirm check seen workers a b c sessions text line SinkFault run has told outcome = outcome
confirm check seen workers a b c sessions text line OutOfMemory run has told outcome = tt

pub run_confirmed : RunIsConfirmed
run_confirmed run check at_run at_check text written status ran is outcome =
    confirm check at_check is.workers is.catalog is.roll is.settings is.sessions text written status
    (run_read run is.workers at_run is.catalog is.roll is.settings is.sessions text is.is_run is.told_to_run ran) is.is_check is.told_to_check outcome
