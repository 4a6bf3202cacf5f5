-- Inputs that were read to their ends, and the status of a call.
use Rattle.std.proofs.Common.{ℕ, ◌≡◌, ◌≢◌, ◌≤◌, List, [], ◌∷◌, ◌++◌, length, arith, ap, sym, subst, ◌∙◌, refl, inl, inr}
use Rattle.std.specs.Prelude.{◌⊎◌, ⊤}
use Rattle.std.proofs.lemmas.List.{length-append}
use Rattle.market_words.specs.declared.words.Form.{Form}
use Rattle.market_words.specs.Forms.{inputs_of}
use Rattle.market_words.proofs.OneForm.{one_form}
use Rattle.market_host.specs.declared.status.Status.{Status}
use Rattle.market_host.specs.declared.status.Status.TheVariants.{Done, Usage, ShelfFault, Refused, TooLong, NoPrices, Found, Unknown, SinkFault, OutOfMemory}
use Rattle.market_host.specs.declared.trouble.Trouble.{Trouble}
use Rattle.market_host.specs.declared.trouble.Trouble.TheVariants as trouble
use Rattle.market_host.specs.Ends.{IsReadOutAt, IsWhollyRead}
use Rattle.market_host.specs.Outcomes.{IsLastAtEnd, IsOutcome, IsStopped, IsWorkedOut, Prints, TellsFinding, TellsNoName, TellsNoPrices}
use Rattle.market_host.specs.Sights.{Sight}
use Rattle.market_host.specs.Statuses.{status_of}
use Rattle.market_host.specs.Troubles.{IsAtEnd}

-- the input at one place has one name
one_name : (front more earlier later : List (List ℕ)) (a name : List ℕ) → front ++ a ∷ more ≡ earlier ++ name ∷ later → length earlier ≡ length front → name ≡ a
one_name [] more [] later a name split place = cc
one_name [] more (e ∷ earlier) later a name split place = absurd (omega arith)
one_name (f ∷ front) more [] later a name split place = absurd (omega arith)
one_name (f ∷ front) more (e ∷ earlier) later a name split place =
    let rest : front ++ a ∷ more ≡ earlier ++ name ∷ later = cc in
    one_name front more earlier later a name rest (omega arith)

-- behind other names, the last of all is the last of these
last_behind : (front names earlier : List (List ℕ)) (last : List ℕ) → 1 ≤ length names → front ++ names ≡ earlier ++ last ∷ []
    → (rest : List (List ℕ)) × (names ≡ rest ++ last ∷ [])
last_behind [] names earlier last some split = (earlier, split)
last_behind (f ∷ front) names [] last some split =
    let long : length (f ∷ front ++ names) ≡ 1 = ap length split in absurd (omega (arith, length-append front names))
last_behind (f ∷ front) names (e ∷ earlier) last some split =
    let rest : front ++ names ≡ earlier ++ last ∷ [] = cc in last_behind front names earlier last some rest

-- the last of several names is the one that was added
pub one_last : (names earlier : List (List ℕ)) (name last : List ℕ) → names ++ name ∷ [] ≡ earlier ++ last ∷ [] → last ≡ name
one_last names earlier name last split =
    let long : length (names ++ name ∷ []) ≡ length (earlier ++ last ∷ []) = ap length split in
    one_name names [] earlier [] name last split (omega (arith, length-append names (name ∷ []), length-append earlier (last ∷ [])))

-- of no names none is the last
pub none_at_end : (seen : Sight) → IsLastAtEnd seen []
none_at_end seen earlier last split =
    let long : 0 ≡ length (earlier ++ last ∷ []) = ap length split in
    absurd (omega (arith, length-append earlier (last ∷ [])))

-- the name that was added is the last
pub added_at_end : (seen : Sight) (all names : List (List ℕ)) (name : List ℕ) → all ≡ names ++ name ∷ [] → IsAtEnd seen name → IsLastAtEnd seen all
added_at_end seen all names name is ended earlier last split = subst (IsAtEnd seen) (sym (one_last names earlier name last (sym is ∙ split))) ended

-- the last of the inputs behind others is the last of all
pub behind_at_end : (seen : Sight) (all front names : List (List ℕ)) → all ≡ front ++ names → 1 ≤ length names → IsLastAtEnd seen names → IsLastAtEnd seen all
behind_at_end seen all front names is some ended earlier last split =
    let found = last_behind front names earlier last some (sym is ∙ split) in
    ended found.0 last found.1

-- where the work was ended, all inputs were read to their ends
wholly_read : (words : List (List ℕ)) (seen : Sight) (P : Form → List (List ℕ) → Type 0) → IsWorkedOut words seen P → IsWhollyRead words seen
wholly_read words seen P (form, has, texts, read, ended, holds) =
    λ other have. subst (λ f. IsLastAtEnd seen (inputs_of f words)) (one_form words form other has have) ended

-- the outcome of a call says what was read to its end
read_out : (words : List (List ℕ)) (seen : Sight) (status : Status) (text : List ℕ) → IsOutcome words seen status text → IsReadOutAt words seen status
read_out words seen Done text outcome = wholly_read words seen (λ form texts. Prints form texts text) outcome
read_out words seen (NoPrices least) text outcome = wholly_read words seen (λ form texts. TellsNoPrices form texts least text) outcome
read_out words seen (Found finding) text outcome = wholly_read words seen (λ form texts. TellsFinding form texts finding text) outcome
read_out words seen (Unknown word) text outcome = wholly_read words seen (λ form texts. TellsNoName form texts word text) outcome
read_out words seen (Refused n row cause) text (form, has, (earlier, name, later, texts, split, number, read, faulty), line) =
    λ other have earlier' name' later' split' number'.
    let names : earlier ++ name ∷ later ≡ earlier' ++ name' ∷ later' = sym split ∙ ap (λ f. inputs_of f words) (one_form words form other has have) ∙ split' in
    let same : name' ≡ name = one_name earlier later earlier' later' name name' names (omega arith) in
    subst (IsAtEnd seen) (sym same) faulty.0
read_out words seen Usage text outcome = tt
read_out words seen (ShelfFault n) text outcome = tt
read_out words seen (TooLong n) text outcome = tt
read_out words seen OutOfMemory text outcome = tt
read_out words seen SinkFault text outcome = absurd outcome

IsSinkFault : Status → Type 0
IsSinkFault SinkFault = ⊤
IsSinkFault status = ⊥

apart : (status : Status) → (IsSinkFault status → ⊥) → status ≢ SinkFault
unfolding IsSinkFault
apart status is e = is (subst IsSinkFault (sym e) tt)

-- a status is that of a sink fault, or not
sink_fault_or_not : (status : Status) → (status ≡ SinkFault) ⊎ (status ≢ SinkFault)
unfolding IsSinkFault
sink_fault_or_not SinkFault = inl refl
sink_fault_or_not Done = inr (apart Done (λ is. is))
sink_fault_or_not Usage = inr (apart Usage (λ is. is))
sink_fault_or_not (ShelfFault n) = inr (apart (ShelfFault n) (λ is. is))
sink_fault_or_not (Refused n row cause) = inr (apart (Refused n row cause) (λ is. is))
sink_fault_or_not (TooLong n) = inr (apart (TooLong n) (λ is. is))
sink_fault_or_not (NoPrices least) = inr (apart (NoPrices least) (λ is. is))
sink_fault_or_not (Found finding) = inr (apart (Found finding) (λ is. is))
sink_fault_or_not (Unknown word) = inr (apart (Unknown word) (λ is. is))
sink_fault_or_not OutOfMemory = inr (apart OutOfMemory (λ is. is))

settled : (P : Status → Type 0) (result status : Status) → (result ≡ SinkFault) ⊎ (result ≢ SinkFault) → (result ≡ SinkFault → P result)
    → (result ≢ SinkFault → result ≡ status) → P status → P result
settled P result status (inl is) fault same holds = fault is
settled P result status (inr other) fault same holds = subst P (sym (same other)) holds

-- what holds of the status that was to be answered holds of the answer, if it holds where a write failed
pub answered : (P : Status → Type 0) (result status : Status) → (result ≡ SinkFault → P result) → (result ≢ SinkFault → result ≡ status) → P status → P result
answered P result status fault same holds = settled P result status (sink_fault_or_not result) fault same holds

-- what was read to its end, also where a write failed
pub read_out_unless : (words : List (List ℕ)) (seen : Sight) (result status : Status) (text : List ℕ) → (result ≢ SinkFault → result ≡ status)
    → IsOutcome words seen status text → IsReadOutAt words seen result
read_out_unless words seen result status text same outcome =
    answered (IsReadOutAt words seen) result status (λ fault. subst (IsReadOutAt words seen) (sym fault) tt) same (read_out words seen status text outcome)

-- what stops a call is an outcome
pub stopped_outcome : (words : List (List ℕ)) (seen : Sight) (stop : Trouble) (text : List ℕ) → IsStopped words seen stop text
    → IsOutcome words seen (status_of stop) text
stopped_outcome words seen (trouble.ShelfFault n) text stopped = stopped
stopped_outcome words seen (trouble.Refused n row cause) text stopped = stopped
stopped_outcome words seen (trouble.TooLong n) text stopped = stopped
stopped_outcome words seen trouble.OutOfMemory text stopped = stopped

-- no trouble has the status of a sink fault
pub stopped_apart : (stop : Trouble) → status_of stop ≢ SinkFault
unfolding IsSinkFault
stopped_apart (trouble.ShelfFault n) = apart (ShelfFault n) (λ is. is)
stopped_apart (trouble.Refused n row cause) = apart (Refused n row cause) (λ is. is)
stopped_apart (trouble.TooLong n) = apart (TooLong n) (λ is. is)
stopped_apart trouble.OutOfMemory = apart OutOfMemory (λ is. is)
