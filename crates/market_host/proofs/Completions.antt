-- Where every input is held and in order, the work is ended, or memory is wanted.
use Rattle.std.proofs.Common.{ℕ, ◌≡◌, ◌≢◌, ◌≤◌, ◌+◌, List, [], ◌∷◌, ◌++◌, length, arith, ap, sym, subst, ◌∙◌, refl, append_assoc, inl, inr}
use Rattle.std.specs.Prelude.{◌⊎◌, All, Option, Some, None, MatchResult, slice_index_or, ⊤}
use Rattle.std.specs.List.{AllZip}
use Rattle.std.proofs.lemmas.List.{append-nil, length-append}
use Rattle.course_catalog.specs.Catalog.{CatalogData}
use Rattle.market_edge.specs.Faults.{Rose}
use Rattle.market_edge.specs.Holdings.{Holding, IsLeftOf, IsTextOf, TakesExactly, text_of, told_text}
use Rattle.market_words.specs.declared.words.Form.{Form}
use Rattle.price_sheet.specs.Sheets.{prices_of}
use Rattle.market_words.specs.Forms.{inputs_of}
use Rattle.market_words.proofs.OneForm.{one_form}
use Rattle.market_host.specs.declared.cause.Cause.{Cause}
use Rattle.market_host.specs.declared.status.Status.{Status}
use Rattle.market_host.specs.declared.status.Status.TheVariants.{Done, Usage, ShelfFault, Refused, TooLong, NoPrices, Found, Unknown, SinkFault, OutOfMemory}
use Rattle.market_host.specs.declared.trouble.Trouble.{Trouble}
use Rattle.market_host.specs.declared.trouble.Trouble.TheVariants as trouble
use Rattle.market_host.specs.Completeness.{CanBeDone, EndsWork}
use Rattle.market_host.specs.Inputs.{AreInOrder, AreTold, BeginWithCatalog, HasFault, IsInOrder, IsOfGrammar}
use Rattle.market_words.specs.Kinds.{Kind, Catalog, Roll, Settings, Prices, Published, Session, kind_of, limit_of}
use Rattle.market_host.specs.Outcomes.{IsOutcome, IsStopped}
use Rattle.market_host.specs.Sights.{Sight}
use Rattle.market_host.specs.Statuses.{status_of}
use Rattle.market_host.specs.Troubles.{HasSurplus, HasTrouble, IsFaulty, IsPastLimit}
use Rattle.market_host.proofs.ReadOut.{answered}

at_seam : (xs ys : List (List ℕ)) (y : List ℕ) → slice_index_or (xs ++ y ∷ ys) (length xs) y ≡ y
at_seam [] ys y = refl
at_seam (x ∷ xs) ys y = at_seam xs ys y

-- what holds of each item holds of this one
holds_at_seam : (P : List ℕ → Type 0) (xs ys : List (List ℕ)) (y : List ℕ) → All P (xs ++ y ∷ ys) → P y
holds_at_seam P xs ys y all = subst P (at_seam xs ys y) (all (length xs) y (omega (arith, length-append xs (y ∷ ys))))

-- a name has one text where it is told
pub same_text : (held : Option Holding) (name told text : List ℕ) → told_text held name ≡ Some told → IsTextOf held name text → told ≡ text
same_text None name told text is whole = cc
same_text (Some holding) name told text is whole = cc

-- an input among those that are told and in order has a told text, which is in order behind the texts of the earlier ones
in_order_at : (form : Form) (held : Option Holding) (front earlier later told texts : List (List ℕ)) (name : List ℕ)
    → AreTold held (earlier ++ name ∷ later) told
    → AreInOrder form front told → AllZip (IsTextOf held) earlier texts
    → (text : List ℕ) × (told_text held name ≡ Some text) × IsInOrder form (front ++ texts) text
in_order_at form held front [] later [] texts name are order each = absurd are
in_order_at form held front [] later (t ∷ told) [] name are order each = (t, are.0, rw (append-nil front) order.0)
in_order_at form held front [] later (t ∷ told) (s ∷ texts) name are order each = absurd each
in_order_at form held front (e ∷ earlier) later [] texts name are order each = absurd are
in_order_at form held front (e ∷ earlier) later (t ∷ told) [] name are order each = absurd each
in_order_at form held front (e ∷ earlier) later (t ∷ told) (s ∷ texts) name are order each =
    let same : t ≡ s = same_text held e t s are.0 each.0 in
    let rest = in_order_at form held (front ++ t ∷ []) earlier later told texts name are.1 order.1 each.1 in
    let joined : (front ++ t ∷ []) ++ texts ≡ front ++ s ∷ texts = append_assoc front (t ∷ []) texts ∙ ap (λ first. front ++ first ∷ texts) same in
    (rest.0, rest.1, subst (λ all. IsInOrder form all rest.0) joined rest.2)

-- texts begin with one catalogue at most
one_catalog : (texts : List (List ℕ)) (one other : CatalogData) → BeginWithCatalog texts one → BeginWithCatalog texts other → one ≡ other
one_catalog [] one other is same = absurd is
one_catalog (text ∷ texts) one other is same = cc

-- a text of its grammar has no fault
no_fault : (kind : Kind) (earlier : List (List ℕ)) (row : ℕ) (cause : Cause) (text : List ℕ) → IsOfGrammar kind earlier text
    → HasFault kind earlier row cause text → ⊥
no_fault Catalog earlier row cause text good fault = subst (λ read. MatchResult read (λ _. ⊤) (λ _. ⊥)) (sym good.1 ∙ fault.1) tt
no_fault Roll earlier row cause text good fault = subst (λ read. MatchResult read (λ _. ⊤) (λ _. ⊥)) (sym good.1 ∙ fault.1) tt
no_fault Settings earlier row cause text good fault = subst (λ read. MatchResult read (λ _. ⊤) (λ _. ⊥)) (sym good.1 ∙ fault.1) tt
no_fault Prices earlier row cause text good fault =
    let same : good.0 ≡ fault.0 = one_catalog earlier good.0 fault.0 good.2 fault.1 in
    subst (λ read. MatchResult read (λ _. ⊤) (λ _. ⊥)) (sym good.3 ∙ ap (λ (catalog : CatalogData). prices_of catalog.sections text) same ∙ fault.2.1) tt
no_fault Published earlier row cause text good fault = absurd fault
no_fault Session earlier row cause text good fault = absurd fault

left_is_short : (count : ℕ) (text : List ℕ) (told left : Option (List ℕ)) → told ≡ Some text → IsLeftOf count told left → count ≤ length text
left_is_short count text (Some bytes) (Some rest) is left = let same : bytes ≡ text = cc in subst (λ all. count ≤ length all) same left.1
left_is_short count text (Some bytes) None is left = absurd left
left_is_short count text None left is taken = absurd taken

-- a told text of which so many bytes were taken has as many
taken_of_told : (count : ℕ) (held : Option Holding) (name text : List ℕ) (left : Option (List ℕ)) → told_text held name ≡ Some text
    → TakesExactly count held name left → count ≤ length text
taken_of_told count None name text left is taken = absurd cc
taken_of_told count (Some holding) name text left is taken = left_is_short count text (text_of holding name) left is taken

-- a form, what is seen of the shelf, and the names of inputs whose told texts are in order
module _ (form : Form) (seen : Sight) (inputs told : List (List ℕ)) (are : AreTold seen.held inputs told) (order : AreInOrder form [] told) where
  module _ (earlier later texts : List (List ℕ)) (name : List ℕ) (split : inputs ≡ earlier ++ name ∷ later)
      (each : AllZip (IsTextOf seen.held) earlier texts) where
    found : (text : List ℕ) × (told_text seen.held name ≡ Some text) × IsInOrder form texts text
    found = in_order_at form seen.held [] earlier later told texts name (subst (λ names. AreTold seen.held names told) split are) order each

    -- the input is not too long
    pub no_excess : (IsPastLimit form seen texts name ⊎ HasSurplus form seen texts name) → ⊥
    no_excess (inl past) =
        absurd (omega (arith, taken_of_told (limit_of (kind_of form (length texts)) + 1) seen.held name found.0 seen.left found.1 past, found.2.within))
    no_excess (inr (ended, text, whole, within, more)) =
        let good : IsInOrder form texts text = subst (IsInOrder form texts) (same_text seen.held name found.0 text found.1 whole) found.2 in
        absurd (omega (arith, good.room, more))

    -- the input has no fault
    pub not_faulty : (row : ℕ) (cause : Cause) → IsFaulty form seen row cause texts name → ⊥
    not_faulty row cause (ended, text, whole, within, fault) =
        let good : IsInOrder form texts text = subst (IsInOrder form texts) (same_text seen.held name found.0 text found.1 whole) found.2 in
        no_fault (kind_of form (length texts)) texts row cause text good.grammar fault

  -- they have no trouble but want of memory, where no fault was counted
  no_trouble : All (λ name. ¬ Rose (seen.before name) (seen.after name)) inputs → (stop : Trouble) → HasTrouble form seen inputs stop
      → EndsWork (status_of stop)
  no_trouble sound (trouble.ShelfFault n) (earlier, name, later, texts, split, number, read, failed) =
      absurd
      (holds_at_seam (λ input. ¬ Rose (seen.before input) (seen.after input)) earlier later name
      (subst (All (λ input. ¬ Rose (seen.before input) (seen.after input))) split sound) failed.0)
  no_trouble sound (trouble.Refused n row cause) (earlier, name, later, texts, split, number, read, faulty) =
      absurd (not_faulty earlier later texts name split read.each row cause faulty)
  no_trouble sound (trouble.TooLong n) (earlier, name, later, texts, split, number, read, excess) =
      absurd (no_excess earlier later texts name split read.each excess)
  no_trouble sound trouble.OutOfMemory has = tt

-- what stops a call that can be done is want of memory, since words have one form
memory_alone : (words : List (List ℕ)) (seen : Sight) (stop : Trouble) (text : List ℕ) → CanBeDone words seen → IsStopped words seen stop text
    → EndsWork (status_of stop)
memory_alone words seen stop text can stopped =
    no_trouble can.0 seen (inputs_of can.0 words) can.2 can.3 can.4 can.5 stop
    (subst (λ form. HasTrouble form seen (inputs_of form words) stop) (one_form words stopped.0 can.0 stopped.1 can.1) stopped.2)

-- the outcome of a call that can be done ends the work
completes : (words : List (List ℕ)) (seen : Sight) (status : Status) (text : List ℕ) → CanBeDone words seen → IsOutcome words seen status text → EndsWork status
completes words seen Done text can outcome = tt
completes words seen Usage text can outcome = absurd (outcome.0 can.0 can.1)
completes words seen (ShelfFault n) text can outcome = memory_alone words seen (trouble.ShelfFault n) text can outcome
completes words seen (Refused n row cause) text can outcome = memory_alone words seen (trouble.Refused n row cause) text can outcome
completes words seen (TooLong n) text can outcome = memory_alone words seen (trouble.TooLong n) text can outcome
completes words seen (NoPrices least) text can outcome = tt
completes words seen (Found finding) text can outcome = tt
completes words seen (Unknown word) text can outcome = tt
completes words seen OutOfMemory text can outcome = tt
completes words seen SinkFault text can outcome = absurd outcome

-- the same where a write may have failed, and no failure was counted
pub completes_unless : (words : List (List ℕ)) (seen : Sight) (R : Type 0) (result status : Status) (text : List ℕ) → (result ≢ SinkFault → result ≡ status)
    → (result ≡ SinkFault → R)
    → IsOutcome words seen status text → CanBeDone words seen → ¬ R → EndsWork result
completes_unless words seen R result status text same fault outcome can none =
    answered EndsWork result status (λ is. absurd (none (fault is))) same (completes words seen status text can outcome)
