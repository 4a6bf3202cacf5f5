-- Inputs that were read, and inputs that stopped the reading.
use Rattle.std.proofs.Common.{ℕ, ◌≡◌, ◌<◌, ◌≤◌, ◌+◌, List, [], ◌∷◌, ◌++◌, length, drop, arith, ap, sym, subst, ◌∙◌, refl, append_assoc, inl}
use Rattle.std.specs.Prelude.{◌⊎◌, Option}
use Rattle.std.proofs.lemmas.List.{append-nil, length-append}
use Rattle.std.proofs.Math.ListN.{drop_of_length-le}
use Rattle.market_units.specs.Totals.{total}
use Rattle.std.proofs.lemmas.Slice.Zip.{AllZip-long}
use Rattle.std.proofs.lemmas.List.Elements.{AllZip-push}
use Rattle.market_edge.specs.Holdings.{Holding, IsTextOf, TakesExactly}
use Rattle.market_words.specs.declared.words.Form.{Form}
use Rattle.market_host.specs.declared.trouble.Trouble.{Trouble}
use Rattle.market_host.specs.declared.trouble.Trouble.TheVariants.{ShelfFault, Refused, TooLong, OutOfMemory}
use Rattle.market_host.specs.Inputs.{AreInOrder, AreRead, IsInOrder, IsOfGrammar, commands_among, commands_in}
use Rattle.market_words.specs.Kinds.{Kind, front_of, kind_of, limit_of, streams_of}
use Rattle.market_host.specs.Reading.{IsUnread}
use Rattle.market_host.specs.Sights.{Sight}
use Rattle.market_host.specs.Troubles.{AtInput, HasSurplus, HasTrouble, IsFailed, IsPastLimit}
use Rattle.market_host.proofs.Shelves.{seen_from}

-- texts in order, and one more behind them
in_order_more : (form : Form) (earlier texts : List (List ℕ)) (text : List ℕ) → AreInOrder form earlier texts → IsInOrder form (earlier ++ texts) text
    → AreInOrder form earlier (texts ++ text ∷ [])
in_order_more form earlier [] text order next = (subst (λ all. IsInOrder form all text) (append-nil earlier) next, tt)
in_order_more form earlier (first ∷ more) text order next = (
  order.0,
  in_order_more form (earlier ++ first ∷ []) more text order.1
      (subst (λ all. IsInOrder form all text) (sym (append_assoc earlier (first ∷ []) more)) next),
)

-- one input more was read
pub read_more : (form : Form) (held : Option Holding) (names texts : List (List ℕ)) (name text : List ℕ) → AreRead form held names texts
    → IsTextOf held name text → IsInOrder form texts text
    → AreRead form held (names ++ name ∷ []) (texts ++ text ∷ [])
read_more form held names texts name text read is order =
    record { each = AllZip-push (IsTextOf held) names texts name text read.each is; order = in_order_more form [] texts text read.order order }

-- as many texts were read as there are names
pub texts_long : (form : Form) (held : Option Holding) (names texts : List (List ℕ)) → AreRead form held names texts → length texts ≡ length names
texts_long form held names texts read = AllZip-long (IsTextOf held) names texts read.each

-- the kind of an input, by the texts before it
pub kind_at : (form : Form) (held : Option Holding) (names texts : List (List ℕ)) (kind : Kind) → AreRead form held names texts
    → kind_of form (length names) ≡ kind → kind_of form (length texts) ≡ kind
kind_at form held names texts kind read is = ap (kind_of form) (texts_long form held names texts read) ∙ is

-- an input in front of the streams that is within its limit of bytes and of its grammar is in order
pub front_in_order : (form : Form) (kind : Kind) (texts : List (List ℕ)) (text : List ℕ) → kind_of form (length texts) ≡ kind
    → length texts < length (front_of form) → length text ≤ limit_of (kind_of form (length texts)) → IsOfGrammar kind texts text → IsInOrder form texts text
front_in_order form kind texts text is front within grammar =
    let none : drop (length (front_of form)) (texts ++ text ∷ []) ≡ [] =
    drop_of_length-le (texts ++ text ∷ []) (omega (arith, front, length-append texts (text ∷ []))) in
    let free : commands_among form (texts ++ text ∷ []) ≡ 0 = ap (total (commands_in (streams_of form))) none in
    record { within = within; room = omega (arith, free); grammar = subst (λ k. IsOfGrammar k texts text) (sym is) grammar }

-- no input was read yet
pub none_read : (form : Form) (held : Option Holding) → AreRead form held [] []
none_read form held = record { each = tt; order = tt }

-- a form, what is seen of the shelf, and an input with those before and behind it
module _ (form : Form) (seen : Sight) (earlier texts later : List (List ℕ)) (name : List ℕ) (number : ℕ) (read : AreRead form seen.held earlier texts)
    (is : number ≡ length earlier + 1) where
  pub at_input : (n : ℕ) (P : List (List ℕ) → List ℕ → Type 0) → n ≡ number → P texts name → AtInput form seen (earlier ++ name ∷ later) n P
  at_input n P same p = (earlier, name, later, texts, refl, same ∙ is, read, p)

  -- an input of this kind that was not read
  pub trouble_of_unread : (kind : Kind) (trouble : Trouble) → kind_of form (length earlier) ≡ kind → IsUnread (limit_of kind) seen name number trouble
      → HasTrouble form seen (earlier ++ name ∷ later) trouble
  trouble_of_unread kind (ShelfFault n) of unread =
      at_input n (λ all. IsFailed (limit_of (kind_of form (length all))) seen) unread.0
      (subst (λ k. IsFailed (limit_of k) seen name) (sym (kind_at form seen.held earlier texts kind read of)) unread.1)
  trouble_of_unread kind (TooLong n) of unread =
      at_input n (λ all input. IsPastLimit form seen all input ⊎ HasSurplus form seen all input) unread.0
      (inl (subst (λ k. TakesExactly (limit_of k + 1) seen.held name seen.left) (sym (kind_at form seen.held earlier texts kind read of)) unread.1))
  trouble_of_unread kind OutOfMemory of unread = tt
  trouble_of_unread kind (Refused n row cause) of unread = absurd unread

failed_before : (limit : ℕ) (seen : Sight) (before : List ℕ → ℕ) (name : List ℕ) → ((other : List ℕ) → before other ≤ seen.before other)
    → IsFailed limit seen name → IsFailed limit (seen_from seen.held before seen) name
failed_before limit seen before name later failed = (omega (arith, later name, failed.0), failed.1)

same_held : (form : Form) (before : List ℕ → ℕ) (seen : Sight) (inputs : List (List ℕ)) (trouble : Trouble)
    → ((other : List ℕ) → before other ≤ seen.before other)
    → HasTrouble form seen inputs trouble → HasTrouble form (seen_from seen.held before seen) inputs trouble
same_held form before seen inputs (ShelfFault n) later trouble = (
  trouble.0,
  trouble.1,
  trouble.2,
  trouble.3,
  trouble.4,
  trouble.5,
  trouble.6,
  failed_before (limit_of (kind_of form (length trouble.3))) seen before trouble.1 later trouble.7,
)
same_held form before seen inputs (Refused n row cause) later trouble = trouble
same_held form before seen inputs (TooLong n) later trouble = trouble
same_held form before seen inputs OutOfMemory later trouble = tt

-- the trouble of an input that was begun later is the trouble of the whole call
pub trouble_before : (form : Form) (held : Option Holding) (before : List ℕ → ℕ) (seen : Sight) (inputs : List (List ℕ)) (trouble : Trouble) → seen.held ≡ held
    → ((other : List ℕ) → before other ≤ seen.before other) → HasTrouble form seen inputs trouble → HasTrouble form (seen_from held before seen) inputs trouble
trouble_before form held before seen inputs trouble same later has =
    subst (λ h. HasTrouble form (seen_from h before seen) inputs trouble) same (same_held form before seen inputs trouble later has)
