-- The records that an iterator has given so far begin the finished list of records of its text.
use Rattle.std.proofs.Common.{◌≡◌, ◌≤◌, ◌<◌, ◌+◌, ◌++◌, ◌⊎◌, ℕ, zero, suc, List, [], ◌∷◌, Option, Some, None, length, refl, sym, ◌∙◌, ap, inl, inr, arith}
use Rattle.std.proofs.lemmas.Bool.{cases_Bool}
use Rattle.std.proofs.lemmas.List.{append-nil}
use Rattle.csv.specs.Machine.{Read, next_record, ends_at_end, step, is_end, fields_after, field_after}
use Rattle.std.proofs.Common.{Bor, ◌^◌, ◌-◌, length-append, true, false}
use Rattle.csv.proofs.ReadFacts.{rows-end, rows-more}
use Rattle.csv.specs.declared.reader.Reader.{Reader}
use Rattle.csv.specs.declared.error.ErrorKind.{ErrorKind}
use Rattle.csv.specs.declared.error.ErrorKind.TheVariants as kind
use Rattle.csv.specs.Reading.{ExplainsRead, Reached, ReadRecord, stops_reader, records_from, records_next, default_config, strip_bom, is_bom}
use Rattle.csv.specs.declared.iter.ByteRecordsIntoIter.{ByteRecordsIntoIter}
use Rattle.table_records.specs.Records.{records_of}
use Rattle.table_records.specs.Walk.{HasGiven}
use Rattle.csv.specs.declared.parser.Config.{Config}
use Rattle.csv.specs.declared.parser.State.{State}
use Rattle.csv.specs.declared.parser.State.TheVariants as st

-- a record leaves no more text than there was
next-shorter : (cfg : Config) (s : State) (f : List (List ℕ)) (d xs : List ℕ) (p : Read) → next_record cfg s f d xs ≡ Some p → length p.2 ≤ length xs
unfolding next_record
next-shorter cfg s f d [] p e =
    elim (cases_Bool (ends_at_end s)) [
      | inl t ↦ let h = rw t at e in grind arith
      | inr n ↦ let h = rw n at e in cc h
    ]
next-shorter cfg s f d (c ∷ rest) p e =
    elim (cases_Bool (is_end (step cfg s c).1)) [
      | inl t ↦ let h = rw t at e in grind arith
      | inr n ↦
          let h = next-shorter cfg (step cfg s c).0 (fields_after (step cfg s c).1 f d) (field_after (step cfg s c).1 c d) rest p (rw n at e) in grind arith
    ]

next-at-end : (cfg : Config) (s : State) (f : List (List ℕ)) (d : List ℕ) (p : Read) → next_record cfg s f d [] ≡ Some p → (p.1 ≡ st.StartRecord) × (p.2 ≡ [])
unfolding next_record
next-at-end cfg s f d p e =
    elim (cases_Bool (ends_at_end s)) [
      | inl t ↦ let h = rw t at e in (cc h, cc h)
      | inr n ↦ let h = rw n at e in cc h
    ]

none-at-start : (cfg : Config) → next_record cfg st.StartRecord [] [] [] ≡ None
unfolding next_record
none-at-start cfg = refl

-- n records are enough for what is left
abbrev Enough : ℕ → State → List ℕ → Type 0
Enough n s xs = (length xs < n) ⊎ ((s ≡ st.StartRecord) × (xs ≡ []))

next-shrinks : (cfg : Config) (s : State) (c : ℕ) (rest : List ℕ) (p : Read) → next_record cfg s [] [] (c ∷ rest) ≡ Some p → length p.2 ≤ length rest
unfolding next_record
next-shrinks cfg s c rest p e =
    elim (cases_Bool (is_end (step cfg s c).1)) [
      | inl t ↦ let h = rw t at e in grind arith
      | inr n ↦ next-shorter cfg (step cfg s c).0 (fields_after (step cfg s c).1 [] []) (field_after (step cfg s c).1 c []) rest p (rw n at e)
    ]

enough-more : (cfg : Config) (n : ℕ) (s : State) (xs : List ℕ) (p : Read) → Enough (suc n) s xs → next_record cfg s [] [] xs ≡ Some p → Enough n p.1 p.2
enough-more cfg n s [] p h e = inr (next-at-end cfg s [] [] p e)
enough-more cfg n s (c ∷ rest) p (inl h) e = inl (let k = next-shrinks cfg s c rest p e in grind arith)
enough-more cfg n s (c ∷ rest) p (inr h) e = absurd (cc (h.1))

enough-some : (cfg : Config) (n : ℕ) (s : State) (xs : List ℕ) (p : Read) → Enough n s xs → next_record cfg s [] [] xs ≡ Some p → (m : ℕ) × (n ≡ suc m)
enough-some cfg (suc n) s xs p h e = (n, refl)
enough-some cfg zero s xs p (inl h) e = absurd (omega arith)
enough-some cfg zero s xs p (inr h) e = absurd (cc (rw (h.0, h.1) at e, none-at-start cfg))

-- what is reached begins the list of records, and the rest are the records from there
pub reached-splits : (cfg : Config) (n : ℕ) (s s2 : State) (xs ys : List ℕ) (rows : List (List (List ℕ))) → Enough n s xs → Reached cfg s xs rows s2 ys
    → (m : ℕ) × Enough m s2 ys × (records_from cfg n s xs ≡ rows ++ records_from cfg m s2 ys)
unfolding Reached records_from
reached-splits cfg n s s2 xs ys [] enough (es, ex) = (n, rw (← es, ← ex) enough, rw (es, ex) refl)
reached-splits cfg zero s s2 xs ys (r ∷ rs) enough (p, e, er, more) = let k = enough-some cfg zero s xs p enough e in absurd (omega (arith, k.1))
reached-splits cfg (suc n) s s2 xs ys (r ∷ rs) enough (p, e, er, more) =
    let (m, left, is) = reached-splits cfg n p.1 s2 p.2 ys rs (enough-more cfg n s xs p enough e) more in
    (m, left, rw (e, er, is) refl)

records-end : (cfg : Config) (m : ℕ) (s : State) (ys : List ℕ) → next_record cfg s [] [] ys ≡ None → records_from cfg m s ys ≡ []
unfolding records_from
records-end cfg zero s ys e = refl
records-end cfg (suc m) s ys e = rw e refl

length-next : (n : ℕ) (more : State → List ℕ → List (List (List ℕ))) → ((s : State) (xs : List ℕ) → length (more s xs) ≤ n) → (r : Option Read)
    → length (records_next more r) ≤ suc n
length-next n more h None = omega arith
length-next n more h (Some p) = omega (arith, h p.1 p.2)

length-records_from : (cfg : Config) (n : ℕ) (s : State) (xs : List ℕ) → length (records_from cfg n s xs) ≤ n
unfolding records_from
length-records_from cfg zero s xs = omega arith
length-records_from cfg (suc n) s xs = length-next n (records_from cfg n) (length-records_from cfg n) (next_record cfg s [] [] xs)

length-strip_bom : (text : List ℕ) → length (strip_bom text) ≤ length text
unfolding strip_bom
length-strip_bom [] = omega arith
length-strip_bom (a ∷ []) = omega arith
length-strip_bom (a ∷ b ∷ []) = omega arith
length-strip_bom (a ∷ b ∷ c ∷ rest) = elim (cases_Bool (is_bom a b c)) [ inl t ↦ rw t (grind arith) | inr f ↦ rw f (omega arith) ]

-- a text has at most one record more than bytes
pub length-records_of : (text : List ℕ) → length (records_of text) ≤ length text + 1
length-records_of text = omega (arith, length-strip_bom text, length-records_from default_config (length (strip_bom text) + 1) st.StartRecord (strip_bom text))

-- how an iterator over a text's records sees the bytes that it reads from
abbrev pub known : Bor (List ℕ) → Option (List ℕ)
known text = Some text.now

-- one more record that was given
pub given-more : (text : List ℕ) (old new : ByteRecordsIntoIter (Bor (List ℕ))) (given : List (List (List ℕ))) (fields : List (List ℕ))
    → HasGiven text old given → ReadRecord known old.rdr new.rdr true fields → new.rdr.first ≡ true → 0 < new.left → new.rdr.flexible ≡ old.rdr.flexible
    → HasGiven text new (given ++ fields ∷ [])
given-more text old new given fields has reads first left flexible =
    let m = rows-more known old.rdr new.rdr fields default_config st.StartRecord (strip_bom text) has.rest given has.config has.source has.reached reads in
    record {
      untrimmed = reads.3 ∙ has.untrimmed;
      ready = inl first;
      flexible = flexible ∙ has.flexible;
      left = left;
      config = reads.2 ∙ has.config;
      rest = m.0;
      source = m.1;
      reached = m.2;
    }

-- where no record is left, the given ones are all
pub given-all : (text : List ℕ) (old new : ByteRecordsIntoIter (Bor (List ℕ))) (given : List (List (List ℕ)))
    → HasGiven text old given → ReadRecord known old.rdr new.rdr false [] → records_of text ≡ given
given-all text old new given has reads =
    let (m, left, is) =
    reached-splits default_config (length (strip_bom text) + 1) st.StartRecord old.rdr.state (strip_bom text) has.rest given (inl (omega arith))
    has.reached in
    is
    ∙ ap (λ (t : List (List (List ℕ))). given ++ t)
    (records-end default_config m old.rdr.state has.rest (rows-end known old.rdr new.rdr [] default_config has.rest has.config has.source reads))
    ∙ append-nil given

-- the given records begin the list of all
pub given-begin : (text : List ℕ) (it : ByteRecordsIntoIter (Bor (List ℕ))) (given : List (List (List ℕ))) → HasGiven text it given
    → (rest : List (List (List ℕ))) × (records_of text ≡ given ++ rest)
given-begin text it given has =
    let (m, left, is) =
    reached-splits default_config (length (strip_bom text) + 1) st.StartRecord it.rdr.state (strip_bom text) has.rest given (inl (omega arith)) has.reached in
    (records_from default_config m it.rdr.state has.rest, is)

-- the records that are left after some rows are few enough to count
pub given-count : (text : List ℕ) (it : ByteRecordsIntoIter (Bor (List ℕ))) (first fields : List (List ℕ)) (later : List (List (List ℕ)))
    → length text < 2 ^ 32 - 1
    → HasGiven text it ((first ∷ later) ++ fields ∷ []) → length later + 2 < 2 ^ 32
given-count text it first fields later short has =
    let (rest, all) = given-begin text it ((first ∷ later) ++ fields ∷ []) has in
    omega (arith, length-records_of text, ap length all, length-append ((first ∷ later) ++ fields ∷ []) rest, length-append (first ∷ later) (fields ∷ []))

-- where records may have any number of fields, a read of bytes fails for nothing but what lies under the reader
pub only-stops : (old new : Reader (Bor (List ℕ))) (kind : ErrorKind) → old.flexible ≡ true → ExplainsRead known old new false kind → stops_reader kind ≡ true
only-stops old new (kind.Io e) flexible why = refl
only-stops old new kind.OutOfMemory flexible why = refl
only-stops old new (kind.UnequalLengths pos expected len) flexible why = absurd (cc (sym flexible ∙ why.0))
only-stops old new (kind.Utf8 pos err) flexible why = absurd (cc (why.0))
only-stops old new (kind.Serialize text) flexible why = absurd why
only-stops old new (kind.Deserialize pos err) flexible why = absurd why
