-- What was begun of a shelf, call by call.
use Rattle.std.proofs.Common.{ℕ, zero, suc, ◌≡◌, ◌++◌, Bool, true, false, List, [], ◌∷◌, map, Some, None, ap, sym, ◌∙◌, refl, get_or, ◌<◌, length, arith, nat_eq}
use Rattle.std.specs.Prelude.{Option, ◌||◌, ◌+◌, if◌then◌else◌, is_some, nat_le, ⊤}
use Rattle.std.specs.Option.{option_map_or}
use Rattle.std.specs.String.{string_bytes}
use Rattle.std.proofs.lemmas.Bool.Decides.{nat_tests}
use Rattle.std.proofs.lemmas.List.{append-nil, length-append, length-map, map-append}
use Rattle.std.proofs.lemmas.List.Quantifiers.{position-Some}
use Rattle.std.proofs.lemmas.Slice.Eq.{bytes_eq-Decides}
use Rattle.market_edge.specs.declared.memory_files.Place.{Place}
use Rattle.market_edge.specs.MemoryFiles.{File, earlier_of, has_name, listed_within, name_at, opening_of, openings_of, place_of}
use Rattle.market_edge.specs.Openings.{Opening, Changes, as_before, tells_on, with_begun, with_end, with_read_out}

-- a text that is begun last is ended
ended : (openings : List Opening) (name : List ℕ) (b : Bool) → with_end (openings ++ (name, b) ∷ []) ≡ openings ++ (name, true) ∷ []
ended [] name b = refl
ended (one ∷ []) name b = refl
ended (one ∷ next ∷ more) name b = ap (λ rest. one ∷ rest) (ended (next ∷ more) name b)

-- a text that is begun and then read to its end
pub begun_and_ended : (old mid new : Option (List Opening)) (name : List ℕ) → Changes old mid (with_begun name) → Changes mid new with_end
    → Changes old new (with_read_out (name ∷ []))
begun_and_ended old mid None name p q = tt
begun_and_ended old None (Some z) name p q = absurd q
begun_and_ended None (Some y) (Some z) name p q = absurd p
begun_and_ended (Some x) (Some y) (Some z) name p q = q ∙ ap with_end p ∙ ended x name false

-- such a list has grown by these texts, where it is told still
abbrev Lists : Option (List (ℕ × Bool)) → Option (List (ℕ × Bool)) → List (ℕ × Bool) → Type 0
Lists old None texts = ⊤
Lists None (Some new) texts = ⊥
Lists (Some old) (Some new) texts = new ≡ old ++ texts

kept : (told : Bool) (all new : List (ℕ × Bool)) → Some new ≡ (if told then Some all else None) → new ≡ all
kept true all new p = ap (λ (told : Option (List (ℕ × Bool))). option_map_or (λ texts. texts) told []) p
kept false all new p = absurd cc

grown : (room : ℕ) (old new : Option (List (ℕ × Bool))) (texts : List (ℕ × Bool)) → new ≡ listed_within room old texts → Lists old new texts
grown room old None texts p = tt
grown room None (Some new) texts p = absurd cc
grown room (Some old) (Some new) texts p = kept (nat_le (length old + length texts) room) (old ++ texts) new p

no_more : (files : List File) (old new : Option (List (ℕ × Bool))) (begun : Option Place) (was is : Bool) → Lists old new (earlier_of begun was)
    → Changes (openings_of files old begun was) (openings_of files new None is) as_before
no_more files old None begun was is p = tt
no_more files None (Some z) begun was is p = absurd p
no_more files (Some x) (Some z) begun was is p = ap (map (opening_of files)) (append-nil z ∙ p)

-- the begun text is put behind the others, and no text is begun
pub closed : (files : List File) (room : ℕ) (old new : Option (List (ℕ × Bool))) (begun : Option Place) (was is : Bool)
    → new ≡ listed_within room old (earlier_of begun was) → Changes (openings_of files old begun was) (openings_of files new None is) as_before
closed files room old new begun was is p = no_more files old new begun was is (grown room old new (earlier_of begun was) p)

one_begun : (files : List File) (old new : Option (List (ℕ × Bool))) (begun : Option Place) (was : Bool) (place : Place) (name : List ℕ)
    → name_at files place.file ≡ name → Lists old new (earlier_of begun was)
    → Changes (openings_of files old begun was) (openings_of files new (Some place) false) (with_begun name)
one_begun files old None begun was place name named p = tt
one_begun files None (Some z) begun was place name named p = absurd p
one_begun files (Some x) (Some z) begun was place name named p =
    map-append (opening_of files) z ((place.file, false) ∷ [])
    ∙ ap (λ front. map (opening_of files) front ++ (name_at files place.file, false) ∷ []) p
    ∙ ap (λ bytes. map (opening_of files) (x ++ earlier_of begun was) ++ (bytes, false) ∷ []) named

-- the same, and a text is begun
pub opened : (files : List File) (room : ℕ) (old new : Option (List (ℕ × Bool))) (begun : Option Place) (was : Bool) (place : Place) (name : List ℕ)
    → name_at files place.file ≡ name → new ≡ listed_within room old (earlier_of begun was)
    → Changes (openings_of files old begun was) (openings_of files new (Some place) false) (with_begun name)
opened files room old new begun was place name named p = one_begun files old new begun was place name named (grown room old new (earlier_of begun was) p)

some_if : (files : List File) (told : Bool) (all : List (ℕ × Bool)) (now : Option Place) (is : Bool)
    → is_some (openings_of files (if told then Some all else None) now is) ≡ told
some_if files true all now is = refl
some_if files false all now is = refl

-- whether it is still told depends on how many texts were begun before
pub told_on : (files : List File) (room : ℕ) (old new : Option (List (ℕ × Bool))) (begun now : Option Place) (was is : Bool)
    → new ≡ listed_within room old (earlier_of begun was) → is_some (openings_of files new now is) ≡ tells_on room (openings_of files old begun was)
told_on files room None new begun now was is p = rw p refl
told_on files room (Some x) new begun now was is p =
    let all : List (ℕ × Bool) = x ++ earlier_of begun was in
    rw p (some_if files (nat_le (length x + length (earlier_of begun was)) room) all now is
    ∙ ap (λ n. nat_le n room) (sym (length-append x (earlier_of begun was)) ∙ sym (length-map all (opening_of files))))

-- a text that is read on is told as before
pub told_still : (files : List File) (told : Option (List (ℕ × Bool))) (was now : Option Place) (b is : Bool)
    → is_some (openings_of files told now is) ≡ is_some (openings_of files told was b)
told_still files None was now b is = refl
told_still files (Some x) was now b is = refl

is_over : (files : List File) (told : Option (List (ℕ × Bool))) (was now : Place) (b : Bool) → now.file ≡ was.file
    → Changes (openings_of files told (Some was) b) (openings_of files told (Some now) true) with_end
is_over files None was now b same = tt
is_over files (Some x) was now b same =
    ap (λ file. map (opening_of files) (x ++ (file, true) ∷ [])) same
    ∙ map-append (opening_of files) x ((was.file, true) ∷ [])
    ∙ sym (ended (map (opening_of files) x) (name_at files was.file) b)
    ∙ ap with_end (sym (map-append (opening_of files) x ((was.file, b) ∷ [])))

-- the begun text is read to its end: no byte of it was left
pub read_to_end : (files : List File) (told : Option (List (ℕ × Bool))) (was now : Place) (b : Bool) (n : ℕ) → now.file ≡ was.file → n ≡ 0
    → Changes (openings_of files told (Some was) b) (openings_of files told (Some now) (b || nat_eq n 0)) with_end
read_to_end files told was now true n same none = is_over files told was now true same
read_to_end files told was now false n same none = rw none (is_over files told was now false same)

named_at : (files : List File) (name : List ℕ) (i : ℕ) (d : File) → i < length files → has_name name (get_or files i d) ≡ true → name_at files i ≡ name
named_at [] name i d below hit = absurd (omega arith)
named_at (file ∷ files) name zero d below hit = grind (arith, hit, bytes_eq-Decides (string_bytes file.0) name)
named_at (file ∷ files) name (suc i) d below hit = named_at files name i d (omega arith) hit

-- the first file of a name has that name
pub name_of_place : (files : List File) (name : List ℕ) (i : ℕ) → place_of files name ≡ Some i → name_at files i ≡ name
name_of_place [] name i is = absurd cc
name_of_place (file ∷ files) name i is =
    let first = position-Some (has_name name) (file ∷ files) i file is in
    named_at (file ∷ files) name i file first.0 first.1

-- nothing is begun or ended
pub still : (told : Option (List Opening)) → Changes told told as_before
still None = tt
still (Some openings) = refl

-- the begun text is read on, and not to its end
pub read_on : (files : List File) (told : Option (List (ℕ × Bool))) (was now : Place) (b : Bool) (n : ℕ) → now.file ≡ was.file → 0 < n
    → Changes (openings_of files told (Some was) b) (openings_of files told (Some now) (b || nat_eq n 0)) as_before
read_on files None was now b n same some = tt
read_on files (Some x) was now b zero same some = absurd (omega arith)
read_on files (Some x) was now true (suc n) same some = ap (λ file. map (opening_of files) (x ++ (file, true) ∷ [])) same
read_on files (Some x) was now false (suc n) same some =
    let none : nat_eq (suc n) 0 ≡ false = grind (arith, nat_tests) in
    rw none (ap (λ file. map (opening_of files) (x ++ (file, false) ∷ [])) same)
