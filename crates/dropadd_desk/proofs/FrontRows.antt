-- Lists at the fronts of rows: after one more row is taken, and after one is written.
use Rattle.std.proofs.Common.{◌≡◌, ◌≢◌, ◌<◌, ◌≤◌, ◌+◌, ◌-◌, ◌==◌, ◌||◌, ◌++◌, ◌∙◌, ℕ, zero, suc, true, false, get_or, List, [], ◌∷◌, length, take, Some, None, refl, sym, ap, subst, arith, inl, inr, replicate, nat_cmp, slice_index_or, slice_set}
use Rattle.std.specs.Prelude.{slice_get}
use Rattle.std.specs.FinMap as map
use Rattle.std.proofs.lemmas.Bool.{cases_Bool, false≢true, or_parts, ne_eqb, eq-eqb}
use Rattle.std.proofs.lemmas.List.{length-take-le, replicate_more, take_more_set}
use Rattle.std.proofs.lemmas.Option.{slice_get_read}
use Rattle.row_region.specs.Rows.{Rows, IsLive, with_row, spare_of, rewritten, cells_of}
use Rattle.row_region.proofs.Filling.{rewritten_same}
use Rattle.row_region.proofs.Rows.{row_here, row_there, live_here, live_there, spare_apart}
use Rattle.dropadd_desk.specs.declared.lists.Front.{Front}
use Rattle.dropadd_desk.specs.Lists.{Lists}
use Rattle.dropadd_desk.specs.Fronts.{fronts_in, is_row_of, AreLive}

apart_of_test : (a b : ℕ) → (a == b) ≡ false → a ≢ b
apart_of_test a b other e = false≢true (sym other ∙ eq-eqb a b e)

-- a row that is none of these
others_stay : (live : map.FinMap nat_cmp (List ℕ)) (id : ℕ) (row : List ℕ) (fronts : List Front) → is_row_of fronts id ≡ false
    → fronts_in (map.insert live id row) fronts ≡ fronts_in live fronts
others_stay live id row [] lacks = refl
others_stay live id row (front ∷ more) lacks =
    let parts = or_parts (front.row == id) (is_row_of more id) lacks in
    let here : cells_of (map.get (map.insert live id row) front.row) ≡ cells_of (map.get live front.row) =
    ap cells_of (row_there live id row front.row (apart_of_test front.row id parts.0)) in
    rw (here, others_stay live id row more parts.1) refl

-- a spare row is none of the live ones
lacks_spare : (region : Rows ℕ) (id : ℕ) (fronts : List Front) → map.get region.live id ≡ None → AreLive region fronts → is_row_of fronts id ≡ false
lacks_spare region id [] spare live = refl
lacks_spare region id (front ∷ more) spare live =
    let apart : (front.row == id) ≡ false = ne_eqb front.row id (spare_apart region.live id front.row spare live.0) in
    rw apart (lacks_spare region id more spare live.3)

lacks_more : (fronts : List Front) (front : Front) (x : ℕ) → is_row_of fronts x ≡ false → front.row ≢ x → is_row_of (fronts ++ front ∷ []) x ≡ false
lacks_more [] front x lacks apart = rw (ne_eqb front.row x apart) refl
lacks_more (other ∷ fronts) front x lacks apart =
    let parts = or_parts (other.row == x) (is_row_of fronts x) lacks in
    rw (parts.0) (lacks_more fronts front x parts.1 apart)

-- one more row, with an empty front
pub live_more : (region : Rows ℕ) (front : Front) (row : List ℕ) (fronts : List Front) → front.len ≤ region.width → map.get region.live front.row ≡ None
    → AreLive region fronts → AreLive (with_row region front.row row) (fronts ++ front ∷ [])
live_more region front row [] wide spare live = (live_here region.live front.row row, wide, refl, tt)
live_more region front row (other ∷ fronts) wide spare live =
    let apart : other.row ≢ front.row = spare_apart region.live front.row other.row spare live.0 in (
      live_there region.live front.row row other.row live.0,
      live.1,
      lacks_more fronts front other.row live.2 (λ e. apart (sym e)),
      live_more region front row fronts wide spare live.3,
    )

pub fronts_more : (region : Rows ℕ) (front : Front) (row : List ℕ) (fronts : List Front) → front.len ≡ 0 → map.get region.live front.row ≡ None
    → AreLive region fronts
    → fronts_in (map.insert region.live front.row row) (fronts ++ front ∷ []) ≡ fronts_in region.live fronts ++ [] ∷ []
fronts_more region front row [] empty spare live = ap (λ n. take n (cells_of (map.get (map.insert region.live front.row row) front.row)) ∷ []) empty
fronts_more region front row (other ∷ fronts) empty spare live =
    let here : cells_of (map.get (map.insert region.live front.row row) other.row) ≡ cells_of (map.get region.live other.row) =
    ap cells_of (row_there region.live front.row row other.row (spare_apart region.live front.row other.row spare live.0)) in
    rw (here, fronts_more region front row fronts empty spare live.3) refl

-- the list at a place
pub fronts_length : (live : map.FinMap nat_cmp (List ℕ)) (fronts : List Front) → length (fronts_in live fronts) ≡ length fronts
fronts_length live [] = refl
fronts_length live (front ∷ more) = ap suc (fronts_length live more)

pub record IsAt (region : Rows ℕ) (fronts : List Front) (k : ℕ) (front : Front) : Type 0 where
  pub live : IsLive region front.row
  pub wide : front.len ≤ region.width
  pub list : slice_index_or (fronts_in region.live fronts) k [] ≡ take front.len (cells_of (map.get region.live front.row))

pub front_at : (region : Rows ℕ) (fronts : List Front) (k : ℕ) (front : Front) → slice_get fronts k ≡ Some front → AreLive region fronts
    → IsAt region fronts k front
front_at region [] k front is live = absurd (cc is)
front_at region (x ∷ more) zero front is live =
    let same : x ≡ front = cc is in
    let at : IsAt region (x ∷ more) 0 x = record { live = live.0; wide = live.1; list = refl } in
    subst (λ f. IsAt region (x ∷ more) 0 f) same at
front_at region (x ∷ more) (suc k) front is live =
    let rest = front_at region more k front is live.3 in
    record { live = rest.live; wide = rest.wide; list = rest.list }

-- a row is written, and its front is as long as this
row_of_set : (fronts : List Front) (k n x : ℕ) (front : Front) → slice_get fronts k ≡ Some front
    → is_row_of (slice_set fronts k (record { row = front.row; len = n })) x ≡ is_row_of fronts x
row_of_set [] k n x front is = refl
row_of_set (y ∷ more) zero n x front is = let same : y ≡ front = cc is in ap (λ (f : Front). f.row == x || is_row_of more x) (sym same)
row_of_set (y ∷ more) (suc k) n x front is = ap (λ b. y.row == x || b) (row_of_set more k n x front is)

row_among : (fronts : List Front) (k : ℕ) (front : Front) → slice_get fronts k ≡ Some front → is_row_of fronts front.row ≡ true
row_among [] k front is = absurd (cc is)
row_among (y ∷ more) zero front is =
    let same : y ≡ front = cc is in let here : (y.row == front.row) ≡ true = eq-eqb y.row front.row (ap (λ (f : Front). f.row) same) in rw here refl
row_among (y ∷ more) (suc k) front is = elim (cases_Bool (y.row == front.row)) [
  | inl here ↦ rw here refl
  | inr other ↦ rw other (row_among more k front is)
]

live_same : (region : Rows ℕ) (id : ℕ) (row : List ℕ) (fronts : List Front) → AreLive region fronts → AreLive (with_row region id row) fronts
live_same region id row [] live = tt
live_same region id row (front ∷ more) live = (live_there region.live id row front.row live.0, live.1, live.2, live_same region id row more live.3)

pub live_written : (region : Rows ℕ) (fronts : List Front) (k n : ℕ) (front : Front) (row : List ℕ) → slice_get fronts k ≡ Some front → n ≤ region.width
    → AreLive region fronts
    → AreLive (with_row region front.row row) (slice_set fronts k (record { row = front.row; len = n }))
live_written region [] k n front row is wide live = absurd (cc is)
live_written region (y ∷ more) zero n front row is wide live =
    let same : y.row ≡ front.row = ap (λ (f : Front). f.row) (let e : y ≡ front = cc is in e) in
    (live_here region.live front.row row, wide, subst (λ r. is_row_of more r ≡ false) same live.2, live_same region front.row row more live.3)
live_written region (y ∷ more) (suc k) n front row is wide live = (
  live_there region.live front.row row y.row live.0,
  live.1,
  row_of_set more k n y.row front is ∙ live.2,
  live_written region more k n front row is wide live.3,
)

pub fronts_written : (region : Rows ℕ) (fronts : List Front) (k n : ℕ) (front : Front) (row : List ℕ) → slice_get fronts k ≡ Some front → AreLive region fronts
    → fronts_in (map.insert region.live front.row row) (slice_set fronts k (record { row = front.row; len = n }))
    ≡ slice_set (fronts_in region.live fronts) k (take n row)
fronts_written region [] k n front row is live = absurd (cc is)
fronts_written region (y ∷ more) zero n front row is live =
    let same : y.row ≡ front.row = ap (λ (f : Front). f.row) (let e : y ≡ front = cc is in e) in
    let here : cells_of (map.get (map.insert region.live front.row row) front.row) ≡ row = ap cells_of (row_here region.live front.row row) in
    let rest = others_stay region.live front.row row more (subst (λ r. is_row_of more r ≡ false) same live.2) in
    rw (here, rest) refl
fronts_written region (y ∷ more) (suc k) n front row is live =
    let apart : y.row ≢ front.row = λ e. false≢true (sym live.2 ∙ ap (is_row_of more) e ∙ row_among more k front is) in
    let here : cells_of (map.get (map.insert region.live front.row row) y.row) ≡ cells_of (map.get region.live y.row) =
    ap cells_of (row_there region.live front.row row y.row apart) in
    let rest = fronts_written region more k n front row is live.3 in
    rw (here, rest) refl

-- the front that a list has, where the lists are those of these fronts
pub record IsShown (region : Rows ℕ) (fronts : List Front) (shown : Lists) (k : ℕ) (front : Front) : Type 0 where
  pub there : slice_get fronts k ≡ Some front
  pub live : IsLive region front.row
  pub wide : front.len ≤ region.width
  pub list : slice_index_or shown.lists k [] ≡ take front.len (cells_of (map.get region.live front.row))

pub shown_at : (region : Rows ℕ) (fronts : List Front) (shown : Lists) (k : ℕ) (front : Front)
    → record { width = region.width; lists = fronts_in region.live fronts } ≡ shown → k < length shown.lists
    → front ≡ get_or fronts k front → AreLive region fronts → IsShown region fronts shown k front
shown_at region fronts shown k front view below is live =
    let count : length shown.lists ≡ length fronts = ap (λ (l : Lists). length l.lists) (sym view) ∙ fronts_length region.live fronts in
    let low : k < length fronts = subst (λ n. k < n) count below in
    let there = slice_get_read fronts (length fronts) k front refl low is in
    let at = front_at region fronts k front there live in
    record { there = there; live = at.live; wide = at.wide; list = ap (λ (l : Lists). slice_index_or l.lists k []) (sym view) ∙ at.list }

-- at the beginning, and after one more row was taken
pub first_spare : (region : Rows ℕ) (rows width : ℕ) → region ≡ record { width = width; fill = 0; reserved = rows; live = map.empty }
    → spare_of region + 0 ≡ rows
first_spare region rows width is = ap (λ r. spare_of r + 0) is ∙ ap (λ n. rows - n + 0) (map.len-empty nat_cmp (List ℕ)) ∙ nothing rows
  where
    nothing : (n : ℕ) → n - 0 + 0 ≡ n
    nothing n = omega arith

pub lists_more : (old new : Rows ℕ) (id n : ℕ) (row : List ℕ) (fronts : List Front) → map.get old.live id ≡ None → new ≡ with_row old id row
    → AreLive old fronts → fronts_in old.live fronts ≡ replicate n []
    → fronts_in new.live (fronts ++ record { row = id; len = 0 } ∷ []) ≡ replicate (n + 1) []
lists_more old new id n row fronts spare is live are =
    ap (λ (r : Rows ℕ). fronts_in r.live (fronts ++ record { row = id; len = 0 } ∷ [])) is
    ∙ fronts_more old (record { row = id; len = 0 }) row fronts refl spare live
    ∙ ap (λ l. l ++ [] ∷ []) are
    ∙ replicate_more n []

-- the list of a row
pub record IsRow (shown : Lists) (k : ℕ) (front : Front) (row : List ℕ) : Type 0 where
  pub list : slice_index_or shown.lists k [] ≡ take front.len row
  pub size : length (slice_index_or shown.lists k []) ≡ front.len
  pub inside : front.len ≤ length row

pub row_of : (region : Rows ℕ) (fronts : List Front) (shown : Lists) (k : ℕ) (front : Front) (row : List ℕ) → IsShown region fronts shown k front
    → map.get region.live front.row ≡ Some row → length row ≡ region.width → IsRow shown k front row
row_of region fronts shown k front row at is wide =
    let list = at.list ∙ ap (λ o. take front.len (cells_of o)) is in
    let inside : front.len ≤ length row = (let h : front.len ≤ region.width = at.wide in omega arith) in
    record { list = list; size = ap length list ∙ length-take-le front.len row inside; inside = inside }

-- the lists after a row was written, and its front cut
pub lists_written : (region : Rows ℕ) (fronts : List Front) (shown : Lists) (k n : ℕ) (front : Front) (row cells list : List ℕ)
    → record { width = region.width; lists = fronts_in region.live fronts } ≡ shown → slice_get fronts k ≡ Some front → AreLive region fronts
    → length cells ≡ length row → take n cells ≡ list
    → ◌≡◌ {A = Lists}
    (record {
      width = region.width;
      lists = fronts_in (map.insert region.live front.row (rewritten row cells)) (slice_set fronts k (record { row = front.row; len = n }));
    })
    (record { width = shown.width; lists = slice_set shown.lists k list })
lists_written region fronts shown k n front row cells list view there live size is =
    let written =
    fronts_written region fronts k n front (rewritten row cells) there live
    ∙ ap (λ l. slice_set (fronts_in region.live fronts) k (take n l)) (rewritten_same row cells size) ∙ ap (slice_set (fronts_in region.live fronts) k) is
    ∙ ap (λ (l : Lists). slice_set l.lists k list) view in
    let width : region.width ≡ shown.width = ap (λ (l : Lists). l.width) view in
    λ i. record { width = width i; lists = written i }

pub item_pushed : (row : List ℕ) (n at : ℕ) (item : ℕ) (list : List ℕ) → at ≡ n → n < length row → list ≡ take n row
    → take (n + 1) (slice_set row at item) ≡ list ++ item ∷ []
item_pushed row n at item list here low is =
    ap (λ m. take (n + 1) (slice_set row m item)) here ∙ take_more_set row n item low ∙ ap (λ l. l ++ item ∷ []) (sym is)
