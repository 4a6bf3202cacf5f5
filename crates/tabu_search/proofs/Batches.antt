-- Counts of vectors, batch by batch.
use Rattle.std.proofs.Common.{Vec, Global, ℕ, ◌+◌, ◌-◌, ◌<◌, ◌≤◌, ◌≡◌, ◌∙◌, ◌++◌, ◌∷◌, [], List, map, take, drop, length, min, get_or, sym, ap, arith, take-add}
use Rattle.std.specs.Prelude.{All, slice_index_or}
use Rattle.std.proofs.lemmas.List.{map-append, length-map, length-take, length-drop, get_or-map, take_min}
use Rattle.std.proofs.lemmas.List.Elements.{All-take, All-drop}
use Rattle.market_units.specs.declared.units.Tokens.{Tokens}
use Rattle.demand_api.specs.Crowds.{CrowdData}
use Rattle.demand_api.specs.Asking.{ArePricesFor}
use Rattle.tabu_search.specs.Visits.{counts_at}

-- a batch more
pub batch_more : {A B : Type 0} (f : A → B) (xs batch : List A) (ys zs : List B) (n m k : ℕ) → ys ≡ map f (take n xs) → batch ≡ take m (drop n xs)
    → zs ≡ map f batch → m ≤ length xs - n → length zs ≡ k → ys ++ zs ≡ map f (take (n + k) xs)
batch_more f xs batch ys zs n m k so_far is counted within long =
    let size : length zs ≡ m =
    ap length counted ∙ length-map batch f ∙ ap length is ∙ length-take m (drop n xs) ∙ (let rest = length-drop n xs in omega arith) in
    let same : k ≡ m = sym long ∙ size in
    rw (same, so_far, counted, is, take-add n m xs) (sym (map-append f (take n xs) (take m (drop n xs))))

-- the counts at one place
pub counted_at : (crowd : CrowdData) (vectors : List (Vec Tokens Global)) (counted : List (Vec ℕ Global)) (i : ℕ) (vector : Vec Tokens Global)
    (counts : Vec ℕ Global)
    → map (λ counts. counts.items) counted ≡ map (λ vector. counts_at crowd vector.items) vectors → i < length vectors
    → counts ≡ slice_index_or counted i counts → vector ≡ slice_index_or vectors i vector → counts.items ≡ counts_at crowd vector.items
counted_at crowd vectors counted i vector counts is low here there =
    let long : length counted ≡ length vectors =
    sym (length-map counted (λ (c : Vec ℕ Global). c.items)) ∙ ap length is ∙ length-map vectors (λ (v : Vec Tokens Global). counts_at crowd v.items) in
    ap (λ (c : Vec ℕ Global). c.items) here
    ∙ sym (get_or-map (λ (c : Vec ℕ Global). c.items) counted i counts (counts_at crowd vector.items) (omega arith))
    ∙ ap (λ l. get_or l i (counts_at crowd vector.items)) is
    ∙ get_or-map (λ (v : Vec Tokens Global). counts_at crowd v.items) vectors i vector (counts_at crowd vector.items) low
    ∙ ap (λ (v : Vec Tokens Global). counts_at crowd v.items) (sym there)

pub length_counted : (crowd : CrowdData) (vectors : List (Vec Tokens Global)) (counted : List (Vec ℕ Global))
    → map (λ counts. counts.items) counted ≡ map (λ vector. counts_at crowd vector.items) vectors → length counted ≡ length vectors
length_counted crowd vectors counted is =
    sym (length-map counted (λ (c : Vec ℕ Global). c.items)) ∙ ap length is ∙ length-map vectors (λ (v : Vec Tokens Global). counts_at crowd v.items)

-- the same, of what the code has
pub batch_counted : (crowd crowd' : CrowdData) (vectors batch : List (Vec Tokens Global)) (counted found later : List (Vec ℕ Global)) (n k l : ℕ)
    → crowd' ≡ crowd → map (λ counts. counts.items) counted ≡ map (λ vector. counts_at crowd vector.items) (take n vectors) → n ≤ length vectors
    → batch ≡ take 16 (drop n vectors) → map (λ counts. counts.items) found ≡ map (λ vector. counts_at crowd' vector.items) batch → length found ≡ k → l ≡ n + k
    → later ≡ counted ++ found
    → (map (λ counts. counts.items) later ≡ map (λ vector. counts_at crowd vector.items) (take l vectors)) × (l ≤ length vectors)
batch_counted crowd crowd' vectors batch counted found later n k l same so_far within is counts long far more =
    let rest : length (drop n vectors) ≡ length vectors - n = length-drop n vectors in
    let few : length (take 16 (drop n vectors)) ≡ min 16 (length (drop n vectors)) = length-take 16 (drop n vectors) in
    let size : length batch ≡ min 16 (length vectors - n) = ap length is ∙ few ∙ ap (min 16) rest in
    let whole : take 16 (drop n vectors) ≡ take (min 16 (length vectors - n)) (drop n vectors) =
    sym (take_min 16 (drop n vectors)) ∙ ap (λ m. take (min 16 m) (drop n vectors)) rest in
    let counted_now : map (λ counts. counts.items) found ≡ map (λ vector. counts_at crowd vector.items) batch = rw same at counts in
    let number : length (map (λ counts. counts.items) found) ≡ length found = length-map found (λ (c : Vec ℕ Global). c.items) in
    let number' : length (map (λ vector. counts_at crowd vector.items) batch) ≡ length batch =
    length-map batch (λ (v : Vec Tokens Global). counts_at crowd v.items) in
    let k_is : k ≡ length batch = sym long ∙ sym number ∙ ap length counted_now ∙ number' in (
      ap (map (λ counts. counts.items)) more
          ∙ map-append (λ (c : Vec ℕ Global). c.items) counted found
          ∙ batch_more (λ (v : Vec Tokens Global). counts_at crowd v.items) vectors batch (map (λ counts. counts.items) counted)
          (map (λ counts. counts.items) found) n (min 16 (length vectors - n)) k so_far (is ∙ whole) counted_now (omega arith) (number ∙ long)
          ∙ ap (λ m. map (λ vector. counts_at crowd vector.items) (take m vectors)) (sym far),
      omega arith,
    )

-- what is counted next has prices
pub batch_are : (crowd crowd' : CrowdData) (vectors batch : List (Vec Tokens Global)) (n : ℕ) → crowd' ≡ crowd → batch ≡ take 16 (drop n vectors)
    → All (λ vector. ArePricesFor crowd vector.items) vectors → All (λ vector. ArePricesFor crowd' vector.items) batch
batch_are crowd crowd' vectors batch n same is all =
    rw (same, is)
    (All-take (λ (v : Vec Tokens Global). ArePricesFor crowd v.items) 16 (drop n vectors)
    (All-drop (λ (v : Vec Tokens Global). ArePricesFor crowd v.items) n vectors all))

-- the counts at the one vector that is counted
pub counted_one : (crowd : CrowdData) (vector : List Tokens) (found : List (Vec ℕ Global)) (first : Vec ℕ Global)
    → map (λ counts. counts.items) found ≡ counts_at crowd vector ∷ [] → first ≡ slice_index_or found 0 first → first.items ≡ counts_at crowd vector
counted_one crowd vector [] first all is = absurd (cc all)
counted_one crowd vector (one ∷ more) first all is = ap (λ (v : Vec ℕ Global). v.items) is ∙ ap (λ found. slice_index_or found 0 []) all
