-- Vectors that are kept once.
use Rattle.std.proofs.Common.{Vec, Global, ℕ, ◌≡◌, ◌∙◌, ◌++◌, ◌∷◌, [], Bool, true, false, not, cond, List, map, refl, sym, ap, inl, inr}
use Rattle.std.specs.Prelude.{nat_eq}
use Rattle.std.specs.List.{list_any}
use Rattle.std.specs.Cmp.{IsEquivalence, on_equiv}
use Rattle.std.specs.Cmp.Lexicographic.{pointwise, nat_list_eq_equiv}
use Rattle.std.proofs.lemmas.Bool.{cases_Bool, true≢false}
use Rattle.std.proofs.lemmas.List.{map-append}
use Rattle.plain_facts.proofs.Lists.{list_any-map}
use Rattle.market_units.specs.declared.units.Tokens.{Tokens}
use Rattle.price_neighbours.specs.Distinct.{once, same_prices}
use Rattle.price_neighbours.proofs.OnceFacts.{once_more_seen, once_more_new}

abbrev pub amounts : List Tokens → List ℕ
amounts prices = map (λ price. price.0) prices

-- two vectors with the same prices are equal for each test
pub same_prices_equal : IsEquivalence same_prices
same_prices_equal = on_equiv amounts nat_list_eq_equiv

-- a vector whose amounts were not seen is kept
pub kept_then : (all kept : List (List Tokens)) (keys later : List (List ℕ)) (vector : List Tokens) (key : List ℕ) → kept ≡ once same_prices all
    → keys ≡ map amounts kept → key ≡ amounts vector
    → true ≡ not (list_any (pointwise nat_eq key) keys) → later ≡ cond (list_any (pointwise nat_eq key) keys) keys (keys ++ key ∷ [])
    → (kept ++ vector ∷ [] ≡ once same_prices (all ++ vector ∷ [])) × (later ≡ map amounts (kept ++ vector ∷ []))
kept_then all kept keys later vector key is seen at new then = elim (cases_Bool (list_any (pointwise nat_eq key) keys)) [
  | inl t ↦ absurd (true≢false (new ∙ ap not t))
  | inr f ↦
      let fresh : list_any (same_prices vector) (once same_prices all) ≡ false =
      rw (← is) (sym (list_any-map (pointwise nat_eq (amounts vector)) amounts kept) ∙ rw (← at, ← seen) f) in
      let more : later ≡ keys ++ key ∷ [] = then ∙ rw f refl in (
        ap (λ l. l ++ vector ∷ []) is ∙ sym (once_more_new same_prices same_prices_equal all vector fresh),
        more ∙ rw (seen, at) (sym (map-append amounts kept (vector ∷ []))),
      )
]

-- and one whose amounts were seen is not
pub kept_still : (all kept : List (List Tokens)) (keys later : List (List ℕ)) (vector : List Tokens) (key : List ℕ) → kept ≡ once same_prices all
    → keys ≡ map amounts kept → key ≡ amounts vector
    → false ≡ not (list_any (pointwise nat_eq key) keys) → later ≡ cond (list_any (pointwise nat_eq key) keys) keys (keys ++ key ∷ [])
    → (kept ≡ once same_prices (all ++ vector ∷ [])) × (later ≡ map amounts kept)
kept_still all kept keys later vector key is seen at old then = elim (cases_Bool (list_any (pointwise nat_eq key) keys)) [
  | inl t ↦
      let there : list_any (same_prices vector) (once same_prices all) ≡ true =
      rw (← is) (sym (list_any-map (pointwise nat_eq (amounts vector)) amounts kept) ∙ rw (← at, ← seen) t) in
      let stays : later ≡ keys = then ∙ rw t refl in
      (is ∙ sym (once_more_seen same_prices same_prices_equal all vector there), stays ∙ seen)
  | inr f ↦ absurd (true≢false (sym (old ∙ ap not f)))
]

-- the same, of what the code has
abbrev pub vectors_of : List (Vec Tokens Global) → List (List Tokens)
vectors_of vectors = map (λ vector. vector.items) vectors

abbrev pub keys_of : List (Vec ℕ Global) → List (List ℕ)
keys_of keys = map (λ key. key.items) keys

keys_then : (seen later : List (Vec ℕ Global)) (key : Vec ℕ Global)
    → later ≡ cond (list_any (λ other. pointwise nat_eq key.items other.items) seen) seen (seen ++ key ∷ [])
    → keys_of later ≡ cond (list_any (pointwise nat_eq key.items) (keys_of seen)) (keys_of seen) (keys_of seen ++ key.items ∷ [])
keys_then seen later key is =
    let any = list_any-map (pointwise nat_eq key.items) (λ (other : Vec ℕ Global). other.items) seen in
    elim (cases_Bool (list_any (λ other. pointwise nat_eq key.items other.items) seen)) [
      | inl t ↦ rw (any, t) (ap keys_of (is ∙ rw t refl))
      | inr f ↦ rw (any, f) (ap keys_of (is ∙ rw f refl) ∙ map-append (λ (other : Vec ℕ Global). other.items) seen (key ∷ []))
    ]

pub vectors_then : (all kept more : List (Vec Tokens Global)) (seen later : List (Vec ℕ Global)) (vector : Vec Tokens Global) (key : Vec ℕ Global) (new : Bool)
    → (vectors_of kept ≡ once same_prices (vectors_of all)) × (keys_of seen ≡ map amounts (vectors_of kept)) → key.items ≡ amounts vector.items → new ≡ true
    → more ≡ kept ++ vector ∷ []
    → new ≡ not (list_any (λ other. pointwise nat_eq key.items other.items) seen)
    → later ≡ cond (list_any (λ other. pointwise nat_eq key.items other.items) seen) seen (seen ++ key ∷ [])
    → (vectors_of more ≡ once same_prices (vectors_of (all ++ vector ∷ []))) × (keys_of later ≡ map amounts (vectors_of more))
vectors_then all kept more seen later vector key new so_far at is_new is_more told then =
    let any = list_any-map (pointwise nat_eq key.items) (λ (other : Vec ℕ Global). other.items) seen in
    let on =
    kept_then (vectors_of all) (vectors_of kept) (keys_of seen) (keys_of later) vector.items key.items so_far.0 so_far.1 at
    (sym is_new ∙ told ∙ ap not (sym any)) (keys_then seen later key then) in
    let kept_is : vectors_of more ≡ vectors_of kept ++ vector.items ∷ [] =
    ap vectors_of is_more ∙ map-append (λ (v : Vec Tokens Global). v.items) kept (vector ∷ []) in
    let all_is : vectors_of (all ++ vector ∷ []) ≡ vectors_of all ++ vector.items ∷ [] = map-append (λ (v : Vec Tokens Global). v.items) all (vector ∷ []) in
    rw (kept_is, all_is) on

pub vectors_still : (all kept : List (Vec Tokens Global)) (seen later : List (Vec ℕ Global)) (vector : Vec Tokens Global) (key : Vec ℕ Global) (new : Bool)
    → (vectors_of kept ≡ once same_prices (vectors_of all)) × (keys_of seen ≡ map amounts (vectors_of kept)) → key.items ≡ amounts vector.items → new ≡ false
    → new ≡ not (list_any (λ other. pointwise nat_eq key.items other.items) seen)
    → later ≡ cond (list_any (λ other. pointwise nat_eq key.items other.items) seen) seen (seen ++ key ∷ [])
    → (vectors_of kept ≡ once same_prices (vectors_of (all ++ vector ∷ []))) × (keys_of later ≡ map amounts (vectors_of kept))
vectors_still all kept seen later vector key new so_far at is_old told then =
    let any = list_any-map (pointwise nat_eq key.items) (λ (other : Vec ℕ Global). other.items) seen in
    let on =
    kept_still (vectors_of all) (vectors_of kept) (keys_of seen) (keys_of later) vector.items key.items so_far.0 so_far.1 at
    (sym is_old ∙ told ∙ ap not (sym any)) (keys_then seen later key then) in
    let all_is : vectors_of (all ++ vector ∷ []) ≡ vectors_of all ++ vector.items ∷ [] = map-append (λ (v : Vec Tokens Global). v.items) all (vector ∷ []) in
    rw all_is on
