-- Words of open places, and the search that passes over the others.
use Rattle.std.proofs.Common.{◌≡◌, ◌≢◌, ◌<◌, ◌≤◌, ◌+◌, ◌-◌, ◌*◌, ◌%◌, min, ◌^◌, ◌++◌, ℕ, zero, suc, true, ◌&&◌, not, List, [], ◌∷◌, length, drop, refl, sym, ◌∙◌, ap, subst, inl, inr, arith, w64}
use Rattle.std.specs.Prelude.{bit_and}
use Rattle.std.specs.Int.{bit_at, bit_not, trailing_zeros}
use Rattle.std.proofs.lemmas.Bool.{cases_eq, cases_lt, true≢false, cases_Bool}
use Rattle.std.proofs.lemmas.List.{map-append}
use Rattle.std.proofs.lemmas.Nat.{and_le_l}
use Rattle.std.proofs.lemmas.Nat.Bits.{bit_at-lt, bit_at-trailing_zeros, bit_at_clear_same, bit_at_clear_other, bit_at_above, bit_at_and, bit_at_not}
use Rattle.plain_facts.proofs.Truths.{and_parts}
use Rattle.market_units.specs.Members.{has}
use Rattle.bundle_rules.specs.Sets.{AllAbove, IsAscending}
use Rattle.bundle_rules.specs.Existence.Members.{has-here, has-there, has-cases}
use Rattle.bundle_rules.specs.Menus.{IsMenu, wishes_of, section_at, place_in, clash_in}
use Rattle.bundle_rules.specs.Places.{menu_sections}
use Rattle.bundle_rules.proofs.Parts.{choice_part}
use Rattle.bundle_bounds.specs.Offers.{OfferData, places_of, allowed_at}
use Rattle.bundle_bounds.specs.Opens.{is_apart}
use Rattle.bundle_bounds.specs.Laws.{IsTakable, IsNode}
use Rattle.bundle_bounds.proofs.ByPlace.{place_in-section_at}
use Rattle.bundle_bounds.proofs.Openings.{node_later, open_where_takable}
use Rattle.demand_oracle.specs.OpenWords.{IsAlone, IsWordOf, Clashes, StaysOpen, IsOpenWord}
use Rattle.demand_oracle.specs.Search.{Aim, Kept, IsSearched, MayBePruned}
use Rattle.demand_oracle.proofs.SummedNodes.{pruned_here, shut_here}

-- a place that is apart from chosen ones with one more
apart_last : (offer : OfferData) (cs : List ℕ) (q p : ℕ) → is_apart offer (cs ++ q ∷ []) p ≡ (is_apart offer cs p && not (clash_in offer.menu.clashes p q))
apart_last offer [] q p = elim (cases_Bool (clash_in offer.menu.clashes p q)) [ inl is ↦ rw is refl | inr not_ ↦ rw not_ refl ]
apart_last offer (c ∷ cs) q p = elim (cases_Bool (clash_in offer.menu.clashes p c)) [
  | inl is ↦ rw is refl
  | inr not_ ↦ rw not_ (apart_last offer cs q p)
]

module _ (offer : OfferData) (aim : Aim) (chosen : List ℕ) where
  -- so many places from k on may not be taken, and are passed over
  pass : (k gap : ℕ) → k + gap ≤ length offer.menu.places
      → ((p : ℕ) → k ≤ p → p < k + gap → IsTakable offer (chosen ++ section_at offer.menu.places p ∷ []) → ⊥) → (champion result : Kept)
      → IsSearched offer aim (k + gap) chosen (drop (k + gap) (menu_sections offer.menu)) champion result
      → IsSearched offer aim k chosen (drop k (menu_sections offer.menu)) champion result
  pass k zero high shut champion result searched =
      let none : k + 0 ≡ k = omega arith in
      subst (λ n. IsSearched offer aim n chosen (drop n (menu_sections offer.menu)) champion result) none searched
  pass k (suc gap) high shut champion result searched =
      let next : k + suc gap ≡ (k + 1) + gap = omega arith in
      shut_here offer aim k chosen (omega arith) champion result (shut k (omega arith) (omega arith))
      (pass (k + 1) gap (omega arith) (λ p from below. shut p (omega arith) (omega arith)) champion result
      (subst (λ n. IsSearched offer aim n chosen (drop n (menu_sections offer.menu)) champion result) next searched))

  -- the places from k on that are before another one may not be taken
  pub passed_here : (k place : ℕ) → k ≤ place → place ≤ length offer.menu.places
      → ((p : ℕ) → k ≤ p → p < place → IsTakable offer (chosen ++ section_at offer.menu.places p ∷ []) → ⊥) → (champion result : Kept)
      → IsSearched offer aim place chosen (drop place (menu_sections offer.menu)) champion result
      → IsSearched offer aim k chosen (drop k (menu_sections offer.menu)) champion result
  passed_here k place from high shut champion result searched =
      let gap : k + (place - k) ≡ place = omega arith in
      pass k (place - k) (omega arith) (λ p at below. shut p at (omega arith)) champion result
      (subst (λ n. IsSearched offer aim n chosen (drop n (menu_sections offer.menu)) champion result) (sym gap) searched)

module _ (offer : OfferData) (menu : IsMenu offer.menu) (k : ℕ) (chosen : List ℕ) (node : IsNode offer k chosen) where
  -- a place whose section may be taken with the chosen ones stays open
  pub open_where_it_fits : (p : ℕ) → k ≤ p → p < length offer.menu.places → IsTakable offer (chosen ++ section_at offer.menu.places p ∷ [])
      → StaysOpen offer k chosen p
  open_where_it_fits p later on takable =
      let s : ℕ = section_at offer.menu.places p in
      record {
        undecided = later;
        on_menu = on;
        alone =
            choice_part (wishes_of offer.menu) offer.price offer.budget offer.allowed (section_at offer.menu.places p ∷ [])
            (chosen ++ section_at offer.menu.places p ∷ []) (tt, tt) (λ t is. in_front chosen s t is) takable;
        apart = (open_where_takable offer menu p chosen (node_later offer k p chosen later node) on takable).apart;
      }
    where
      in_front : (xs : List ℕ) (s t : ℕ) → has (s ∷ []) t ≡ true → has (xs ++ s ∷ []) t ≡ true
      in_front [] s t is = is
      in_front (x ∷ xs) s t is = has-there x (xs ++ s ∷ []) t (in_front xs s t is)

-- a place whose bit is not set may not be taken
pub shut_where_clear : (offer : OfferData) (k : ℕ) (chosen : List ℕ) (word : ℕ) → IsOpenWord offer k chosen word → (p : ℕ) → k ≤ p
    → p < length offer.menu.places → bit_at word p ≡ 0 → IsTakable offer (chosen ++ section_at offer.menu.places p ∷ []) → ⊥
shut_where_clear offer k chosen word is p later on clear takable =
    let set : bit_at word p ≡ 1 = is.has_takable p later on takable in omega arith

-- a word without places that may not be taken
pub word_within : (offer : OfferData) (k : ℕ) (chosen : List ℕ) (word other : ℕ) → IsOpenWord offer k chosen word
    → ((p : ℕ) → k ≤ p → p < length offer.menu.places → IsTakable offer (chosen ++ section_at offer.menu.places p ∷ []) → bit_at other p ≡ 1)
    → IsOpenWord offer k chosen (bit_and word other)
word_within offer k chosen word other is has_all = record {
  stays = λ p set.
      let both : bit_at (bit_and word other) p ≡ min (bit_at word p) (bit_at other p) = bit_at_and word other p in
      let small : bit_at word p < 2 = bit_at-lt word p in
      let small' : bit_at other p < 2 = bit_at-lt other p in
      is.stays p (omega arith);
  has_takable = λ p later on takable.
      let both : bit_at (bit_and word other) p ≡ min (bit_at word p) (bit_at other p) = bit_at_and word other p in
      let set : bit_at word p ≡ 1 = is.has_takable p later on takable in
      let set' : bit_at other p ≡ 1 = has_all p later on takable in
      omega arith;
}

above_without : (x : ℕ) (xs : List ℕ) (a b : ℕ) → AllAbove x ((xs ++ a ∷ []) ++ b ∷ []) → AllAbove x (xs ++ b ∷ [])
above_without x [] a b above = above.1
above_without x (y ∷ ys) a b above = (above.0, above_without x ys a b above.1)

ascending_without : (xs : List ℕ) (a b : ℕ) → IsAscending ((xs ++ a ∷ []) ++ b ∷ []) → IsAscending (xs ++ b ∷ [])
ascending_without [] a b up = up.1
ascending_without (x ∷ xs) a b up = (above_without x xs a b up.0, ascending_without xs a b up.1)

part_without : (xs : List ℕ) (a b t : ℕ) → has (xs ++ b ∷ []) t ≡ true → has ((xs ++ a ∷ []) ++ b ∷ []) t ≡ true
part_without [] a b t is = has-there a (b ∷ []) t is
part_without (x ∷ xs) a b t is = elim (has-cases x (xs ++ b ∷ []) t is) [
  | inl here ↦ subst (λ u. has (x ∷ ((xs ++ a ∷ []) ++ b ∷ [])) u ≡ true) here (has-here x ((xs ++ a ∷ []) ++ b ∷ []))
  | inr there ↦ has-there x ((xs ++ a ∷ []) ++ b ∷ []) t (part_without xs a b t there)
]

-- what may be taken with one more section may be taken without it
takable_without : (offer : OfferData) (chosen : List ℕ) (a b : ℕ) → IsTakable offer ((chosen ++ a ∷ []) ++ b ∷ []) → IsTakable offer (chosen ++ b ∷ [])
takable_without offer chosen a b takable =
    choice_part (wishes_of offer.menu) offer.price offer.budget offer.allowed (chosen ++ b ∷ []) ((chosen ++ a ∷ []) ++ b ∷ [])
    (ascending_without chosen a b takable.feasible.set) (λ t is. part_without chosen a b t is) takable

-- the section of a place that may be taken alone is allowed
pub allowed_alone : (offer : OfferData) (p : ℕ) → IsAlone offer p → allowed_at offer p ≡ true
allowed_alone offer p alone = alone.within (section_at offer.menu.places p) (has-here (section_at offer.menu.places p) [])

module _ (offer : OfferData) (menu : IsMenu offer.menu) (k : ℕ) (chosen : List ℕ) (word : ℕ) (fits : word < 2 ^ 64) (some : 0 < word)
    (is : IsOpenWord offer k chosen word) where
  abbrev first : ℕ
  first = trailing_zeros w64 word

  lowest : (first < 64) × (bit_at word first ≡ 1) × ((i : ℕ) → i < first → bit_at word i ≡ 0)
  lowest = bit_at-trailing_zeros w64 word some fits

  -- the next open place
  pub next_open : StaysOpen offer k chosen (trailing_zeros w64 word)
  next_open = is.stays (trailing_zeros w64 word) lowest.1

  -- and those before it are not
  pub clear_before : (p : ℕ) → p < trailing_zeros w64 word → bit_at word p ≡ 0
  clear_before p low = lowest.2 p low

  abbrev cleared : ℕ
  cleared = bit_and word (bit_not w64 (1 * 2 ^ first % 2 ^ 64))

  -- it is a smaller word without the next open place
  pub word_falls : bit_and word (bit_not w64 (1 * 2 ^ trailing_zeros w64 word % 2 ^ 64)) < word
  word_falls = elim (cases_eq cleared word) [
    | inl same ↦
        let gone : bit_at cleared first ≡ 0 = bit_at_clear_same w64 word first lowest.0 in
        absurd (let both : bit_at cleared first ≡ bit_at word first = ap (λ x. bit_at x first) same in let set : bit_at word first ≡ 1 = lowest.1 in omega arith)
    | inr other ↦ omega (arith, and_le_l word (bit_not w64 (1 * 2 ^ first % 2 ^ 64)))
  ]

  cleared_open : (p : ℕ) → bit_at cleared p ≡ 1 → StaysOpen offer (first + 1) chosen p
  cleared_open p set = elim (cases_lt p 64) [
    | inl low ↦ elim (cases_eq p first) [
      | inl same ↦
          let gone : bit_at cleared first ≡ 0 = bit_at_clear_same w64 word first lowest.0 in
          absurd (let set' : bit_at cleared first ≡ 1 = ap (bit_at cleared) (sym same) ∙ set in omega arith)
      | inr other ↦
          let kept : bit_at cleared p ≡ bit_at word p = bit_at_clear_other w64 word first lowest.0 p low other in
          let open_ : StaysOpen offer k chosen p = is.stays p (sym kept ∙ set) in
          record { undecided = above p other (sym kept ∙ set); on_menu = open_.on_menu; alone = open_.alone; apart = open_.apart }
    ]
    | inr high ↦ absurd (let none : bit_at cleared p ≡ 0 = bit_at_above cleared 64 p (omega (arith, word_falls)) high in omega arith)
  ]
    where
      above : (p : ℕ) → p ≢ first → bit_at word p ≡ 1 → first + 1 ≤ p
      above p other set = elim (cases_lt p first) [
        | inl before ↦ absurd (let none : bit_at word p ≡ 0 = lowest.2 p before in omega arith)
        | inr from ↦ elim (cases_lt first p) [ inl after ↦ omega arith | inr not_after ↦ absurd (other (omega arith)) ]
      ]

  -- the word without the next open place has those after it
  pub word_after : IsOpenWord offer (trailing_zeros w64 word + 1) chosen (bit_and word (bit_not w64 (1 * 2 ^ trailing_zeros w64 word % 2 ^ 64)))
  word_after = record {
    stays = cleared_open;
    has_takable = λ p later on takable.
        let other : p ≢ first = λ same. omega arith in
        let from : k ≤ first = next_open.undecided in
        let low : p < 64 = (let cap : length offer.menu.places ≤ 60 = menu.places.few in omega arith) in
        bit_at_clear_other w64 word first lowest.0 p low other ∙ is.has_takable p (omega arith) on takable;
  }

-- a node that may be pruned at its next open place is searched
pub pruned_at_next : (offer : OfferData) (menu : IsMenu offer.menu) (aim : Aim) (k : ℕ) (chosen : List ℕ) → IsNode offer k chosen → (word : ℕ)
    → word < 2 ^ 64 → 0 < word → IsOpenWord offer k chosen word → (champion : Kept)
    → MayBePruned offer aim (trailing_zeros w64 word) chosen champion
    → IsSearched offer aim k chosen (drop k (menu_sections offer.menu)) champion champion
pruned_at_next offer menu aim k chosen node word fits some is champion may =
    let opened = next_open offer menu k chosen word fits some is in
    let place : ℕ = trailing_zeros w64 word in
    passed_here offer aim chosen k place opened.undecided (omega (arith, opened.on_menu))
    (λ p at below.
    shut_where_clear offer k chosen word is p at (omega (arith, opened.on_menu)) (clear_before offer menu k chosen word fits some is p below))
    champion champion
    (pruned_here offer aim place chosen opened.on_menu champion may)

module _ (offer : OfferData) (menu : IsMenu offer.menu) (k place : ℕ) (chosen : List ℕ) (low : place < length offer.menu.places) (word clashes : ℕ)
    (fits : word < 2 ^ 64) (clashes_fit : clashes < 2 ^ 64) (is : IsOpenWord offer k chosen word)
    (are : IsWordOf (Clashes offer.menu place) (length offer.menu.places) clashes) where
  apart_now : (p : ℕ) → is_apart offer (places_of offer.menu (chosen ++ section_at offer.menu.places place ∷ [])) p
      ≡ (is_apart offer (places_of offer.menu chosen) p && not (clash_in offer.menu.clashes p place))
  apart_now p =
      ap (λ cs. is_apart offer cs p)
      (map-append (place_in offer.menu.places) chosen (section_at offer.menu.places place ∷ [])
      ∙ ap (λ q. places_of offer.menu chosen ++ q ∷ []) (place_in-section_at offer.menu.places place menu.places.ascending low))
      ∙ apart_last offer (places_of offer.menu chosen) place p

  both_of : (p : ℕ) → p < 64 → bit_at (bit_and word (bit_not w64 clashes)) p ≡ min (bit_at word p) (1 - bit_at clashes p)
  both_of p within = bit_at_and word (bit_not w64 clashes) p ∙ ap (min (bit_at word p)) (bit_at_not w64 clashes p clashes_fit within)

  not_clashing : (p : ℕ) → p < length offer.menu.places → bit_at clashes p ≡ 0 → not (clash_in offer.menu.clashes p place) ≡ true
  not_clashing p on none = elim (cases_Bool (clash_in offer.menu.clashes p place)) [
    | inl clash ↦ absurd (let set : bit_at clashes p ≡ 1 = (are p).1 (on, clash) in omega arith)
    | inr not_ ↦ ap not not_
  ]

  clear_of : (p : ℕ) → not (clash_in offer.menu.clashes p place) ≡ true → bit_at clashes p ≡ 0
  clear_of p apart = elim (cases_lt (bit_at clashes p) 1) [
    | inl zero_ ↦ omega arith
    | inr one ↦
        let below : bit_at clashes p < 2 = bit_at-lt clashes p in
        let set : bit_at clashes p ≡ 1 = omega arith in
        absurd (true≢false (sym apart ∙ ap not ((are p).0 set).1))
  ]

  -- with the section of a place the word has those open places that do not clash with it
  pub word_apart : IsNode offer k (chosen ++ section_at offer.menu.places place ∷ [])
      → IsOpenWord offer k (chosen ++ section_at offer.menu.places place ∷ []) (bit_and word (bit_not w64 clashes))
  word_apart node = record {
    stays = λ p set. elim (cases_lt p 64) [
      | inl within ↦
          let split : min (bit_at word p) (1 - bit_at clashes p) ≡ 1 = sym (both_of p within) ∙ set in
          let first : bit_at word p ≡ 1 = (let small = bit_at-lt word p in omega arith) in
          let second : bit_at clashes p ≡ 0 = omega arith in
          let open_ : StaysOpen offer k chosen p = is.stays p first in
          record {
            undecided = open_.undecided;
            on_menu = open_.on_menu;
            alone = open_.alone;
            apart = apart_now p ∙ rw (open_.apart) (not_clashing p open_.on_menu second);
          }
      | inr high ↦ absurd (let none : bit_at word p ≡ 0 = bit_at_above word 64 p fits high in let split = bit_at_and word (bit_not w64 clashes) p in omega arith)
    ];
    has_takable = λ p later on takable.
        let open_ = open_where_it_fits offer menu k (chosen ++ section_at offer.menu.places place ∷ []) node p later on takable in
        let parts = and_parts (is_apart offer (places_of offer.menu chosen) p) _ (sym (apart_now p) ∙ open_.apart) in
        let within : p < 64 = (let cap : length offer.menu.places ≤ 60 = menu.places.few in omega arith) in
        let first : bit_at word p ≡ 1 =
        is.has_takable p later on (takable_without offer chosen (section_at offer.menu.places place) (section_at offer.menu.places p) takable) in
        let second : bit_at clashes p ≡ 0 = clear_of p parts.1 in
        both_of p within ∙ omega arith;
  }

-- at the root each place that may be taken alone is open
pub word_at_root : (offer : OfferData) (word : ℕ) → IsWordOf (IsAlone offer) (length offer.menu.places) word → IsOpenWord offer 0 [] word
word_at_root offer word is = record {
  stays = λ p set. (let at = (is p).0 set in record { undecided = omega arith; on_menu = at.0; alone = at.1; apart = refl });
  has_takable = λ p later on takable. (is p).1 (on, takable);
}
