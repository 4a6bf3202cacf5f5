-- What holds in the search below a node, from place to place.
use Rattle.std.proofs.Common.{◌≡◌, ◌<◌, ◌≤◌, ◌+◌, ◌-◌, ◌*◌, ◌%◌, ◌^◌, ◌++◌, ℕ, Some, List, [], ◌∷◌, length, drop, inl, inr, arith, w64}
use Rattle.std.specs.Prelude.{bit_and, slice_index}
use Rattle.std.specs.Int.{bit_at, bit_not, trailing_zeros}
use Rattle.std.proofs.lemmas.Bool.{cases_lt}
use Rattle.std.proofs.lemmas.Nat.Bits.{bit_at-zero}
use Rattle.bundle_rules.specs.Menus.{section_at, credits_at}
use Rattle.bundle_rules.specs.Places.{menu_sections}
use Rattle.bundle_bounds.specs.Laws.{IsTakable, IsNode}
use Rattle.bundle_bounds.specs.Offers.{OfferData, price_at}
use Rattle.bundle_bounds.proofs.Openings.{node_later, node_with, node_without}
use Rattle.demand_oracle.specs.declared.summed_node.SummedNode.{SummedNode}
use Rattle.demand_oracle.specs.declared.question.Question.{Question}
use Rattle.demand_oracle.specs.declared.leaders.Leaders.{Leaders}
use Rattle.demand_oracle.specs.Champions.{AreLeaders, kept_of}
use Rattle.demand_oracle.specs.OpenWords.{Clashes, IsWordOf, StaysOpen, IsOpenWord}
use Rattle.demand_oracle.specs.Questions.{IsQuestion, offer_asked, aim_of}
use Rattle.demand_oracle.specs.Search.{Kept, IsSearched, MayBePruned}
use Rattle.demand_oracle.specs.SummedNodes.{chosen_of, IsSummed}
use Rattle.demand_oracle.proofs.OpenPlaces.{passed_here, shut_where_clear, word_within, allowed_alone, next_open, clear_before, word_falls, word_after, word_apart}
use Rattle.demand_oracle.proofs.Openings.{takable_where_open_at, open_at_where_takable}
use Rattle.demand_oracle.proofs.SummedNodes.{full_to_end, ended_here, pruned_here, shut_here, open_here}
use Rattle.demand_oracle.proofs.Wanting.{none_wanted, lacks_passed}

-- the places before one of them are decided, without their sections: the word has the open ones from there on, and the search from there is the rest of that
-- of the node
pub record GoesOn (question : Question) (summed : SummedNode) (first : Leaders) (word : ℕ) (champion : Leaders) : Type 0 where
  pub from : ℕ
  pub later : summed.node.place ≤ from
  pub is_word : IsOpenWord (offer_asked question) from (chosen_of summed) word
  pub are_leaders : AreLeaders (offer_asked question) (aim_of question).name champion
  pub same_result : (result : Kept)
      → IsSearched (offer_asked question) (aim_of question) from (chosen_of summed) (drop from (menu_sections question.offer.now.menu.now)) (kept_of champion) result
      → IsSearched (offer_asked question) (aim_of question) summed.node.place (chosen_of summed)
      (drop summed.node.place (menu_sections question.offer.now.menu.now)) (kept_of first) result

-- the search from a place with what the node has chosen
abbrev Searched : Question → SummedNode → ℕ → Kept → Kept → Type 0
Searched question summed k champion result =
    IsSearched (offer_asked question) (aim_of question) k (chosen_of summed) (drop k (menu_sections question.offer.now.menu.now)) champion result

module _ (question : Question) (asked : IsQuestion question) (summed : SummedNode)
    (is_summed : IsSummed question.offer.now.menu.now (offer_asked question).price summed) (node : IsNode (offer_asked question) summed.node.place (chosen_of summed)) where
  abbrev offer : OfferData
  offer = offer_asked question

  abbrev chosen : List ℕ
  chosen = chosen_of summed

  -- as many sections are chosen as may be taken
  pub whole_searched : (champion result : Kept) → question.offer.now.menu.now.courses ≤ length (chosen_of summed)
      → IsSearched (offer_asked question) (aim_of question) summed.node.place (chosen_of summed) [] champion result
      → Searched question summed summed.node.place champion result
  whole_searched champion result full ended =
      full_to_end offer (aim_of question) summed.node.place chosen (drop summed.node.place (menu_sections question.offer.now.menu.now)) champion result full ended

  -- the node is pruned
  pub lost_searched : (champion : Kept) → summed.node.place < length question.offer.now.menu.now.places
      → MayBePruned (offer_asked question) (aim_of question) summed.node.place (chosen_of summed) champion → Searched question summed summed.node.place champion champion
  lost_searched champion low may = pruned_here offer (aim_of question) summed.node.place chosen low champion may

  -- at first no more places are decided, and the word has no place that what is left can not pay for
  pub begun_goes_on : (first : Leaders) → AreLeaders (offer_asked question) (aim_of question).name first → (word affordable : ℕ)
      → IsOpenWord (offer_asked question) summed.node.place (chosen_of summed) word
      → ((place : ℕ) → place < length question.offer.now.menu.now.places → price_at (offer_asked question) place ≤ (offer_asked question).budget - summed.paid
      → bit_at affordable place ≡ 1)
      → GoesOn question summed first (bit_and word affordable) first
  begun_goes_on first are word affordable is has_all = record {
    from = summed.node.place;
    later = omega arith;
    is_word =
        word_within offer summed.node.place chosen word affordable is
        (λ p later on takable.
        has_all p on (open_at_where_takable offer asked.menu summed is_summed summed.node.place node p later on takable).price);
    are_leaders = are;
    same_result = λ result searched. searched;
  }

  module _ (first : Leaders) (word : ℕ) (champion : Leaders) (on : GoesOn question summed first word champion) where
    -- no place is open
    pub end_searched : (result : Leaders) → word ≡ 0
        → ((k : ℕ) → IsSearched (offer_asked question) (aim_of question) k (chosen_of summed) [] (kept_of champion) (kept_of result))
        → Searched question summed summed.node.place (kept_of first) (kept_of result)
    end_searched result none ended =
        let n : ℕ = length question.offer.now.menu.now.places in
        on.same_result (kept_of result) (elim (cases_lt on.from (length question.offer.now.menu.now.places)) [
          | inl before ↦
              passed_here offer (aim_of question) chosen on.from n (omega arith) (omega arith)
              (λ p at below.
              shut_where_clear offer on.from chosen word on.is_word p at below (rw none (bit_at-zero p)))
              (kept_of champion) (kept_of result)
              (ended_here offer (aim_of question) n chosen (kept_of champion) (kept_of result) (omega arith) (ended n))
          | inr past ↦ ended_here offer (aim_of question) on.from chosen (kept_of champion) (kept_of result) past (ended on.from)
        ])

-- the search below a node has come to the first place of a word
pub record ComesTo (question : Question) (summed : SummedNode) (first : Leaders) (word : ℕ) (champion : Leaders) : Type 0 where
  pub asked : IsQuestion question
  pub is_summed : IsSummed question.offer.now.menu.now (offer_asked question).price summed
  pub node : IsNode (offer_asked question) summed.node.place (chosen_of summed)
  pub on : GoesOn question summed first word champion
  pub fits : word < 2 ^ 64
  pub some : 0 < word

pub comes_to : {question : Question} {summed : SummedNode} {first : Leaders} {word : ℕ} {champion : Leaders} → IsQuestion question
    → IsSummed question.offer.now.menu.now (offer_asked question).price summed → IsNode (offer_asked question) summed.node.place (chosen_of summed)
    → GoesOn question summed first word champion → word < 2 ^ 64 → 0 < word → ComesTo question summed first word champion
comes_to asked is_summed node on fits some = record { asked = asked; is_summed = is_summed; node = node; on = on; fits = fits; some = some }

module _ {question : Question} {summed : SummedNode} {first : Leaders} {word : ℕ} {champion : Leaders} (here : ComesTo question summed first word champion) where
  pub node_from : IsNode (offer_asked question) here.on.from (chosen_of summed)
  node_from = node_later (offer_asked question) summed.node.place here.on.from (chosen_of summed) here.on.later here.node

  abbrev place : ℕ
  place = trailing_zeros w64 word

  opened : StaysOpen (offer_asked question) here.on.from (chosen_of summed) place
  opened = next_open (offer_asked question) here.asked.menu here.on.from (chosen_of summed) word here.fits here.some here.on.is_word

  -- the next open place
  pub next_later : summed.node.place ≤ trailing_zeros w64 word
  next_later = let from = here.on.later in let at = opened.undecided in omega arith

  pub next_on_menu : trailing_zeros w64 word < length question.offer.now.menu.now.places
  next_on_menu = opened.on_menu

  pub next_from : here.on.from ≤ trailing_zeros w64 word
  next_from = opened.undecided

  -- the word of the places that clash with it
  pub next_clashes : IsWordOf (Clashes question.offer.now.menu.now (trailing_zeros w64 word)) (length question.offer.now.menu.now.places)
      (slice_index question.goods.now.clashes (trailing_zeros w64 word))
  next_clashes = here.asked.goods.clashes place next_on_menu ((here.asked.goods.alone place).1 (next_on_menu, opened.alone))

  pub node_next : IsNode (offer_asked question) (trailing_zeros w64 word) (chosen_of summed)
  node_next = node_later (offer_asked question) summed.node.place place (chosen_of summed) next_later here.node

  -- what the search from there gives is what that of the node gives
  from_next : (result : Kept) → Searched question summed place (kept_of champion) result → Searched question summed summed.node.place (kept_of first) result
  from_next result searched =
      here.on.same_result result
      (passed_here (offer_asked question) (aim_of question) (chosen_of summed) here.on.from place opened.undecided (omega (arith, next_on_menu))
      (λ p at below.
      shut_where_clear (offer_asked question) here.on.from (chosen_of summed) word here.on.is_word p at (omega (arith, next_on_menu))
      (clear_before (offer_asked question) here.asked.menu here.on.from (chosen_of summed) word here.fits here.some here.on.is_word p below)) (kept_of champion) result searched)

  -- the node is pruned there
  pub prune_searched : MayBePruned (offer_asked question) (aim_of question) (trailing_zeros w64 word) (chosen_of summed) (kept_of champion)
      → Searched question summed summed.node.place (kept_of first) (kept_of champion)
  prune_searched may =
      from_next (kept_of champion) (pruned_here (offer_asked question) (aim_of question) place (chosen_of summed) next_on_menu (kept_of champion) may)

  -- its section is within what is left exactly where it may be taken
  pub fits_where_takable : IsTakable (offer_asked question) (chosen_of summed ++ section_at question.offer.now.menu.now.places (trailing_zeros w64 word) ∷ [])
      → (price_at (offer_asked question) (trailing_zeros w64 word) ≤ (offer_asked question).budget - summed.paid)
      × (credits_at question.offer.now.menu.now.places (trailing_zeros w64 word) ≤ question.offer.now.menu.now.credits - summed.credits)
  fits_where_takable takable =
      let at = open_at_where_takable (offer_asked question) here.asked.menu summed here.is_summed summed.node.place here.node place next_later next_on_menu takable in (at.price, at.credits)

  pub takable_where_fits : (left : ℕ) → left ≡ question.offer.now.menu.now.courses - length (chosen_of summed) → (left ≡ 0 → ⊥)
      → (price_at (offer_asked question) (trailing_zeros w64 word) ≤ (offer_asked question).budget - summed.paid)
      × (credits_at question.offer.now.menu.now.places (trailing_zeros w64 word) ≤ question.offer.now.menu.now.credits - summed.credits)
      → IsTakable (offer_asked question) (chosen_of summed ++ section_at question.offer.now.menu.now.places (trailing_zeros w64 word) ∷ [])
  takable_where_fits left left_is more within =
      takable_where_open_at (offer_asked question) here.asked.menu summed here.is_summed summed.node.place here.node place next_later next_on_menu
      record { allowed = allowed_alone (offer_asked question) place opened.alone; price = within.0; credits = within.1; courses = omega (arith, more); apart = opened.apart }

  abbrev cleared : ℕ
  cleared = bit_and word (bit_not w64 (1 * 2 ^ trailing_zeros w64 word % 2 ^ 64))

  -- without it the word is less
  pub next_falls : bit_and word (bit_not w64 (1 * 2 ^ trailing_zeros w64 word % 2 ^ 64)) < word
  next_falls = word_falls (offer_asked question) here.asked.menu here.on.from (chosen_of summed) word here.fits here.some here.on.is_word

  word_later : IsOpenWord (offer_asked question) (place + 1) (chosen_of summed) cleared
  word_later = word_after (offer_asked question) here.asked.menu here.on.from (chosen_of summed) word here.fits here.some here.on.is_word

  -- it may not be taken
  pub shut_goes_on : (IsTakable (offer_asked question) (chosen_of summed ++ section_at question.offer.now.menu.now.places (trailing_zeros w64 word) ∷ []) → ⊥)
      → GoesOn question summed first (bit_and word (bit_not w64 (1 * 2 ^ trailing_zeros w64 word % 2 ^ 64))) champion
  shut_goes_on shut = record {
    from = place + 1;
    later = omega (arith, next_later);
    is_word = word_later;
    are_leaders = here.on.are_leaders;
    same_result = λ result searched. from_next result (shut_here (offer_asked question) (aim_of question) place (chosen_of summed) next_on_menu (kept_of champion) result shut searched);
  }

  module _ (takable : IsTakable (offer_asked question) (chosen_of summed ++ section_at question.offer.now.menu.now.places (trailing_zeros w64 word) ∷ [])) where
    abbrev taken : List ℕ
    taken = chosen_of summed ++ section_at question.offer.now.menu.now.places (trailing_zeros w64 word) ∷ []

    -- the node with it
    pub node_taken : IsNode (offer_asked question) (trailing_zeros w64 word + 1)
        (chosen_of summed ++ section_at question.offer.now.menu.now.places (trailing_zeros w64 word) ∷ [])
    node_taken = node_with (offer_asked question) place (chosen_of summed) here.asked.menu next_on_menu node_next takable

    pub word_taken : (clashes : ℕ) → clashes < 2 ^ 64 → IsWordOf (Clashes question.offer.now.menu.now (trailing_zeros w64 word)) (length question.offer.now.menu.now.places) clashes
        → IsOpenWord (offer_asked question) (trailing_zeros w64 word + 1)
        (chosen_of summed ++ section_at question.offer.now.menu.now.places (trailing_zeros w64 word) ∷ [])
        (bit_and (bit_and word (bit_not w64 (1 * 2 ^ trailing_zeros w64 word % 2 ^ 64))) (bit_not w64 clashes))
    word_taken clashes clashes_fit are =
        word_apart (offer_asked question) here.asked.menu (place + 1) place (chosen_of summed) next_on_menu cleared clashes (let fits = here.fits in omega (arith, next_falls)) clashes_fit word_later are node_taken

    module _ (new : Leaders) (is_new : AreLeaders (offer_asked question) (aim_of question).name new)
        (searched : IsSearched (offer_asked question) (aim_of question) (trailing_zeros w64 word + 1)
        (chosen_of summed ++ section_at question.offer.now.menu.now.places (trailing_zeros w64 word) ∷ [])
        (drop (trailing_zeros w64 word + 1) (menu_sections question.offer.now.menu.now)) (kept_of champion) (kept_of new)) where
      open_searched : (result : Kept) → Searched question summed (place + 1) (kept_of new) result → Searched question summed summed.node.place (kept_of first) result
      open_searched result without =
          from_next result
          (open_here (offer_asked question) (aim_of question) place (chosen_of summed) next_on_menu (kept_of champion) (kept_of new) result takable searched without)

      -- it was taken, and is then left out
      pub taken_goes_on : GoesOn question summed first (bit_and word (bit_not w64 (1 * 2 ^ trailing_zeros w64 word % 2 ^ 64))) new
      taken_goes_on = record {
        from = place + 1;
        later = omega (arith, next_later);
        is_word = word_later;
        are_leaders = is_new;
        same_result = open_searched;
      }

      -- it is the given one: without it nothing is wanted
      pub given_searched : question.given ≡ Some (trailing_zeros w64 word) → Searched question summed summed.node.place (kept_of first) (kept_of new)
      given_searched given =
          open_searched (kept_of new)
          (none_wanted (offer_asked question) (aim_of question) (place + 1) (chosen_of summed) (drop (place + 1) (menu_sections question.offer.now.menu.now)) (kept_of new)
          (node_without (offer_asked question) place (chosen_of summed) node_next)
          (λ bundle may completes. rw given (lacks_passed (offer_asked question) here.asked.menu place next_on_menu (chosen_of summed) node_next bundle may completes)))
