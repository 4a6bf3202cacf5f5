-- The law of ties: which champion stands first before all that a node and its open places can make.
use Rattle.std.proofs.Common.{◌≡◌, ◌<◌, ◌≤◌, max, ◌↔◌, ℕ, true, false, List, length, inl, inr, sym, ◌∙◌, subst, ap, arith}
use Rattle.std.specs.Prelude.{slice_index, bit_or}
use Rattle.std.specs.Int.{bit_at}
use Rattle.std.proofs.lemmas.Bool.{cases_Bool, cases_lt, cases_order, true≢false}
use Rattle.std.proofs.lemmas.Nat.Bits.{bit_at-lt, bit_at_or}
use Rattle.market_units.specs.Members.{has}
use Rattle.bundle_rules.specs.Wishes.{AllRated}
use Rattle.bundle_rules.specs.Menus.{MenuData, IsMenu, wishes_of, section_at, place_in}
use Rattle.bundle_rules.specs.Existence.Places.{section_at-place_in}
use Rattle.bundle_rules.proofs.Feasibility.{place_of_rated}
use Rattle.bundle_bounds.specs.Offers.{OfferData, places_of}
use Rattle.bundle_bounds.specs.Laws.{IsTakable, IsNode}
use Rattle.bundle_bounds.proofs.ByPlace.{has-places, places-has}
use Rattle.bundle_bounds.proofs.Openings.{node_later}
use Rattle.demand_oracle.specs.declared.names.Names.{Names}
use Rattle.demand_oracle.specs.Names.{StandsFirst, LeadsWord, HoldsNames, name_of}
use Rattle.demand_oracle.specs.OpenWords.{IsOpenWord}
use Rattle.demand_oracle.specs.Search.{WinsEachTie}
use Rattle.demand_oracle.proofs.OpenPlaces.{shut_where_clear}
use Rattle.demand_oracle.proofs.Wanting.{lacks_lost}

module _ (menu : MenuData) (names : Names) (holds : HoldsNames menu names) where
  abbrev name : ℕ → ℕ
  name = name_of names

  module _ (a b : List ℕ) (rated : AllRated (wishes_of menu) a) (rated' : AllRated (wishes_of menu) b) where
    on : (ss : List ℕ) → AllRated (wishes_of menu) ss → (s : ℕ) → has ss s ≡ true → place_in menu.places s < length menu.places
    on ss all s is = place_of_rated menu ss all s is

    own : (ss : List ℕ) → AllRated (wishes_of menu) ss → (s : ℕ) → has ss s ≡ true → section_at menu.places (place_in menu.places s) ≡ s
    own ss all s is = section_at-place_in menu.places s (on ss all s is)

    -- two sections of one place are one
    one_place : (ss ts : List ℕ) → AllRated (wishes_of menu) ss → AllRated (wishes_of menu) ts → (s t : ℕ) → has ss s ≡ true → has ts t ≡ true
        → place_in menu.places s ≡ place_in menu.places t → s ≡ t
    one_place ss ts all all' s t is is' same = sym (own ss all s is) ∙ ap (section_at menu.places) same ∙ own ts all' t is'

    lacks_place : (t : ℕ) → has b t ≡ true → has a t ≡ false → has (places_of menu a) (place_in menu.places t) ≡ false
    lacks_place t is lacks = elim (cases_Bool (has (places_of menu a) (place_in menu.places t))) [
      | inl in_it ↦
          let s = has-places menu.places a (place_in menu.places t) in_it in
          let same : s.0 ≡ t = one_place a b rated rated' s.0 t s.1 is s.2 in
          absurd (true≢false (sym s.1 ∙ ap (has a) same ∙ lacks))
      | inr not_in ↦ not_in
    ]

    named_at : (ss : List ℕ) → AllRated (wishes_of menu) ss → (s : ℕ) → has ss s ≡ true
        → name (section_at menu.places (place_in menu.places s)) ≡ name s
    named_at ss all s is = ap name (own ss all s is)

    -- the test that a word of places is led, where it has all those of another bundle
    pub leads_first : (word : ℕ) → ((s : ℕ) → has b s ≡ true → bit_at word (place_in menu.places s) ≡ 1)
        → LeadsWord names.before (places_of menu a) word → StandsFirst (name_of names) a b
    leads_first word among leads =
        let one = has-places menu.places a leads.0 leads.1 in
        let s : ℕ = one.0 in
        let p : ℕ = leads.0 in
        let out : bit_at word p ≡ 0 = leads.2 in (
          s,
          one.1,
          elim (cases_Bool (has b s)) [
            | inl both ↦ absurd (let set : bit_at word p ≡ 1 = subst (λ q. bit_at word q ≡ 1) one.2 (among s both) in omega arith)
            | inr lacks ↦ lacks
          ],
          λ t is lacks.
              let q : ℕ = place_in menu.places t in
              let clear : bit_at (slice_index names.before p) q ≡ 0 = leads.3 q (among t is) (lacks_place t is lacks) in
              let p_is : place_in menu.places s ≡ p = one.2 in
              let on_p : p < length menu.places = subst (λ n. n < length menu.places) p_is (on a rated s one.1) in
              let name_p : name (section_at menu.places p) ≡ name s = subst (λ n. name (section_at menu.places n) ≡ name s) p_is (named_at a rated s one.1) in
              let name_q : name (section_at menu.places q) ≡ name t = named_at b rated' t is in
              elim (cases_order (name s) (name t)) [
                | inl same ↦
                    let equal : s ≡ t = holds.apart s t (rated s one.1) (rated' t is) same in
                    absurd (true≢false (sym one.1 ∙ ap (has a) equal ∙ lacks))
                | inr (inl before) ↦ before
                | inr (inr after) ↦
                    absurd
                    (let set : bit_at (slice_index names.before p) q ≡ 1 = (holds.before p q on_p (on b rated' t is)).1 (omega arith) in omega arith)
              ],
        )

    -- and the other way round, where it has no other places
    pub first_leads : (word : ℕ) → ((p : ℕ) → (bit_at word p ≡ 1) ↔ (has (places_of menu b) p ≡ true))
        → StandsFirst (name_of names) a b → LeadsWord names.before (places_of menu a) word
    first_leads word are first =
        let s : ℕ = first.0 in
        let p : ℕ = place_in menu.places s in (
          p,
          places-has menu.places a s first.1,
          elim (cases_lt (bit_at word p) 1) [
            | inl none ↦ omega arith
            | inr some ↦
                let small : bit_at word p < 2 = bit_at-lt word p in
                let there = has-places menu.places b p ((are p).0 (omega arith)) in
                let same : there.0 ≡ s = one_place b a rated' rated there.0 s there.1 first.1 there.2 in
                absurd (true≢false (sym there.1 ∙ ap (has b) same ∙ first.2))
          ],
          λ q set out.
              let there = has-places menu.places b q ((are q).0 set) in
              let t : ℕ = there.0 in
              let q_is : place_in menu.places t ≡ q = there.2 in
              let lacks : has a t ≡ false = elim (cases_Bool (has a t)) [
                | inl is ↦ absurd (true≢false (sym (subst (λ n. has (places_of menu a) n ≡ true) q_is (places-has menu.places a t is)) ∙ out))
                | inr not_in ↦ not_in
              ] in
              let later : name s < name t = first.3 t there.1 lacks in
              let on_q : q < length menu.places = subst (λ n. n < length menu.places) q_is (on b rated' t there.1) in
              let name_p : name (section_at menu.places p) ≡ name s = named_at a rated s first.1 in
              let name_q : name (section_at menu.places q) ≡ name t =
              subst (λ n. name (section_at menu.places n) ≡ name t) q_is (named_at b rated' t there.1) in
              elim (cases_lt (bit_at (slice_index names.before p) q) 1) [
                | inl none ↦ omega arith
                | inr some ↦
                    let small : bit_at (slice_index names.before p) q < 2 = bit_at-lt (slice_index names.before p) q in
                    let before : name (section_at menu.places q) < name (section_at menu.places p) =
                    (holds.before p q (on a rated s first.1) on_q).0 (omega arith) in
                    absurd (omega arith)
              ],
        )

    pub leads_first_exactly : (word : ℕ) → ((p : ℕ) → (bit_at word p ≡ 1) ↔ (has (places_of menu b) p ≡ true))
        → LeadsWord names.before (places_of menu a) word ↔ StandsFirst (name_of names) a b
    leads_first_exactly word are =
        (leads_first word (λ s is. (are (place_in menu.places s)).1 (places-has menu.places b s is)), first_leads word are)

module _ (offer : OfferData) (menu : IsMenu offer.menu) (names : Names) (holds : HoldsNames offer.menu names) (from k : ℕ) (later : from ≤ k)
    (chosen : List ℕ) (node : IsNode offer from chosen) (open_ : ℕ) (is_open : IsOpenWord offer from chosen open_) (taken : ℕ)
    (is_taken : (p : ℕ) → (bit_at taken p ≡ 1) ↔ (has (places_of offer.menu chosen) p ≡ true)) where
  node_at : IsNode offer k chosen
  node_at = node_later offer from k chosen later node

  -- the chosen and the open places are all that a bundle can have which completes the node
  all_in_word : (bundle : List ℕ) → IsTakable offer bundle → ((place : ℕ) → place < k → place < length offer.menu.places
      → has bundle (section_at offer.menu.places place) ≡ has chosen (section_at offer.menu.places place))
      → (s : ℕ) → has bundle s ≡ true → bit_at (bit_or open_ taken) (place_in offer.menu.places s) ≡ 1
  all_in_word bundle may completes s is =
      let p : ℕ = place_in offer.menu.places s in
      let listed : p < length offer.menu.places = place_of_rated offer.menu bundle may.feasible.rated s is in
      let at : section_at offer.menu.places p ≡ s = section_at-place_in offer.menu.places s listed in
      let has_p : has bundle (section_at offer.menu.places p) ≡ true = ap (has bundle) at ∙ is in
      let both : bit_at (bit_or open_ taken) p ≡ max (bit_at open_ p) (bit_at taken p) = bit_at_or open_ taken p in
      let small : bit_at open_ p < 2 = bit_at-lt open_ p in
      let small' : bit_at taken p < 2 = bit_at-lt taken p in
      elim (cases_lt p k) [
        | inl decided ↦
            let in_chosen : has chosen s ≡ true = ap (has chosen) (sym at) ∙ sym (completes p decided listed) ∙ has_p in
            let set : bit_at taken p ≡ 1 = (is_taken p).1 (places-has offer.menu.places chosen s in_chosen) in omega arith
        | inr undecided ↦ elim (cases_lt (bit_at open_ p) 1) [
          | inl clear ↦
              let lost = shut_where_clear offer from chosen open_ is_open p (omega arith) listed (omega arith) in
              absurd (true≢false (sym has_p ∙ lacks_lost offer menu p listed k chosen node_at (omega arith) lost bundle may completes))
          | inr set ↦ omega arith
        ]
      ]

  -- so a champion that leads them stands first before each
  pub wins_each_tie : (champion : List ℕ) → IsTakable offer champion → LeadsWord names.before (places_of offer.menu champion) (bit_or open_ taken)
      → WinsEachTie (name_of names) offer k chosen champion
  wins_each_tie champion takable leads bundle may completes =
      leads_first offer.menu names holds champion bundle takable.feasible.rated may.feasible.rated (bit_or open_ taken)
      (all_in_word bundle may completes) leads
