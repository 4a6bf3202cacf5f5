-- What is kept where a node is put among others.
use Rattle.std.proofs.Common.{ℕ, zero, suc, ◌≡◌, ◌≤◌, ◌<◌, ◌+◌, ◌⊎◌, ◌++◌, true, List, [], ◌∷◌, All, drop, length, map, take, refl, sym, ◌∙◌, subst, ap, inl, inr, arith, length-append}
use Rattle.std.proofs.lemmas.List.{map-append, length-map}
use Rattle.bundle_rules.specs.Menus.{wishes_of}
use Rattle.bundle_bounds.specs.Offers.{OfferData}
use Rattle.demand_oracle.specs.declared.summed_node.SummedNode.{SummedNode}
use Rattle.demand_oracle.specs.Bests.{IsAmong, AreInOrder}
use Rattle.demand_oracle.specs.declared.leaders.Leaders.{Leaders}
use Rattle.demand_oracle.specs.Champions.{IsChampion, AreChampions, AreLeaders, nodes_of, kept_of}
use Rattle.demand_oracle.specs.Inserting.{IsInserted}
use Rattle.demand_oracle.specs.Names.{AreNames, IsPreferredByName}
use Rattle.demand_oracle.specs.Search.{Aim, Kept, bundles_kept, IsListed, IsPut, LeadsNode, MayBePruned}
use Rattle.demand_oracle.specs.SummedNodes.{chosen_of, IsSummedOf}
use Rattle.std.proofs.lemmas.Bool.{cases_lt}
use Rattle.demand_oracle.proofs.InOrder.{among_front, among_back, among_either, order_front, before_last}
use Rattle.demand_oracle.proofs.NamedGoodness.{preferred_trans, as_good_where_not}

-- what is kept of these nodes
abbrev pub kept_at : List SummedNode → SummedNode → ℕ → Kept
kept_at leading champion most = record { leading = map chosen_of leading; champion = chosen_of champion; most = most }

pub kept_length : (leading : List SummedNode) (champion : SummedNode) (most : ℕ) → length (bundles_kept (kept_at leading champion most)) ≡ length leading + 1
kept_length leading champion most =
    let both = length-append (map chosen_of leading) (chosen_of champion ∷ []) in
    let same : length (map chosen_of leading) ≡ length leading = length-map leading chosen_of in omega (arith, both, same)

pub all_kept : (leading : List SummedNode) (champion : SummedNode) → map chosen_of (leading ++ champion ∷ []) ≡ map chosen_of leading ++ chosen_of champion ∷ []
all_kept leading champion = map-append chosen_of leading (champion ∷ [])

pub champions_last : (offer : OfferData) (leading : List SummedNode) (last : SummedNode) → AreChampions offer (leading ++ last ∷ [])
    → AreChampions offer leading × IsChampion offer last
champions_last offer [] last are = (tt, are.0)
champions_last offer (n ∷ leading) last are = let rest = champions_last offer leading last are.1 in ((are.0, rest.0), rest.1)

pub champions_more : (offer : OfferData) (leading : List SummedNode) (last : SummedNode) → AreChampions offer leading → IsChampion offer last
    → AreChampions offer (leading ++ last ∷ [])
champions_more offer [] last are is = (is, tt)
champions_more offer (n ∷ leading) last are is = (are.0, champions_more offer leading last are.1 is)

-- where as many are kept as may be, a node may be pruned that its champion leads
pub led_prunes : (offer : OfferData) (aim : Aim) (k : ℕ) (chosen : List ℕ) (leading : List SummedNode) (champion : SummedNode) (most : ℕ)
    → most ≤ length leading + 1 → LeadsNode offer aim k chosen (chosen_of champion) → MayBePruned offer aim k chosen (kept_at leading champion most)
led_prunes offer aim k chosen leading champion most full leads bundle may is_wanted completes = elim (leads bundle may is_wanted completes) [
  | inl same ↦ inl (among_back bundle (map chosen_of leading) (chosen_of champion ∷ []) (inl same))
  | inr more ↦ inr (let long = kept_length leading champion most in omega (arith, full, long), more)
]

-- nothing is put where it is not wanted, or listed already
pub put_nothing : (offer : OfferData) (aim : Aim) (chosen : List ℕ) (kept : Kept) → (aim.wanted chosen ≡ true → IsListed aim.name offer kept chosen)
    → IsPut offer aim chosen kept kept
put_nothing offer aim chosen kept own = record { own = own; before = λ bundle is. is; from = λ bundle is. inl is }

module _ (offer : OfferData) (name : ℕ → ℕ) (names : AreNames (wishes_of offer.menu) name) (node : SummedNode) (is : IsChampion offer node) where
  abbrev Precedes : SummedNode → SummedNode → Type 0
  Precedes a b = IsPreferredByName name (wishes_of offer.menu) (chosen_of a) (chosen_of b)

  abbrev Before : List ℕ → List ℕ → Type 0
  Before = IsPreferredByName name (wishes_of offer.menu)

  -- a champion that is not less preferred lists the node where as many are kept as may be
  pub beaten_listed : (leading : List SummedNode) (champion : SummedNode) (most : ℕ) → IsChampion offer champion → most ≤ length leading + 1
      → (Precedes node champion → ⊥) → IsListed name offer (kept_at leading champion most) (chosen_of node)
  beaten_listed leading champion most champ full not_more =
      elim (as_good_where_not offer name names (chosen_of champion) (chosen_of node) champ.takable is.takable not_more) [
        | inl same ↦ inl (among_back (chosen_of node) (map chosen_of leading) (chosen_of champion ∷ []) (inl same))
        | inr more ↦ inr (let long = kept_length leading champion most in omega (arith, full, long), more)
      ]

  -- what is among the nodes after one was put
  pub inserted_from : (others put : List SummedNode) → IsInserted Precedes node others put → (bundle : List ℕ) → IsAmong bundle (map chosen_of put)
      → (bundle ≡ chosen_of node) ⊎ IsAmong bundle (map chosen_of others)
  inserted_from [] put is_put bundle among = from_one (subst (λ ns. IsAmong bundle (map chosen_of ns)) is_put among)
    where
      from_one : IsAmong bundle (chosen_of node ∷ []) → (bundle ≡ chosen_of node) ⊎ IsAmong bundle []
      from_one (inl same) = inl same
      from_one (inr none) = absurd none
  inserted_from (f ∷ fs) [] is_put bundle among = absurd is_put
  inserted_from (f ∷ fs) (g ∷ gs) (inl first) bundle among = from_front (subst (λ ns. IsAmong bundle (map chosen_of ns)) first.1 among)
    where
      from_front : IsAmong bundle (map chosen_of (node ∷ f ∷ fs)) → (bundle ≡ chosen_of node) ⊎ IsAmong bundle (map chosen_of (f ∷ fs))
      from_front (inl same) = inl same
      from_front (inr there) = inr there
  inserted_from (f ∷ fs) (g ∷ gs) (inr later) bundle (inl same) = inr (inl (same ∙ ap chosen_of later.1))
  inserted_from (f ∷ fs) (g ∷ gs) (inr later) bundle (inr there) = elim (inserted_from fs gs later.2 bundle there) [
    | inl own ↦ inl own
    | inr old ↦ inr (inr old)
  ]

  pub inserted_own : (others put : List SummedNode) → IsInserted Precedes node others put → IsAmong (chosen_of node) (map chosen_of put)
  inserted_own [] put is_put = subst (λ ns. IsAmong (chosen_of node) (map chosen_of ns)) (sym is_put) (inl refl)
  inserted_own (f ∷ fs) [] is_put = absurd is_put
  inserted_own (f ∷ fs) (g ∷ gs) (inl first) = subst (λ ns. IsAmong (chosen_of node) (map chosen_of ns)) (sym first.1) (inl refl)
  inserted_own (f ∷ fs) (g ∷ gs) (inr later) = inr (inserted_own fs gs later.2)

  pub inserted_old : (others put : List SummedNode) → IsInserted Precedes node others put → (bundle : List ℕ) → IsAmong bundle (map chosen_of others)
      → IsAmong bundle (map chosen_of put)
  inserted_old [] put is_put bundle among = absurd among
  inserted_old (f ∷ fs) [] is_put bundle among = absurd is_put
  inserted_old (f ∷ fs) (g ∷ gs) (inl first) bundle among = subst (λ ns. IsAmong bundle (map chosen_of ns)) (sym first.1) (inr among)
  inserted_old (f ∷ fs) (g ∷ gs) (inr later) bundle (inl same) = inl (same ∙ sym (ap chosen_of later.1))
  inserted_old (f ∷ fs) (g ∷ gs) (inr later) bundle (inr there) = inr (inserted_old fs gs later.2 bundle there)

  pub inserted_champions : (others put : List SummedNode) → IsInserted Precedes node others put → AreChampions offer others → AreChampions offer put
  inserted_champions [] put is_put are = subst (AreChampions offer) (sym is_put) (is, tt)
  inserted_champions (f ∷ fs) [] is_put are = absurd is_put
  inserted_champions (f ∷ fs) (g ∷ gs) (inl first) are = subst (AreChampions offer) (sym first.1) (is, are)
  inserted_champions (f ∷ fs) (g ∷ gs) (inr later) are = (subst (IsChampion offer) (sym later.1) are.0, inserted_champions fs gs later.2 are.1)

  pub inserted_length : (others put : List SummedNode) → IsInserted Precedes node others put → length put ≡ length others + 1
  inserted_length [] put is_put = ap length is_put
  inserted_length (f ∷ fs) [] is_put = absurd is_put
  inserted_length (f ∷ fs) (g ∷ gs) (inl first) = let same : length (g ∷ gs) ≡ length (node ∷ f ∷ fs) = ap length first.1 in omega (arith, same)
  inserted_length (f ∷ fs) (g ∷ gs) (inr later) = let rest = inserted_length fs gs later.2 in omega (arith, rest)

  pub inserted_order : (others put : List SummedNode) → IsInserted Precedes node others put → AreChampions offer others
      → (IsAmong (chosen_of node) (map chosen_of others) → ⊥) → AreInOrder Before (map chosen_of others) → AreInOrder Before (map chosen_of put)
  inserted_order [] put is_put are apart order = subst (λ ns. AreInOrder Before (map chosen_of ns)) (sym is_put) ((λ other none. absurd none), tt)
  inserted_order (f ∷ fs) [] is_put are apart order = absurd is_put
  inserted_order (f ∷ fs) (g ∷ gs) (inl first) are apart order =
      subst (λ ns. AreInOrder Before (map chosen_of ns)) (sym first.1) (over, order)
    where
      over : (other : List ℕ) → IsAmong other (map chosen_of (f ∷ fs)) → Before (chosen_of node) other
      over other (inl same) = subst (Before (chosen_of node)) (sym same) first.0
      over other (inr there) = preferred_trans name (wishes_of offer.menu) (chosen_of node) (chosen_of f) other first.0 (order.0 other there)
  inserted_order (f ∷ fs) (g ∷ gs) (inr later) are apart order = (
    λ other among. subst (λ n. Before (chosen_of n) other) (sym later.1) (elim (inserted_from fs gs later.2 other among) [
      | inl own ↦ subst (Before (chosen_of f)) (sym own) f_first
      | inr old ↦ order.0 other old
    ]),
    inserted_order fs gs later.2 are.1 (λ among. apart (inr among)) order.1,
  )
    where
      f_first : Before (chosen_of f) (chosen_of node)
      f_first = elim (as_good_where_not offer name names (chosen_of f) (chosen_of node) are.0.takable is.takable later.0) [
        | inl same ↦ absurd (apart (inl same))
        | inr more ↦ more
      ]

-- what is kept after a node was put among those that were kept, or among them without the champion
pub record AreKeptOn (offer : OfferData) (aim : Aim) (node : SummedNode) (leading after : List SummedNode) (champion last : SummedNode) (most : ℕ) : Type 0 where
  pub last_is : IsChampion offer last
  pub after_are : AreChampions offer after
  pub in_order : AreInOrder (IsPreferredByName aim.name (wishes_of offer.menu)) (bundles_kept (kept_at after last most))
  pub few : length after + 1 ≤ most
  pub put : IsPut offer aim (chosen_of node) (kept_at leading champion most) (kept_at after last most)

module _ (offer : OfferData) (aim : Aim) (names : AreNames (wishes_of offer.menu) aim.name) (node : SummedNode) (is : IsChampion offer node)
    (is_wanted : aim.wanted (chosen_of node) ≡ true) (leading : List SummedNode) (champion : SummedNode) (most : ℕ)
    (are : AreChampions offer leading) (champ : IsChampion offer champion)
    (order : AreInOrder (IsPreferredByName aim.name (wishes_of offer.menu)) (bundles_kept (kept_at leading champion most)))
    (few : length leading + 1 ≤ most) (apart : IsAmong (chosen_of node) (bundles_kept (kept_at leading champion most)) → ⊥)
    (put after : List SummedNode) (last : SummedNode) (whole : put ≡ after ++ last ∷ []) where
  abbrev Before' : List ℕ → List ℕ → Type 0
  Before' = IsPreferredByName aim.name (wishes_of offer.menu)

  abbrev Precedes' : SummedNode → SummedNode → Type 0
  Precedes' a b = IsPreferredByName aim.name (wishes_of offer.menu) (chosen_of a) (chosen_of b)

  all_after : map chosen_of put ≡ bundles_kept (kept_at after last most)
  all_after = ap (map chosen_of) whole ∙ all_kept after last

  after_length : length put ≡ length after + 1
  after_length = ap length whole ∙ length-append after (last ∷ [])

  -- where there is room, the champion stays
  pub keeps_more : IsInserted Precedes' node (leading ++ champion ∷ []) put → (most ≤ length leading + 1 → ⊥)
      → AreKeptOn offer aim node leading after champion last most
  keeps_more is_put room =
      let before = all_kept leading champion in
      let both = champions_more offer leading champion are champ in
      let split = champions_last offer after last
      (subst (AreChampions offer) whole (inserted_champions offer aim.name names node is (leading ++ champion ∷ []) put is_put both)) in
      let long = inserted_length offer aim.name names node is (leading ++ champion ∷ []) put is_put in
      let long' = length-append leading (champion ∷ []) in
      record {
        last_is = split.1;
        after_are = split.0;
        in_order =
            subst (AreInOrder Before') all_after
            (inserted_order offer aim.name names node is (leading ++ champion ∷ []) put is_put both
            (λ among. apart (subst (IsAmong (chosen_of node)) before among)) (subst (AreInOrder Before') (sym before) order));
        few = let h : length leading + 1 < most = lower in omega (arith, h, long, long', after_length);
        put = record {
          own = λ yes_. inl (subst (IsAmong (chosen_of node)) all_after (inserted_own offer aim.name names node is (leading ++ champion ∷ []) put is_put));
          before = λ bundle listed. elim listed [
            | inl among ↦
                inl
                (subst (IsAmong bundle) all_after
                (inserted_old offer aim.name names node is (leading ++ champion ∷ []) put is_put bundle (subst (IsAmong bundle) (sym before) among)))
            | inr full ↦ absurd (room (let h = kept_length leading champion most in let h' = full.0 in omega (arith, h, h')))
          ];
          from = λ bundle among. elim (inserted_from offer aim.name names node is (leading ++ champion ∷ []) put is_put bundle
              (subst (IsAmong bundle) (sym all_after) among)) [
                | inl own ↦ inr (own, is_wanted)
                | inr old ↦ inl (subst (IsAmong bundle) before old)
              ];
        };
      }
    where
      lower : length leading + 1 < most
      lower = elim (cases_lt (length leading + 1) most) [ inl h ↦ h | inr h ↦ absurd (room h) ]

  -- where there is none, it falls out
  pub keeps_better : IsInserted Precedes' node leading put → most ≤ length leading + 1 → Precedes' node champion
      → AreKeptOn offer aim node leading after champion last most
  keeps_better is_put full better =
      let split = champions_last offer after last
      (subst (AreChampions offer) whole (inserted_champions offer aim.name names node is leading put is_put are)) in
      let long = inserted_length offer aim.name names node is leading put is_put in
      record {
        last_is = split.1;
        after_are = split.0;
        in_order =
            subst (AreInOrder Before') all_after
            (inserted_order offer aim.name names node is leading put is_put are
            (λ among. apart (among_front (chosen_of node) (map chosen_of leading) (chosen_of champion ∷ []) among))
            (order_front Before' (map chosen_of leading) (chosen_of champion ∷ []) order));
        few = omega (arith, few, long, after_length);
        put = record {
          own = λ yes_. inl (subst (IsAmong (chosen_of node)) all_after (inserted_own offer aim.name names node is leading put is_put));
          before = λ bundle listed. elim listed [
            | inl among ↦ elim (among_either bundle (map chosen_of leading) (chosen_of champion ∷ []) among) [
              | inl old ↦ inl (subst (IsAmong bundle) all_after (inserted_old offer aim.name names node is leading put is_put bundle old))
              | inr (inl same) ↦ inr (full_after, subst (Before' (chosen_of last)) (sym same) over)
              | inr (inr none) ↦ absurd none
            ]
            | inr behind ↦
                inr
                (full_after, preferred_trans aim.name (wishes_of offer.menu) (chosen_of last) (chosen_of champion) bundle over behind.1)
          ];
          from = λ bundle among. elim (inserted_from offer aim.name names node is leading put is_put bundle (subst (IsAmong bundle) (sym all_after) among)) [
            | inl own ↦ inr (own, is_wanted)
            | inr old ↦ inl (among_front bundle (map chosen_of leading) (chosen_of champion ∷ []) old)
          ];
        };
      }
    where
      full_after : most ≤ length (bundles_kept (kept_at after last most))
      full_after =
          let long = inserted_length offer aim.name names node is leading put is_put in
          let kept = kept_length after last most in omega (arith, full, long, after_length, kept)

      over : Before' (chosen_of last) (chosen_of champion)
      over =
          let among = subst (IsAmong (chosen_of last)) (sym all_after) (among_back (chosen_of last) (map chosen_of after) (chosen_of last ∷ []) (inl refl)) in
          elim (inserted_from offer aim.name names node is leading put is_put (chosen_of last) among) [
            | inl own ↦ subst (λ b. Before' b (chosen_of champion)) (sym own) better
            | inr old ↦ before_last Before' (map chosen_of leading) (chosen_of champion) order (chosen_of last) old
          ]

  -- either way
  pub keeps_either : (left : List SummedNode) → (most ≤ length leading + 1 → left ≡ leading)
      → ((most ≤ length leading + 1 → ⊥) → left ≡ leading ++ champion ∷ []) → (most ≤ length leading + 1 → Precedes' node champion)
      → IsInserted Precedes' node left put → AreKeptOn offer aim node leading after champion last most
  keeps_either left fewer all better is_put = elim (cases_lt (length leading + 1) most) [
    | inl lower ↦
        let room : most ≤ length leading + 1 → ⊥ = λ full. omega arith in
        keeps_more (subst (λ ns. IsInserted Precedes' node ns put) (all room) is_put) room
    | inr full ↦ keeps_better (subst (λ ns. IsInserted Precedes' node ns put) (fewer full) is_put) full (better full)
  ]

-- the nodes among which one is put have their sums
pub left_are : (offer : OfferData) (leading : List SummedNode) (champion : SummedNode) (most : ℕ) (left : List SummedNode)
    → AreChampions offer leading → IsChampion offer champion → (most ≤ length leading + 1 → left ≡ leading)
    → ((most ≤ length leading + 1 → ⊥) → left ≡ leading ++ champion ∷ []) → AreChampions offer left
left_are offer leading champion most left are champ fewer all = elim (cases_lt (length leading + 1) most) [
  | inl lower ↦
      let room : most ≤ length leading + 1 → ⊥ = λ full. omega arith in subst (AreChampions offer) (sym (all room)) (champions_more offer leading champion are champ)
  | inr full ↦ subst (AreChampions offer) (sym (fewer full)) are
]

pub champions_summed : (offer : OfferData) (nodes : List SummedNode) → AreChampions offer nodes → All (IsSummedOf offer) nodes
champions_summed offer [] are k d low = absurd (omega arith)
champions_summed offer (n ∷ nodes) are zero d low = are.0.sums
champions_summed offer (n ∷ nodes) are (suc k) d low = champions_summed offer nodes are.1 k d (omega arith)

-- a node that is preferred to the first is put before it
pub insert_here : (Precedes : SummedNode → SummedNode → Type 0) (node first x : SummedNode) (others rest : List SummedNode) → others ≡ x ∷ rest
    → first ≡ x → Precedes node first → IsInserted Precedes node others (node ∷ others)
insert_here Precedes node first x others rest whole same more =
    subst (λ ns. IsInserted Precedes node ns (node ∷ ns)) (sym whole) (inl (subst (Precedes node) same more, refl))

-- another one behind it
pub insert_later : (Precedes : SummedNode → SummedNode → Type 0) (node first x : SummedNode) (others rest : List SummedNode) (at : ℕ) → others ≡ x ∷ rest
    → first ≡ x → (Precedes node first → ⊥) → IsInserted Precedes node rest (take at rest ++ node ∷ drop at rest)
    → IsInserted Precedes node others (take (at + 1) others ++ node ∷ drop (at + 1) others)
insert_later Precedes node first x others rest at whole same not_more is_put =
    let next : suc at ≡ at + 1 = omega arith in
    subst (λ n. IsInserted Precedes node others (take n others ++ node ∷ drop n others)) next
    (subst (λ ns. IsInserted Precedes node ns (take (suc at) ns ++ node ∷ drop (suc at) ns)) (sym whole)
    (inr (subst (λ n. Precedes node n → ⊥) same not_more, refl, is_put)))

-- a champion alone
pub leaders_begun : (offer : OfferData) (name : ℕ → ℕ) (leaders : Leaders) → nodes_of leaders.leading ≡ [] → IsChampion offer leaders.champion
    → 1 ≤ leaders.most → AreLeaders offer name leaders
leaders_begun offer name leaders none champ some = record {
  champion = champ;
  leading = subst (AreChampions offer) (sym none) tt;
  in_order =
      subst (λ ns. AreInOrder (IsPreferredByName name (wishes_of offer.menu)) (map chosen_of ns ++ chosen_of leaders.champion ∷ [])) (sym none)
      ((λ other is. absurd is), tt);
  few = let long : length (nodes_of leaders.leading) ≡ 0 = ap length none in omega (arith, long, some);
}

pub each_begun : (leaders : Leaders) → nodes_of leaders.leading ≡ [] → (Q : List ℕ → Type 0) → Q (chosen_of leaders.champion)
    → (bundle : List ℕ) → IsAmong bundle (bundles_kept (kept_of leaders)) → Q bundle
each_begun leaders none Q is bundle among = of_one (subst (λ ns. IsAmong bundle (map chosen_of ns ++ chosen_of leaders.champion ∷ [])) none among)
  where
    of_one : IsAmong bundle (chosen_of leaders.champion ∷ []) → Q bundle
    of_one (inl same) = subst Q (sym same) is
    of_one (inr nothing) = absurd nothing
