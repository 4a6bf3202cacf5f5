-- Each waiting node has its stem, after each step of the walk.
use Rattle.std.proofs.Common.{◌≡◌, ◌≢◌, ◌<◌, ◌≤◌, ◌+◌, ◌++◌, ℕ, true, List, [], ◌∷◌, length, get_or, slice_set, length-append, sym, ap, subst, ◌∙◌, arith, inl, inr}
use Rattle.std.proofs.lemmas.Bool.{cases_lt}
use Rattle.std.proofs.lemmas.List.{get_or-set_same, get_or-set_other, length-set}
use Rattle.bundle_rules.specs.Bundles.{sections_of}
use Rattle.bundle_rules.specs.Menus.{IsMenu, section_at, wishes_of}
use Rattle.bundle_bounds.specs.declared.nodes.Node.{Node}
use Rattle.bundle_bounds.specs.declared.stems.Stem.{Stem}
use Rattle.bundle_bounds.specs.Laws.{IsNode}
use Rattle.bundle_bounds.specs.Offers.{OfferData, places_of}
use Rattle.bundle_bounds.specs.Opens.{is_open}
use Rattle.bundle_bounds.specs.Stems.{IsStem}
use Rattle.bundle_bounds.proofs.Openings.{open_facts, takable_where_open}
use Rattle.proof_tree.specs.declared.walk.Walk.{Walk}
use Rattle.proof_tree.specs.Standing.{IsStemAt, HaveStems}
use Rattle.proof_tree.specs.Steps.{MayWait, waiting_of}
use Rattle.proof_tree.proofs.Stepping.{count_within}

-- other stems are behind the waiting ones
pub stems_behind : (offer : OfferData) (champion : List ℕ) (walk : Walk) (stems : List Stem) → HaveStems offer champion walk → length stems ≡ length walk.stems
    → ((i : ℕ) (d : Stem) → i < walk.count → get_or stems i d ≡ get_or walk.stems i d)
    → HaveStems offer champion (record walk { stems = stems })
stems_behind offer champion walk stems have size same = record {
  whole = size ∙ have.whole;
  each =
      λ i d low e. subst (IsStem offer champion (get_or walk.waiting i d).place (sections_of (get_or walk.waiting i d).chosen)) (sym (same i e low))
      (have.each i d low e);
}

-- a stem is written at an index
pub stem_set : (offer : OfferData) (champion : List ℕ) (stems : List Stem) (at k : ℕ) (chosen : List ℕ) (stem : Stem) → at < length stems
    → IsStem offer champion k chosen stem → IsStemAt offer champion (slice_set stems at stem) at k chosen
stem_set offer champion stems at k chosen stem low is = λ d. subst (IsStem offer champion k chosen) (sym (get_or-set_same stems at stem d low)) is

-- and another one stays
pub stem_other : (offer : OfferData) (champion : List ℕ) (stems : List Stem) (at j k : ℕ) (chosen : List ℕ) (stem : Stem) → j ≢ at
    → IsStemAt offer champion stems j k chosen → IsStemAt offer champion (slice_set stems at stem) j k chosen
stem_other offer champion stems at j k chosen stem apart is = λ d.
    subst (IsStem offer champion k chosen) (sym (get_or-set_other stems at j stem d apart)) (is d)

-- one is written behind the waiting ones
pub stems_set : (offer : OfferData) (champion : List ℕ) (walk : Walk) (at : ℕ) (stem : Stem) → HaveStems offer champion walk → walk.count ≤ at
    → HaveStems offer champion (record walk { stems = slice_set walk.stems at stem })
stems_set offer champion walk at stem have behind =
    stems_behind offer champion walk (slice_set walk.stems at stem) have (length-set walk.stems at stem)
    (λ i d low. get_or-set_other walk.stems at i stem d (λ same. absurd (omega arith)))

-- the last of the waiting nodes is taken
pub stems_less : (offer : OfferData) (champion : List ℕ) (walk less : Walk) → HaveStems offer champion walk
    → walk ≡ record less { count = less.count + 1 } → HaveStems offer champion less
stems_less offer champion walk less have is =
    let had = subst (HaveStems offer champion) is have in
    record { whole = had.whole; each = λ i d low. had.each i d (omega arith) }

pub stem_taken : (offer : OfferData) (champion : List ℕ) (walk less : Walk) (node : Node) → HaveStems offer champion walk
    → walk ≡ record less { count = less.count + 1 } → node ≡ get_or less.waiting less.count node
    → IsStemAt offer champion less.stems less.count node.place (sections_of node.chosen)
stem_taken offer champion walk less node have is here = λ e.
    let had = subst (HaveStems offer champion) is have in
    subst (λ (n : Node). IsStem offer champion n.place (sections_of n.chosen) (get_or less.stems less.count e)) (sym here)
    (had.each less.count node (omega arith) e)

-- one more node waits, whose stem stands there
pub stems_more : (offer : OfferData) (champion : List ℕ) (walk more : Walk) (node : Node) → HaveStems offer champion walk → more.stems ≡ walk.stems
    → more.count ≡ walk.count + 1
    → ((i : ℕ) (d : Node) → i ≢ walk.count → get_or more.waiting i d ≡ get_or walk.waiting i d) → ((d : Node) → get_or more.waiting walk.count d ≡ node)
    → IsStemAt offer champion walk.stems walk.count node.place (sections_of node.chosen) → HaveStems offer champion more
stems_more offer champion walk more node have stems count others here stem = record {
  whole = ap length stems ∙ have.whole;
  each = λ i d low e. subst (λ (ss : List Stem). IsStem offer champion (get_or more.waiting i d).place (sections_of (get_or more.waiting i d).chosen) (get_or ss i e)) (sym stems) (elim (cases_lt i walk.count) [
    | inl before ↦
        let other : i ≢ walk.count = λ same. absurd (omega arith) in
        subst (λ (n : Node). IsStem offer champion n.place (sections_of n.chosen) (get_or walk.stems i e)) (sym (others i d other)) (have.each i d before e)
    | inr after ↦
        let at : walk.count ≡ i = omega arith in
        subst (λ j. IsStem offer champion (get_or more.waiting j d).place (sections_of (get_or more.waiting j d).chosen) (get_or walk.stems j e)) at
        (subst (λ (n : Node). IsStem offer champion n.place (sections_of n.chosen) (get_or walk.stems walk.count e)) (sym (here d)) (stem e))
  ]);
}

-- the stem of a node under another name
pub stem_same : (offer : OfferData) (champion : List ℕ) (stems others : List Stem) (at k j : ℕ) (chosen sections : List ℕ) → stems ≡ others → k ≡ j
    → chosen ≡ sections → IsStemAt offer champion stems at k chosen → IsStemAt offer champion others at j sections
stem_same offer champion stems others at k j chosen sections same places bundles is = λ e.
    subst (λ (ss : List Stem). IsStem offer champion j sections (get_or ss at e)) same
    (subst (λ n. IsStem offer champion n sections (get_or stems at e)) places (subst (λ l. IsStem offer champion k l (get_or stems at e)) bundles (is e)))

-- where a place is open fewer than 8 sections are chosen
pub few_where_open : (offer : OfferData) (k : ℕ) (chosen : List ℕ) → IsMenu offer.menu → IsNode offer k chosen → k < length offer.menu.places
    → is_open offer (places_of offer.menu chosen) k ≡ true → length chosen < 8
unfolding wishes_of
few_where_open offer k chosen menu node low opened =
    let takable = takable_where_open offer menu k chosen node low (open_facts offer (places_of offer.menu chosen) k opened) in
    let few : length (chosen ++ section_at offer.menu.places k ∷ []) ≤ offer.menu.courses = takable.feasible.courses in
    let cap : offer.menu.courses ≤ 8 = menu.caps.courses_cap in
    let whole : length (chosen ++ section_at offer.menu.places k ∷ []) ≡ length chosen + 1 = length-append chosen (section_at offer.menu.places k ∷ []) in
    omega arith

-- so there is a place behind the node's own stem
pub room_behind : (offer : OfferData) (walk : Walk) (node : Node) → IsMenu offer.menu → MayWait offer (node ∷ waiting_of walk) → length walk.waiting ≡ 9
    → node.place < length offer.menu.places → is_open offer (places_of offer.menu (sections_of node.chosen)) node.place ≡ true → walk.count + 1 < 9
room_behind offer walk node menu waits whole low opened =
    let chosen : length (sections_of node.chosen) < 8 = few_where_open offer node.place (sections_of node.chosen) menu waits.2 low opened in
    let few : walk.count ≤ length (sections_of node.chosen) =
    count_within walk.waiting walk.count (length (sections_of node.chosen)) whole waits.0 (omega arith) in
    omega arith
