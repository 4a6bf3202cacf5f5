-- An offer has one best bundle, and one tree of it.
use Rattle.std.proofs.Common.{ℕ, ◌≡◌, ◌∙◌, List, [], ◌∷◌, refl, ap, sym, subst}
use Rattle.std.specs.Prelude.{None}
use Rattle.std.specs.List.{AllZip}
use Rattle.bundle_bounds.specs.Offers.{OfferData, places_of}
use Rattle.bundle_rules.proofs.BestValue.{best-only}
use Rattle.demand_api.specs.Crowds.{Student}
use Rattle.proof_tree.specs.Texts.{IsTreeText, spelled}
use Rattle.proof_tree.proofs.Uniqueness.{one_tree}
use Rattle.market_certificate.specs.Publications.{Proved}
use Rattle.published_parts.specs.Offers.{IsProvedBest, IsProvedDemand, offer_to, all_sections}

one_text : (offer : OfferData) (champion one other : List ℕ) → IsTreeText offer None champion one → IsTreeText offer None champion other → one ≡ other
one_text offer champion one other (tree, is, written) (alike, so, spelt) =
    written ∙ ap spelled ((one_tree offer None (places_of offer.menu champion) 0 []).tree tree alike is so) ∙ sym spelt

pub one_best : (offer : OfferData) (one other tree alike : List ℕ) → IsProvedBest offer one tree → IsProvedBest offer other alike → one ≡ other
one_best offer one other tree alike is so =
    best-only offer.menu offer.price offer.budget offer.allowed one is.best ∙ sym (best-only offer.menu offer.price offer.budget offer.allowed other so.best)

pub one_proof : (offer : OfferData) (one other tree alike : List ℕ) → IsProvedBest offer one tree → IsProvedBest offer other alike → tree ≡ alike
one_proof offer one other tree alike is so =
    one_text offer other tree alike (subst (λ bundle. IsTreeText offer None bundle tree) (one_best offer one other tree alike is so) is.proved) so.proved

-- lists whose items are fixed by those of another list are one
pub one_by_items : {A B : Type 0} (R : A → B → Type 0) → ((a : A) (x y : B) → R a x → R a y → x ≡ y) → (as' : List A) (xs ys : List B) → AllZip R as' xs
    → AllZip R as' ys → xs ≡ ys
one_by_items R one [] [] [] is so = refl
one_by_items R one (a ∷ as') (x ∷ xs) (y ∷ ys) is so =
    let head : x ≡ y = one a x y is.0 so.0 in
    let tail : xs ≡ ys = one_by_items R one as' xs ys is.1 so.1 in
    cc
one_by_items R one [] [] (y ∷ ys) is so = absurd so
one_by_items R one [] (x ∷ xs) ys is so = absurd is
one_by_items R one (a ∷ as') [] ys is so = absurd is
one_by_items R one (a ∷ as') (x ∷ xs) [] is so = absurd so

-- the demands of a crowd with their trees are one list
pub one_list_of_demands : (sections : ℕ) (price : ℕ → ℕ) (students : List Student) (one other : List Proved)
    → AllZip (IsProvedDemand sections price) students one → AllZip (IsProvedDemand sections price) students other → one ≡ other
one_list_of_demands sections price = one_by_items (IsProvedDemand sections price) (λ student x y is so.
    let offer = offer_to student price student.budget (all_sections sections) in
    let bundle : x.bundle ≡ y.bundle = one_best offer x.bundle y.bundle x.tree y.tree is so in
    let tree : x.tree ≡ y.tree = one_proof offer x.bundle y.bundle x.tree y.tree is so in
    λ i. record { bundle = bundle i; tree = tree i })
