-- A whole text: its first defect, and that it is a publication's.
use Rattle.std.proofs.Common.{ℕ, ◌≡◌, ◌++◌, ◌∷◌, [], List, ap, subst, refl, ◌∙◌, append_assoc}
use Rattle.std.specs.Prelude.{All}
use Rattle.market_certificate.specs.declared.refusals.LineFault.{LineFault}
use Rattle.market_certificate.specs.declared.refusals.TextRefusal.{TextRefusal}
use Rattle.market_certificate.specs.Tables.{Tables, AreTables}
use Rattle.market_certificate.specs.Publications.{Publication, IsSession}
use Rattle.market_certificate.specs.Texts.{ArePublished, IsPublished, head_line, order_line, text_of}
use Rattle.market_certificate.specs.Due.{ArePrices, AreOutcome, AreDue, HasForm, HeadForm, One, OrderForm, Takes, due_of, outcome_due, prices_due}
use Rattle.market_certificate.specs.Finding.{Finds, OnDefect, StopsAt}
use Rattle.market_certificate.proofs.Defects.{finds_published, no_defect}
use Rattle.market_certificate.proofs.Steps.{behind_one, finds_behind, on_defect, stops_here}

-- the first defect behind the first line, and behind the order
behind_head : (tables : Tables) (number : ℕ) (text : List ℕ) (next : ℕ) (rest : List ℕ) → Takes (head_line tables ∷ []) number text next rest
    → (at : ℕ) (fault : LineFault)
    → Finds (AreDue tables (One OrderForm ∷ prices_due tables (outcome_due tables))) next rest at fault → Finds (ArePublished tables) number text at fault
behind_head tables number text next rest takes at fault finds =
    finds_published tables number text at fault (
    finds_behind (AreDue tables (due_of tables)) (AreDue tables (One OrderForm ∷ prices_due tables (outcome_due tables))) (head_line tables ∷ []) number text
    next rest at fault
    (behind_one tables HeadForm (One OrderForm ∷ prices_due tables (outcome_due tables)) (head_line tables) refl) takes finds
    )

behind_order : (tables : Tables) (order : List ℕ) (number : ℕ) (text : List ℕ) (next : ℕ) (rest : List ℕ) → All IsSession order
    → Takes (order_line order ∷ []) number text next rest → (at : ℕ) (fault : LineFault)
    → Finds (AreDue tables (prices_due tables (outcome_due tables))) next rest at fault
    → Finds (AreDue tables (One OrderForm ∷ prices_due tables (outcome_due tables))) number text at fault
behind_order tables order number text next rest each takes at fault finds =
    finds_behind (AreDue tables (One OrderForm ∷ prices_due tables (outcome_due tables))) (AreDue tables (prices_due tables (outcome_due tables)))
    (order_line order ∷ []) number text next rest at fault
    (behind_one tables OrderForm (prices_due tables (outcome_due tables)) (order_line order) (order, each, refl)) takes finds

pub at_head : (tables : Tables) (number : ℕ) (text : List ℕ) (refusal : TextRefusal) → OnDefect refusal (StopsAt (HasForm tables HeadForm) number text)
    → OnDefect refusal (Finds (ArePublished tables) number text)
at_head tables number text refusal =
    on_defect refusal _ _
    (λ at fault stop. finds_published tables number text at fault
    (stops_here tables HeadForm (One OrderForm ∷ prices_due tables (outcome_due tables)) number text at fault stop))

pub at_order : (tables : Tables) (n1 n2 : ℕ) (t1 t2 : List ℕ) (refusal : TextRefusal) → Takes (head_line tables ∷ []) n1 t1 n2 t2
    → OnDefect refusal (StopsAt (HasForm tables OrderForm) n2 t2) → OnDefect refusal (Finds (ArePublished tables) n1 t1)
at_order tables n1 n2 t1 t2 refusal takes =
    on_defect refusal _ _
    (λ at fault stop. behind_head tables n1 t1 n2 t2 takes at fault
    (stops_here tables OrderForm (prices_due tables (outcome_due tables)) n2 t2 at fault stop))

pub at_prices : (tables : Tables) (order : List ℕ) (n1 n2 n3 : ℕ) (t1 t2 t3 : List ℕ) (refusal : TextRefusal) → Takes (head_line tables ∷ []) n1 t1 n2 t2
    → All IsSession order → Takes (order_line order ∷ []) n2 t2 n3 t3
    → OnDefect refusal (Finds (AreDue tables (prices_due tables (outcome_due tables))) n3 t3) → OnDefect refusal (Finds (ArePublished tables) n1 t1)
at_prices tables order n1 n2 n3 t1 t2 t3 refusal takes each takes' =
    on_defect refusal _ _ (λ at fault finds. behind_head tables n1 t1 n2 t2 takes at fault (behind_order tables order n2 t2 n3 t3 each takes' at fault finds))

pub at_outcome : (tables : Tables) (order budgets start : List ℕ) (error : ℕ) (prices : List ℕ) (n1 n2 n3 n4 : ℕ) (t1 t2 t3 t4 : List ℕ) (refusal : TextRefusal)
    → Takes (head_line tables ∷ []) n1 t1 n2 t2 → All IsSession order
    → Takes (order_line order ∷ []) n2 t2 n3 t3 → ArePrices tables budgets start error prices n3 t3 n4 t4
    → OnDefect refusal (Finds (AreDue tables (outcome_due tables)) n4 t4) → OnDefect refusal (Finds (ArePublished tables) n1 t1)
at_outcome tables order budgets start error prices n1 n2 n3 n4 t1 t2 t3 t4 refusal takes each takes' are =
    on_defect refusal _ _
    (λ at fault finds. behind_head tables n1 t1 n2 t2 takes at fault
    (behind_order tables order n2 t2 n3 t3 each takes' at fault (are.passed (outcome_due tables) at fault finds)))

-- the whole text
pub whole : (tables : Tables) (p : Publication) (n1 n2 n3 n4 : ℕ) (t1 t2 t3 t4 : List ℕ) → Takes (head_line tables ∷ []) n1 t1 n2 t2
    → Takes (order_line p.order ∷ []) n2 t2 n3 t3 → ArePrices tables p.budgets p.start p.error p.prices n3 t3 n4 t4
    → AreOutcome tables p.bundles p.turns p.allocation p.used t4 → t1 ≡ text_of tables p
whole tables p n1 n2 n3 n4 t1 t2 t3 t4 takes takes' prices outcome =
    takes.ahead
    ∙ append_assoc (head_line tables) (10 ∷ []) t2
    ∙ ap (λ t. head_line tables ++ 10 ∷ t)
    (takes'.ahead ∙ append_assoc (order_line p.order) (10 ∷ []) t3 ∙ ap (λ t. order_line p.order ++ 10 ∷ t) (prices.whole _ outcome.whole))

-- what is said of the text, in the words of the catalogue and the roll
pub told : (tables others : Tables) (number : ℕ) (start text : List ℕ) (refusal : TextRefusal) → tables ≡ others → number ≡ 1 → start ≡ text
    → OnDefect refusal (Finds (ArePublished tables) number start) → OnDefect refusal (Finds (ArePublished others) 1 text)
told tables others number start text refusal e e' e'' is =
    subst (λ t. OnDefect refusal (Finds (ArePublished t) 1 text)) e
    (subst (λ n. OnDefect refusal (Finds (ArePublished tables) n text)) e' (subst (λ s. OnDefect refusal (Finds (ArePublished tables) number s)) e'' is))

pub refused : (tables others : Tables) (number : ℕ) (start text : List ℕ) (refusal : TextRefusal) → AreTables tables → tables ≡ others → number ≡ 1
    → start ≡ text → OnDefect refusal (Finds (ArePublished tables) number start)
    → OnDefect refusal (λ at fault. ¬ IsPublished others text)
refused tables others number start text refusal are e e' e'' is =
    on_defect refusal (Finds (ArePublished others) 1 text) (λ at fault. ¬ IsPublished others text)
    (λ at fault finds published. no_defect others (subst AreTables e are) text published at fault finds)
    (told tables others number start text refusal e e' e'' is)
